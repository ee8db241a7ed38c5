use Rattle.std.proofs.Common.{◌≡◌, ℕ, ◌<◌, get_or, take}
use Rattle.book.specs.Accounts.{at, claim, claimed}
use Rattle.book.proofs.pooling.gather_claims.Given as goal

abbrev pub invariant-loop-i : goal.invariant-loop-i
invariant-loop-i l =
    (l.sum ≡ claimed l.class (take l.i l.accounts)) × ((k : ℕ) → k < l.i → get_or l.into k 0 ≡ claim l.class (at k l.accounts))

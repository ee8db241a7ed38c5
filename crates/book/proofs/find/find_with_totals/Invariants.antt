use Rattle.std.proofs.Common.{◌≡◌, take, MatchOption}
use Rattle.book.specs.Accounts.{at, charged, claimed}
use Rattle.book.specs.Find.{FoundAt}
use Rattle.book.proofs.Places.{Before}
use Rattle.book.proofs.find.find_with_totals.Given as goal

abbrev pub invariant-loop-i : goal.invariant-loop-i
invariant-loop-i l =
    MatchOption l.place (Before l.asset l.i l.accounts) (λ k. FoundAt l.asset l.accounts k (at k l.accounts))
    × (l.claims ≡ claimed l.class (take l.i l.accounts))
    × (l.charges ≡ charged l.class (take l.i l.accounts))

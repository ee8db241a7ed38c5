use Rattle.std.proofs.Common.{◌≡◌, ℕ, ◌+◌, ◌-◌, ◌<◌, get_or, take, sum}
use Rattle.sharing.specs.ProRata.{quotient}
use Rattle.sharing.proofs.pro_rata.allot.Given as goal

abbrev pub invariant-loop-i : goal.invariant-loop-i
invariant-loop-i l =
    (l.reached ≡ sum (take l.i l.claims)) × (l.allotted ≡ quotient l.pool l.claims l.i)
    × ((k : ℕ) → k < l.i → get_or l.into k 0 ≡ quotient l.pool l.claims (k + 1) - quotient l.pool l.claims k)

use Rattle.std.proofs.Common.{◌≡◌, ◌++◌, take, drop, sum}
use Rattle.trials.specs.LastFirst.{last_first}
use Rattle.trials.proofs.last_first.meet.Given as goal

abbrev pub invariant-loop-i : goal.invariant-loop-i
invariant-loop-i l =
    (l.later ≡ sum (drop l.i l.claims))
    × (take l.i l.into ++ last_first l.pool (drop l.i l.claims) ≡ last_first l.pool l.claims)

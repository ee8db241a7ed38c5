use Rattle.std.proofs.Common.{◌≡◌, ◌++◌, take, drop}
use Rattle.sharing.specs.Rank.{by_rank}
use Rattle.sharing.proofs.rank.meet.Given as goal

abbrev pub invariant-loop-i : goal.invariant-loop-i
invariant-loop-i l = take l.i l.into ++ by_rank l.left (drop l.i l.claims) ≡ by_rank l.pool l.claims

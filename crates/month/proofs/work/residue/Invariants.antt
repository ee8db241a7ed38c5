use Rattle.std.proofs.Common.{◌≡◌, ◌-◌, take, sum}
use Rattle.month.proofs.work.residue.Given as goal

abbrev pub invariant-loop-share : goal.invariant-loop-share
invariant-loop-share l = l.left ≡ l.pool - sum (take l.share-index l.shares)

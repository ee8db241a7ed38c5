use Rattle.std.proofs.Common.{length, arith}
use Rattle.std.proofs.lemmas.List.FromFn.{fill_by_all}
use Rattle.sharing.proofs.pro_rata.allot.Goals as goal

pub returns : goal.returns
returns c =
    record { after = fill_by_all _ c.loop-i.into (length c.args.claims.now) 0 (omega arith) (λ k h. c.loop-i.invariant.2 k (omega arith)) }

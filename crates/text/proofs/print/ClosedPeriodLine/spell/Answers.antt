use Rattle.std.proofs.Common.{codes}
use Rattle.text.specs.Line.{closed_line}
use Rattle.text.proofs.Spelled.{◌⨾◌, last, spelled}
use Rattle.text.proofs.print.ClosedPeriodLine.spell.Goals as goal

pub returns-clause-after : goal.returns-clause-after
unfolding closed_line
returns-clause-after c =
    spelled (codes "closed") _ c.clear.ensures (c.put.ensures.bytes ⨾ c.put-2.ensures.bytes ⨾ c.put-3.ensures.bytes ⨾ last c.push_str.ensures.bytes)

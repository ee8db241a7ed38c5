use Rattle.std.proofs.Common.{codes}
use Rattle.text.specs.Line.{invoice_line}
use Rattle.text.proofs.Spelled.{◌⨾◌, last, spelled}
use Rattle.text.proofs.print.InvoiceLine.spell.Goals as goal

pub returns-clause-after : goal.returns-clause-after
unfolding invoice_line
returns-clause-after c =
    spelled (codes "invoice") _ c.clear.ensures (c.put.ensures.bytes ⨾ c.put-2.ensures.bytes ⨾ last c.push_str.ensures.bytes)

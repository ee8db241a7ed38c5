use Rattle.std.proofs.Common.{codes}
use Rattle.text.specs.Line.{refused_line}
use Rattle.text.proofs.Spelled.{◌⨾◌, joined, last, spelled}
use Rattle.text.proofs.print.RefusedLineLine.spell.Goals as goal

pub returns-clause-after : goal.returns-clause-after
unfolding refused_line
returns-clause-after c =
    let byte = simp c.byte.ensures.value at c.put-2.ensures.bytes in
    let layer = joined _ (codes ") (layer ") _ c.push_str.ensures.bytes (simp (c.word.ensures.value, c.layer.ensures.value) at c.push_str-2.ensures.bytes) in
    let number = simp c.number.ensures.value at c.put-3.ensures.bytes in
    spelled (codes "refused") _ c.clear.ensures (c.put.ensures.bytes ⨾ byte ⨾ layer ⨾ number ⨾ last c.push_str-3.ensures.bytes)

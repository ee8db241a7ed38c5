use Rattle.std.proofs.Common.{codes, w64, SFits, rules}
use Rattle.std.proofs.lemmas.Int.{to_z-of_z}
use Rattle.text.specs.Line.{row_line}
use Rattle.text.proofs.Spelled.{◌⨾◌, last, spelled}
use Rattle.text.proofs.print.RowLine.spell.Goals as goal

pub returns-clause-after : goal.returns-clause-after
unfolding row_line
returns-clause-after c =
    let r = c.args.self.now in
    let award_fits : SFits w64 r.award = search rules in
    let payment_fits : SFits w64 r.payment = search rules in
    let balance_fits : SFits w64 r.balance = search rules in
    let award = simp to_z-of_z at c.put-2.ensures.bytes in
    let taken = simp c.sum.ensures.value at c.put-3.ensures.bytes in
    let share = simp c.sum-2.ensures.value at c.put-4.ensures.bytes in
    let paid = simp to_z-of_z at c.put-5.ensures.bytes in
    let carried = simp to_z-of_z at c.put-6.ensures.bytes in
    spelled (codes "row") _ c.clear.ensures (c.put.ensures.bytes ⨾ award ⨾ taken ⨾ share ⨾ paid ⨾ carried ⨾ last c.push_str.ensures.bytes)

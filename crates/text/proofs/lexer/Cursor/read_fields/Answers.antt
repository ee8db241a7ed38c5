use Rattle.std.proofs.Common.{◌+◌, drop, sym, ◌∙◌}
use Rattle.std.proofs.lemmas.List.{at_drop_more}
use Rattle.std.proofs.lemmas.Result.{err_from_is_err_and}
use Rattle.text.specs.Cursor.{end_of, left}
use Rattle.text.specs.Forms.{wanted_of}
use Rattle.text.specs.Reading.{against}
use Rattle.text.proofs.lexer.Cursor.read_fields.Goals as goal

pub returns-in_err-value : goal.returns-in_err-value
returns-in_err-value c =
    let p = err_from_is_err_and c.from_residual.result c.from_residual.ensures.1 in
    let fs = c.args.fields.now in
    let i = c.loop-field.field-index in
    rw (p.1, p.2)
    (sym c.loop-field.invariant.1
    ∙ at_drop_more (λ fs. against (end_of c.loop-field.self) (wanted_of fs) (left c.loop-field.self)) fs i _ c.loop-field-test.true
    ∙ c.in_err-value.ensures (wanted_of (drop (i + 1) fs)))

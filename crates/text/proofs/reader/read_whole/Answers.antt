use Rattle.std.proofs.Common.{◌≡◌, ◌+◌, length, Ok, sym, ap, ◌∙◌, arith}
use Rattle.text.specs.Cursor.{end_of}
use Rattle.text.specs.Reading.{form_in}
use Rattle.text.specs.Tokens.{tokens}
use Rattle.text.proofs.Lines.{formed_all, token_line}
use Rattle.text.proofs.reader.read_whole.Goals as goal

pub returns-in-Ok : goal.returns-in-Ok
returns-in-Ok c =
    let line = c.args.line.now in
    let cursor = c.in_ok-cursor.cursor in
    let opened = c.in_ok-cursor.ensures in
    let e : Ok c.in-Ok.form ≡ form_in (length line + 1) (tokens 0 line) =
    c.in-Ok.ensures ∙ ap (form_in (end_of cursor)) opened.0 ∙ ap (λ end. form_in end (tokens 0 line)) opened.1 in
    record { value = e ∙ sym (token_line line (omega (arith, opened.1, cursor.within)) (formed_all (length line + 1) (tokens 0 line) c.in-Ok.form (sym e))) }

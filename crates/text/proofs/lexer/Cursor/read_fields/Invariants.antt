use Rattle.std.proofs.Common.{◌≡◌, drop, Ok}
use Rattle.text.specs.Cursor.{end_of, left}
use Rattle.text.specs.Forms.{wanted_of}
use Rattle.text.specs.Reading.{against, fresh, gather}
use Rattle.text.proofs.lexer.Cursor.read_fields.Given as goal

abbrev pub invariant-loop-field : goal.invariant-loop-field
invariant-loop-field l =
    (gather (drop l.field-index l.fields) (left l.self) l.gathered ≡ gather l.fields (left l.fn.self) (Ok fresh))
    × (against (end_of l.self) (wanted_of (drop l.field-index l.fields)) (left l.self) ≡ against (end_of l.fn.self) (wanted_of l.fields) (left l.fn.self))
    × (end_of l.self ≡ end_of l.fn.self)

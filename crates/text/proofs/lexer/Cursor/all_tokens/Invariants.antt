use Rattle.std.proofs.Common.{◌≡◌, length}
use Rattle.text.specs.Cursor.{left}
use Rattle.text.specs.Next.{first_nothing}
use Rattle.text.proofs.lexer.Cursor.all_tokens.Given as goal

abbrev pub invariant-loop : goal.invariant-loop
invariant-loop l = first_nothing (left l.self) ≡ first_nothing (left l.fn.self)

abbrev pub decreases-loop : goal.decreases-loop
decreases-loop l = length l.self.rest.now

-- A cursor over a line: its tokens, and what a step finds.
--   left, end_of    the tokens of what is left of a line, and the byte past the line, counted from 1
--   Opened          the cursor at the front of a line, or the fault of a line that is too long
--   Passed          a token is passed: the others are left
--   Given           what is found next: nothing at the end, a fault where the first is no token, else the first
-- Assumes nothing.
use Rattle.std.specs.Prelude.{◌≡◌, ℕ, ◌+◌, ◌<◌, List, [], ◌∷◌, length, Some, None, Ok, Err, Option, Result}
use Rattle.text.specs.Next.{symbol_of}
use Rattle.text.specs.Tokens.{Placed, nothing, placed, tokens}
use Rattle.text.specs.declared.fault.TextFault.{TextFault}
use Rattle.text.specs.declared.fault.TextFault.TheVariants.{LongLine, NoToken}
use Rattle.text.specs.declared.lexer.Cursor.{Cursor}
use Rattle.text.specs.declared.token.Next.{Next}

abbrev pub left : Cursor → List Placed
left c = tokens c.at c.rest.now

abbrev pub end_of : Cursor → ℕ
end_of c = c.at + length c.rest.now + 1

abbrev pub Opened : List ℕ → Result Cursor TextFault → Type 0
Opened line (Ok c) = (left c ≡ tokens 0 line) × (end_of c ≡ length line + 1)
Opened line (Err fault) = (300 < length line) × (fault ≡ LongLine)

pub record Passed (before : Cursor) (next : Next) (after : Cursor) : Type 0 where
  pub first : left before ≡ placed next.place (symbol_of next.token) ∷ left after
  pub same_end : end_of after ≡ end_of before
  pub onward : length after.rest.now < length before.rest.now

pub record Strays (ts : List Placed) (fault : TextFault) : Type 0 where
  pub place : ℕ
  pub rest : List Placed
  pub first : ts ≡ placed place nothing ∷ rest
  pub named : fault ≡ NoToken (place + 1)

abbrev pub Given : Cursor → Result (Option Next) TextFault → Cursor → Type 0
Given before (Ok None) after = (left before ≡ []) × (end_of after ≡ end_of before)
Given before (Ok (Some next)) after = Passed before next after
Given before (Err fault) after = Strays (left before) fault

-- What comes of a line, as the code has it.
--   shown        the bytes that are printed of an answer
--   text         the same, or of a fault
--   heights      how many lines these are at most
--   Came         a line's answer: either the line cannot be read and no call is made, or the call of its form is made, and the
--                answer prints what the rules say
-- Assumes nothing.
use Rattle.std.specs.Prelude.{◌≡◌, ℕ, ◌+◌, ◌-◌, ◌*◌, ◌≤◌, List, [], ◌++◌, take, ℤ, Ok, Err, Result}
use Rattle.std.specs.List.{flat_map}
use Rattle.payment.specs.Stand.{Stand}
use Rattle.book.specs.Calls.{Event, Step}
use Rattle.book.specs.Limits.{closes_most}
use Rattle.book.specs.State.{State}
use Rattle.book.specs.declared.row.Row.{Row}
use Rattle.text.specs.Line.{closed_line, fault_line, invoice_line, row_line}
use Rattle.text.specs.Reading.{reading}
use Rattle.text.specs.Session.{call_of, printed, request, row_places}
use Rattle.text.specs.declared.answer.Answer.{Answer}
use Rattle.text.specs.declared.answer.Answer.TheVariants.{Closed, Invoice, Silent}
use Rattle.text.specs.declared.fault.Fault.{Fault}
use Rattle.text.specs.declared.fault.Fault.TheVariants.{Book as ByBook, Form as InForm}
use Rattle.text.specs.declared.fault.FormFault.{FormFault}
use Rattle.text.specs.declared.form.Form.{Form}

abbrev pub shown : Answer → List Row → List ℕ
shown Silent rows = []
shown (Invoice due) rows = invoice_line due.asset due.cents
shown (Closed count closed) rows = flat_map row_line (take count rows) ++ closed_line closed.period closed.residues

abbrev pub text : ℕ → Result Answer Fault → List Row → List ℕ
text n (Ok answer) rows = shown answer rows
text n (Err fault) rows = fault_line n fault

abbrev pub height : Answer → ℕ
height Silent = 1
height (Invoice due) = 1
height (Closed count closed) = count + 1

abbrev pub heights : {A : Type 0} → Result Answer A → ℕ
heights (Ok answer) = height answer
heights (Err fault) = 1

-- a close prints up to 64 rows more than any other line, and there are so many of them to come
abbrev pub Roomy : {A : Type 0} → Result Answer A → State → State → Type 0
Roomy r s s' =
    (heights r ≤ row_places + 1) × (heights r + row_places * (closes_most - s'.closes) ≤ 1 + row_places * (closes_most - s.closes))

pub record Unread (l : List ℕ) (s : State) (fault : FormFault) (s' : State) : Type 0 where
  pub reads : reading l ≡ Err fault
  pub same : s' ≡ s

-- n is any number of a line
pub record Made (serves : ℕ) (rule : ℕ → List ℕ → List ℕ) (pays : Stand → ℤ → ℤ) (form : Form) (s : State) (r : Result Answer Fault) (rows : List Row) (s' : State) : Type 0 where
  pub event : Event
  pub asks : request event ≡ call_of form
  pub step : Step serves rule pays s event s'
  pub prints : (n : ℕ) → text n r rows ≡ printed n s' event

pub record Entered (serves : ℕ) (rule : ℕ → List ℕ → List ℕ) (pays : Stand → ℤ → ℤ) (l : List ℕ) (s : State) (r : Result Answer Fault) (rows : List Row) (s' : State) : Type 0 where
  pub form : Form
  pub reads : reading l ≡ Ok form
  pub made : Made serves rule pays form s r rows s'

abbrev pub Came : ℕ → (ℕ → List ℕ → List ℕ) → (Stand → ℤ → ℤ) → List ℕ → State → Result Answer Fault → List Row → State → Type 0
Came serves rule pays l s (Ok answer) rows s' = Entered serves rule pays l s (Ok answer) rows s'
Came serves rule pays l s (Err (InForm fault)) rows s' = Unread l s fault s'
Came serves rule pays l s (Err (ByBook why)) rows s' = Entered serves rule pays l s (Err (ByBook why)) rows s'

-- A session over a book: lines in, printed lines out.
--   lines           of an input: byte 10 ends a line, and the last may lack it
--   call_of         the call that a form makes; a close is given places for 64 rows
--   request         the call that an event answers
--   printed         what is printed of an event, with the number of its line and the state behind it
--   Session         so many lines have been told, from a state on: what was printed, which calls were made with which answers
--                   (the newest first), and the state that is left. A line that cannot be read prints its fault and makes no
--                   call; any other makes the call of its form, and prints what comes of it
--   Transcript      the same of a whole input; one of over 65,536 bytes is not read
--   OnlyTranscript   no other transcript and no other state comes of an input
-- Assumes nothing.
use Rattle.std.specs.Prelude.{◌≡◌, ℕ, ◌+◌, ◌<◌, ◌≤◌, cond, List, [], ◌∷◌, ◌++◌, length, ℤ, pos, Ok, Err, ◌==◌}
use Rattle.std.specs.List.{flat_map}
use Rattle.payment.specs.Stand.{Stand}
use Rattle.book.specs.Calls.{Call, Event, Step, close, closing, entered, entry, list, opening, over, payin, ready, readying, refused, renewal, term, under, uplift}
use Rattle.book.specs.History.{History}
use Rattle.book.specs.State.{State}
use Rattle.text.specs.Line.{closed_line, fault_line, invoice_line, refused_line, row_line}
use Rattle.text.specs.Reading.{reading}
use Rattle.text.specs.declared.fault.Fault.TheVariants.{Form as InForm}
use Rattle.text.specs.declared.fault.FormFault.{FormFault}
use Rattle.text.specs.declared.fault.FormFault.TheVariants.{Text as InText}
use Rattle.text.specs.declared.fault.Layer.TheVariants.{Book as ByBook}
use Rattle.text.specs.declared.fault.TextFault.TheVariants.{LongInput}
use Rattle.text.specs.declared.form.Form.{Form}
use Rattle.text.specs.declared.form.Form.TheVariants.{Close, List as Listing, Over, Payin, Ready, Term, Under, Uplift}

abbrev pub input_most : ℕ
input_most = 65536

abbrev pub row_places : ℕ
row_places = 64

abbrev pub onto : ℕ → List (List ℕ) → List (List ℕ)
onto b [] = (b ∷ []) ∷ []
onto b (l ∷ ls) = (b ∷ l) ∷ ls

abbrev pub lines : List ℕ → List (List ℕ)
lines [] = []
lines (b ∷ bs) = cond (b == 10) ([] ∷ lines bs) (onto b (lines bs))

abbrev pub call_of : Form → Call
call_of (Listing asset holder) = list asset holder
call_of (Term asset award commitment is_ready) = term asset award commitment is_ready
call_of (Over class asset cents) = entry (over class) asset (pos cents)
call_of (Under class asset cents) = entry (under class) asset (pos cents)
call_of (Uplift asset cents) = entry uplift asset (pos cents)
call_of (Payin asset cents) = entry payin asset (pos cents)
call_of (Ready asset) = ready asset
call_of Close = close row_places

abbrev pub request : Event → Call
request (opening asset holder) = list asset holder
request (renewal asset award commitment is_ready invoice) = term asset award commitment is_ready
request (entered kind asset cents) = entry kind asset cents
request (readying asset) = ready asset
request (closing places rows left) = close places
request (refused call number) = call

abbrev pub printed : ℕ → State → Event → List ℕ
printed n s (opening asset holder) = []
printed n s (renewal asset award commitment is_ready invoice) = cond (invoice == 0) [] (invoice_line asset invoice)
printed n s (entered kind asset cents) = []
printed n s (readying asset) = []
printed n s (closing places rows left) = flat_map row_line rows ++ closed_line s.closes left
printed n s (refused call number) = refused_line n 1 ByBook number

pub data Session (serves : ℕ) (rule : ℕ → List ℕ → List ℕ) (pays : Stand → ℤ → ℤ) (before : State) : List (List ℕ) → List ℕ → History → State → Type 0 where
  begun : Session serves rule pays before [] [] [] before
  faulty : {ls : List (List ℕ)} {out : List ℕ} {h : History} {s : State} → Session serves rule pays before ls out h s
      → (l : List ℕ) (fault : FormFault) → reading l ≡ Err fault
      → Session serves rule pays before (ls ++ l ∷ []) (out ++ fault_line (length ls + 1) (InForm fault)) h s
  made : {ls : List (List ℕ)} {out : List ℕ} {h : History} {s : State} → Session serves rule pays before ls out h s
      → (l : List ℕ) (form : Form) (e : Event) (s' : State) → reading l ≡ Ok form → request e ≡ call_of form → Step serves rule pays s e s'
      → Session serves rule pays before (ls ++ l ∷ []) (out ++ printed (length ls + 1) s' e) (e ∷ h) s'

pub data Transcript (serves : ℕ) (rule : ℕ → List ℕ → List ℕ) (pays : Stand → ℤ → ℤ) (before : State) (input : List ℕ) : List ℕ → History → State → Type 0 where
  told : {out : List ℕ} {h : History} {after : State} → length input ≤ input_most → Session serves rule pays before (lines input) out h after
      → Transcript serves rule pays before input out h after
  unread : input_most < length input → Transcript serves rule pays before input (fault_line 0 (InForm (InText LongInput))) [] before

abbrev pub OnlyTranscript : ℕ → (ℕ → List ℕ → List ℕ) → (Stand → ℤ → ℤ) → State → List ℕ → List ℕ → State → Type 0
OnlyTranscript serves rule pays before input out after =
    (other : List ℕ) (h : History) (s : State) → Transcript serves rule pays before input other h s → (other ≡ out) × (s ≡ after)

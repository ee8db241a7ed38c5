-- A call with its answer.
--   outcome   the event where a call is taken, else its refusal
--   posted    the same of a resolution that is posted or handed back
--   Same x r  a call that was refused handed back x itself
--   Added     what becomes of a sum that goes to the month's entries
-- Assumes nothing.
use Rattle.std.specs.Prelude.{◌≡◌, ℕ, true, false, ℤ, Ok, Err, Result}
use Rattle.book.specs.Calls.{Call, Event, changed, entered, entries_past, entry, on_ledger, refused, resolution}
use Rattle.book.specs.Entries.{adding}
use Rattle.book.specs.Refusal.{number}
use Rattle.book.specs.State.{State}
use Rattle.book.specs.declared.refusal.Refusal.{Refusal}
use Rattle.book.specs.declared.refusal.Refusal.TheVariants.{PastLimit}

abbrev pub outcome : {A : Type 0} → Call → (A → Event) → Result A Refusal → Event
outcome call event (Ok a) = event a
outcome call event (Err why) = refused call (number why)

abbrev pub Added : {A : Type 0} → State → ℕ → ℤ → Result A Refusal → State → Type 0
Added s asset cents (Ok a) s' = (entries_past s asset cents ≡ false) × (s' ≡ changed asset (on_ledger (adding cents)) s)
Added s asset cents (Err why) s' = (entries_past s asset cents ≡ true) × (why ≡ PastLimit) × (s' ≡ s)

abbrev pub posted : {A B : Type 0} → ℕ → ℤ → Result A (B × Refusal) → Event
posted asset cents (Ok a) = entered resolution asset cents
posted asset cents (Err back) = refused (entry resolution asset cents) (number back.1)

abbrev pub Same : {A B : Type 0} → B → Result A (B × Refusal) → Type 0
Same x (Ok a) = Unit {0}
Same x (Err back) = back.0 ≡ x

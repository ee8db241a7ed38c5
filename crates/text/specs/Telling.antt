-- Lines told one after the other, as the code has it.
--   needed       the bytes that so many lines to come can print, with all the closes that are left
--   LineTold    one line was told, and what comes of it printed
--   LinesTold   so many of these lines were told, and the rest is still to come
-- Assumes nothing.
use Rattle.std.specs.Prelude.{◌≡◌, ℕ, ◌+◌, ◌-◌, ◌*◌, ◌≤◌, List, ◌++◌, length, ℤ, vec_items, vec_len, vec_capacity, Result, Vec}
use Rattle.std.specs.declared.alloc.Global.{Global}
use Rattle.payment.specs.Stand.{Stand}
use Rattle.book.specs.History.{History}
use Rattle.book.specs.Limits.{closes_most}
use Rattle.book.specs.State.{State}
use Rattle.book.specs.declared.row.Row.{Row}
use Rattle.text.specs.Answer.{Came, Roomy, heights, text}
use Rattle.text.specs.Page.{page_least}
use Rattle.text.specs.Session.{Session, row_places}
use Rattle.text.specs.Transcript.{Added}
use Rattle.text.specs.declared.answer.Answer.{Answer}
use Rattle.text.specs.declared.fault.Fault.{Fault}

abbrev pub needed : ℕ → State → ℕ
needed n s = (n + row_places * (closes_most - s.closes)) * page_least

pub record LineTold (serves : ℕ) (rule : ℕ → List ℕ → List ℕ) (pays : Stand → ℤ → ℤ) (n : ℕ) (l : List ℕ) (s : State) (a : Vec ℕ Global) (s' : State) (b : Vec ℕ Global) : Type 0 where
  pub answer : Result Answer Fault
  pub rows : List Row
  pub came : Came serves rule pays l s answer rows s'
  pub roomy : Roomy answer s s'
  pub added : Added (heights answer) (text n answer rows) a b

pub record LinesTold (serves : ℕ) (rule : ℕ → List ℕ → List ℕ) (pays : Stand → ℤ → ℤ) (before : State) (lines rest : List (List ℕ)) (n : ℕ) (s : State) (out : Vec ℕ Global) : Type 0 where
  pub told : List (List ℕ)
  pub made : History
  pub session : Session serves rule pays before told (vec_items out) made s
  pub whole : told ++ rest ≡ lines
  pub count : length told ≡ n
  pub room : vec_len out + needed (length rest) s ≤ vec_capacity out

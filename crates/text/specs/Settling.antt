-- What a session leaves behind: a transcript, and a history of its book.
--   CarriedOn   the transcript, which is the only one; the calls that the session made, with their answers, go on from any history that the book had before
--   Settled      of a session over a book of its own: its calls and answers are a history of that book, and the law over histories
--                holds of it, so the figures of the transcript balance
-- Assumes nothing.
use Rattle.std.specs.Prelude.{ℕ, List, ◌++◌, ℤ}
use Rattle.payment.specs.Rule.{Limit}
use Rattle.payment.specs.Stand.{Stand}
use Rattle.book.specs.History.{History}
use Rattle.book.specs.Law.{EveryClose, Run, Whole, Worked}
use Rattle.book.specs.State.{State, empty}
use Rattle.text.specs.Session.{OnlyTranscript, Transcript}

pub record CarriedOn (serves : ℕ) (rule : ℕ → List ℕ → List ℕ) (pays : Stand → ℤ → ℤ) (before : State) (input out : List ℕ) (after : State) : Type 0 where
  pub history : History
  pub transcript : Transcript serves rule pays before input out history after
  pub only : OnlyTranscript serves rule pays before input out after
  pub goes_on : (earlier : History) → Run serves rule pays earlier before → Run serves rule pays (history ++ earlier) after

pub record Settled (serves : ℕ) (rule : ℕ → List ℕ → List ℕ) (pays : Stand → ℤ → ℤ) (limits : List Limit) (input out : List ℕ) (after : State) : Type 0 where
  pub history : History
  pub transcript : Transcript serves rule pays empty input out history after
  pub only : OnlyTranscript serves rule pays empty input out after
  pub run : Run serves rule pays history after
  pub whole : Whole rule pays limits history after
  pub worked : EveryClose Worked history

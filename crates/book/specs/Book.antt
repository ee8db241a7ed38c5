-- A book read as its state.
-- Assumes nothing.
use Rattle.std.specs.Prelude.{ℕ, vec_items}
use Rattle.sharing.specs.declared.rule.SharingRule.{Ghosts as Sharing}
use Rattle.payment.specs.declared.rule.PaymentRule.{Ghosts as Paying}
use Rattle.book.specs.State.{State, state}
use Rattle.book.specs.declared.book.Book.{Book}

abbrev pub view : {R P : Type 0} {N : ℕ} {g : Sharing R} {h : Paying P} → Book R P N g h → State
view b = state (vec_items b.accounts) b.pools b.closes

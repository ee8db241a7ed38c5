-- What the work of a close rests on.
--   Closable a share   an account that can be closed with these shares
--   due_at             the account at a place with its shares
-- Assumes nothing.
use Rattle.std.specs.Prelude.{ℕ, ◌≤◌, List, slice_index}
use Rattle.book.specs.Account.{RangedTerms}
use Rattle.book.specs.Accounts.{at}
use Rattle.book.specs.Class.{by_class}
use Rattle.book.specs.Close.{Due, due}
use Rattle.book.specs.Small.{Tight}
use Rattle.book.specs.declared.account.Account.{Account}
use Rattle.book.specs.declared.class.ByClass.{ByClass}

pub record Closable (a : Account) (share : ByClass) : Type 0 where
  pub tight : Tight a.ledger
  pub ranged : RangedTerms a.terms
  pub delivery : share.delivery ≤ a.ledger.claims.delivery
  pub availability : share.availability ≤ a.ledger.claims.availability

abbrev pub due_at : ℕ → List Account → List ℕ → List ℕ → Due
due_at i xs delivery availability = due (at i xs) (by_class (slice_index delivery i) (slice_index availability i))

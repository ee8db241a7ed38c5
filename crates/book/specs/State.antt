-- What a book holds.
--   State        the accounts in listing order, the open pools and the closes so far
--   empty        the book as it opens
--   year, month  of the period that is open
-- Assumes nothing.
use Rattle.std.specs.Prelude.{ℕ, ◌+◌, ◌/◌, ◌%◌, List, []}
use Rattle.book.specs.Class.{none}
use Rattle.book.specs.declared.account.Account.{Account}
use Rattle.book.specs.declared.class.ByClass.{ByClass}

pub record State : Type 0 where
  pub accounts : List Account
  pub pools : ByClass
  pub closes : ℕ

abbrev pub state : List Account → ByClass → ℕ → State
state accounts pools closes = record { accounts = accounts; pools = pools; closes = closes }

abbrev pub empty : State
empty = state [] none 0

abbrev pub year : State → ℕ
year s = s.closes / 12 + 1

abbrev pub month : State → ℕ
month s = s.closes % 12 + 1

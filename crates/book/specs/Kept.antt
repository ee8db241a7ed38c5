-- What every book keeps.
--   Kept   of a book that takes so many assets: its closes, open pools and accounts, and the limits on them
-- Assumes nothing.
use Rattle.std.specs.Prelude.{ℕ, ◌+◌, ◌≤◌, List, length}
use Rattle.sharing.specs.Rule.{most_cents}
use Rattle.book.specs.Account.{RangedLedger, RangedName, RangedTerms}
use Rattle.book.specs.Accounts.{Differ, Each, charged, claimed}
use Rattle.book.specs.Class.{of}
use Rattle.book.specs.declared.account.Account.{Account}
use Rattle.book.specs.declared.class.ByClass.{ByClass}
use Rattle.book.specs.declared.class.Class.{Class}

pub record Kept (places closes : ℕ) (pools : ByClass) (xs : List Account) : Type 0 where
  pub few : length xs ≤ places
  pub differ : Differ xs
  pub names : Each RangedName xs
  pub terms : Each (λ a. RangedTerms a.terms) xs
  pub ledgers : Each (λ a. RangedLedger closes a.ledger) xs
  pub claims : (class : Class) → claimed class xs ≤ most_cents
  pub charges : (class : Class) → charged class xs + of class pools ≤ most_cents

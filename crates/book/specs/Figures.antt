-- Worked figures of the book.
--   Invoiced, invoices   the last award, the new one, the carried balance, and the invoice
--   Paid, payins         charges owed and general balance, a sum paid in, and the charges and balance that it leaves
--   Figures              each row is what the rules give
-- Assumes nothing.
use Rattle.std.specs.Prelude.{◌≡◌, ℕ, List, [], ◌∷◌, ℤ, pos, neg_ℤ}
use Rattle.std.specs.List.{AllByRecursion}
use Rattle.book.specs.Account.{ledger_of}
use Rattle.book.specs.Class.{by_class, none}
use Rattle.book.specs.Entries.{credited, invoice}
use Rattle.book.specs.declared.class.ByClass.{ByClass}

pub record Invoiced : Type 0 where
  pub last : ℤ
  pub award : ℤ
  pub carried : ℤ
  pub asked : ℕ

abbrev pub invoices : List Invoiced
invoices =
    record { last = pos 1000; award = pos 600; carried = neg_ℤ (pos 500); asked = 200 }
    ∷ record { last = pos 1000; award = pos 1000; carried = neg_ℤ (pos 500); asked = 0 }
    ∷ record { last = pos 1000; award = neg_ℤ (pos 100); carried = neg_ℤ (pos 500); asked = 500 }
    ∷ []

pub record Paid : Type 0 where
  pub charges : ByClass
  pub general : ℤ
  pub cents : ℕ
  pub charges_left : ByClass
  pub general_left : ℤ

abbrev pub payins : List Paid
payins = record { charges = by_class 100 50; general = neg_ℤ (pos 20); cents = 120; charges_left = by_class 0 30; general_left = neg_ℤ (pos 20) } ∷ []

abbrev pub InvoiceFigures : Type 0
InvoiceFigures = AllByRecursion (λ r. invoice r.last r.award r.carried ≡ r.asked) invoices

abbrev pub PayinFigures : Type 0
PayinFigures =
    AllByRecursion (λ r. credited r.cents (ledger_of r.general (pos 0) none r.charges) ≡ ledger_of r.general_left (pos 0) none r.charges_left) payins

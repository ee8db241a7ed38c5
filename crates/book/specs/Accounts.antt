-- The accounts in listing order. No two have one asset, so an asset names its account.
--   listed a xs      whether the asset is listed
--   account a xs     its account; a new one where it is not listed
--   change a f xs    the accounts with this one changed by f
--   at i xs          the account at a place
--   Differ xs        no two places have one asset
--   Each P xs        P holds of the account at every place
--   claim k x        the claim of an account in a class
--   charge k x       its charge owed in the class
--   claimed k xs     what all claims of the class come to
--   charged k xs     what all charges owed in the class come to
-- Assumes nothing.
use Rattle.std.specs.Prelude.{ℕ, ◌<◌, Bool, false, cond, ◌||◌, List, [], ◌∷◌, length, sum_by, ◌==◌, ◌≢◌, slice_index_or}
use Rattle.book.specs.Account.{opened}
use Rattle.book.specs.Class.{of}
use Rattle.book.specs.declared.account.Account.{Account}
use Rattle.book.specs.declared.class.Class.{Class}

abbrev pub listed : ℕ → List Account → Bool
listed asset [] = false
listed asset (x ∷ xs) = x.asset == asset || listed asset xs

abbrev pub account : ℕ → List Account → Account
account asset [] = opened asset 0
account asset (x ∷ xs) = cond (x.asset == asset) x (account asset xs)

abbrev pub change : ℕ → (Account → Account) → List Account → List Account
change asset f [] = []
change asset f (x ∷ xs) = cond (x.asset == asset) (f x ∷ xs) (x ∷ change asset f xs)

abbrev pub at : ℕ → List Account → Account
at place xs = slice_index_or xs place (opened 0 0)

abbrev pub Differ : List Account → Type 0
Differ xs = (i j : ℕ) → i < j → j < length xs → (at i xs).asset ≢ (at j xs).asset

abbrev pub Each : (Account → Type 0) → List Account → Type 0
Each P xs = (i : ℕ) → i < length xs → P (at i xs)

abbrev pub claim : Class → Account → ℕ
claim class x = of class x.ledger.claims

abbrev pub charge : Class → Account → ℕ
charge class x = of class x.ledger.charges

abbrev pub claimed : Class → List Account → ℕ
claimed class xs = sum_by (claim class) xs

abbrev pub charged : Class → List Account → ℕ
charged class xs = sum_by (charge class) xs

-- Where the account of an asset stands.
--   FoundAt asset xs place x   the place has the asset's account x, and a change of the account is a change there
--   Found asset xs spot        the same of a spot
--   Finds asset xs place       the place has the asset's account; there is none where the asset is not listed
-- Assumes nothing.
use Rattle.std.specs.Prelude.{◌≡◌, ℕ, ◌<◌, true, false, List, length, MatchOption, Option, slice_set}
use Rattle.book.specs.Accounts.{account, at, change, listed}
use Rattle.book.specs.declared.account.Account.{Account}
use Rattle.book.specs.declared.spot.Spot.{Spot}

pub record FoundAt (asset : ℕ) (xs : List Account) (place : ℕ) (x : Account) : Type 0 where
  pub within : place < length xs
  pub is_listed : listed asset xs ≡ true
  pub its : x.asset ≡ asset
  pub here : account asset xs ≡ x
  pub there : at place xs ≡ x
  pub changes : (f : Account → Account) → change asset f xs ≡ slice_set xs place (f x)

abbrev pub Found : ℕ → List Account → Spot → Type 0
Found asset xs spot = FoundAt asset xs spot.place spot.account

abbrev pub Finds : ℕ → List Account → Option ℕ → Type 0
Finds asset xs place = MatchOption place (listed asset xs ≡ false) (λ i. FoundAt asset xs i (at i xs))

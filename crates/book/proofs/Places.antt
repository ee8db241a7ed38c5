-- Finding the account of an asset. Assumes nothing.
use Rattle.std.proofs.Common.{◌≡◌, ℕ, zero, suc, ◌+◌, ◌<◌, ◌≤◌, true, false, cond, eqb, ltb, List, [], ◌∷◌, length, Some, None, Option, sym, refl, ap, ◌∙◌, subst, ⊎_elim, le_of_suc-le-suc, not-suc-le-zero, arith, below_more, MatchOption}
use Rattle.std.specs.Bool.{then_some}
use Rattle.std.specs.Option.{option_or}
use Rattle.std.specs.List.{position, position_or_len}
use Rattle.std.proofs.lemmas.Bool.{cases_Bool, cases_eq, eq-eqb, eqb-false, eqb-true, ltb-false, ne_eqb}
use Rattle.std.proofs.lemmas.List.Quantifiers.{position-Some}
use Rattle.std.proofs.lemmas.List.Sums.{fails_before_first}
use Rattle.book.specs.Account.{opened}
use Rattle.book.specs.Accounts.{at, listed}
use Rattle.book.specs.Find.{Finds, Found, FoundAt}
use Rattle.book.specs.declared.account.Account.{Account}
use Rattle.book.specs.declared.spot.Spot.{Spot}

-- no place so far has the asset
abbrev pub Before : ℕ → ℕ → List Account → Type 0
Before asset i xs = (k : ℕ) → k < i → (at k xs).asset ≡ asset → ⊥

first_differs : (asset : ℕ) (x : Account) (xs : List Account) (i : ℕ) → Before asset (suc i) (x ∷ xs) → eqb x.asset asset ≡ false
first_differs asset x xs i before = ne_eqb x.asset asset (before 0 (omega arith))

pub found : (asset : ℕ) (xs : List Account) (i : ℕ) → i < length xs → Before asset i xs → (at i xs).asset ≡ asset → FoundAt asset xs i (at i xs)
found asset [] i within before its = absurd (not-suc-le-zero within)
found asset (x ∷ xs) zero within before its =
    let same : eqb x.asset asset ≡ true = eq-eqb x.asset asset its in
    record {
      within = within;
      is_listed = rw same;
      its = its;
      here = rw same;
      there = refl;
      changes = λ f. rw same;
    }
found asset (x ∷ xs) (suc i) within before its =
    let other : eqb x.asset asset ≡ false = first_differs asset x xs i before in
    let below = found asset xs i (le_of_suc-le-suc within) (λ k h. before (suc k) (omega arith)) its in
    record {
      within = within;
      is_listed = rw other below.is_listed;
      its = its;
      here = rw other below.here;
      there = refl;
      changes = λ f. rw other (ap (λ ys. x ∷ ys) (below.changes f));
    }

not_found : (asset : ℕ) (xs : List Account) → Before asset (length xs) xs → listed asset xs ≡ false
not_found asset [] before = refl
not_found asset (x ∷ xs) before =
    let other : eqb x.asset asset ≡ false = first_differs asset x xs (length xs) before in
    rw other (not_found asset xs (λ k h. before (suc k) (omega arith)))

-- a spot has the asset of its account
pub own : (asset : ℕ) (xs : List Account) (spot : Spot) → Found asset xs spot → Found spot.account.asset xs spot
own asset xs spot at_it = subst (λ n. Found n xs spot) (sym at_it.its) at_it

-- one place more is looked at
pub found_more : (asset : ℕ) (xs : List Account) (i : ℕ) (place : Option ℕ) → i < length xs
    → MatchOption place (Before asset i xs) (λ k. FoundAt asset xs k (at k xs))
    → MatchOption (option_or place (then_some (eqb (at i xs).asset asset) i)) (Before asset (i + 1) xs) (λ k. FoundAt asset xs k (at k xs))
found_more asset xs i (Some place) within so_far = so_far
found_more asset xs i None within before =
    ⊎_elim
    (λ e. rw (eq-eqb (at i xs).asset asset e) (found asset xs i within before e))
    (λ ne. rw (ne_eqb (at i xs).asset asset ne) (below_more (λ k. (at k xs).asset ≡ asset → ⊥) i before ne))
    (cases_eq (at i xs).asset asset)

-- all places are looked at
pub found_all : (asset : ℕ) (xs : List Account) (i : ℕ) (place : Option ℕ) → length xs ≤ i
    → MatchOption place (Before asset i xs) (λ k. FoundAt asset xs k (at k xs)) → Finds asset xs place
found_all asset xs i (Some place) past so_far = so_far
found_all asset xs i None past before = not_found asset xs (λ k h. before k (omega arith))

past_all : (n m : ℕ) → None ≡ cond (ltb n m) (Some n) None → m ≤ n
past_all n m e = ⊎_elim (λ less. absurd (none_some n (e ∙ ap (λ t. cond t (Some n) None) less))) (λ past. ltb-false n m past) (cases_Bool (ltb n m))
  where
    none_some : (n : ℕ) → None ≡ Some n → ⊥
    none_some n e = grind arith

-- the first place that has the asset
pub first_found : (asset : ℕ) (xs : List Account) (place : Option ℕ) → place ≡ position (λ x. eqb x.asset asset) xs → Finds asset xs place
first_found asset xs (Some i) is =
    let first = position-Some (λ x. eqb x.asset asset) xs i (opened 0 0) (sym is) in
    found asset xs i first.0 (λ k h. eqb-false (at k xs).asset asset (first.2 k h)) (eqb-true (at i xs).asset asset first.1)
first_found asset xs None is =
    let past : length xs ≤ position_or_len (λ x. eqb x.asset asset) xs = past_all (position_or_len (λ x. eqb x.asset asset) xs) (length xs) is in
    not_found asset xs (λ k h. eqb-false (at k xs).asset asset (fails_before_first (λ x. eqb x.asset asset) xs k (opened 0 0) (omega (arith, past))))

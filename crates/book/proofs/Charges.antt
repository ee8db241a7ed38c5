-- What a close does to the sums of a class. Assumes nothing.
use Rattle.std.proofs.Common.{◌≡◌, ℕ, suc, ◌+◌, ◌≤◌, true, false, cond, eqb, List, [], ◌∷◌, map, length, get_or, drop, ℤ, sum_by, sum, sym, refl, ap, ◌∙◌, arith}
use Rattle.std.proofs.lemmas.List.Sums.{sum_by-cons}
use Rattle.payment.specs.Stand.{Stand}
use Rattle.book.specs.Account.{award_in_force}
use Rattle.book.specs.Accounts.{account, charge, charged, claim}
use Rattle.book.specs.Class.{by_class, of}
use Rattle.book.specs.Close.{account_after, claims, due, dues, row, taken_of}
use Rattle.book.specs.History.{its_row}
use Rattle.book.specs.declared.account.Account.{Account}
use Rattle.book.specs.declared.class.Class.{Class}
use Rattle.book.specs.declared.class.Class.TheVariants.{Availability, Delivery}
use Rattle.book.specs.declared.row.Row.{Row}
use Rattle.book.proofs.AfterClose.{taken_within}

abbrev pub share_of : Class → Row → ℕ
share_of class r = of class r.share

abbrev pub list_of : Class → List ℕ → List ℕ → List ℕ
list_of Delivery d e = d
list_of Availability d e = e

module _ (pays : Stand → ℤ → ℤ) (year : ℕ) where
  -- charges fall by what is taken
  pub charged_closed : (class : Class) (xs : List Account) (d e : List ℕ)
      → charged class (map (account_after pays year) (dues xs d e)) + sum_by (taken_of year class) xs ≡ charged class xs
  charged_closed class [] d e = refl
  charged_closed class (x ∷ xs) d e =
      let award = award_in_force year x.terms in
      let after = account_after pays year (due x (by_class (get_or d 0 0) (get_or e 0 0))) in
      let took = taken_within award x.ledger in
      omega (
        arith,
        sum_by-cons (charge class) after (map (account_after pays year) (dues xs (drop 1 d) (drop 1 e))),
        sum_by-cons (taken_of year class) x xs,
        sum_by-cons (charge class) x xs,
        charged_closed class xs (drop 1 d) (drop 1 e),
        falls class x (by_class (get_or d 0 0) (get_or e 0 0)),
      )
    where
      falls : (class : Class) (x : Account) (share : _) → charge class (account_after pays year (due x share)) + taken_of year class x ≡ charge class x
      falls Delivery x share = omega (arith, (taken_within (award_in_force year x.terms) x.ledger).0)
      falls Availability x share = omega (arith, (taken_within (award_in_force year x.terms) x.ledger).1)

  -- the shares in the rows are those of the lists
  pub shares_listed : (class : Class) (xs : List Account) (d e : List ℕ) → length d ≡ length xs → length e ≡ length xs
      → map (share_of class) (map (row pays year) (dues xs d e)) ≡ list_of class d e
  shares_listed Delivery [] [] [] p q = refl
  shares_listed Availability [] [] [] p q = refl
  shares_listed class [] (n ∷ d) e p q = absurd (omega (arith, p))
  shares_listed class [] [] (m ∷ e) p q = absurd (omega (arith, q))
  shares_listed class (x ∷ xs) [] e p q = absurd (omega (arith, p))
  shares_listed class (x ∷ xs) (n ∷ d) [] p q = absurd (omega (arith, q))
  shares_listed Delivery (x ∷ xs) (n ∷ d) (m ∷ e) p q = ap (λ ns. n ∷ ns) (shares_listed Delivery xs d e (omega (arith, p)) (omega (arith, q)))
  shares_listed Availability (x ∷ xs) (n ∷ d) (m ∷ e) p q = ap (λ ns. m ∷ ns) (shares_listed Availability xs d e (omega (arith, p)) (omega (arith, q)))

  -- and what is taken in the rows is what is taken of the accounts
  pub taken_listed : (class : Class) (xs : List Account) (d e : List ℕ) → sum_by (λ r. of class r.taken) (map (row pays year) (dues xs d e)) ≡ sum_by (taken_of year class) xs
  taken_listed class [] d e = refl
  taken_listed class (x ∷ xs) d e =
      let this = row pays year (due x (by_class (get_or d 0 0) (get_or e 0 0))) in
      sum_by-cons (λ r. of class r.taken) this (map (row pays year) (dues xs (drop 1 d) (drop 1 e)))
      ∙ ap (λ n. taken_of year class x + n) (taken_listed class xs (drop 1 d) (drop 1 e)) ∙ sym (sum_by-cons (taken_of year class) x xs)

  pub rows_order : (xs : List Account) (d e : List ℕ) → map (λ r. r.asset) (map (row pays year) (dues xs d e)) ≡ map (λ x. x.asset) xs
  rows_order [] d e = refl
  rows_order (x ∷ xs) d e = ap (λ ns. x.asset ∷ ns) (rows_order xs (drop 1 d) (drop 1 e))

  -- where every claim of a class is met, so is each asset's
  pub all_met : (class : Class) (a : ℕ) (xs : List Account) (d e : List ℕ) → map (share_of class) (map (row pays year) (dues xs d e)) ≡ claims class xs
      → claim class (account a xs) ≤ share_of class (its_row a (map (row pays year) (dues xs d e)))
  all_met Delivery a [] d e same = omega arith
  all_met Availability a [] d e same = omega arith
  all_met class a (x ∷ xs) d e same =
      let this = row pays year (due x (by_class (get_or d 0 0) (get_or e 0 0))) in
      let rest = its_row a (map (row pays year) (dues xs (drop 1 d) (drop 1 e))) in
      elim (eqb x.asset a) as (λ t. claim class (cond t x (account a xs)) ≤ share_of class (cond t this rest))
      [ true ↦ omega (arith, ap (λ ns. get_or ns 0 0) same) | false ↦ all_met class a xs (drop 1 d) (drop 1 e) (ap (drop 1) same) ]

-- lists no place of which is above the other's, with equal sums, are equal
pub same_if_summed : (ns ms : List ℕ) → length ns ≡ length ms → ((i : ℕ) → get_or ns i 0 ≤ get_or ms i 0) → sum ns ≡ sum ms → ns ≡ ms
same_if_summed [] [] p below s = refl
same_if_summed [] (m ∷ ms) p below s = absurd (omega (arith, p))
same_if_summed (n ∷ ns) [] p below s = absurd (omega (arith, p))
same_if_summed (n ∷ ns) (m ∷ ms) p below s =
    let rest : sum ns ≤ sum ms = sum_below ns ms (λ i. below (suc i)) in
    let first : n ≡ m = omega (arith, below 0, rest, s, sum_by-cons (λ x. x) n ns, sum_by-cons (λ x. x) m ms) in
    ap (λ k. k ∷ ns) first ∙ ap (λ ks. m ∷ ks) (same_if_summed ns ms (omega (arith, p)) (λ i. below (suc i)) (omega (arith, first, s, sum_by-cons (λ x. x) n ns, sum_by-cons (λ x. x) m ms)))
  where
    sum_below : (ns ms : List ℕ) → ((i : ℕ) → get_or ns i 0 ≤ get_or ms i 0) → sum ns ≤ sum ms
    sum_below [] ms below = omega arith
    sum_below (n ∷ ns) [] below = omega (arith, sum_by-cons (λ x. x) n ns, below 0, sum_below ns [] (λ i. below (suc i)))
    sum_below (n ∷ ns) (m ∷ ms) below = omega (arith, sum_by-cons (λ x. x) n ns, sum_by-cons (λ x. x) m ms, below 0, sum_below ns ms (λ i. below (suc i)))

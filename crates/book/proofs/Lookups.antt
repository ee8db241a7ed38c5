-- What an asset's account becomes. Assumes nothing.
use Rattle.std.proofs.Common.{◌≡◌, ℕ, suc, ◌+◌, ◌≤◌, Bool, true, false, cond, ◌||◌, eqb, List, [], ◌∷◌, map, get_or, drop, ℤ, sum_by, sym, refl, ap, ◌∙◌, subst, ⊎_elim, one-add, arith}
use Rattle.std.proofs.lemmas.List.{get_or-drop}
use Rattle.std.proofs.lemmas.List.Sums.{sum_by-cons}
use Rattle.std.proofs.lemmas.Bool.{cases_Bool, eq-eqb, eqb-false, eqb-true, false≢true, ne_eqb}
use Rattle.payment.specs.Stand.{Stand}
use Rattle.book.specs.Account.{award_in_force, balance}
use Rattle.book.specs.Accounts.{account, at, change, charge, claim, listed}
use Rattle.book.specs.Class.{by_class, of}
use Rattle.book.specs.Close.{account_after, closed_ledger, closed_terms, due, dues, row, taken, total_of}
use Rattle.book.specs.History.{its_row}
use Rattle.book.specs.declared.account.Account.{Account}
use Rattle.book.specs.declared.account.Ledger.{Ledger}
use Rattle.book.specs.declared.class.ByClass.{ByClass}
use Rattle.book.specs.declared.class.Class.{Class}
use Rattle.book.specs.declared.class.Class.TheVariants.{Availability, Delivery}
use Rattle.book.specs.declared.row.Row.{Row}
use Rattle.book.proofs.AfterClose.{taken_within}
use Rattle.book.proofs.Closes.{of_le}

pub cond_same : {X : Type 0} (t : Bool) (x : X) → cond t x x ≡ x
cond_same true x = refl
cond_same false x = refl

-- two tests of one number
same_tests : (x a b : ℕ) → eqb x b ≡ true → eqb x a ≡ true → eqb b a ≡ true
same_tests x a b e f = eq-eqb b a (sym (eqb-true x b e) ∙ eqb-true x a f)

other_tests : (x a b : ℕ) → eqb x b ≡ true → eqb x a ≡ false → eqb b a ≡ false
other_tests x a b e f = ne_eqb b a (λ same. eqb-false x a f (eqb-true x b e ∙ same))

other_tests' : (x a b : ℕ) → eqb x b ≡ false → eqb x a ≡ true → eqb b a ≡ false
other_tests' x a b e f = ne_eqb b a (λ same. eqb-false x b e (eqb-true x a f ∙ sym same))

-- the account of one asset where that of another, or the same, is changed
pub account_change : (a b : ℕ) (f : Account → Account) → ((x : Account) → (f x).asset ≡ x.asset) → (xs : List Account) → listed b xs ≡ true
    → account a (change b f xs) ≡ cond (eqb b a) (f (account a xs)) (account a xs)
account_change a b f keeps [] is_listed = absurd (false≢true is_listed)
account_change a b f keeps (x ∷ xs) is_listed =
    ⊎_elim
    (λ here.
    ⊎_elim
    (λ same. let kept : eqb (f x).asset a ≡ true = ap (λ n. eqb n a) (keeps x) ∙ same in let it = same_tests x.asset a b here same in rw (here, kept, it, same))
    (λ other. let kept : eqb (f x).asset a ≡ false = ap (λ n. eqb n a) (keeps x) ∙ other in let it = other_tests x.asset a b here other in rw (here, kept, it, other))
    (cases_Bool (eqb x.asset a)))
    (λ there.
    let rest : listed b xs ≡ true = subst (λ t. (t || listed b xs) ≡ true) there is_listed in
    ⊎_elim
    (λ same. let it = other_tests' x.asset a b there same in rw (there, it, same))
    (λ other.
    ap (λ t. account a (cond t (f x ∷ xs) (x ∷ change b f xs))) there ∙ ap (λ t. cond t x (account a (change b f xs))) other
    ∙ account_change a b f keeps xs rest
    ∙ ap (λ t. cond (eqb b a) (f (cond t x (account a xs))) (cond t x (account a xs))) (sym other))
    (cases_Bool (eqb x.asset a)))
    (cases_Bool (eqb x.asset b))

-- the ledger that a row leaves
abbrev pub by_row : ℕ → Account → Row → Ledger
by_row year x r = closed_ledger (award_in_force year x.terms) r.taken r.share r.payment x.ledger

-- the row that the rules give for standing, award, shares and ledger
abbrev pub row_for : (Stand → ℤ → ℤ) → ℕ → Stand → ℤ → ByClass → Ledger → Row
row_for pays asset standing award share l =
    let took = taken award l in
    let payment = pays standing (total_of award took share l) in
    record { asset = asset; award = award; taken = took; share = share; payment = payment; balance = balance (closed_ledger award took share payment l) }

-- after a close: terms and ledger of every asset, by its row
module _ (pays : Stand → ℤ → ℤ) (year : ℕ) (a : ℕ) where
  pub terms_closed : (xs : List Account) (d e : List ℕ) → (account a (map (account_after pays year) (dues xs d e))).terms ≡ closed_terms (account a xs).terms
  terms_closed [] d e = refl
  terms_closed (x ∷ xs) d e =
      let after = account_after pays year (due x (by_class (get_or d 0 0) (get_or e 0 0))) in
      let rest = account a (map (account_after pays year) (dues xs (drop 1 d) (drop 1 e))) in
      elim (eqb x.asset a) as (λ t. (cond t after rest).terms ≡ closed_terms (cond t x (account a xs)).terms)
      [ true ↦ refl | false ↦ terms_closed xs (drop 1 d) (drop 1 e) ]

  pub ledger_closed : (xs : List Account) (d e : List ℕ) → (account a (map (account_after pays year) (dues xs d e))).ledger
      ≡ by_row year (account a xs) (its_row a (map (row pays year) (dues xs d e)))
  ledger_closed [] d e = refl
  ledger_closed (x ∷ xs) d e =
      let this = due x (by_class (get_or d 0 0) (get_or e 0 0)) in
      let rest = account a (map (account_after pays year) (dues xs (drop 1 d) (drop 1 e))) in
      let rows = its_row a (map (row pays year) (dues xs (drop 1 d) (drop 1 e))) in
      elim (eqb x.asset a) as (λ t. (cond t (account_after pays year this) rest).ledger ≡ by_row year (cond t x (account a xs)) (cond t (row pays year this) rows))
      [ true ↦ refl | false ↦ ledger_closed xs (drop 1 d) (drop 1 e) ]

  -- the row of a listed asset is that of its account with the share in it
  pub row_closed : (xs : List Account) (d e : List ℕ) → listed a xs ≡ true → its_row a (map (row pays year) (dues xs d e))
      ≡ row pays year (due (account a xs) (its_row a (map (row pays year) (dues xs d e))).share)
  row_closed [] d e is_listed = absurd (false≢true is_listed)
  row_closed (x ∷ xs) d e is_listed =
      let this = due x (by_class (get_or d 0 0) (get_or e 0 0)) in
      let rows = its_row a (map (row pays year) (dues xs (drop 1 d) (drop 1 e))) in
      let goal : Bool → Type 0 = λ t. (t || listed a xs) ≡ true → cond t (row pays year this) rows ≡ row pays year (due (cond t x (account a xs)) (cond t (row pays year this) rows).share) in
      let both : (t : Bool) → goal t = λ t. elim t as goal [ true ↦ λ _. refl | false ↦ λ l. row_closed xs (drop 1 d) (drop 1 e) l ] in
      both (eqb x.asset a) is_listed

  -- no row takes more than is owed, nor shares more than is claimed
  pub row_within : (class : Class) (xs : List Account) (d e : List ℕ) → ((i : ℕ) → get_or d i 0 ≤ claim Delivery (at i xs)) → ((i : ℕ) → get_or e i 0 ≤ claim Availability (at i xs))
      → (of class (its_row a (map (row pays year) (dues xs d e))).taken ≤ charge class (account a xs))
      × (of class (its_row a (map (row pays year) (dues xs d e))).share ≤ claim class (account a xs))
  row_within Delivery [] d e within_d within-e = (omega arith, omega arith)
  row_within Availability [] d e within_d within-e = (omega arith, omega arith)
  row_within class (x ∷ xs) d e within_d within-e =
      let this = due x (by_class (get_or d 0 0) (get_or e 0 0)) in
      let rows = its_row a (map (row pays year) (dues xs (drop 1 d) (drop 1 e))) in
      elim (eqb x.asset a) as (λ t. (of class (cond t (row pays year this) rows).taken ≤ charge class (cond t x (account a xs)))
      × (of class (cond t (row pays year this) rows).share ≤ claim class (cond t x (account a xs)))) [
        | true ↦ (
          of_le class (taken (award_in_force year x.terms) x.ledger) x.ledger.charges (taken_within (award_in_force year x.terms) x.ledger).0 (taken_within (award_in_force year x.terms) x.ledger).1,
          of_le class (by_class (get_or d 0 0) (get_or e 0 0)) x.ledger.claims (within_d 0) (within-e 0),
        )
        | false ↦ row_within class xs (drop 1 d) (drop 1 e) (λ i. next d i (within_d (suc i))) (λ i. next' e i (within-e (suc i)))
      ]
    where
      next : (ns : List ℕ) (i : ℕ) → get_or ns (suc i) 0 ≤ claim Delivery (at i xs) → get_or (drop 1 ns) i 0 ≤ claim Delivery (at i xs)
      next ns i h = omega (arith, get_or-drop 1 ns i 0, ap (λ k. get_or ns k 0) (one-add i))

      next' : (ns : List ℕ) (i : ℕ) → get_or ns (suc i) 0 ≤ claim Availability (at i xs) → get_or (drop 1 ns) i 0 ≤ claim Availability (at i xs)
      next' ns i h = omega (arith, get_or-drop 1 ns i 0, ap (λ k. get_or ns k 0) (one-add i))

-- sums over a changed account
pub sum_change : (g : Account → ℕ) (b : ℕ) (f : Account → Account) (xs : List Account) → listed b xs ≡ true
    → sum_by g (change b f xs) + g (account b xs) ≡ sum_by g xs + g (f (account b xs))
sum_change g b f [] is_listed = absurd (false≢true is_listed)
sum_change g b f (x ∷ xs) is_listed =
    let goal : Bool → Type 0 = λ t. (t || listed b xs) ≡ true → sum_by g (cond t (f x ∷ xs) (x ∷ change b f xs)) + g (cond t x (account b xs)) ≡ sum_by g (x ∷ xs) + g (f (cond t x (account b xs))) in
    let both : (t : Bool) → goal t = λ t. elim t as goal [
      | true ↦ λ _. omega (arith, sum_by-cons g (f x) xs, sum_by-cons g x xs)
      | false ↦ λ l. omega (arith, sum_by-cons g x (change b f xs), sum_by-cons g x xs, sum_change g b f xs l)
    ] in
    both (eqb x.asset b) is_listed

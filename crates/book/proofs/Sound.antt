-- What every book keeps, over a new account and over a change of one.
-- Assumes nothing.
use Rattle.std.proofs.Common.{◌≡◌, ℕ, zero, suc, ◌+◌, ◌*◌, ◌<◌, ◌≤◌, false, eqb, List, [], ◌∷◌, ◌++◌, length, set, ℤ, ◌+ℤ◌, neg_ℤ, sum_by, sym, refl, ap, ◌∙◌, subst, ⊎_elim, le_of_suc-le-suc, not-suc-le-zero, arith}
use Rattle.std.proofs.lemmas.List.{get_or_append_left, get_or_push, get_or-set_other, get_or-set_same, length_push, length-set}
use Rattle.std.proofs.lemmas.Int.{ints}
use Rattle.std.proofs.lemmas.List.Sums.{get_or-le-sum_by, sum_by_push, sum_by-set}
use Rattle.std.proofs.lemmas.Bool.{cases_eq, cases_lt, eqb-false, or_parts}
use Rattle.sharing.specs.Rule.{most_cents}
use Rattle.book.specs.Account.{EitherWay, balance, RangedLedger, RangedName, RangedTerms, opened}
use Rattle.book.specs.Accounts.{Differ, Each, at, charge, charged, claim, claimed, listed}
use Rattle.book.specs.Class.{both, minus, more, none, of, plus}
use Rattle.book.specs.Calls.{on_ledger, on_terms}
use Rattle.book.specs.Close.{above_zero}
use Rattle.book.specs.Entries.{adding, charging, claiming, credited, settled}
use Rattle.book.specs.Find.{Found}
use Rattle.book.specs.Kept.{Kept}
use Rattle.book.specs.Limits.{closes_most, entries_most}
use Rattle.book.specs.Small.{Small, Tight}
use Rattle.book.specs.declared.account.Account.{Account}
use Rattle.book.proofs.Ways.{credited_within}
use Rattle.book.specs.declared.spot.Spot.{Spot}
use Rattle.book.specs.declared.account.Ledger.{Ledger}
use Rattle.book.specs.declared.account.Terms.{Terms}
use Rattle.book.specs.declared.class.ByClass.{ByClass}
use Rattle.book.specs.declared.class.Class.{Class}
use Rattle.book.specs.declared.class.Class.TheVariants.{Availability, Delivery}

-- P holds of every account of a list with one more
each_push : (P : Account → Type 0) (xs : List Account) (x : Account) → Each P xs → P x → Each P (xs ++ x ∷ [])
each_push P xs x all last i h =
    ⊎_elim
    (λ l. subst P (sym (get_or_append_left xs (x ∷ []) (opened 0 0) i l)) (all i l))
    (λ l. let e : length xs ≡ i = omega (arith, length_push xs x) in subst P (sym (get_or_push xs x (opened 0 0) i e)) last)
    (cases_lt i (length xs))

each_set : (P : Account → Type 0) (xs : List Account) (k : ℕ) (y : Account) → k < length xs → Each P xs → P y → Each P (set xs k y)
each_set P xs k y within all new i h =
    ⊎_elim
    (λ e. subst (λ j. P (at j (set xs k y))) (sym e) (subst P (sym (get_or-set_same xs k y (opened 0 0) within)) new))
    (λ ne. subst P (sym (get_or-set_other xs k i y (opened 0 0) ne)) (all i (omega (arith, length-set xs k y))))
    (cases_eq i k)

unlisted_at : (asset : ℕ) (xs : List Account) (i : ℕ) → listed asset xs ≡ false → i < length xs → (at i xs).asset ≡ asset → ⊥
unlisted_at asset [] i none h e = not-suc-le-zero h
unlisted_at asset (x ∷ xs) zero none h e = eqb-false x.asset asset (or_parts (eqb x.asset asset) (listed asset xs) none).0 e
unlisted_at asset (x ∷ xs) (suc i) none h e =
    unlisted_at asset xs i (or_parts (eqb x.asset asset) (listed asset xs) none).1 (le_of_suc-le-suc h) e

pub differ_push : (xs : List Account) (x : Account) → Differ xs → listed x.asset xs ≡ false → Differ (xs ++ x ∷ [])
differ_push xs x differ none i j less h same =
    let left : i < length xs = omega (arith, length_push xs x) in
    let here : at i (xs ++ x ∷ []) ≡ at i xs = get_or_append_left xs (x ∷ []) (opened 0 0) i left in
    ⊎_elim
    (λ l. differ i j less l (sym (ap (λ a. a.asset) here) ∙ same ∙ ap (λ a. a.asset) (get_or_append_left xs (x ∷ []) (opened 0 0) j l)))
    (λ l.
    let e : length xs ≡ j = omega (arith, length_push xs x) in
    unlisted_at x.asset xs i none left (sym (ap (λ a. a.asset) here) ∙ same ∙ ap (λ a. a.asset) (get_or_push xs x (opened 0 0) j e)))
    (cases_lt j (length xs))

-- a change at k keeps every asset in its place
same_asset : (xs : List Account) (k : ℕ) (y : Account) → k < length xs → (at k xs).asset ≡ y.asset → (i : ℕ) → (at i (set xs k y)).asset ≡ (at i xs).asset
same_asset xs k y within its i =
    ⊎_elim
    (λ e. subst (λ j. (at j (set xs k y)).asset ≡ (at j xs).asset) (sym e) (ap (λ a. a.asset) (get_or-set_same xs k y (opened 0 0) within) ∙ sym its))
    (λ ne. ap (λ a. a.asset) (get_or-set_other xs k i y (opened 0 0) ne))
    (cases_eq i k)

differ_set : (xs : List Account) (k : ℕ) (y : Account) → k < length xs → (at k xs).asset ≡ y.asset → Differ xs → Differ (set xs k y)
differ_set xs k y within its differ i j less h same =
    differ i j less (omega (arith, length-set xs k y)) (sym (same_asset xs k y within its i) ∙ same ∙ same_asset xs k y within its j)

of_none : (class : Class) → of class none ≡ 0
of_none Delivery = refl
of_none Availability = refl

-- a new account
pub kept_push : (places closes : ℕ) (pools : ByClass) (xs : List Account) (asset holder : ℕ) → Kept places closes pools xs
    → length xs < places → listed asset xs ≡ false → RangedName (opened asset holder)
    → Kept places closes pools (xs ++ opened asset holder ∷ [])
kept_push places closes pools xs asset holder kept room unlisted named =
    let x = opened asset holder in
    record {
      few = omega (arith, length_push xs x);
      differ = differ_push xs x kept.differ unlisted;
      names = each_push RangedName xs x kept.names named;
      terms =
          each_push (λ a. RangedTerms a.terms) xs x kept.terms
          ((omega (arith, ints), omega (arith, ints)), omega arith, omega (arith, ints), omega (arith, ints));
      ledgers =
          each_push (λ a. RangedLedger closes a.ledger) xs x kept.ledgers
          ((omega (arith, ints), omega (arith, ints)), (omega (arith, ints), omega (arith, ints)));
      claims = λ class. omega (arith, kept.claims class, sum_by_push (claim class) xs x, of_none class);
      charges = λ class. omega (arith, kept.charges class, sum_by_push (charge class) xs x, of_none class);
    }

-- what is kept of the account at a spot
pub record At (closes : ℕ) (x : Account) : Type 0 where
  pub name : RangedName x
  pub terms : RangedTerms x.terms
  pub ledger : RangedLedger closes x.ledger

kept_at : (places closes : ℕ) (pools : ByClass) (xs : List Account) (asset : ℕ) (spot : Spot) → Kept places closes pools xs → Found asset xs spot
    → At closes spot.account
kept_at places closes pools xs asset spot kept found = record {
  name = subst RangedName found.there (kept.names spot.place found.within);
  terms = subst (λ a. RangedTerms a.terms) found.there (kept.terms spot.place found.within);
  ledger = subst (λ a. RangedLedger closes a.ledger) found.there (kept.ledgers spot.place found.within);
}

-- a change of one account that keeps its names, with other pools
kept_set : (places closes : ℕ) (pools pools' : ByClass) (xs : List Account) (asset : ℕ) (spot : Spot) (y : Account) → Kept places closes pools xs
    → Found asset xs spot → spot.account.asset ≡ y.asset → spot.account.holder ≡ y.holder
    → RangedTerms y.terms → RangedLedger closes y.ledger
    → ((class : Class) → claimed class xs + claim class y ≤ most_cents + claim class spot.account)
    → ((class : Class) → charged class xs + charge class y + of class pools' ≤ most_cents + charge class spot.account)
    → Kept places closes pools' (set xs spot.place y)
kept_set places closes pools pools' xs asset spot y kept found same_asset same-holder terms ledger claims charges =
    let i = spot.place in
    let here = found.within in
    let x = found.there in
    record {
      few = omega (arith, length-set xs i y, kept.few);
      differ = differ_set xs i y here (ap (λ a. a.asset) x ∙ same_asset) kept.differ;
      names = each_set RangedName xs i y here kept.names (renamed (kept_at places closes pools xs asset spot kept found).name);
      terms = each_set (λ a. RangedTerms a.terms) xs i y here kept.terms terms;
      ledgers = each_set (λ a. RangedLedger closes a.ledger) xs i y here kept.ledgers ledger;
      claims = λ class. omega (arith, claims class, sum_by-set (claim class) xs i y (opened 0 0) here, ap (claim class) x);
      charges = λ class. omega (arith, charges class, sum_by-set (charge class) xs i y (opened 0 0) here, ap (charge class) x);
    }
  where
    renamed : RangedName spot.account → RangedName y
    renamed (a, b, c, d) = (omega arith, omega arith, omega arith, omega arith)

-- an over
pub kept_claiming : (places closes : ℕ) (pools : ByClass) (xs : List Account) (asset cents : ℕ) (class : Class) (spot : Spot) → Kept places closes pools xs
    → Found asset xs spot → claimed class xs + cents ≤ most_cents
    → Kept places closes pools (set xs spot.place (on_ledger (claiming class cents) spot.account))
kept_claiming places closes pools xs asset cents class spot kept found room =
    let at_spot = kept_at places closes pools xs asset spot kept found in
    kept_set places closes pools pools xs asset spot (on_ledger (claiming class cents) spot.account) kept found refl refl
    at_spot.terms at_spot.ledger
    (claims class room)
    (λ k. omega (arith, kept.charges k))
  where
    claims : (class : Class) → claimed class xs + cents ≤ most_cents → (k : Class)
        → claimed k xs + of k (more class cents spot.account.ledger.claims) ≤ most_cents + of k spot.account.ledger.claims
    claims Delivery room Delivery = omega arith
    claims Delivery room Availability = omega (arith, kept.claims Availability)
    claims Availability room Delivery = omega (arith, kept.claims Delivery)
    claims Availability room Availability = omega arith

-- a claim or a charge is within what all come to
pub spot_within : (f : Account → ℕ) (xs : List Account) (asset : ℕ) (spot : Spot) → Found asset xs spot → f spot.account ≤ sum_by f xs
spot_within f xs asset spot found = omega (arith, get_or-le-sum_by f xs spot.place (opened 0 0) found.within, ap f found.there)

-- an under
pub kept_charging : (places closes : ℕ) (pools : ByClass) (xs : List Account) (asset cents : ℕ) (class : Class) (spot : Spot) → Kept places closes pools xs
    → Found asset xs spot → charged class xs + of class pools + cents ≤ most_cents
    → Kept places closes pools (set xs spot.place (on_ledger (charging class cents) spot.account))
kept_charging places closes pools xs asset cents class spot kept found room =
    let at_spot = kept_at places closes pools xs asset spot kept found in
    kept_set places closes pools pools xs asset spot (on_ledger (charging class cents) spot.account) kept found refl refl
    at_spot.terms at_spot.ledger
    (λ k. omega (arith, kept.claims k))
    (charges class room)
  where
    charges : (class : Class) → charged class xs + of class pools + cents ≤ most_cents → (k : Class)
        → charged k xs + of k (more class cents spot.account.ledger.charges) + of k pools ≤ most_cents + of k spot.account.ledger.charges
    charges Delivery room Delivery = omega arith
    charges Delivery room Availability = omega (arith, kept.charges Availability)
    charges Availability room Delivery = omega (arith, kept.charges Delivery)
    charges Availability room Availability = omega arith

-- a change of the month's entries
pub kept_adding : (places closes : ℕ) (pools : ByClass) (xs : List Account) (asset : ℕ) (cents : ℤ) (spot : Spot) → Kept places closes pools xs
    → Found asset xs spot → EitherWay entries_most (spot.account.ledger.entries +ℤ cents)
    → Kept places closes pools (set xs spot.place (on_ledger (adding cents) spot.account))
kept_adding places closes pools xs asset cents spot kept found room =
    let at_spot = kept_at places closes pools xs asset spot kept found in
    kept_set places closes pools pools xs asset spot (on_ledger (adding cents) spot.account) kept found refl refl
    at_spot.terms (at_spot.ledger.0, room)
    (λ k. omega (arith, kept.claims k))
    (λ k. omega (arith, kept.charges k))

-- a change of the terms
pub kept_terms : (places closes : ℕ) (pools : ByClass) (xs : List Account) (asset : ℕ) (terms : Terms) (spot : Spot) → Kept places closes pools xs
    → Found asset xs spot → RangedTerms terms
    → Kept places closes pools (set xs spot.place (on_terms (λ _. terms) spot.account))
kept_terms places closes pools xs asset terms spot kept found ranged =
    let at_spot = kept_at places closes pools xs asset spot kept found in
    kept_set places closes pools pools xs asset spot (on_terms (λ _. terms) spot.account) kept found refl refl
    ranged at_spot.ledger
    (λ k. omega (arith, kept.claims k))
    (λ k. omega (arith, kept.charges k))

-- a sum paid in, no more than is owed, with terms that keep their ranges
pub kept_crediting : (places closes : ℕ) (pools : ByClass) (xs : List Account) (asset cents : ℕ) (terms : Terms) (spot : Spot) → Kept places closes pools xs
    → Found asset xs spot → RangedTerms terms → cents ≤ above_zero (neg_ℤ (balance spot.account.ledger))
    → Kept places closes (plus pools (settled cents spot.account.ledger.charges))
    (set xs spot.place (on_terms (λ _. terms) (on_ledger (credited cents) spot.account)))
kept_crediting places closes pools xs asset cents terms spot kept found ranged owed =
    let at_spot = kept_at places closes pools xs asset spot kept found in
    let l = spot.account.ledger in
    kept_set places closes pools (plus pools (settled cents l.charges)) xs asset spot
    (on_terms (λ _. terms) (on_ledger (credited cents) spot.account)) kept found refl refl
    ranged (
      credited_within (1000000000 + 6000000000 * closes) l.general l.entries (both l.claims) l.charges.delivery l.charges.availability cents
          (omega arith) at_spot.ledger.0 at_spot.ledger.1 owed,
      at_spot.ledger.1,
    )
    (λ k. omega (arith, kept.claims k))
    charges
  where
    charges : (k : Class) → charged k xs + of k (minus spot.account.ledger.charges (settled cents spot.account.ledger.charges))
        + of k (plus pools (settled cents spot.account.ledger.charges)) ≤ most_cents + of k spot.account.ledger.charges
    charges Delivery = omega (arith, kept.charges Delivery)
    charges Availability = omega (arith, kept.charges Availability)

-- every ledger leaves room for a close
pub tight_each : (places closes : ℕ) (pools : ByClass) (xs : List Account) → Kept places closes pools xs → closes ≤ closes_most → Each (λ a. Tight a.ledger) xs
tight_each places closes pools xs kept in_time i h =
    let l = kept.ledgers i h in
    record {
      general = (omega (arith, ints, l.0.0), omega (arith, ints, l.0.1));
      entries = (omega (arith, ints, l.1.0), omega (arith, ints, l.1.1));
      claims = omega (arith, get_or-le-sum_by (claim Delivery) xs i (opened 0 0) h, get_or-le-sum_by (claim Availability) xs i (opened 0 0) h, kept.claims Delivery, kept.claims Availability);
      charges = omega (arith, get_or-le-sum_by (charge Delivery) xs i (opened 0 0) h, get_or-le-sum_by (charge Availability) xs i (opened 0 0) h, kept.charges Delivery, kept.charges Availability);
    }

-- a ledger that leaves room for a close leaves room for any one act
pub small_from : (l : Ledger) → Tight l → Small l
small_from l tight = record {
  general = (omega (arith, ints, tight.general.0), omega (arith, ints, tight.general.1));
  entries = tight.entries;
  claims = tight.claims;
  charges = tight.charges;
}

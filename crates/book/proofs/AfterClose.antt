-- What every book keeps over a close. Assumes nothing.
use Rattle.std.proofs.Common.{◌≡◌, ℕ, ◌+◌, ◌*◌, ◌<◌, ◌≤◌, List, [], ◌∷◌, map, length, get_or, drop, ℤ, pos, sum_by, sym, refl, ap, ◌∙◌, subst, ⊎_elim, arith}
use lib.Signed.{lt_z}
use Rattle.std.proofs.lemmas.List.{get_or-map, get_or_past, length-map}
use Rattle.std.proofs.lemmas.Int.{ints}
use Rattle.std.proofs.lemmas.List.Sums.{get_or-le-sum_by, sum_by-cons}
use Rattle.std.proofs.lemmas.Bool.{cases_lt, cond_both}
use Rattle.payment.specs.Rule.{Limit, Owed}
use Rattle.payment.specs.Stand.{InRange, Stand, award_most, commitment_most}
use Rattle.book.specs.Account.{EitherWay, RangedLedger, RangedName, RangedTerms, award_in_force, opened, standing}
use Rattle.book.specs.Accounts.{Each, at, charge, claim}
use Rattle.book.specs.Class.{by_class, none, of}
use Rattle.book.specs.Closable.{Closable, due_at}
use Rattle.book.specs.Close.{Due, account_after, all_dues, claims, closed_state, due, dues, pooled, shares, taken, total}
use Rattle.book.specs.Entries.{settled}
use Rattle.book.specs.Kept.{Kept}
use Rattle.book.specs.Limits.{closes_most}
use Rattle.book.specs.State.{State, year}
use Rattle.book.specs.declared.account.Account.{Account}
use Rattle.book.specs.declared.account.Ledger.{Ledger}
use Rattle.book.specs.declared.account.Terms.{Terms}
use Rattle.book.specs.declared.class.ByClass.{ByClass}
use Rattle.book.specs.declared.class.Class.{Class}
use Rattle.book.specs.declared.class.Class.TheVariants.{Availability, Delivery}
use Rattle.book.proofs.Closes.{getD_dues, length-dues}
use Rattle.book.proofs.Sound.{tight_each}
use Rattle.book.proofs.Ways.{left_within}

-- no more is taken than is owed
pub taken_within : (award : ℤ) (l : Ledger) → ((taken award l).delivery ≤ l.charges.delivery) × ((taken award l).availability ≤ l.charges.availability)
taken_within award l =
    cond_both (lt_z award (pos 0)) l.charges (settled _ l.charges) (λ p. (p.delivery ≤ l.charges.delivery) × (p.availability ≤ l.charges.availability))
    (λ _. (omega arith, omega arith)) (λ _. (omega arith, omega arith))

-- an award in force is an award, or 0
in_force_within : (in_year : ℕ) (t : Terms) → RangedTerms t → EitherWay award_most (award_in_force in_year t)
in_force_within in_year t ranged =
    cond_both _ t.award (pos 0) (EitherWay award_most) (λ _. ranged.0) (λ _. (omega (arith, ints), omega (arith, ints)))

pub standing_within : (in_year : ℕ) (t : Terms) → RangedTerms t → InRange (standing in_year t)
standing_within in_year t ranged =
    (in_force_within in_year t ranged, (ranged.2, ranged.3), cond_both _ t.commitment 0 (λ n. n ≤ commitment_most) (λ _. ranged.1) (λ _. omega arith))

at_after : (f : Due → Account) (xs : List Account) (d a : List ℕ) (i : ℕ) → i < length xs → at i (map f (dues xs d a)) ≡ f (due_at i xs d a)
at_after f xs d a i h =
    get_or-map f (dues xs d a) i (due (opened 0 0) none) (opened 0 0) (omega (arith, length-dues xs d a))
    ∙ ap f (getD_dues xs d a i (due (opened 0 0) none) h)

-- a sum does not rise where no account's part of it does
sum_after : (g : Account → ℕ) (f : Due → Account) → ((x : Account) (share : ByClass) → g (f (due x share)) ≤ g x)
    → (xs : List Account) (d a : List ℕ) → sum_by g (map f (dues xs d a)) ≤ sum_by g xs
sum_after g f falls [] d a = omega arith
sum_after g f falls (x ∷ xs) d a =
    let share = by_class (get_or d 0 0) (get_or a 0 0) in
    omega (arith, sum_by-cons g (f (due x share)) (map f (dues xs (drop 1 d) (drop 1 a))), sum_by-cons g x xs, falls x share, sum_after g f falls xs (drop 1 d) (drop 1 a))

module _ (places closes : ℕ) (pools : ByClass) (xs : List Account) (kept : Kept places closes pools xs) (pays : Stand → ℤ → ℤ) (limits : List Limit)
    (owes : (s : Stand) (t : ℤ) → InRange s → Owed limits s t (pays s t)) (in_year : ℕ) (d a : List ℕ)
    (within_d : (i : ℕ) → get_or d i 0 ≤ claim Delivery (at i xs)) (within_a : (i : ℕ) → get_or a i 0 ≤ claim Availability (at i xs)) where
  closable : closes ≤ closes_most → (i : ℕ) → i < length xs → Closable (due_at i xs d a).account (due_at i xs d a).share
  closable in_time i h = record {
    tight = tight_each places closes pools xs kept in_time i h;
    ranged = kept.terms i h;
    delivery = within_d i;
    availability = within_a i;
  }

  -- the general balance stays within its limit, which rises by each close
  general_after : (i : ℕ) → i < length xs → RangedLedger (closes + 1) (account_after pays in_year (due_at i xs d a)).ledger
  general_after i h =
      let x = at i xs in
      let l = kept.ledgers i h in
      let in_force = in_force_within in_year x.terms (kept.terms i h) in
      let took = taken_within (award_in_force in_year x.terms) x.ledger in
      let due = due_at i xs d a in
      let far : EitherWay (pos (1000000000 + 6000000000 * (closes + 1))) (total in_year due) = (
        omega (arith, ints, l.0.0, l.1.0, in_force.0, took.0, took.1, within_d i, within_a i, get_or-le-sum_by (charge Delivery) xs i (opened 0 0) h, get_or-le-sum_by (charge Availability) xs i (opened 0 0) h, kept.charges Delivery, kept.charges Availability),
        omega (arith, ints, l.0.1, l.1.1, in_force.1, took.0, took.1, within_d i, within_a i, get_or-le-sum_by (claim Delivery) xs i (opened 0 0) h, get_or-le-sum_by (claim Availability) xs i (opened 0 0) h, kept.claims Delivery, kept.claims Availability),
      )
      in (
        left_within (1000000000 + 6000000000 * (closes + 1)) (total in_year due) (pays (standing in_year x.terms) (total in_year due)) far
            (owes (standing in_year x.terms) (total in_year due) (standing_within in_year x.terms (kept.terms i h))).between,
        (omega (arith, ints), omega (arith, ints)),
      )

  each_after : (P : Account → Type 0) → ((i : ℕ) → i < length xs → P (account_after pays in_year (due_at i xs d a))) → Each P (map (account_after pays in_year) (dues xs d a))
  each_after P all i h =
      let within : i < length xs = omega (arith, length-map (dues xs d a) (account_after pays in_year), length-dues xs d a) in
      subst P (sym (at_after (account_after pays in_year) xs d a i within)) (all i within)

  kept_closed : Kept places (closes + 1) none (map (account_after pays in_year) (dues xs d a))
  kept_closed =
      let f = account_after pays in_year in
      let as_many : length (map f (dues xs d a)) ≡ length xs = length-map (dues xs d a) f ∙ length-dues xs d a in
      record {
        few = omega (arith, as_many, kept.few);
        differ = λ i j less h same.
            let at_i : at i (map f (dues xs d a)) ≡ f (due_at i xs d a) = at_after f xs d a i (omega (arith, as_many)) in
            let at_j : at j (map f (dues xs d a)) ≡ f (due_at j xs d a) = at_after f xs d a j (omega (arith, as_many)) in
            kept.differ i j less (omega (arith, as_many)) (sym (ap (λ x. x.asset) at_i) ∙ same ∙ ap (λ x. x.asset) at_j);
        names = each_after RangedName kept.names;
        terms = each_after (λ x. RangedTerms x.terms) kept.terms;
        ledgers = each_after (λ x. RangedLedger (closes + 1) x.ledger) general_after;
        claims = λ class. omega (arith, kept.claims class, sum_after (claim class) f (falls_claim class) xs d a);
        charges = λ class. omega (arith, kept.charges class, sum_after (charge class) f (falls_charge class) xs d a, of_none class);
      }
    where
      falls_claim : (class : Class) (x : Account) (share : ByClass) → claim class (account_after pays in_year (due x share)) ≤ claim class x
      falls_claim Delivery x share = omega arith
      falls_claim Availability x share = omega arith

      falls_charge : (class : Class) (x : Account) (share : ByClass) → charge class (account_after pays in_year (due x share)) ≤ charge class x
      falls_charge Delivery x share = omega arith
      falls_charge Availability x share = omega arith

      of_none : (class : Class) → of class none ≡ 0
      of_none Delivery = refl
      of_none Availability = refl

-- no share is above its claim, at every place
pub shares_within : (rule : ℕ → List ℕ → List ℕ) → ((p : ℕ) (cs : List ℕ) (i : ℕ) → get_or (rule p cs) i 0 ≤ get_or cs i 0)
    → (p : ℕ) (class : Class) (xs : List Account) (i : ℕ) → get_or (rule p (claims class xs)) i 0 ≤ claim class (at i xs)
shares_within rule within p class xs i =
    ⊎_elim (λ h. omega (arith, within p (claims class xs) i, get_or-map (claim class) xs i (opened 0 0) 0 h))
    (λ h. omega (arith, within p (claims class xs) i, get_or_past (claims class xs) i 0 (omega (arith, length-map xs (claim class)))))
    (cases_lt i (length xs))

-- a whole close of a state, over every rule and pile
module _ (places : ℕ) (s : State) (kept : Kept places s.closes s.pools s.accounts) (rule : ℕ → List ℕ → List ℕ)
    (within : (p : ℕ) (cs : List ℕ) (i : ℕ) → get_or (rule p cs) i 0 ≤ get_or cs i 0) (pays : Stand → ℤ → ℤ) (limits : List Limit)
    (owes : (s : Stand) (t : ℤ) → InRange s → Owed limits s t (pays s t)) where
  pub all_closable : s.closes ≤ closes_most → (xs : List Account) (d a : List ℕ) → xs ≡ s.accounts → d ≡ shares rule s Delivery → a ≡ shares rule s Availability
      → (i : ℕ) → i < length xs → Closable (at i xs) (by_class (get_or d i 0) (get_or a i 0))
  all_closable in_time xs d a same-xs same-d same-a =
      subst (λ ys. (i : ℕ) → i < length ys → Closable (at i ys) (by_class (get_or d i 0) (get_or a i 0))) (sym same-xs)
      (subst (λ e. (i : ℕ) → i < length s.accounts → Closable (at i s.accounts) (by_class (get_or e i 0) (get_or a i 0))) (sym same-d)
      (subst (λ e. (i : ℕ) → i < length s.accounts → Closable (at i s.accounts) (by_class (get_or (shares rule s Delivery) i 0) (get_or e i 0))) (sym same-a)
      (closable places s.closes s.pools s.accounts kept pays limits owes (year s) (shares rule s Delivery) (shares rule s Availability)
      (shares_within rule within (pooled s Delivery) Delivery s.accounts) (shares_within rule within (pooled s Availability) Availability s.accounts) in_time)))

  pub kept_after : Kept places (s.closes + 1) none (closed_state rule pays s).accounts
  kept_after =
      kept_closed places s.closes s.pools s.accounts kept pays limits owes (year s) (shares rule s Delivery) (shares rule s Availability)
      (shares_within rule within (pooled s Delivery) Delivery s.accounts) (shares_within rule within (pooled s Availability) Availability s.accounts)

-- the same work on the same lists
pub same_work : {X : Type 0} {y : ℕ} {xs : List Account} {d a : List ℕ} (f : ℕ → Due → X) (s : State) (rule : ℕ → List ℕ → List ℕ) → y ≡ year s → xs ≡ s.accounts
    → d ≡ shares rule s Delivery → a ≡ shares rule s Availability → map (f y) (dues xs d a) ≡ map (f (year s)) (all_dues rule s)
same_work {y = y} {xs = xs} {d = d} {a = a} f s rule same-y same-xs same-d same-a =
    ap (λ z. map (f z) (dues xs d a)) same-y ∙ ap (λ ys. map (f (year s)) (dues ys d a)) same-xs
    ∙ ap (λ e. map (f (year s)) (dues s.accounts e a)) same-d ∙ ap (λ e. map (f (year s)) (dues s.accounts (shares rule s Delivery) e)) same-a

-- The law over histories, step by step. Assumes nothing.
use Rattle.std.proofs.Common.{◌≡◌, ℕ, ◌+◌, ◌-◌, ◌<◌, ◌≤◌, min, Bool, true, false, cond, ◌&&◌, ◌||◌, eqb, List, [], ◌∷◌, ◌++◌, map, length, get_or, ℤ, pos, ◌+ℤ◌, nat_abs, ◌≤ℤ◌, None, sum_by, sum, sym, refl, ap, ◌∙◌, subst, arith}
use Rattle.std.proofs.lemmas.List.{ext_get_or, get_or-map, length-map}
use Rattle.std.proofs.lemmas.Int.{ints}
use Rattle.std.proofs.lemmas.List.Sums.{sum-map, sum_by_push}
use Rattle.std.proofs.lemmas.Bool.{not-false, or_parts, true≢false}
use Rattle.payment.specs.Rule.{AllKept, Between, Limit, Owed}
use Rattle.payment.specs.Stand.{InRange, Stand}
use Rattle.book.specs.Account.{award_in_force, balance, opened, standing}
use Rattle.book.specs.Accounts.{account, at, charge, charged, claim, claimed, listed}
use Rattle.book.specs.Calls.{Event, Kind, Step, after_entry, closing, entered, entry, grounds, marked, on_ledger, on_terms, opening, over, paid, payin, ready, readying, refused, renewal, resolution, term, under, uplift, verdict}
use Rattle.book.specs.Class.{none, of}
use Rattle.book.specs.Close.{claims, closed_ledger, closed_state, due, pooled, residues as residues_at, row, rows, shares as shares_at, taken, taken_of, total_of}
use Rattle.book.specs.Entries.{credited, renewed}
use Rattle.book.specs.History.{History, all_shares, all_unders, among, assets, is_over, is_resolution, is_uplift, its_row, ledger_of, ledger_with, overs, payments, pools_of, residues, shares, term_award, terms_of, year_of}
use Rattle.book.specs.Law.{Accounted, Answered, EveryClose, Run, Unwasted, Whole, Worked, begun, then}
use Rattle.book.specs.Limits.{asset_most, entry_most, off, off_sum}
use Rattle.book.specs.State.{State, empty, state, year}
use Rattle.book.specs.declared.account.Account.{Account}
use Rattle.book.specs.declared.class.ByClass.{ByClass}
use Rattle.book.specs.declared.class.Class.{Class}
use Rattle.book.specs.declared.class.Class.TheVariants.{Availability, Delivery}
use Rattle.book.specs.declared.row.Row.{Row}
use Rattle.book.proofs.AfterClose.{shares_within, standing_within}
use Rattle.book.proofs.Audits.{Even, award_link, even_closing, even_entry, even_renewal, not_below}
use Rattle.book.proofs.Charges.{all_met, charged_closed, list_of, rows_order, same_if_summed, share_of, shares_listed, taken_listed}
use Rattle.book.proofs.Linked.{Linked, entry_listed, linked_begun, linked_step, none_hold, same_year}
use Rattle.book.proofs.Places.{found}
use Rattle.book.proofs.Lookups.{row_closed, row_for, row_within, sum_change}

-- claims are what overs left of shares
abbrev Met : Class → ℕ → History → Type 0
Met class a h = pos (of class (ledger_of a h).claims + shares class a h) ≡ overs class a h

-- an entry that is taken has a sum above zero, but for uplift's and resolution's kind of sign
entry_positive : (serves : ℕ) (s : State) (kind : Kind) (b : ℕ) (cents : ℤ) → verdict serves s (entry kind b cents) ≡ None
    → (is_uplift kind ≡ false) → (is_resolution kind ≡ false) → cents ≡ pos (nat_abs cents)
entry_positive serves s (over class) b cents e p q = not_below entry_most cents (or_parts (off asset_most b) (off_sum entry_most cents) (none_hold (grounds serves s (entry (over class) b cents)) e 0)).1
entry_positive serves s (under class) b cents e p q = not_below entry_most cents (or_parts (off asset_most b) (off_sum entry_most cents) (none_hold (grounds serves s (entry (under class) b cents)) e 0)).1
entry_positive serves s uplift b cents e p q = not_below entry_most cents (or_parts (off asset_most b) (off_sum entry_most cents) (none_hold (grounds serves s (entry uplift b cents)) e 0)).1
entry_positive serves s resolution b cents e p q = absurd (true≢false q)
entry_positive serves s payin b cents e p q = not_below entry_most cents (or_parts (off asset_most b) (off_sum entry_most cents) (none_hold (grounds serves s (entry payin b cents)) e 0)).1

met_entry : (class : Class) (a : ℕ) (h : History) (kind : Kind) (b : ℕ) (cents : ℤ) → ((is_uplift kind ≡ false) → (is_resolution kind ≡ false) → cents ≡ pos (nat_abs cents))
    → Met class a h → Met class a (entered kind b cents ∷ h)
met_entry class a h kind b cents e met =
    elim (eqb b a) as (λ t. pos (of class (cond t (ledger_with kind cents (ledger_of a h)) (ledger_of a h)).claims + shares class a h) ≡ cond (t && is_over class kind) (overs class a h +ℤ cents) (overs class a h))
    [ true ↦ its class kind e met | false ↦ met ]
  where
    its : (class : Class) (kind : Kind) → ((is_uplift kind ≡ false) → (is_resolution kind ≡ false) → cents ≡ pos (nat_abs cents)) → Met class a h
        → pos (of class (ledger_with kind cents (ledger_of a h)).claims + shares class a h) ≡ cond (is_over class kind) (overs class a h +ℤ cents) (overs class a h)
    its Delivery (over Delivery) e met = omega (arith, ints, met, e refl refl)
    its Delivery (over Availability) e met = met
    its Availability (over Delivery) e met = met
    its Availability (over Availability) e met = omega (arith, ints, met, e refl refl)
    its class (under Delivery) e met = met
    its class (under Availability) e met = met
    its class uplift e met = met
    its class resolution e met = met
    its class payin e met = met

met_renewal : (class : Class) (a : ℕ) (h : History) (b : ℕ) (award : ℤ) (commitment : ℕ) (is_ready : Bool) (sum : ℕ) → Met class a h → Met class a (renewal b award commitment is_ready sum ∷ h)
met_renewal class a h b award commitment is_ready sum met =
    elim (eqb b a) as (λ t. pos (of class (cond t (credited sum (ledger_of a h)) (ledger_of a h)).claims + shares class a h) ≡ overs class a h) [ true ↦ met | false ↦ met ]

met_closing : (class : Class) (a : ℕ) (h : History) (places : ℕ) (rows : List Row) (left : ByClass) → of class (its_row a rows).share ≤ of class (ledger_of a h).claims
    → Met class a h → Met class a (closing places rows left ∷ h)
met_closing Delivery a h places rows left within met = omega (arith, ints, met, within)
met_closing Availability a h places rows left within met = omega (arith, ints, met, within)

-- charges of a class, where a sum is paid in
accounted_paid : (class : Class) (h : History) (s : State) (b sum : ℕ) (f : Account → Account) → ((x : Account) → charge class (f x) ≡ charge class x) → listed b s.accounts ≡ true
    → Accounted class h s → all_unders class h ≡ all_shares class h + residues class h + of class (paid b sum f s).pools + charged class (paid b sum f s).accounts
accounted_paid Delivery h s b sum f keeps l acc =
    omega (arith, acc, sum_change (charge Delivery) b (λ x. f (on_ledger (credited sum) x)) s.accounts l, keeps (on_ledger (credited sum) (account b s.accounts)))
accounted_paid Availability h s b sum f keeps l acc =
    omega (arith, acc, sum_change (charge Availability) b (λ x. f (on_ledger (credited sum) x)) s.accounts l, keeps (on_ledger (credited sum) (account b s.accounts)))

-- and over an entry
accounted_entry : (class : Class) (h : History) (s : State) (kind : Kind) (b : ℕ) (cents : ℤ) → listed b s.accounts ≡ true
    → Accounted class h s → Accounted class (entered kind b cents ∷ h) (after_entry kind b cents s)
accounted_entry class h s (over k) b cents l acc = omega (arith, acc, sum_change (charge class) b (on_ledger (ledger_with (over k) cents)) s.accounts l)
accounted_entry Delivery h s (under Delivery) b cents l acc = omega (arith, acc, sum_change (charge Delivery) b (on_ledger (ledger_with (under Delivery) cents)) s.accounts l)
accounted_entry Delivery h s (under Availability) b cents l acc = omega (arith, acc, sum_change (charge Delivery) b (on_ledger (ledger_with (under Availability) cents)) s.accounts l)
accounted_entry Availability h s (under Delivery) b cents l acc = omega (arith, acc, sum_change (charge Availability) b (on_ledger (ledger_with (under Delivery) cents)) s.accounts l)
accounted_entry Availability h s (under Availability) b cents l acc = omega (arith, acc, sum_change (charge Availability) b (on_ledger (ledger_with (under Availability) cents)) s.accounts l)
accounted_entry class h s uplift b cents l acc = omega (arith, acc, sum_change (charge class) b (on_ledger (ledger_with uplift cents)) s.accounts l)
accounted_entry class h s resolution b cents l acc = omega (arith, acc, sum_change (charge class) b (on_ledger (ledger_with resolution cents)) s.accounts l)
accounted_entry class h s payin b cents l acc = accounted_paid class h s b (nat_abs cents) (λ x. x) (λ x. refl) l acc

-- every rule and every pile that keep their laws
module _ (serves : ℕ) (rule : ℕ → List ℕ → List ℕ) (each : (p : ℕ) (cs : List ℕ) → length (rule p cs) ≡ length cs)
    (within : (p : ℕ) (cs : List ℕ) (i : ℕ) → get_or (rule p cs) i 0 ≤ get_or cs i 0) (whole : (p : ℕ) (cs : List ℕ) → sum (rule p cs) ≡ min p (sum cs))
    (pays : Stand → ℤ → ℤ) (limits : List Limit) (owes : (s : Stand) (t : ℤ) → InRange s → Owed limits s t (pays s t)) where
  -- one close of a state
  module _ (s : State) where
    listed_shares : (class : Class) → map (share_of class) (rows rule pays s) ≡ shares_at rule s class
    listed_shares class =
        shares_listed pays (year s) class s.accounts (shares_at rule s Delivery) (shares_at rule s Availability) (as_many Delivery) (as_many Availability) ∙ of_list class
      where
        as_many : (k : Class) → length (shares_at rule s k) ≡ length s.accounts
        as_many k = each (pooled s k) (claims k s.accounts) ∙ length-map s.accounts (claim k)

        of_list : (k : Class) → list_of k (shares_at rule s Delivery) (shares_at rule s Availability) ≡ shares_at rule s k
        of_list Delivery = refl
        of_list Availability = refl

    summed : (class : Class) → sum_by (share_of class) (rows rule pays s) ≡ min (pooled s class) (claimed class s.accounts)
    summed class =
        sym (sum-map (share_of class) (rows rule pays s)) ∙ ap sum (listed_shares class) ∙ whole (pooled s class) (claims class s.accounts)
        ∙ ap (min (pooled s class)) (sum-map (claim class) s.accounts)

    left_of : (class : Class) → of class (residues_at rule s) ≡ pooled s class - min (pooled s class) (claimed class s.accounts)
    left_of Delivery = ap (λ n. pooled s Delivery - n) (whole (pooled s Delivery) (claims Delivery s.accounts) ∙ ap (min (pooled s Delivery)) (sum-map (claim Delivery) s.accounts))
    left_of Availability = ap (λ n. pooled s Availability - n) (whole (pooled s Availability) (claims Availability s.accounts) ∙ ap (min (pooled s Availability)) (sum-map (claim Availability) s.accounts))

    -- nothing of a pool is lost
    all_pooled : (class : Class) (written : List Row) (left : ByClass) → written ≡ rows rule pays s → left ≡ residues_at rule s
        → sum_by (share_of class) written + of class left ≡ pooled s class
    all_pooled class written left rows_are left_is = omega (arith, ap (sum_by (share_of class)) rows_are, summed class, ap (of class) left_is, left_of class)

    accounted_closing : (class : Class) (h : History) (places : ℕ) (written : List Row) (left : ByClass) → written ≡ rows rule pays s → left ≡ residues_at rule s
        → Accounted class h s → Accounted class (closing places written left ∷ h) (closed_state rule pays s)
    accounted_closing class h places written left rows_are left_is acc =
        omega (
          arith,
          acc,
          ap (sum_by (share_of class)) rows_are,
          summed class,
          ap (of class) left_is,
          left_of class,
          of_none class,
          charged_closed pays (year s) class s.accounts (shares_at rule s Delivery) (shares_at rule s Availability),
        )
      where
        of_none : (class : Class) → of class none ≡ 0
        of_none Delivery = refl
        of_none Availability = refl

    -- residue is left only where every claim of the class is met
    all_shared : (class : Class) → 0 < of class (residues_at rule s) → map (share_of class) (rows rule pays s) ≡ claims class s.accounts
    all_shared class some =
        listed_shares class
        ∙ same_if_summed (shares_at rule s class) (claims class s.accounts) (each (pooled s class) (claims class s.accounts)) (within (pooled s class) (claims class s.accounts))
        (omega (arith, whole (pooled s class) (claims class s.accounts), sum-map (claim class) s.accounts, left_of class, some))

    unwasted_closing : (h : History) (written : List Row) (left : ByClass) → Linked h s → ((class : Class) (a : ℕ) → Met class a h)
        → written ≡ rows rule pays s → left ≡ residues_at rule s → Unwasted written left h
    unwasted_closing h written left link met rows_are left_is class some a =
        let full = all_shared class (omega (arith, some, ap (of class) left_is)) in
        let reached = all_met pays (year s) class a s.accounts (shares_at rule s Delivery) (shares_at rule s Availability) full in
        let claims_are = ap (λ l. of class l.claims) (link.ledger a) in
        let share_is = ap (λ rs. share_of class (its_row a rs)) rows_are in
        at_most class (omega (arith, reached, claims_are, share_is)) (met class a)
      where
        at_most : (class : Class) → of class (ledger_of a h).claims ≤ of class (its_row a written).share → Met class a h
            → overs class a h ≤ℤ pos (shares class a h + of class (its_row a written).share)
        at_most class short met = subst (λ z. z ≤ℤ pos (shares class a h + of class (its_row a written).share)) met (omega (arith, ints, short))

    -- what an asset's own account is, in a list where no two have one asset
    own_claims : (class : Class) (h : History) → Linked h s → map (λ a. of class (ledger_of a h).claims) (assets h) ≡ claims class s.accounts
    own_claims class h link =
        ap (map (λ a. of class (ledger_of a h).claims)) (sym link.order)
        ∙ ext_get_or 0 (map (λ a. of class (ledger_of a h).claims) (map (λ x. x.asset) s.accounts)) (claims class s.accounts)
        (length-map (map (λ x. x.asset) s.accounts) (λ a. of class (ledger_of a h).claims) ∙ length-map s.accounts (λ x. x.asset) ∙ sym (length-map s.accounts (claim class)))
        (λ i l. place i (omega (arith, l, length-map (map (λ x. x.asset) s.accounts) (λ a. of class (ledger_of a h).claims), length-map s.accounts (λ x. x.asset))))
      where
        place : (i : ℕ) → i < length s.accounts
            → get_or (map (λ a. of class (ledger_of a h).claims) (map (λ x. x.asset) s.accounts)) i 0 ≡ get_or (claims class s.accounts) i 0
        place i l =
            let x = at i s.accounts in
            let own : account x.asset s.accounts ≡ x = (found x.asset s.accounts i l (λ k less e. link.differ k i less l e) refl).here in
            get_or-map (λ a. of class (ledger_of a h).claims) (map (λ x. x.asset) s.accounts) i 0 0 (omega (arith, l, length-map s.accounts (λ x. x.asset)))
            ∙ ap (λ n. of class (ledger_of n h).claims) (get_or-map (λ x. x.asset) s.accounts i (opened 0 0) 0 l)
            ∙ ap (λ g. of class g.claims) (sym (link.ledger x.asset)) ∙ ap (claim class) own
            ∙ sym (get_or-map (claim class) s.accounts i (opened 0 0) 0 l)

    among_listed : (a : ℕ) (xs : List Account) → among a (map (λ x. x.asset) xs) ≡ listed a xs
    among_listed a [] = refl
    among_listed a (x ∷ xs) = ap (λ t. eqb x.asset a || t) (among_listed a xs)

    -- the row that the history tells, of its share
    told : ℕ → History → ByClass → Row
    told a h share = row_for pays (account a s.accounts).asset (standing (year_of h) (terms_of a h)) (term_award a (year_of h) h) share (ledger_of a h)

    row_told : (h : History) (written : List Row) → Linked h s → written ≡ rows rule pays s → (a : ℕ) → among a (assets h) ≡ true
        → its_row a written ≡ told a h (its_row a written).share
    unfolding told
    row_told h written link rows_are a is_among =
        let x = account a s.accounts in
        let share = (its_row a written).share in
        let is_listed : listed a s.accounts ≡ true = sym (among_listed a s.accounts) ∙ ap (among a) link.order ∙ is_among in
        ap (its_row a) rows_are ∙ row_closed pays (year s) a s.accounts (shares_at rule s Delivery) (shares_at rule s Availability) is_listed
        ∙ ap (λ rs. row pays (year s) (due x (its_row a rs).share)) (sym rows_are)
        ∙ ap (λ y. row pays y (due x share)) (same_year h s link)
        ∙ ap (λ t. row_for pays x.asset (standing (year_of h) t) (award_in_force (year_of h) t) share x.ledger) (link.terms a)
        ∙ ap (λ l. row_for pays x.asset (standing (year_of h) (terms_of a h)) (award_in_force (year_of h) (terms_of a h)) share l) (link.ledger a)
        ∙ ap (λ w. row_for pays x.asset (standing (year_of h) (terms_of a h)) w share (ledger_of a h)) (award_link a h (year_of h) (omega arith))

    -- the total that the history tells
    told_total : ℕ → History → List Row → ℤ
    told_total a h written = total_of (term_award a (year_of h) h) (its_row a written).taken (its_row a written).share (ledger_of a h)

    module _ (h : History) (written : List Row) (link : Linked h s) (rows_are : written ≡ rows rule pays s) (a : ℕ) (is_among : among a (assets h) ≡ true) where
      taken_told : (its_row a written).taken ≡ taken (term_award a (year_of h) h) (ledger_of a h)
      unfolding told
      taken_told = ap (λ r. r.taken) (row_told h written link rows_are a is_among)

      paid_told : (its_row a written).payment ≡ pays (standing (year_of h) (terms_of a h)) (told_total a h written)
      unfolding told told_total
      paid_told =
          ap (λ r. r.payment) (row_told h written link rows_are a is_among)
          ∙ ap (λ took. pays (standing (year_of h) (terms_of a h)) (total_of (term_award a (year_of h) h) took (its_row a written).share (ledger_of a h))) (sym taken_told)

      carried_told : (its_row a written).balance
          ≡ balance (closed_ledger (term_award a (year_of h) h) (its_row a written).taken (its_row a written).share (its_row a written).payment (ledger_of a h))
      unfolding told
      carried_told =
          let row_is = row_told h written link rows_are a is_among in
          ap (λ r. r.balance) row_is
          ∙ ap (λ took. balance (closed_ledger (term_award a (year_of h) h) took (its_row a written).share (told a h (its_row a written).share).payment (ledger_of a h))) (sym taken_told)
          ∙ ap (λ p. balance (closed_ledger (term_award a (year_of h) h) (its_row a written).taken (its_row a written).share p (ledger_of a h))) (sym (ap (λ r. r.payment) row_is))

    -- shares and residue are the open pool with all that is taken
    pooled_told : (class : Class) (h : History) (written : List Row) (left : ByClass) → Linked h s → written ≡ rows rule pays s → left ≡ residues_at rule s
        → sum_by (share_of class) written + of class left ≡ of class (pools_of h) + sum_by (λ r. of class r.taken) written
    pooled_told class h written left link rows_are left_is =
        all_pooled class written left rows_are left_is
        ∙ ap (λ p. of class p + sum_by (taken_of (year s) class) s.accounts) link.pools
        ∙ ap (λ n. of class (pools_of h) + n)
        (sym (ap (sum_by (λ r. of class r.taken)) rows_are ∙ taken_listed pays (year s) class s.accounts (shares_at rule s Delivery) (shares_at rule s Availability)))

    answered_closing : (h : History) (written : List Row) (left : ByClass) → Linked h s → written ≡ rows rule pays s → left ≡ residues_at rule s → Answered rule pays limits written left h
    unfolding told told_total
    answered_closing h written left link rows_are left_is =
        let owed = λ (a : ℕ). owes (standing (year_of h) (terms_of a h)) (told_total a h written) (standing_within (year_of h) (terms_of a h) (link.ranged a)) in
        record {
          in_order = ap (map (λ r. r.asset)) rows_are ∙ rows_order pays (year s) s.accounts (shares_at rule s Delivery) (shares_at rule s Availability) ∙ link.order;
          shared = λ class.
              ap (map (share_of class)) rows_are ∙ listed_shares class
              ∙ ap (λ p. rule p (claims class s.accounts))
              (sym (all_pooled class written left rows_are left_is))
              ∙ ap (rule (sum_by (share_of class) written + of class left)) (sym (own_claims class h link));
          paid = paid_told h written link rows_are;
          between = λ a is_among. subst (Between (told_total a h written)) (sym (paid_told h written link rows_are a is_among)) (owed a).between;
          kept = λ a is_among. subst (AllKept limits (standing (year_of h) (terms_of a h))) (sym (paid_told h written link rows_are a is_among)) (owed a).kept;
        }

    worked_closing : (h : History) (written : List Row) (left : ByClass) → Linked h s → written ≡ rows rule pays s → left ≡ residues_at rule s → Worked written left h
    unfolding told
    worked_closing h written left link rows_are left_is = record {
      award = λ a is_among. ap (λ r. r.award) (row_told h written link rows_are a is_among);
      taken = taken_told h written link rows_are;
      pooled = λ class. pooled_told class h written left link rows_are left_is;
      carried = carried_told h written link rows_are;
    }

  -- what holds after every run
  record Held (h : History) (s : State) : Type 0 where
    link : Linked h s
    even : (a : ℕ) → Even a h
    met : (class : Class) (a : ℕ) → Met class a h
    accounted : (class : Class) → Accounted class h s
    unwasted : EveryClose Unwasted h
    answered : EveryClose (Answered rule pays limits) h
    worked : EveryClose Worked h

  -- rows take no more than is owed and share no more than is claimed
  within_row : (h : History) (s : State) (written : List Row) → Linked h s → written ≡ rows rule pays s → (class : Class) (a : ℕ)
      → (of class (its_row a written).taken ≤ of class (ledger_of a h).charges) × (of class (its_row a written).share ≤ of class (ledger_of a h).claims)
  within_row h s written link rows_are class a =
      let both = row_within pays (year s) a class s.accounts (shares_at rule s Delivery) (shares_at rule s Availability)
      (shares_within rule within (pooled s Delivery) Delivery s.accounts) (shares_within rule within (pooled s Availability) Availability s.accounts) in (
        omega (arith, both.0, ap (λ rs. of class (its_row a rs).taken) rows_are, ap (λ l. of class l.charges) (link.ledger a)),
        omega (arith, both.1, ap (λ rs. of class (its_row a rs).share) rows_are, ap (λ l. of class l.claims) (link.ledger a)),
      )

  accounted_opening : (class : Class) (h : History) (s : State) (b holder : ℕ) → Accounted class h s
      → Accounted class (opening b holder ∷ h) (state (s.accounts ++ opened b holder ∷ []) s.pools s.closes)
  accounted_opening Delivery h s b holder acc = omega (arith, acc, sum_by_push (charge Delivery) s.accounts (opened b holder))
  accounted_opening Availability h s b holder acc = omega (arith, acc, sum_by_push (charge Availability) s.accounts (opened b holder))

  accounted_step : (class : Class) (h : History) (s : State) (e : Event) (s' : State) → Accounted class h s → Step serves rule pays s e s' → Accounted class (e ∷ h) s'
  accounted_step class h s (opening b holder) s' acc (taken, after) = subst (Accounted class (opening b holder ∷ h)) (sym after) (accounted_opening class h s b holder acc)
  accounted_step class h s (renewal b award commitment is_ready sum) s' acc (taken, invoiced, after) =
      subst (Accounted class (renewal b award commitment is_ready sum ∷ h)) (sym after)
      (accounted_paid class h s b sum (on_terms (renewed (year s) award commitment is_ready)) (λ x. refl)
      (not-false (listed b s.accounts) (none_hold (grounds serves s (term b award commitment is_ready)) taken 1)) acc)
  accounted_step class h s (entered kind b cents) s' acc (taken, after) =
      subst (Accounted class (entered kind b cents ∷ h)) (sym after) (accounted_entry class h s kind b cents (entry_listed serves s kind b cents taken) acc)
  accounted_step class h s (readying b) s' acc (taken, after) =
      subst (Accounted class (readying b ∷ h)) (sym after)
      (omega (arith, acc, sum_change (charge class) b (on_terms marked) s.accounts (not-false (listed b s.accounts) (none_hold (grounds serves s (ready b)) taken 1))))
  accounted_step class h s (closing places written left) s' acc (taken, rows_are, left_is, after) =
      subst (Accounted class (closing places written left ∷ h)) (sym after) (accounted_closing s class h places written left rows_are left_is acc)
  accounted_step class h s (refused call n) s' acc (taken, after) = subst (Accounted class (refused call n ∷ h)) (sym after) acc

  held_step : (h : History) (s : State) (e : Event) (s' : State) → Held h s → Step serves rule pays s e s' → Held (e ∷ h) s'
  held_step h s (opening b holder) s' held step = record {
    link = linked_step serves rule pays h s (opening b holder) s' held.link step;
    even = held.even;
    met = held.met;
    accounted = λ class. accounted_step class h s (opening b holder) s' (held.accounted class) step;
    unwasted = held.unwasted;
    answered = held.answered;
    worked = held.worked;
  }
  held_step h s (renewal b award commitment is_ready sum) s' held step = record {
    link = linked_step serves rule pays h s (renewal b award commitment is_ready sum) s' held.link step;
    even = λ a. even_renewal a h (held.even a) b award commitment is_ready sum;
    met = λ class a. met_renewal class a h b award commitment is_ready sum (held.met class a);
    accounted = λ class. accounted_step class h s (renewal b award commitment is_ready sum) s' (held.accounted class) step;
    unwasted = held.unwasted;
    answered = held.answered;
    worked = held.worked;
  }
  held_step h s (entered kind b cents) s' held step = record {
    link = linked_step serves rule pays h s (entered kind b cents) s' held.link step;
    even = λ a. even_entry a h (held.even a) kind b cents (entry_positive serves s kind b cents step.0);
    met = λ class a. met_entry class a h kind b cents (entry_positive serves s kind b cents step.0) (held.met class a);
    accounted = λ class. accounted_step class h s (entered kind b cents) s' (held.accounted class) step;
    unwasted = held.unwasted;
    answered = held.answered;
    worked = held.worked;
  }
  held_step h s (readying b) s' held step = record {
    link = linked_step serves rule pays h s (readying b) s' held.link step;
    even = held.even;
    met = held.met;
    accounted = λ class. accounted_step class h s (readying b) s' (held.accounted class) step;
    unwasted = held.unwasted;
    answered = held.answered;
    worked = held.worked;
  }
  held_step h s (closing places written left) s' held step = record {
    link = linked_step serves rule pays h s (closing places written left) s' held.link step;
    even = λ a. even_closing a h (held.even a) places written left (λ class. (within_row h s written held.link step.1 class a).0) (λ class. (within_row h s written held.link step.1 class a).1);
    met = λ class a. met_closing class a h places written left (within_row h s written held.link step.1 class a).1 (held.met class a);
    accounted = λ class. accounted_step class h s (closing places written left) s' (held.accounted class) step;
    unwasted = (unwasted_closing s h written left held.link held.met step.1 step.2, held.unwasted);
    answered = (answered_closing s h written left held.link step.1 step.2, held.answered);
    worked = (worked_closing s h written left held.link step.1 step.2, held.worked);
  }
  held_step h s (refused call n) s' held step = record {
    link = linked_step serves rule pays h s (refused call n) s' held.link step;
    even = held.even;
    met = held.met;
    accounted = λ class. accounted_step class h s (refused call n) s' (held.accounted class) step;
    unwasted = held.unwasted;
    answered = held.answered;
    worked = held.worked;
  }

  held_run : {h : History} {s : State} → Run serves rule pays h s → Held h s
  held_run begun = record { link = linked_begun; even = λ a. refl; met = even_none; accounted = none_charged; unwasted = tt; answered = tt; worked = tt }
    where
      even_none : (class : Class) (a : ℕ) → Met class a []
      even_none Delivery a = refl
      even_none Availability a = refl

      none_charged : (class : Class) → Accounted class [] empty
      none_charged Delivery = refl
      none_charged Availability = refl
  held_run (then {h} {s} {s'} {e} run step) = held_step h s e s' (held_run run) step

  -- the law
  pub every_run : (h : History) (s : State) → Run serves rule pays h s → Whole rule pays limits h s
  every_run h s run =
      let held = held_run run in
      record {
        balanced = λ a is_listed. held.even a ∙ ap (λ l. payments a h +ℤ balance l) (sym (held.link.ledger a));
        accounted = held.accounted;
        unwasted = held.unwasted;
        answered = held.answered;
      }

  -- and the other figures of its rows
  pub every_row : (h : History) (s : State) → Run serves rule pays h s → EveryClose Worked h
  every_row h s run = (held_run run).worked

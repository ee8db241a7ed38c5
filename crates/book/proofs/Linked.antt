-- What a history tells of the state that it led to. Assumes nothing.
use Rattle.std.proofs.Common.{◌≡◌, ℕ, zero, suc, ◌+◌, ◌/◌, ◌≤◌, Bool, true, false, cond, ◌||◌, eqb, ltb, List, [], ◌∷◌, ◌++◌, map, length, get_or, ℤ, nat_abs, Some, None, sym, refl, ap, ◌∙◌, subst, arith}
use Rattle.std.proofs.lemmas.List.{get_or-map, length-map, map_push}
use Rattle.std.proofs.lemmas.Int.{ints}
use Rattle.std.proofs.lemmas.Bool.{ltb-false, not-false, or_parts}
use Rattle.payment.specs.Stand.{Stand, award_most, commitment_most}
use Rattle.book.specs.Account.{RangedTerms, award_in_force, opened}
use Rattle.book.specs.Accounts.{Differ, account, at, change, listed}
use Rattle.book.specs.Calls.{Event, Kind, Step, after_entry, closing, entered, entry, grounds, list, marked, on_ledger, on_terms, opening, over, paid, payin, ready, readying, refused, renewal, resolution, term, under, uplift, verdict}
use Rattle.book.specs.Class.{plus}
use Rattle.book.specs.Close.{account_after, closed_ledger, closed_terms, dues, shares}
use Rattle.book.specs.Entries.{credited, renewed, settled}
use Rattle.book.specs.History.{History, assets, closes, its_row, ledger_of, ledger_with, pools_of, terms_of, year_of}
use Rattle.book.specs.Limits.{asset_most, off, off_way}
use Rattle.book.specs.Refusal.{first}
use Rattle.book.specs.State.{State, empty, state, year}
use Rattle.book.specs.declared.account.Account.{Account}
use Rattle.book.specs.declared.account.Ledger.{Ledger}
use Rattle.book.specs.declared.account.Terms.{Terms}
use Rattle.book.specs.declared.class.ByClass.{ByClass}
use Rattle.book.specs.declared.class.Class.TheVariants.{Availability, Delivery}
use Rattle.book.proofs.Lookups.{account_change, by_row, cond_same, ledger_closed, terms_closed}
use Rattle.book.proofs.Sound.{differ_push}
use Rattle.book.proofs.Ways.{not_off, renewed_ranged}

-- where a call is not refused, none of its grounds holds
pub none_hold : (gs : List (Bool × ℕ)) → first gs ≡ None → (i : ℕ) → (get_or gs i (false, 0)).0 ≡ false
none_hold [] e i = refl
none_hold ((true, n) ∷ gs) e i = absurd (some_none e)
  where
    some_none : Some n ≡ None → ⊥
    some_none e = grind arith
none_hold ((false, n) ∷ gs) e zero = refl
none_hold ((false, n) ∷ gs) e (suc i) = none_hold gs e i

-- assets in their places
differ_like : (xs ys : List Account) → map (λ x. x.asset) ys ≡ map (λ x. x.asset) xs → Differ xs → Differ ys
differ_like xs ys same differ i j less h e =
    let as_many : length ys ≡ length xs = sym (length-map ys (λ x. x.asset)) ∙ ap length same ∙ length-map xs (λ x. x.asset) in
    differ i j less (omega (arith, as_many)) (sym (place i (omega arith)) ∙ e ∙ place j (omega arith))
  where
    place : (k : ℕ) → k ≤ j → (at k ys).asset ≡ (at k xs).asset
    place k l =
        let as_many : length ys ≡ length xs = sym (length-map ys (λ x. x.asset)) ∙ ap length same ∙ length-map xs (λ x. x.asset) in
        sym (get_or-map (λ x. x.asset) ys k (opened 0 0) 0 (omega arith)) ∙ ap (λ ns. get_or ns k 0) same ∙ get_or-map (λ x. x.asset) xs k (opened 0 0) 0 (omega (arith, as_many))

order_change : (b : ℕ) (f : Account → Account) → ((x : Account) → (f x).asset ≡ x.asset) → (xs : List Account)
    → map (λ x. x.asset) (change b f xs) ≡ map (λ x. x.asset) xs
order_change b f keeps [] = refl
order_change b f keeps (x ∷ xs) =
    elim (eqb x.asset b) as (λ t. map (λ x. x.asset) (cond t (f x ∷ xs) (x ∷ change b f xs)) ≡ x.asset ∷ map (λ x. x.asset) xs)
    [ true ↦ ap (λ n. n ∷ map (λ x. x.asset) xs) (keeps x) | false ↦ ap (λ ns. x.asset ∷ ns) (order_change b f keeps xs) ]

order_closed : (pays : Stand → ℤ → ℤ) (in_year : ℕ) (xs : List Account) (d e : List ℕ)
    → map (λ x. x.asset) (map (account_after pays in_year) (dues xs d e)) ≡ map (λ x. x.asset) xs
order_closed pays in_year [] d e = refl
order_closed pays in_year (x ∷ xs) d e = ap (λ ns. x.asset ∷ ns) (order_closed pays in_year xs _ _)

-- a new account is as an unlisted asset's was
part_push : {A : Type 0} (part : Account → A) (a b holder : ℕ) → part (opened b holder) ≡ part (opened a 0) → (xs : List Account)
    → part (account a (xs ++ opened b holder ∷ [])) ≡ part (account a xs)
part_push part a b holder same [] = elim (eqb b a) as (λ t. part (cond t (opened b holder) (opened a 0)) ≡ part (opened a 0)) [ true ↦ same | false ↦ refl ]
part_push part a b holder same (x ∷ xs) =
    elim (eqb x.asset a) as (λ t. part (cond t x (account a (xs ++ opened b holder ∷ []))) ≡ part (cond t x (account a xs)))
    [ true ↦ refl | false ↦ part_push part a b holder same xs ]

-- a part of a changed account
part_change : {A : Type 0} (part : Account → A) (a b : ℕ) (f : Account → Account) (g : A → A) → ((x : Account) → (f x).asset ≡ x.asset) → ((x : Account) → part (f x) ≡ g (part x)) → (xs : List Account)
    → listed b xs ≡ true → part (account a (change b f xs)) ≡ cond (eqb b a) (g (part (account a xs))) (part (account a xs))
part_change part a b f g keeps is xs is_listed =
    ap part (account_change a b f keeps xs is_listed)
    ∙ elim (eqb b a) as (λ t. part (cond t (f (account a xs)) (account a xs)) ≡ cond t (g (part (account a xs))) (part (account a xs))) [ true ↦ is (account a xs) | false ↦ refl ]

pub record Linked (h : History) (s : State) : Type 0 where
  pub time : s.closes ≡ closes h
  pub order : map (λ x. x.asset) s.accounts ≡ assets h
  pub differ : Differ s.accounts
  pub pools : s.pools ≡ pools_of h
  pub terms : (a : ℕ) → (account a s.accounts).terms ≡ terms_of a h
  pub ledger : (a : ℕ) → (account a s.accounts).ledger ≡ ledger_of a h
  pub ranged : (a : ℕ) → RangedTerms (terms_of a h)

pub linked_begun : Linked [] empty
linked_begun = record {
  time = refl;
  order = refl;
  differ = λ i j less h. absurd (omega arith);
  pools = refl;
  terms = λ a. refl;
  ledger = λ a. refl;
  ranged = λ a. ((omega (arith, ints), omega (arith, ints)), omega arith, omega (arith, ints), omega (arith, ints));
}

-- an entry that is taken names a listed asset
pub entry_listed : (serves : ℕ) (s : State) (kind : Kind) (a : ℕ) (cents : ℤ) → verdict serves s (entry kind a cents) ≡ None → listed a s.accounts ≡ true
entry_listed serves s (over class) a cents e = not-false (listed a s.accounts) (none_hold (grounds serves s (entry (over class) a cents)) e 1)
entry_listed serves s (under class) a cents e = not-false (listed a s.accounts) (none_hold (grounds serves s (entry (under class) a cents)) e 1)
entry_listed serves s uplift a cents e = not-false (listed a s.accounts) (none_hold (grounds serves s (entry uplift a cents)) e 1)
entry_listed serves s resolution a cents e = not-false (listed a s.accounts) (none_hold (grounds serves s (entry resolution a cents)) e 0)
entry_listed serves s payin a cents e = not-false (listed a s.accounts) (none_hold (grounds serves s (entry payin a cents)) e 1)

-- a step that changes one account
linked_change : (h : History) (e : Event) (s : State) (b : ℕ) (f : Account → Account) (g : Terms → Terms) (k : Ledger → Ledger) (pools : ByClass)
    → ((x : Account) → (f x).asset ≡ x.asset) → ((x : Account) → (f x).terms ≡ g x.terms) → ((x : Account) → (f x).ledger ≡ k x.ledger)
    → listed b s.accounts ≡ true → Linked h s → closes (e ∷ h) ≡ closes h → assets (e ∷ h) ≡ assets h → pools ≡ pools_of (e ∷ h)
    → ((a : ℕ) → terms_of a (e ∷ h) ≡ cond (eqb b a) (g (terms_of a h)) (terms_of a h))
    → ((a : ℕ) → ledger_of a (e ∷ h) ≡ cond (eqb b a) (k (ledger_of a h)) (ledger_of a h))
    → ((a : ℕ) → RangedTerms (terms_of a (e ∷ h)))
    → Linked (e ∷ h) (state (change b f s.accounts) pools s.closes)
linked_change h e s b f g k pools keeps is_g is_k is_listed link time order pooled terms ledger ranged = record {
  time = link.time ∙ sym time;
  order = order_change b f keeps s.accounts ∙ link.order ∙ sym order;
  differ = differ_like s.accounts (change b f s.accounts) (order_change b f keeps s.accounts) link.differ;
  pools = pooled;
  terms = λ a. part_change (λ x. x.terms) a b f g keeps is_g s.accounts is_listed ∙ ap (λ t. cond (eqb b a) (g t) t) (link.terms a) ∙ sym (terms a);
  ledger = λ a. part_change (λ x. x.ledger) a b f k keeps is_k s.accounts is_listed ∙ ap (λ l. cond (eqb b a) (k l) l) (link.ledger a) ∙ sym (ledger a);
  ranged = ranged;
}

-- what a sum paid in takes off charges joins the pools
pooled_paid : (h : History) (s : State) (b sum : ℕ) → Linked h s
    → plus s.pools (settled sum (account b s.accounts).ledger.charges) ≡ plus (pools_of h) (settled sum (ledger_of b h).charges)
pooled_paid h s b sum link =
    ap (λ p. plus p (settled sum (account b s.accounts).ledger.charges)) link.pools ∙ ap (λ l. plus (pools_of h) (settled sum l.charges)) (link.ledger b)

linked_entry : (h : History) (s : State) (kind : Kind) (b : ℕ) (cents : ℤ) → Linked h s → listed b s.accounts ≡ true
    → Linked (entered kind b cents ∷ h) (after_entry kind b cents s)
linked_entry h s (over class) b cents link l = linked_change h _ s b _ (λ t. t) (ledger_with (over class) cents) s.pools (λ x. refl) (λ x. refl) (λ x. refl) l link refl refl link.pools (λ a. sym (cond_same (eqb b a) (terms_of a h))) (λ a. refl) link.ranged
linked_entry h s (under class) b cents link l = linked_change h _ s b _ (λ t. t) (ledger_with (under class) cents) s.pools (λ x. refl) (λ x. refl) (λ x. refl) l link refl refl link.pools (λ a. sym (cond_same (eqb b a) (terms_of a h))) (λ a. refl) link.ranged
linked_entry h s uplift b cents link l = linked_change h _ s b _ (λ t. t) (ledger_with uplift cents) s.pools (λ x. refl) (λ x. refl) (λ x. refl) l link refl refl link.pools (λ a. sym (cond_same (eqb b a) (terms_of a h))) (λ a. refl) link.ranged
linked_entry h s resolution b cents link l = linked_change h _ s b _ (λ t. t) (ledger_with resolution cents) s.pools (λ x. refl) (λ x. refl) (λ x. refl) l link refl refl link.pools (λ a. sym (cond_same (eqb b a) (terms_of a h))) (λ a. refl) link.ranged
linked_entry h s payin b cents link l = linked_change h _ s b _ (λ t. t) (ledger_with payin cents) _ (λ x. refl) (λ x. refl) (λ x. refl) l link refl refl (pooled_paid h s b (nat_abs cents) link) (λ a. sym (cond_same (eqb b a) (terms_of a h))) (λ a. refl) link.ranged

cond_ranged : (t : Bool) (x y : Terms) → RangedTerms x → RangedTerms y → RangedTerms (cond t x y)
cond_ranged true x y rx ry = rx
cond_ranged false x y rx ry = ry

pub same_year : (h : History) (s : State) → Linked h s → year s ≡ year_of h
same_year h s link = ap (λ n. n / 12 + 1) link.time

pub linked_step : (serves : ℕ) (rule : ℕ → List ℕ → List ℕ) (pays : Stand → ℤ → ℤ) (h : History) (s : State) (e : Event) (s' : State)
    → Linked h s → Step serves rule pays s e s' → Linked (e ∷ h) s'
linked_step serves rule pays h s (opening b holder) s' link (taken, after) =
    subst (Linked (opening b holder ∷ h)) (sym after) (record {
      time = link.time;
      order = map_push (λ x. x.asset) s.accounts (opened b holder) ∙ ap (λ ns. ns ++ b ∷ []) link.order;
      differ = differ_push s.accounts (opened b holder) link.differ (none_hold (grounds serves s (list b holder)) taken 1);
      pools = link.pools;
      terms = λ a. part_push (λ x. x.terms) a b holder refl s.accounts ∙ link.terms a;
      ledger = λ a. part_push (λ x. x.ledger) a b holder refl s.accounts ∙ link.ledger a;
      ranged = link.ranged;
    })
linked_step serves rule pays h s (renewal b award commitment is_ready sum) s' link (taken, invoiced, after) =
    let held = none_hold (grounds serves s (term b award commitment is_ready)) taken in
    let in_range = (or_parts (off asset_most b) (off_way award_most award || ltb commitment_most commitment) (held 0)).1 in
    let parts = or_parts (off_way award_most award) (ltb commitment_most commitment) in_range in
    let g = renewed (year_of h) award commitment is_ready in
    subst (Linked (renewal b award commitment is_ready sum ∷ h)) (sym (after ∙ ap (λ y. paid b sum (on_terms (renewed y award commitment is_ready)) s) (same_year h s link)))
    (linked_change h (renewal b award commitment is_ready sum) s b (λ x. on_terms g (on_ledger (credited sum) x)) g (credited sum) _ (λ x. refl) (λ x. refl) (λ x. refl)
    (not-false (listed b s.accounts) (held 1)) link refl refl (pooled_paid h s b sum link) (λ a. refl) (λ a. refl)
    (λ a. cond_ranged (eqb b a) (g (terms_of a h)) (terms_of a h)
    (renewed_ranged (year_of h) commitment award is_ready (terms_of a h) (not_off award_most award parts.0) (ltb-false commitment_most commitment parts.1) (link.ranged a)) (link.ranged a)))
linked_step serves rule pays h s (entered kind b cents) s' link (taken, after) =
    subst (Linked (entered kind b cents ∷ h)) (sym after) (linked_entry h s kind b cents link (entry_listed serves s kind b cents taken))
linked_step serves rule pays h s (readying b) s' link (taken, after) =
    subst (Linked (readying b ∷ h)) (sym after)
    (linked_change h (readying b) s b (on_terms marked) marked (λ l. l) s.pools (λ x. refl) (λ x. refl) (λ x. refl)
    (not-false (listed b s.accounts) (none_hold (grounds serves s (ready b)) taken 1)) link refl refl link.pools
    (λ a. refl) (λ a. sym (cond_same (eqb b a) (ledger_of a h))) (λ a. cond_ranged (eqb b a) (marked (terms_of a h)) (terms_of a h) (link.ranged a) (link.ranged a)))
linked_step serves rule pays h s (closing places written left) s' link (taken, rows_are, left_is, after) =
    let xs = s.accounts in
    let d = shares rule s Delivery in
    let e = shares rule s Availability in
    subst (Linked (closing places written left ∷ h)) (sym after) (record {
      time = ap (λ n. n + 1) link.time;
      order = order_closed pays (year s) xs d e ∙ link.order;
      differ = differ_like xs (map (account_after pays (year s)) (dues xs d e)) (order_closed pays (year s) xs d e) link.differ;
      pools = refl;
      terms = λ a. terms_closed pays (year s) a xs d e ∙ ap closed_terms (link.terms a);
      ledger = λ a.
          ledger_closed pays (year s) a xs d e
          ∙ ap (λ rs. by_row (year s) (account a xs) (its_row a rs)) (sym rows_are)
          ∙ ap (λ y. closed_ledger (award_in_force y (account a xs).terms) (its_row a written).taken (its_row a written).share (its_row a written).payment (account a xs).ledger) (same_year h s link)
          ∙ ap (λ t. closed_ledger (award_in_force (year_of h) t) (its_row a written).taken (its_row a written).share (its_row a written).payment (account a xs).ledger) (link.terms a)
          ∙ ap (λ l. closed_ledger (award_in_force (year_of h) (terms_of a h)) (its_row a written).taken (its_row a written).share (its_row a written).payment l) (link.ledger a);
      ranged = link.ranged;
    })
linked_step serves rule pays h s (refused call n) s' link (taken, after) =
    subst (Linked (refused call n ∷ h)) (sym after) (record { time = link.time; order = link.order; differ = link.differ; pools = link.pools; terms = link.terms; ledger = link.ledger; ranged = link.ranged })

-- The law over histories: every cent entered is paid or still carried.
--   Run          a history that some book really had: each event a step from the state that the earlier ones left
--   paid_in      the sums that an asset paid in: payins and invoices
--   Balanced     for every asset: awards at the closes, uplift, resolutions, overs and sums paid in, less unders, equal
--                payments plus carried balance
--   Accounted    in a class: charges entered equal shares allotted, residues, open pool and charges still owed
--   Unwasted     at a close: residue is added in a class only where no claim of the class is left unpaid
--   Answered     at a close: shares are what the rule answers for the claims, and payments what the pile answers for standing
--                and total; each payment lies between zero and its total and keeps every floor and cap in the pile
--   Worked       at a close: the award in a row is that of the year, what is taken is what the rules take, shares and residue are
--                the open pool with all that is taken, and the balance in a row is what is then carried
--   EveryClose   what is said of a close, of every close in a history
--   Whole        all of this
-- Assumes nothing.
use Rattle.std.specs.Prelude.{◌≡◌, ℕ, ◌+◌, ◌<◌, true, List, [], ◌∷◌, map, ℤ, pos, ◌+ℤ◌, ◌-ℤ◌, ◌≤ℤ◌, sum_by}
use Rattle.payment.specs.Rule.{AllKept, Between, Limit}
use Rattle.payment.specs.Stand.{Stand}
use Rattle.book.specs.Account.{balance, standing}
use Rattle.book.specs.Accounts.{account, charged, listed}
use Rattle.book.specs.Calls.{Event, Step, closing, entered, opening, readying, refused, renewal}
use Rattle.book.specs.Class.{of}
use Rattle.book.specs.Close.{closed_ledger, taken as takes, total_of}
use Rattle.book.specs.History.{History, all_shares, all_unders, among, assets, awards, invoices, its_row, ledger_of, overs, payins, payments, pools_of, residues, resolutions, shares, term_award, terms_of, unders, uplifts, year_of}
use Rattle.book.specs.State.{State, empty}
use Rattle.book.specs.declared.class.ByClass.{ByClass}
use Rattle.book.specs.declared.class.Class.{Class}
use Rattle.book.specs.declared.class.Class.TheVariants.{Availability, Delivery}
use Rattle.book.specs.declared.row.Row.{Row}

pub data Run (serves : ℕ) (rule : ℕ → List ℕ → List ℕ) (pays : Stand → ℤ → ℤ) : History → State → Type 0 where
  begun : Run serves rule pays [] empty
  then : {h : History} {s s' : State} {e : Event} → Run serves rule pays h s → Step serves rule pays s e s' → Run serves rule pays (e ∷ h) s'

abbrev pub paid_in : ℕ → History → ℤ
paid_in a h = payins a h +ℤ pos (invoices a h)

abbrev pub Balanced : History → State → Type 0
Balanced h s =
    (a : ℕ) → listed a s.accounts ≡ true
    → awards a h +ℤ uplifts a h +ℤ resolutions a h +ℤ (overs Delivery a h +ℤ overs Availability a h) +ℤ paid_in a h -ℤ (unders Delivery a h +ℤ unders Availability a h)
    ≡ payments a h +ℤ balance (account a s.accounts).ledger

abbrev pub Accounted : Class → History → State → Type 0
Accounted class h s = all_unders class h ≡ all_shares class h + residues class h + of class s.pools + charged class s.accounts

abbrev pub Unwasted : List Row → ByClass → History → Type 0
Unwasted rows left h = (class : Class) → 0 < of class left → (a : ℕ) → overs class a h ≤ℤ pos (shares class a h + of class (its_row a rows).share)

pub record Answered (rule : ℕ → List ℕ → List ℕ) (pays : Stand → ℤ → ℤ) (limits : List Limit) (rows : List Row) (left : ByClass) (h : History) : Type 0 where
  pub in_order : map (λ r. r.asset) rows ≡ assets h
  pub shared : (class : Class) → map (λ r. of class r.share) rows
      ≡ rule (sum_by (λ r. of class r.share) rows + of class left) (map (λ a. of class (ledger_of a h).claims) (assets h))
  pub paid : (a : ℕ) → among a (assets h) ≡ true
      → (its_row a rows).payment ≡ pays (standing (year_of h) (terms_of a h)) (total_of (term_award a (year_of h) h) (its_row a rows).taken (its_row a rows).share (ledger_of a h))
  pub between : (a : ℕ) → among a (assets h) ≡ true
      → Between (total_of (term_award a (year_of h) h) (its_row a rows).taken (its_row a rows).share (ledger_of a h)) (its_row a rows).payment
  pub kept : (a : ℕ) → among a (assets h) ≡ true → AllKept limits (standing (year_of h) (terms_of a h)) (its_row a rows).payment

pub record Worked (rows : List Row) (left : ByClass) (h : History) : Type 0 where
  pub award : (a : ℕ) → among a (assets h) ≡ true → (its_row a rows).award ≡ term_award a (year_of h) h
  pub taken : (a : ℕ) → among a (assets h) ≡ true → (its_row a rows).taken ≡ takes (term_award a (year_of h) h) (ledger_of a h)
  pub pooled : (class : Class) → sum_by (λ r. of class r.share) rows + of class left ≡ of class (pools_of h) + sum_by (λ r. of class r.taken) rows
  pub carried : (a : ℕ) → among a (assets h) ≡ true
      → (its_row a rows).balance ≡ balance (closed_ledger (term_award a (year_of h) h) (its_row a rows).taken (its_row a rows).share (its_row a rows).payment (ledger_of a h))

abbrev pub EveryClose : (List Row → ByClass → History → Type 0) → History → Type 0
EveryClose P [] = Unit {0}
EveryClose P (opening asset holder ∷ h) = EveryClose P h
EveryClose P (renewal asset award commitment is_ready sum ∷ h) = EveryClose P h
EveryClose P (entered kind asset cents ∷ h) = EveryClose P h
EveryClose P (readying asset ∷ h) = EveryClose P h
EveryClose P (closing places rows left ∷ h) = P rows left h × EveryClose P h
EveryClose P (refused call n ∷ h) = EveryClose P h

pub record Whole (rule : ℕ → List ℕ → List ℕ) (pays : Stand → ℤ → ℤ) (limits : List Limit) (h : History) (s : State) : Type 0 where
  pub balanced : Balanced h s
  pub accounted : (class : Class) → Accounted class h s
  pub unwasted : EveryClose Unwasted h
  pub answered : EveryClose (Answered rule pays limits) h

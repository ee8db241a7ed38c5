-- The calls of a book: when each is refused, and what it does.
--   Kind      the entries that name an asset and a sum
--   Call      the calls with what they are given; a close is given so many rows to write into
--   Event     a call with its answer
--   grounds   on which a call is refused, with their numbers, in the order in which they are tested
--   Step      from state to state by an event
-- Assumes nothing.
use Rattle.std.specs.Prelude.{◌≡◌, ℕ, ◌+◌, Bool, false, not, ◌||◌, List, [], ◌∷◌, ◌++◌, length, ℤ, ◌+ℤ◌, Some, None, Option, ◌==◌, int_lt, nat_le, nat_lt, unsigned_abs}
use Rattle.payment.specs.Mark.{mark_number}
use Rattle.payment.specs.Stand.{Stand, award_most, commitment_most}
use Rattle.payment.specs.declared.mark.Mark.TheVariants.{ReadyNext}
use Rattle.sharing.specs.Rule.{most_cents}
use Rattle.book.specs.Account.{account_of, balance, commitment_in_force, given_in, opened, owes_less, terms_of}
use Rattle.book.specs.Accounts.{account, change, charged, claimed, listed}
use Rattle.book.specs.Class.{of, plus}
use Rattle.book.specs.Close.{closed_state, residues, rows}
use Rattle.book.specs.Entries.{adding, charging, claiming, credited, invoice, renewed, settled}
use Rattle.book.specs.Limits.{asset_most, balance_least, closes_most, entries_most, entry_most, holder_most, off, off_sum, off_way}
use Rattle.book.specs.Refusal.{first}
use Rattle.book.specs.State.{State, month, state, year}
use Rattle.book.specs.declared.account.Account.{Account}
use Rattle.book.specs.declared.account.Ledger.{Ledger}
use Rattle.book.specs.declared.account.Terms.{Terms}
use Rattle.book.specs.declared.class.ByClass.{ByClass}
use Rattle.book.specs.declared.class.Class.{Class}
use Rattle.book.specs.declared.class.Class.TheVariants.{Availability, Delivery}
use Rattle.book.specs.declared.row.Row.{Row}

pub data Kind : Type 0 where
  over : Class → Kind
  under : Class → Kind
  uplift : Kind
  resolution : Kind
  payin : Kind

pub data Call : Type 0 where
  list : (asset holder : ℕ) → Call
  term : (asset : ℕ) (award : ℤ) (commitment : ℕ) (ready : Bool) → Call
  entry : Kind → (asset : ℕ) (cents : ℤ) → Call
  ready : (asset : ℕ) → Call
  close : (places : ℕ) → Call

pub data Event : Type 0 where
  opening : (asset holder : ℕ) → Event
  renewal : (asset : ℕ) (award : ℤ) (commitment : ℕ) (ready : Bool) (invoice : ℕ) → Event
  entered : Kind → (asset : ℕ) (cents : ℤ) → Event
  readying : (asset : ℕ) → Event
  closing : (places : ℕ) (rows : List Row) (residues : ByClass) → Event
  refused : Call → (number : ℕ) → Event

-- grounds of refusal

abbrev pub unlisted : State → ℕ → Bool
unlisted s asset = not (listed asset s.accounts)

abbrev pub idle : State → ℕ → Bool
idle s asset = commitment_in_force (year s) (account asset s.accounts).terms == 0

abbrev pub wrong_month : State → Class → Bool
wrong_month s Delivery = false
wrong_month s Availability = not (month s == 12)

abbrev pub carried : State → ℕ → ℤ
carried s asset = balance (account asset s.accounts).ledger

abbrev pub entries_past : State → ℕ → ℤ → Bool
entries_past s asset cents = off_way entries_most ((account asset s.accounts).ledger.entries +ℤ cents)

-- on which any over or under is refused before its class total is looked at
abbrev pub adjustment : State → Class → ℕ → ℤ → List (Bool × ℕ)
adjustment s class asset cents =
    (off asset_most asset || off_sum entry_most cents, 4) ∷ (unlisted s asset, 8) ∷ (wrong_month s class, 9) ∷ (idle s asset, 11) ∷ []

abbrev entry_grounds : State → Kind → ℕ → ℤ → List (Bool × ℕ)
entry_grounds s (over class) asset cents = adjustment s class asset cents ++ (nat_lt most_cents (claimed class s.accounts + unsigned_abs cents), 13) ∷ []
entry_grounds s (under class) asset cents =
    adjustment s class asset cents ++ (nat_lt most_cents (charged class s.accounts + of class s.pools + unsigned_abs cents), 13) ∷ []
entry_grounds s uplift asset cents =
    (off asset_most asset || off_sum entry_most cents, 4) ∷ (unlisted s asset, 8) ∷ (idle s asset, 11) ∷ (entries_past s asset cents, 13) ∷ []
entry_grounds s resolution asset cents = (unlisted s asset, 8) ∷ (entries_past s asset cents, 13) ∷ []
entry_grounds s payin asset cents =
    (off asset_most asset || off_sum entry_most cents, 4) ∷ (unlisted s asset, 8) ∷ (owes_less (account asset s.accounts).ledger (unsigned_abs cents), 14) ∷ []

abbrev pub grounds : ℕ → State → Call → List (Bool × ℕ)
grounds serves s (list asset holder) =
    (off asset_most asset || off holder_most holder, 4) ∷ (listed asset s.accounts, 6) ∷ (nat_le serves (length s.accounts), 7) ∷ []
grounds serves s (term asset award commitment is_ready) =
    (off asset_most asset || (off_way award_most award || nat_lt commitment_most commitment), 4) ∷ (unlisted s asset, 8) ∷ (not (month s == 1), 9)
    ∷ (given_in (year s) (account asset s.accounts).terms, 10) ∷ (int_lt (carried s asset) balance_least, 12) ∷ []
grounds serves s (entry kind asset cents) = entry_grounds s kind asset cents
grounds serves s (ready asset) =
    (off asset_most asset, 4) ∷ (unlisted s asset, 8) ∷ (not (mark_number (account asset s.accounts).terms.mark == 0), 15) ∷ []
grounds serves s (close places) = (nat_le closes_most s.closes, 5) ∷ (nat_lt places (length s.accounts), 16) ∷ []

abbrev pub verdict : ℕ → State → Call → Option ℕ
verdict serves s call = first (grounds serves s call)

-- what a call does where no ground holds

abbrev pub marked : Terms → Terms
marked t = terms_of t.award t.commitment t.year t.cap_base ReadyNext

abbrev pub on_terms : (Terms → Terms) → Account → Account
on_terms f a = account_of a.asset a.holder (f a.terms) a.ledger

abbrev pub on_ledger : (Ledger → Ledger) → Account → Account
on_ledger f a = account_of a.asset a.holder a.terms (f a.ledger)

abbrev pub changed : ℕ → (Account → Account) → State → State
changed asset f s = state (change asset f s.accounts) s.pools s.closes

-- a sum paid in lowers charges, and what lowers them joins the pools; the account may be changed further
abbrev pub paid : ℕ → ℕ → (Account → Account) → State → State
paid asset cents f s =
    state (change asset (λ a. f (on_ledger (credited cents) a)) s.accounts) (plus s.pools (settled cents (account asset s.accounts).ledger.charges)) s.closes

abbrev pub after_entry : Kind → ℕ → ℤ → State → State
after_entry (over class) asset cents s = changed asset (on_ledger (claiming class (unsigned_abs cents))) s
after_entry (under class) asset cents s = changed asset (on_ledger (charging class (unsigned_abs cents))) s
after_entry uplift asset cents s = changed asset (on_ledger (adding cents)) s
after_entry resolution asset cents s = changed asset (on_ledger (adding cents)) s
after_entry payin asset cents s = paid asset (unsigned_abs cents) (λ a. a) s

abbrev pub invoiced : State → ℕ → ℤ → ℕ
invoiced s asset award = invoice (account asset s.accounts).terms.award award (carried s asset)

abbrev pub Step : ℕ → (ℕ → List ℕ → List ℕ) → (Stand → ℤ → ℤ) → State → Event → State → Type 0
Step serves rule pays s (opening asset holder) s' =
    (verdict serves s (list asset holder) ≡ None) × (s' ≡ state (s.accounts ++ opened asset holder ∷ []) s.pools s.closes)
Step serves rule pays s (renewal asset award commitment is_ready sum) s' =
    (verdict serves s (term asset award commitment is_ready) ≡ None) × (sum ≡ invoiced s asset award)
    × (s' ≡ paid asset sum (on_terms (renewed (year s) award commitment is_ready)) s)
Step serves rule pays s (entered kind asset cents) s' = (verdict serves s (entry kind asset cents) ≡ None) × (s' ≡ after_entry kind asset cents s)
Step serves rule pays s (readying asset) s' = (verdict serves s (ready asset) ≡ None) × (s' ≡ changed asset (on_terms marked) s)
Step serves rule pays s (closing places written left) s' =
    (verdict serves s (close places) ≡ None) × (written ≡ rows rule pays s) × (left ≡ residues rule s) × (s' ≡ closed_state rule pays s)
Step serves rule pays s (refused call number) s' = (verdict serves s call ≡ Some number) × (s' ≡ s)

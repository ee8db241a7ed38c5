-- What a close does.
--   funds           general balance, month's entries and award in force, together
--   taken           what is taken of an asset's charges: all of them with a negative award; else out of funds above zero, delivery first
--   Due             an account with its shares of the pools
--   total           funds, less what is taken, plus the shares
--   payment         what the pile answers for standing and total
--   closed_ledger   the ledger after the close: what was not paid, claims less shares, charges less what was taken
--   closed_terms    the terms after it: ready from the next period on becomes ready
--   pooled          the pools with all that is taken
--   shares          how the rule shares a pool among the claims, in listing order
--   rows, residues, closed_state   what the close answers and leaves
-- Assumes nothing.
use Rattle.std.specs.Prelude.{ℕ, ◌+◌, ◌-◌, cond, List, [], ◌∷◌, map, drop, ℤ, pos, negsuc, ◌+ℤ◌, ◌-ℤ◌, sum_by, sum, int_lt, slice_index}
use Rattle.payment.specs.Stand.{Stand}
use Rattle.payment.specs.declared.mark.Mark.{Mark}
use Rattle.payment.specs.declared.mark.Mark.TheVariants.{NotReady, Ready, ReadyNext}
use Rattle.book.specs.Account.{account_of, award_in_force, balance, ledger_of, standing, terms_of}
use Rattle.book.specs.Accounts.{claim}
use Rattle.book.specs.Class.{both, by_class, minus, none, of}
use Rattle.book.specs.Entries.{settled}
use Rattle.book.specs.State.{State, state, year}
use Rattle.book.specs.declared.account.Account.{Account}
use Rattle.book.specs.declared.account.Ledger.{Ledger}
use Rattle.book.specs.declared.account.Terms.{Terms}
use Rattle.book.specs.declared.class.ByClass.{ByClass}
use Rattle.book.specs.declared.class.Class.{Class}
use Rattle.book.specs.declared.class.Class.TheVariants.{Availability, Delivery}
use Rattle.book.specs.declared.row.Row.{Row}

-- one asset

abbrev pub above_zero : ℤ → ℕ
above_zero (pos n) = n
above_zero (negsuc n) = 0

abbrev pub funds : ℤ → Ledger → ℤ
funds award l = l.general +ℤ l.entries +ℤ award

abbrev pub taken : ℤ → Ledger → ByClass
taken award l = cond (int_lt award (pos 0)) l.charges (settled (above_zero (funds award l)) l.charges)

abbrev pub total_of : ℤ → ByClass → ByClass → Ledger → ℤ
total_of award taken share l = funds award l -ℤ pos (both taken) +ℤ pos (both share)

abbrev pub closed_ledger : ℤ → ByClass → ByClass → ℤ → Ledger → Ledger
closed_ledger award taken share payment l =
    ledger_of (total_of award taken share l -ℤ payment) (pos 0) (minus l.claims share) (minus l.charges taken)

abbrev pub next_mark : Mark → Mark
next_mark NotReady = NotReady
next_mark ReadyNext = Ready
next_mark Ready = Ready

abbrev pub closed_terms : Terms → Terms
closed_terms t = terms_of t.award t.commitment t.year t.cap_base (next_mark t.mark)

pub record Due : Type 0 where
  pub account : Account
  pub share : ByClass

abbrev pub due : Account → ByClass → Due
due account share = record { account = account; share = share }

abbrev pub award : ℕ → Due → ℤ
award year d = award_in_force year d.account.terms

abbrev pub total : ℕ → Due → ℤ
total year d = total_of (award year d) (taken (award year d) d.account.ledger) d.share d.account.ledger

abbrev pub payment : (Stand → ℤ → ℤ) → ℕ → Due → ℤ
payment pays year d = pays (standing year d.account.terms) (total year d)

abbrev pub ledger_after : (Stand → ℤ → ℤ) → ℕ → Due → Ledger
ledger_after pays year d =
    closed_ledger (award year d) (taken (award year d) d.account.ledger) d.share (payment pays year d) d.account.ledger

abbrev pub account_after : (Stand → ℤ → ℤ) → ℕ → Due → Account
account_after pays year d =
    account_of d.account.asset d.account.holder (closed_terms d.account.terms) (ledger_after pays year d)

abbrev pub row : (Stand → ℤ → ℤ) → ℕ → Due → Row
row pays year d = record {
  asset = d.account.asset;
  award = award year d;
  taken = taken (award year d) d.account.ledger;
  share = d.share;
  payment = payment pays year d;
  balance = balance (ledger_after pays year d);
}

-- all assets, in listing order

abbrev pub taken_of : ℕ → Class → Account → ℕ
taken_of year class x = of class (taken (award_in_force year x.terms) x.ledger)

abbrev pub pooled : State → Class → ℕ
pooled s class = of class s.pools + sum_by (taken_of (year s) class) s.accounts

abbrev pub claims : Class → List Account → List ℕ
claims class xs = map (claim class) xs

abbrev pub shares : (ℕ → List ℕ → List ℕ) → State → Class → List ℕ
shares rule s class = rule (pooled s class) (claims class s.accounts)

abbrev pub dues : List Account → List ℕ → List ℕ → List Due
dues [] delivery availability = []
dues (x ∷ xs) delivery availability =
    due x (by_class (slice_index delivery 0) (slice_index availability 0)) ∷ dues xs (drop 1 delivery) (drop 1 availability)

abbrev pub all_dues : (ℕ → List ℕ → List ℕ) → State → List Due
all_dues rule s = dues s.accounts (shares rule s Delivery) (shares rule s Availability)

abbrev pub rows : (ℕ → List ℕ → List ℕ) → (Stand → ℤ → ℤ) → State → List Row
rows rule pays s = map (row pays (year s)) (all_dues rule s)

abbrev pub residue : (ℕ → List ℕ → List ℕ) → State → Class → ℕ
residue rule s class = pooled s class - sum (shares rule s class)

abbrev pub residues : (ℕ → List ℕ → List ℕ) → State → ByClass
residues rule s = by_class (residue rule s Delivery) (residue rule s Availability)

abbrev pub closed_state : (ℕ → List ℕ → List ℕ) → (Stand → ℤ → ℤ) → State → State
closed_state rule pays s = state (map (account_after pays (year s)) (all_dues rule s)) none (s.closes + 1)

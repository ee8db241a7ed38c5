-- One account: its terms and its ledger.
--   opened               a new account
--   balance              the carried balance: general balance, month's entries and claims, less charges owed
--   owes_less            whether a sum is more than what is owed, or nothing is owed
--   given_in             whether the last term is of that year
--   award_in_force       the award of the last term in its own year, 0 in any other
--   commitment_in_force  likewise
--   standing             what a payment rule sees
--   Ranged closes a      the figures of the account keep their ranges
-- Assumes nothing.
use Rattle.std.specs.Prelude.{ℕ, ◌≤◌, Bool, false, cond, not, ◌||◌, ℤ, pos, ◌+ℤ◌, ◌-ℤ◌, neg_ℤ, ◌≤ℤ◌, Some, None, Option, ◌==◌, int_lt, nat_lt, unsigned_abs}
use Rattle.payment.specs.Stand.{Stand, stand, award_most, cap_base_most, commitment_most}
use Rattle.payment.specs.declared.mark.Mark.{Mark}
use Rattle.payment.specs.declared.mark.Mark.TheVariants.{NotReady}
use Rattle.book.specs.Class.{both, none}
use Rattle.book.specs.Limits.{asset_most, holder_most, entries_most, general_most}
use Rattle.book.specs.declared.account.Account.{Account}
use Rattle.book.specs.declared.account.Ledger.{Ledger}
use Rattle.book.specs.declared.account.Terms.{Terms}
use Rattle.book.specs.declared.class.ByClass.{ByClass}

abbrev pub account_of : ℕ → ℕ → Terms → Ledger → Account
account_of asset holder terms ledger = record { asset = asset; holder = holder; terms = terms; ledger = ledger }

abbrev pub terms_of : ℤ → ℕ → Option ℕ → ℤ → Mark → Terms
terms_of award commitment year cap_base mark =
    record { award = award; commitment = commitment; year = year; cap_base = cap_base; mark = mark }

abbrev pub ledger_of : ℤ → ℤ → ByClass → ByClass → Ledger
ledger_of general entries claims charges = record { general = general; entries = entries; claims = claims; charges = charges }

abbrev pub opened : ℕ → ℕ → Account
opened asset holder = account_of asset holder (terms_of (pos 0) 0 None (pos 0) NotReady) (ledger_of (pos 0) (pos 0) none none)

abbrev pub balance : Ledger → ℤ
balance l = l.general +ℤ l.entries +ℤ pos (both l.claims) -ℤ pos (both l.charges)

abbrev pub owes_less : Ledger → ℕ → Bool
owes_less l cents = not (int_lt (balance l) (pos 0)) || nat_lt (unsigned_abs (balance l)) cents

abbrev is_of : ℕ → Option ℕ → Bool
is_of year None = false
is_of year (Some last) = last == year

abbrev pub given_in : ℕ → Terms → Bool
given_in year t = is_of year t.year

abbrev pub award_in_force : ℕ → Terms → ℤ
award_in_force year t = cond (given_in year t) t.award (pos 0)

abbrev pub commitment_in_force : ℕ → Terms → ℕ
commitment_in_force year t = cond (given_in year t) t.commitment 0

abbrev pub standing : ℕ → Terms → Stand
standing year t = stand (award_in_force year t) t.cap_base (commitment_in_force year t) t.mark

abbrev pub EitherWay : ℤ → ℤ → Type 0
EitherWay most z = (neg_ℤ most ≤ℤ z) × (z ≤ℤ most)

abbrev pub RangedTerms : Terms → Type 0
RangedTerms t =
    EitherWay award_most t.award × (t.commitment ≤ commitment_most) × (pos 0 ≤ℤ t.cap_base) × (t.cap_base ≤ℤ cap_base_most)

abbrev pub RangedLedger : ℕ → Ledger → Type 0
RangedLedger closes l = EitherWay (general_most closes) l.general × EitherWay entries_most l.entries

abbrev pub RangedName : Account → Type 0
RangedName a = (1 ≤ a.asset) × (a.asset ≤ asset_most) × (1 ≤ a.holder) × (a.holder ≤ holder_most)

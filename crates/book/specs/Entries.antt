-- What entries do to terms and ledgers.
--   settled c d     how much of the charges d a sum c pays: delivery first, then availability
--   credited c l    the ledger with a sum c paid in: it lowers charges, and the rest raises the general balance
--   invoice         what a new term asks of an asset that owes and sells back award
--   renewed         the terms after a term is given
--   claiming, charging, adding   a ledger with an over, an under, an uplift or a resolution
-- Assumes nothing.
use Rattle.std.specs.Prelude.{ℕ, ◌-◌, ◌*◌, ◌/◌, min, Bool, cond, ◌&&◌, ℤ, pos, ◌+ℤ◌, ◌-ℤ◌, Some, int_lt, nat_lt, unsigned_abs}
use Rattle.std.specs.Int.{int_max}
use Rattle.payment.specs.declared.mark.Mark.TheVariants.{Ready}
use Rattle.book.specs.Account.{ledger_of, terms_of}
use Rattle.book.specs.Class.{both, by_class, minus, more}
use Rattle.book.specs.declared.account.Ledger.{Ledger}
use Rattle.book.specs.declared.account.Terms.{Terms}
use Rattle.book.specs.declared.class.ByClass.{ByClass}
use Rattle.book.specs.declared.class.Class.{Class}

abbrev pub settled : ℕ → ByClass → ByClass
settled cents charges = by_class (min cents charges.delivery) (min (cents - charges.delivery) charges.availability)

abbrev pub credited : ℕ → Ledger → Ledger
credited cents l =
    ledger_of (l.general +ℤ pos (cents - both (settled cents l.charges))) l.entries l.claims (minus l.charges (settled cents l.charges))

-- of the last award and the new one, and the carried balance
abbrev pub invoice : ℤ → ℤ → ℤ → ℕ
invoice last award carried =
    cond (int_lt carried (pos 0) && (int_lt (pos 0) last && int_lt award last))
    (unsigned_abs carried * min (unsigned_abs (last -ℤ award)) (unsigned_abs last) / unsigned_abs last)
    0

abbrev pub renewed : ℕ → ℤ → ℕ → Bool → Terms → Terms
renewed year award commitment ready t =
    terms_of award commitment (Some year)
    (cond (nat_lt 0 commitment) (int_max (pos 0) award) (int_max t.cap_base award))
    (cond ready Ready t.mark)

abbrev pub claiming : Class → ℕ → Ledger → Ledger
claiming class cents l = ledger_of l.general l.entries (more class cents l.claims) l.charges

abbrev pub charging : Class → ℕ → Ledger → Ledger
charging class cents l = ledger_of l.general l.entries l.claims (more class cents l.charges)

abbrev pub adding : ℤ → Ledger → Ledger
adding cents l = ledger_of l.general (l.entries +ℤ cents) l.claims l.charges

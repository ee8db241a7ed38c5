-- What entries and closes do to a carried balance. Assumes nothing.
use Rattle.std.proofs.Common.{◌≡◌, ℕ, ◌≤◌, ℤ, pos, ◌+ℤ◌, ◌-ℤ◌, arith}
use Rattle.std.proofs.lemmas.Int.{ints}
use Rattle.book.specs.Account.{balance}
use Rattle.book.specs.Close.{closed_ledger}
use Rattle.book.specs.Entries.{adding, charging, claiming, credited}
use Rattle.book.specs.declared.account.Ledger.{Ledger}
use Rattle.book.specs.declared.class.ByClass.{ByClass}
use Rattle.book.specs.declared.class.Class.{Class}
use Rattle.book.specs.declared.class.Class.TheVariants.{Availability, Delivery}

pub balance-claiming : (class : Class) (cents : ℕ) (l : Ledger) → balance (claiming class cents l) ≡ balance l +ℤ pos cents
balance-claiming Delivery cents l = omega (arith, ints)
balance-claiming Availability cents l = omega (arith, ints)

pub balance-charging : (class : Class) (cents : ℕ) (l : Ledger) → balance (charging class cents l) ≡ balance l -ℤ pos cents
balance-charging Delivery cents l = omega (arith, ints)
balance-charging Availability cents l = omega (arith, ints)

pub balance-adding : (cents : ℤ) (l : Ledger) → balance (adding cents l) ≡ balance l +ℤ cents
balance-adding cents l = omega (arith, ints)

pub balance-credited : (cents : ℕ) (l : Ledger) → balance (credited cents l) ≡ balance l +ℤ pos cents
balance-credited cents l = omega (arith, ints)

pub balance_closed : (award : ℤ) (taken share : ByClass) (payment : ℤ) (l : Ledger) → taken.delivery ≤ l.charges.delivery → taken.availability ≤ l.charges.availability
    → share.delivery ≤ l.claims.delivery → share.availability ≤ l.claims.availability
    → balance (closed_ledger award taken share payment l) +ℤ payment ≡ balance l +ℤ award
balance_closed award taken share payment l td ta sd sa = omega (arith, ints, td, ta, sd, sa)

-- A paper, what may be done with it, and what is answered.
--   Paper    filed for an asset and a period; served with a sum of cents on a day; referred; withdrawn; or resolved
--   Reply    an acceptance, a lapse or a rejection, on a day
--   Act      an offer of cents on a day, a reply, a determination of cents, or a withdrawal
--   Answer   taken; taken with a resolution of asset and cents; or refused by a number
-- Assumes nothing.
use Rattle.std.specs.Prelude.{ℕ, ℤ}

pub data Paper : Type 0 where
  filed : (asset period : ℕ) → Paper
  served : (asset period : ℕ) (cents : ℤ) (day : ℕ) → Paper
  referred : (asset period : ℕ) → Paper
  withdrawn : Paper
  resolved : Paper

pub data Reply : Type 0 where
  accept : (day : ℕ) → Reply
  lapse : (day : ℕ) → Reply
  reject : (day : ℕ) → Reply

pub data Act : Type 0 where
  offer : (cents : ℤ) (day : ℕ) → Act
  reply : Reply → Act
  determine : (cents : ℤ) → Act
  withdraw : Act

pub data Answer : Type 0 where
  taken : Answer
  resolution : (asset : ℕ) (cents : ℤ) → Answer
  refused : (number : ℕ) → Answer

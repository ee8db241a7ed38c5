-- The numbers of the refusals.
--   number    the number of a refusal
--   refusal   the number by which a call was refused, if it was
--   first     of grounds with their numbers, the number of the first that holds
-- Assumes nothing.
use Rattle.std.specs.Prelude.{ℕ, Bool, cond, List, [], ◌∷◌, Some, None, Ok, Err, Option, Result}
use Rattle.book.specs.declared.refusal.Refusal.{Refusal}
use Rattle.book.specs.declared.refusal.Refusal.TheVariants.{OutOfRange, AllClosed, Listed, Full, NotListed, WrongMonth, TermGiven, NoCommitment, TooFarBelow, PastLimit, NotOwed, Marked, FewRows}

abbrev pub number : Refusal → ℕ
number OutOfRange = 4
number AllClosed = 5
number Listed = 6
number Full = 7
number NotListed = 8
number WrongMonth = 9
number TermGiven = 10
number NoCommitment = 11
number TooFarBelow = 12
number PastLimit = 13
number NotOwed = 14
number Marked = 15
number FewRows = 16

abbrev pub refusal : {A : Type 0} → Result A Refusal → Option ℕ
refusal (Ok a) = None
refusal (Err e) = Some (number e)

abbrev pub first : List (Bool × ℕ) → Option ℕ
first [] = None
first ((holds, n) ∷ grounds) = cond holds (Some n) (first grounds)

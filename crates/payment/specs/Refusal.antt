-- The numbers of the refusals. Assumes nothing.
--     number                the number of a refusal
--     refusal               the number by which a call was refused, if it was
--     RefusedUnless P n r   it was refused by n exactly where P does not hold
use Rattle.std.specs.Prelude.{◌≡◌, ℕ, Some, None, Ok, Err, Option, Result}
use Rattle.payment.specs.declared.refusal.Refusal.{Refusal}
use Rattle.payment.specs.declared.refusal.Refusal.TheVariants.{OutOfRange}

abbrev pub number : Refusal → ℕ
number OutOfRange = 4

abbrev pub refusal : {A : Type 0} → Result A Refusal → Option ℕ
refusal (Ok a) = None
refusal (Err e) = Some (number e)

abbrev pub RefusedUnless : Type 0 → ℕ → Option ℕ → Type 0
RefusedUnless P n None = P
RefusedUnless P n (Some m) = (P → ⊥) × (m ≡ n)

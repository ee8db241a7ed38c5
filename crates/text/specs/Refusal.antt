-- Why a line is not written.
--   number                the number of a refusal
--   refusal               the number by which a call was refused, if it was
--   RefusedUnless P n r   it was refused by n exactly where P does not hold
-- Assumes nothing.
use Rattle.std.specs.Prelude.{◌≡◌, ℕ, Some, None, Ok, Err, Option, Result}
use Rattle.text.specs.declared.refusal.Refusal.{Refusal}
use Rattle.text.specs.declared.refusal.Refusal.TheVariants.{ShortPage}

abbrev pub number : Refusal → ℕ
number ShortPage = 16

abbrev pub refusal : {A : Type 0} → Result A Refusal → Option ℕ
refusal (Ok a) = None
refusal (Err e) = Some (number e)

abbrev pub RefusedUnless : Type 0 → ℕ → Option ℕ → Type 0
RefusedUnless P n None = P
RefusedUnless P n (Some m) = (P → ⊥) × (m ≡ n)

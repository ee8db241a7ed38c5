-- Why a call is refused.
--   number         the number of a refusal
--   refusal        the number by which a call was refused, if it was
--   refused_by     the same, of a call that hands something back
--   unless b n g   refused by n unless b holds, and where it holds, as g says: grounds are tested in their order
-- Assumes nothing.
use Rattle.std.specs.Prelude.{ℕ, Bool, cond, Some, None, Ok, Err, Option, Result}
use Rattle.dispute.specs.declared.refusal.Refusal.{Refusal}
use Rattle.dispute.specs.declared.refusal.Refusal.TheVariants.{OutOfRange, OutsideTime, TooEarly}

abbrev pub number : Refusal → ℕ
number OutOfRange = 4
number TooEarly = 17
number OutsideTime = 18

abbrev pub refusal : {A : Type 0} → Result A Refusal → Option ℕ
refusal (Ok a) = None
refusal (Err e) = Some (number e)

abbrev pub refused_by : {A B : Type 0} → Result A (B × Refusal) → Option ℕ
refused_by (Ok a) = None
refused_by (Err e) = Some (number e.1)

abbrev pub unless : Bool → ℕ → Option ℕ → Option ℕ
unless holds n else = cond holds else (Some n)

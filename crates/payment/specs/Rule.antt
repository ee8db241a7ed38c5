-- What every payment rule owes. Assumes nothing.
--     Between t p      the payment p lies between zero and t, ends included
--     Limit            a floor or a cap
--     most_paid s      the most that a cap lets an asset receive: twice its cap base
--     Kept l s p       the payment p keeps the limit l: no asset with an award of 0 or more pays under a floor,
--                      or receives more than its most under a cap
--     AllKept ls s p   it keeps each of these limits
--     Owed ls s t p    the law: p lies between zero and the total t, and keeps each of these limits
--     pays_whole       what whole pays: the total
use Rattle.std.specs.Prelude.{List, ℤ, pos, ◌*ℤ◌, ◌≤ℤ◌}
use Rattle.std.specs.List.{AllByRecursion}
use Rattle.payment.specs.Stand.{Stand}

pub record Between (total payment : ℤ) : Type 0 where
  pub to_holder : pos 0 ≤ℤ total → (pos 0 ≤ℤ payment) × (payment ≤ℤ total)
  pub from_holder : total ≤ℤ pos 0 → (total ≤ℤ payment) × (payment ≤ℤ pos 0)

pub data Limit : Type 0 where
  floored : Limit
  capped : Limit

abbrev pub most_paid : Stand → ℤ
most_paid s = pos 2 *ℤ s.cap_base

abbrev pub Kept : Limit → Stand → ℤ → Type 0
Kept floored s payment = pos 0 ≤ℤ s.award → pos 0 ≤ℤ payment
Kept capped s payment = pos 0 ≤ℤ s.award → payment ≤ℤ most_paid s

abbrev pub AllKept : List Limit → Stand → ℤ → Type 0
AllKept limits s payment = AllByRecursion (λ limit. Kept limit s payment) limits

pub record Owed (limits : List Limit) (s : Stand) (total payment : ℤ) : Type 0 where
  pub between : Between total payment
  pub kept : AllKept limits s payment

abbrev pub pays_whole : Stand → ℤ → ℤ
pays_whole s total = total

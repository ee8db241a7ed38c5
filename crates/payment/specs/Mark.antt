-- The ready mark. Assumes nothing.
--     mark_number    0 not ready, 1 ready from the next period on, 2 ready
--     IsMarkOf n r   r is the mark with the number n; it is refused by 4 exactly where n is above 2
use Rattle.std.specs.Prelude.{◌≡◌, ℕ, ◌≤◌, IfOk, Result}
use Rattle.payment.specs.Refusal.{RefusedUnless, refusal}
use Rattle.payment.specs.declared.mark.Mark.{Mark}
use Rattle.payment.specs.declared.mark.Mark.TheVariants.{NotReady, Ready, ReadyNext}
use Rattle.payment.specs.declared.refusal.Refusal.{Refusal}

abbrev pub mark_number : Mark → ℕ
mark_number NotReady = 0
mark_number ReadyNext = 1
mark_number Ready = 2

pub record IsMarkOf (n : ℕ) (r : Result Mark Refusal) : Type 0 where
  pub cases : RefusedUnless (n ≤ 2) 4 (refusal r)
  pub value : IfOk r (λ mark. mark_number mark ≡ n)

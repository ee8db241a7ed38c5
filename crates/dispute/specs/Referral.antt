-- What becomes of a referred paper.
--   determine_ground   the number by which a determination is refused, if it is
--   ReferredStep      what a determination and a withdrawal do with a referred paper
-- Assumes nothing.
use Rattle.std.specs.Prelude.{◌≡◌, ℕ, ℤ, Some, None, Option}
use Rattle.dispute.specs.Limits.{is_sum}
use Rattle.dispute.specs.Paper.{Act, Answer, Paper, determine, referred, refused, resolution, resolved, taken, withdraw, withdrawn}
use Rattle.dispute.specs.Refusal.{unless}

abbrev pub determine_ground : ℤ → Option ℕ
determine_ground cents = unless (is_sum cents) 4 None

pub data ReferredStep : Paper → Act → Answer → Paper → Type 0 where
  determined : {asset period : ℕ} {cents : ℤ}
      → determine_ground cents ≡ None
      → ReferredStep (referred asset period) (determine cents) (resolution asset cents) resolved
  determine_refused : {asset period n : ℕ} {cents : ℤ}
      → determine_ground cents ≡ Some n
      → ReferredStep (referred asset period) (determine cents) (refused n) (referred asset period)
  referred_withdrawn : {asset period : ℕ}
      → ReferredStep (referred asset period) withdraw taken withdrawn

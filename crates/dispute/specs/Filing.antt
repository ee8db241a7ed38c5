-- Filing a paper, and what becomes of a filed one.
--   file_ground    the number by which filing is refused, if it is
--   offer_ground   the number by which an offer is refused, if it is
--   FiledStep     what an offer and a withdrawal do with a filed paper
-- Assumes nothing.
use Rattle.std.specs.Prelude.{◌≡◌, ℕ, ◌+◌, ◌&&◌, ℤ, Some, None, Option, nat_le}
use Rattle.dispute.specs.Limits.{filing_closes, is_asset, is_closes, is_day, is_period, is_sum}
use Rattle.dispute.specs.Paper.{Act, Answer, Paper, filed, offer, refused, served, taken, withdraw, withdrawn}
use Rattle.dispute.specs.Refusal.{unless}

abbrev pub file_ground : ℕ → ℕ → ℕ → Option ℕ
file_ground asset period closes =
    unless (is_asset asset && (is_period period && is_closes closes)) 4
    (unless (nat_le (period + filing_closes) closes) 17 None)

abbrev pub offer_ground : ℤ → ℕ → Option ℕ
offer_ground cents day = unless (is_sum cents && is_day day) 4 None

pub data FiledStep : Paper → Act → Answer → Paper → Type 0 where
  offered : {asset period day : ℕ} {cents : ℤ}
      → offer_ground cents day ≡ None
      → FiledStep (filed asset period) (offer cents day) taken (served asset period cents day)
  offer_refused : {asset period day n : ℕ} {cents : ℤ}
      → offer_ground cents day ≡ Some n
      → FiledStep (filed asset period) (offer cents day) (refused n) (filed asset period)
  filed_withdrawn : {asset period : ℕ}
      → FiledStep (filed asset period) withdraw taken withdrawn

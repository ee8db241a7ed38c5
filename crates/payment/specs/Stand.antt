-- The figures of a standing, and the ranges that they keep. Assumes nothing.
--     Stand             the award in force, the cap base, the commitment in force and the ready mark
--     stand             these four put together
--     award_most        the most that an award may be either way, in cents
--     cap_base_most     the most that a cap base may be, in cents; the least is 0
--     commitment_most   the most that a commitment may be, in kilowatts
--     InRange           the figures keep these ranges
use Rattle.std.specs.Prelude.{ℕ, ◌≤◌, ℤ, pos, neg_ℤ, ◌≤ℤ◌}
use Rattle.payment.specs.declared.mark.Mark.{Mark}

pub record Stand : Type 0 where
  pub award : ℤ
  pub cap_base : ℤ
  pub commitment : ℕ
  pub mark : Mark

abbrev pub stand : ℤ → ℤ → ℕ → Mark → Stand
stand award cap_base commitment mark = record { award = award; cap_base = cap_base; commitment = commitment; mark = mark }

abbrev pub award_most : ℤ
award_most = pos 1000000000

abbrev pub cap_base_most : ℤ
cap_base_most = pos 1000000000

abbrev pub commitment_most : ℕ
commitment_most = 1000000

abbrev Within : ℤ → ℤ → ℤ → Type 0
Within least most z = (least ≤ℤ z) × (z ≤ℤ most)

abbrev pub InRange : Stand → Type 0
InRange s =
    Within (neg_ℤ award_most) award_most s.award × Within (pos 0) cap_base_most s.cap_base × (s.commitment ≤ commitment_most)

-- The limits of what papers hold and are given.
--   asset_most      the greatest number of an asset; the least is 1
--   period_most     the greatest number of a period; the least is 1
--   closes_most     the most closes that there can be
--   day_most        the greatest number of a business day; the least is 0
--   sum_most        the most that a sum may be either way, in cents; 0 is no sum
--   filing_closes   how many closes must follow that of a period before a paper is filed for it
--   reply_days      how many days after the day served a paper may still be accepted or rejected
--   is_asset, is_period, is_closes, is_day, is_sum   whether a figure is in its range
-- Assumes nothing.
use Rattle.std.specs.Prelude.{ℕ, Bool, ◌&&◌, ℤ, nat_le, unsigned_abs}

abbrev pub asset_most : ℕ
asset_most = 9999

abbrev pub period_most : ℕ
period_most = 360

abbrev pub closes_most : ℕ
closes_most = 360

abbrev pub day_most : ℕ
day_most = 100000

abbrev pub sum_most : ℕ
sum_most = 1000000000

abbrev pub filing_closes : ℕ
filing_closes = 4

abbrev pub reply_days : ℕ
reply_days = 30

abbrev pub is_asset : ℕ → Bool
is_asset asset = nat_le 1 asset && nat_le asset asset_most

abbrev pub is_period : ℕ → Bool
is_period period = nat_le 1 period && nat_le period period_most

abbrev pub is_closes : ℕ → Bool
is_closes closes = nat_le closes closes_most

abbrev pub is_day : ℕ → Bool
is_day day = nat_le day day_most

abbrev pub is_sum : ℤ → Bool
is_sum cents = nat_le 1 (unsigned_abs cents) && nat_le (unsigned_abs cents) sum_most

-- The limits of the book, in cents where they are of amounts.
--   off most n       whether a number is 0, or above the most
--   off_sum most z   the same of an amount, which is off below 0 too
--   off_way most z   whether an amount is further from zero than the most
-- Assumes nothing.
use Rattle.std.specs.Prelude.{ℕ, ◌+◌, ◌*◌, Bool, true, ◌||◌, ℤ, pos, negsuc, neg_ℤ, ◌==◌, int_lt, nat_lt}

abbrev pub asset_most : ℕ
asset_most = 9999

abbrev pub holder_most : ℕ
holder_most = 999

-- one over, under, uplift or payin; the least is 1
abbrev pub entry_most : ℕ
entry_most = 1000000000

-- the month's entries of an account, either way
abbrev pub entries_most : ℤ
entries_most = pos 1000000000

-- the general balance of an account after so many closes, either way
abbrev pub general_most : ℕ → ℤ
general_most closes = pos (1000000000 + 6000000000 * closes)

-- the carried balance with which a term is taken
abbrev pub balance_least : ℤ
balance_least = neg_ℤ (pos 2000000000)

abbrev pub closes_most : ℕ
closes_most = 360

abbrev pub off : ℕ → ℕ → Bool
off most n = n == 0 || nat_lt most n

abbrev pub off_sum : ℕ → ℤ → Bool
off_sum most (pos n) = off most n
off_sum most (negsuc n) = true

abbrev pub off_way : ℤ → ℤ → Bool
off_way most z = int_lt z (neg_ℤ most) || int_lt most z

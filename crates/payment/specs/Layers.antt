-- What each layer pays in place of the payment below; outside its case, the payment below. Assumes nothing.
--     turns_floor      with an award of 0 or more, the greater of 0 and the payment below
--     turns_cap        with an award of 0 or more, the lesser of the payment below and twice the cap base
--     withheld         the case of withhold: a commitment above 0, and a mark other than 2
--     turns_withhold   in that case, the lesser of 0 and the payment below
use Rattle.std.specs.Prelude.{Bool, cond, not, ◌&&◌, ℤ, pos, ◌==◌, int_le, nat_lt}
use Rattle.std.specs.Int.{int_max, int_min}
use Rattle.payment.specs.Mark.{mark_number}
use Rattle.payment.specs.Rule.{most_paid}
use Rattle.payment.specs.Stand.{Stand}

abbrev pub turns_floor : Stand → ℤ → ℤ
turns_floor s below = cond (int_le (pos 0) s.award) (int_max (pos 0) below) below

abbrev pub turns_cap : Stand → ℤ → ℤ
turns_cap s below = cond (int_le (pos 0) s.award) (int_min below (most_paid s)) below

abbrev pub withheld : Stand → Bool
withheld s = nat_lt 0 s.commitment && not (mark_number s.mark == 2)

abbrev pub turns_withhold : Stand → ℤ → ℤ
turns_withhold s below = cond (withheld s) (int_min (pos 0) below) below

-- Half of the total.
--   halved   half of a total, rounded toward zero, whatever the standing
-- Assumes nothing.
use Rattle.std.specs.Prelude.{ℤ, pos, int_div}
use Rattle.payment.specs.Stand.{Stand}

abbrev pub halved : Stand → ℤ → ℤ
halved s total = int_div total (pos 2)

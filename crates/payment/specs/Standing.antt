-- A standing read as plain figures. Assumes nothing.
--     view   the figures of a standing
use Rattle.payment.specs.Stand.{Stand, stand}
use Rattle.payment.specs.declared.standing.Standing.{Standing}

abbrev pub view : Standing → Stand
view s = stand s.award s.cap_base s.commitment s.mark

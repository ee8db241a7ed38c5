-- What piles pay. Assumes nothing.
--     over              what a layer over a payment rule pays
--     standard          what the standard pile pays: withhold on cap on floor on whole
--     standard_limits   the floors and caps in it
--     standard_pile     the pile itself
use Rattle.std.specs.Prelude.{List, [], ◌∷◌, ℤ}
use Rattle.payment.specs.Layers.{turns_cap, turns_floor, turns_withhold}
use Rattle.payment.specs.Rule.{Limit, capped, floored, pays_whole}
use Rattle.payment.specs.Stand.{Stand}
use Rattle.payment.specs.declared.layers.Cap.{Cap}
use Rattle.payment.specs.declared.layers.Floor.{Floor}
use Rattle.payment.specs.declared.layers.Withhold.{Withhold}
use Rattle.payment.specs.declared.pile.Over.{Over}
use Rattle.payment.specs.declared.rule.Whole.{Whole}

abbrev pub over : (Stand → ℤ → ℤ) → (Stand → ℤ → ℤ) → Stand → ℤ → ℤ
over turns pays s total = turns s (pays s total)

abbrev pub standard : Stand → ℤ → ℤ
standard = over turns_withhold (over turns_cap (over turns_floor pays_whole))

abbrev pub standard_limits : List Limit
standard_limits = capped ∷ floored ∷ []

abbrev on : {L P : Type 0} → L → P → Over L P
on layer below = record { layer = layer; below = below }

abbrev pub standard_pile : Over Withhold (Over Cap (Over Floor Whole))
standard_pile = on (record {}) (on (record {}) (on (record {}) (record {})))

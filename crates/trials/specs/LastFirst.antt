-- The last claim first.
--   last_first   claims are met from the end of the list on, each in full until the pool is spent: what the later ones leave is met first
-- Assumes nothing.
use Rattle.std.specs.Prelude.{ℕ, ◌-◌, min, List, [], ◌∷◌, sum}

abbrev pub last_first : ℕ → List ℕ → List ℕ
last_first pool [] = []
last_first pool (claim ∷ claims) = min (pool - sum claims) claim ∷ last_first pool claims

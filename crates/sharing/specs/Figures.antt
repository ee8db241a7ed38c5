-- Worked figures of both rules.
--   rows      a pool, its claims, and the shares that each rule gives
--   Figures   each row is what the rules give
-- Assumes nothing.
use Rattle.std.specs.Prelude.{◌≡◌, ℕ, List, [], ◌∷◌}
use Rattle.std.specs.List.{AllByRecursion}
use Rattle.sharing.specs.ProRata.{pro_rata}
use Rattle.sharing.specs.Rank.{by_rank}

pub record Row : Type 0 where
  pub pool : ℕ
  pub claims : List ℕ
  pub parts : List ℕ
  pub ranked : List ℕ

abbrev pub rows : List Row
rows =
    record { pool = 100; claims = 50 ∷ 30 ∷ 40 ∷ []; parts = 41 ∷ 25 ∷ 34 ∷ []; ranked = 50 ∷ 30 ∷ 20 ∷ [] }
    ∷ record { pool = 1; claims = 1 ∷ 1 ∷ 1 ∷ []; parts = 0 ∷ 0 ∷ 1 ∷ []; ranked = 1 ∷ 0 ∷ 0 ∷ [] }
    ∷ []

abbrev pub Figures : Type 0
Figures = AllByRecursion (λ row. (pro_rata row.pool row.claims ≡ row.parts) × (by_rank row.pool row.claims ≡ row.ranked)) rows

-- By rank.
--   by_rank        claims are met in list order, each in full until the pool is spent
--   EarlierFirst  a claim gets something only if every earlier claim is met in full
-- Assumes nothing.
use Rattle.std.specs.Prelude.{◌≡◌, ℕ, ◌-◌, ◌<◌, min, List, [], ◌∷◌, slice_index}

abbrev pub by_rank : ℕ → List ℕ → List ℕ
by_rank pool [] = []
by_rank pool (claim ∷ claims) = min pool claim ∷ by_rank (pool - claim) claims

abbrev pub EarlierFirst : List ℕ → List ℕ → Type 0
EarlierFirst claims shares = (i j : ℕ) → j < i → 0 < slice_index shares i → slice_index shares j ≡ slice_index claims j

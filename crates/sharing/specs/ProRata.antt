-- Pro rata by cumulative rounding.
--   quotient       what the first i claims get together: their part of what is shared, rounded down
--   pro_rata       each share is the difference of two neighbouring quotients
--   NoCentLost   the first i shares together are exactly the i-th quotient
--   WithinACent  no share is a cent or more away from its exact part
-- Assumes nothing.
use Rattle.std.specs.Prelude.{◌≡◌, ℕ, ◌+◌, ◌-◌, ◌*◌, ◌/◌, ◌<◌, ◌≤◌, min, List, map, length, take, sum, slice_index}
use Rattle.std.specs.List.{range_with_len}

abbrev pub quotient : ℕ → List ℕ → ℕ → ℕ
quotient pool claims i = min pool (sum claims) * sum (take i claims) / sum claims

abbrev pub pro_rata : ℕ → List ℕ → List ℕ
pro_rata pool claims = map (λ i. quotient pool claims (i + 1) - quotient pool claims i) (range_with_len 0 (length claims))

abbrev pub NoCentLost : ℕ → List ℕ → List ℕ → Type 0
NoCentLost pool claims shares = (i : ℕ) → i ≤ length claims → sum (take i shares) ≡ quotient pool claims i

-- the exact part of a claim is what is shared times the claim over the sum of the claims; here all is times that sum
abbrev pub WithinACent : ℕ → List ℕ → List ℕ → Type 0
WithinACent pool claims shares =
    (i : ℕ) → i < length claims → 0 < sum claims
    → (slice_index shares i * sum claims < min pool (sum claims) * slice_index claims i + sum claims)
    × (min pool (sum claims) * slice_index claims i < slice_index shares i * sum claims + sum claims)

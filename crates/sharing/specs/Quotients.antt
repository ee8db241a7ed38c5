-- What pro rata gives: as many shares as claims, none above its claim, the pool spent as far as claims go, no cent lost, each within a cent.
-- Assumes nothing.
use Rattle.std.specs.Prelude.{◌≡◌, ℕ, zero, suc, ◌+◌, ◌-◌, ◌*◌, ◌/◌, ◌<◌, ◌≤◌, min, List, length, take, sum, slice_index, slice_index_or}
use Rattle.std.proofs.Common.{ap, sym, ◌∙◌, ⊎_elim, mul-add, add-mul, mul_comm, mul-le-mul_right, div-mul-le_self, mul-div_cancel, mul-zero, add-one, arith}
use Rattle.std.proofs.Math.Nat.{lt-div-mul-add, add-mul-div_right, div-zero, zero-div}
use Rattle.std.proofs.lemmas.Nat.{le-div}
use Rattle.std.proofs.lemmas.List.FromFn.{length-map-range_with_len, get_or-map-range_with_len}
use Rattle.std.proofs.lemmas.List.{take_all, get_or_past}
use Rattle.std.proofs.lemmas.List.Sums.{sum_by_more}
use Rattle.std.proofs.lemmas.Bool.{cases_lt}
use Rattle.sharing.specs.ProRata.{quotient, pro_rata, NoCentLost, WithinACent}

-- a quotient does not fall when its dividend rises
rises : (a b s : ℕ) → a ≤ b → a / s ≤ b / s
rises a b s h =
    ⊎_elim (λ some. le-div (a / s) b s some (omega (arith, div-mul-le_self a s)))
    (λ none. omega (arith, ap (λ d. a / d) (nil none) ∙ div-zero a))
    (cases_lt 0 s)
  where
    nil : s ≤ 0 → s ≡ 0
    nil none = omega arith

module _ (pool : ℕ) (claims : List ℕ) where
  pub each : length (pro_rata pool claims) ≡ length claims
  each = length-map-range_with_len (λ i. quotient pool claims (i + 1) - quotient pool claims i) 0 (length claims)

  pub share_at : (i : ℕ) → i < length claims → slice_index (pro_rata pool claims) i ≡ quotient pool claims (i + 1) - quotient pool claims i
  share_at i h =
      get_or-map-range_with_len (λ k. quotient pool claims (k + 1) - quotient pool claims k) 0 (length claims) i i 0 h (omega arith)

  pub reached_more : (i : ℕ) → i < length claims → sum (take (i + 1) claims) ≡ sum (take i claims) + slice_index claims i
  reached_more i h = sum_by_more (λ x. x) claims i 0 h

  pub quotient_rises : (i : ℕ) → i < length claims → quotient pool claims i ≤ quotient pool claims (i + 1)
  quotient_rises i h =
      let p = min pool (sum claims) in
      rises (p * sum (take i claims)) (p * sum (take (i + 1) claims)) (sum claims)
      (omega (arith, ap (λ c. p * c) (reached_more i h), mul-add p (sum (take i claims)) (slice_index claims i)))

  pub quotient_none : quotient pool claims 0 ≡ 0
  quotient_none =
      ap (λ n. n / sum claims) (mul-zero (min pool (sum claims))) ∙ zero-div (sum claims)

  -- all claims together get the pool, as far as they go
  pub quotient_all : quotient pool claims (length claims) ≡ min pool (sum claims)
  quotient_all =
      ap (λ c. min pool (sum claims) * sum c / sum claims) (take_all (length claims) claims (omega arith))
      ∙ ⊎_elim (λ some. mul-div_cancel (min pool (sum claims)) some)
      (λ none. let nil : sum claims ≡ 0 = omega arith in ap (λ s. min pool (sum claims) * sum claims / s) nil ∙ div-zero (min pool (sum claims) * sum claims) ∙ omega arith)
      (cases_lt 0 (sum claims))

  sum_more : (i : ℕ) → i < length claims → sum (take (i + 1) (pro_rata pool claims)) ≡ sum (take i (pro_rata pool claims)) + slice_index (pro_rata pool claims) i
  sum_more i h = sum_by_more (λ x. x) (pro_rata pool claims) i 0 (omega (arith, each))

  pub no_cent_lost : NoCentLost pool claims (pro_rata pool claims)
  no_cent_lost zero h = omega (arith, quotient_none)
  no_cent_lost (suc i) h =
      ap (λ n. sum (take n (pro_rata pool claims))) (sym (add-one i)) ∙ sum_more i h
      ∙ omega (arith, no_cent_lost i (omega arith), share_at i h, quotient_rises i h) ∙ ap (quotient pool claims) (add-one i)

  pub whole : sum (pro_rata pool claims) ≡ min pool (sum claims)
  whole =
      sym (ap sum (take_all (length claims) (pro_rata pool claims) (omega (arith, each))))
      ∙ no_cent_lost (length claims) (omega arith) ∙ quotient_all

  -- a quotient rises by the claim at most
  rises_by_claim : (i : ℕ) → i < length claims → quotient pool claims (i + 1) ≤ quotient pool claims i + slice_index claims i
  rises_by_claim i h =
      let p = min pool (sum claims) in
      let s = sum claims in
      let x = slice_index_or claims i 0 in
      let reach : p * sum (take (i + 1) claims) ≡ p * sum (take i claims) + p * x = ap (λ c. p * c) (reached_more i h) ∙ mul-add p (sum (take i claims)) x in
      let part : p * x ≤ s * x = mul-le-mul_right x (omega arith) in
      ⊎_elim
      (λ some. omega (arith, rises (p * sum (take (i + 1) claims)) (p * sum (take i claims) + x * s) s (omega (arith, mul_comm x s)), add-mul-div_right (p * sum (take i claims)) x some))
      (λ none. let nil : s ≡ 0 = omega arith in omega (arith, ap (λ d. p * sum (take (i + 1) claims) / d) nil ∙ div-zero (p * sum (take (i + 1) claims))))
      (cases_lt 0 s)

  pub within : (i : ℕ) → slice_index (pro_rata pool claims) i ≤ slice_index claims i
  within i =
      ⊎_elim (λ h. omega (arith, share_at i h, rises_by_claim i h))
      (λ h. omega (arith, get_or_past (pro_rata pool claims) i 0 (omega (arith, each))))
      (cases_lt i (length claims))

  pub within_a_cent : WithinACent pool claims (pro_rata pool claims)
  within_a_cent i h some =
      let p = min pool (sum claims) in
      let s = sum claims in
      let before = quotient pool claims i in
      let after = quotient pool claims (i + 1) in
      let share = slice_index_or (pro_rata pool claims) i 0 in
      let joined : share + before ≡ after = omega (arith, share_at i h, quotient_rises i h) in
      let scaled : share * s + before * s ≡ after * s = sym (add-mul share before s) ∙ ap (λ n. n * s) joined in
      let reach : p * sum (take (i + 1) claims) ≡ p * sum (take i claims) + p * slice_index_or claims i 0 = ap (λ c. p * c) (reached_more i h) ∙ mul-add p (sum (take i claims)) (slice_index claims i) in
      let low = div-mul-le_self (p * sum (take i claims)) s in
      let low' = div-mul-le_self (p * sum (take (i + 1) claims)) s in
      let high : p * sum (take i claims) < before * s + s = lt-div-mul-add some in
      let high' : p * sum (take (i + 1) claims) < after * s + s = lt-div-mul-add some in
      (omega arith, omega arith)

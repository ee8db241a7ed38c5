-- What by_rank gives: as many shares as claims, none above its claim, the pool spent as far as claims go, earlier claims first.
-- Assumes nothing.
use Rattle.std.specs.Prelude.{◌≡◌, ℕ, zero, suc, ◌+◌, ◌-◌, ◌<◌, ◌≤◌, min, List, [], ◌∷◌, ◌++◌, length, take, drop, sum, slice_index, slice_index_or, slice_set, refl}
use Rattle.std.proofs.Common.{ap, sym, ◌∙◌, ⊎_elim, not-suc-le-zero, le_of_suc-le-suc, arith}
use Rattle.std.proofs.lemmas.List.{take_more_set, take_all, at_drop_more, at_drop_all, append_assoc, append-nil}
use Rattle.std.proofs.lemmas.List.Sums.{sum_by-cons}
use Rattle.std.proofs.lemmas.Bool.{cases_lt}
use Rattle.sharing.specs.Rank.{by_rank, EarlierFirst}

pub each : (pool : ℕ) (claims : List ℕ) → length (by_rank pool claims) ≡ length claims
each pool [] = refl
each pool (c ∷ cs) = ap suc (each (pool - c) cs)

pub within : (pool : ℕ) (claims : List ℕ) (i : ℕ) → slice_index (by_rank pool claims) i ≤ slice_index claims i
within pool [] i = omega arith
within pool (c ∷ cs) zero = omega arith
within pool (c ∷ cs) (suc i) = within (pool - c) cs i

pub whole : (pool : ℕ) (claims : List ℕ) → sum (by_rank pool claims) ≡ min pool (sum claims)
whole pool [] = omega arith
whole pool (c ∷ cs) =
    omega (arith, sum_by-cons (λ x. x) (min pool c) (by_rank (pool - c) cs), sum_by-cons (λ x. x) c cs, whole (pool - c) cs)

spent : (claims : List ℕ) (i : ℕ) → slice_index (by_rank 0 claims) i ≡ 0
spent [] i = refl
spent (c ∷ cs) zero = omega arith
spent (c ∷ cs) (suc i) = (ap (λ p. slice_index (by_rank p cs) i) (omega arith)) ∙ spent cs i

-- something is left for a later claim only where the first is met in full
left_over : (pool c : ℕ) (claims : List ℕ) (i : ℕ) → 0 < slice_index (by_rank (pool - c) claims) i → c ≤ pool
left_over pool c claims i some =
    ⊎_elim (λ short. absurd (omega (arith, spent claims i, ap (λ p. slice_index (by_rank p claims) i) (gone short)))) (λ h. h)
    (cases_lt pool c)
  where
    gone : pool < c → pool - c ≡ 0
    gone short = omega arith

pub earlier_first : (pool : ℕ) (claims : List ℕ) → EarlierFirst claims (by_rank pool claims)
earlier_first pool [] i j before some = refl
earlier_first pool (c ∷ cs) zero j before some = absurd (not-suc-le-zero before)
earlier_first pool (c ∷ cs) (suc i) zero before some = omega (arith, left_over pool c cs i some)
earlier_first pool (c ∷ cs) (suc i) (suc j) before some = earlier_first (pool - c) cs i j (le_of_suc-le-suc before) some

-- one more claim met out of what is left
pub met_more : (left : ℕ) (claims into shares : List ℕ) (i met : ℕ) → met ≡ min left (slice_index claims i) → i < length claims → i < length into
    → take i into ++ by_rank left (drop i claims) ≡ shares
    → take (i + 1) (slice_set into i met) ++ by_rank (left - met) (drop (i + 1) claims) ≡ shares
met_more left claims into shares i met e h k inv =
    let x = slice_index_or claims i 0 in
    let shorter : left - met ≡ left - x = omega arith in
    ap (λ p. take (i + 1) (slice_set into i met) ++ by_rank p (drop (i + 1) claims)) shorter
    ∙ ap (λ front. front ++ by_rank (left - x) (drop (i + 1) claims)) (take_more_set into i met k)
    ∙ append_assoc (take i into) (met ∷ []) (by_rank (left - x) (drop (i + 1) claims))
    ∙ ap (λ m. take i into ++ (m ∷ by_rank (left - x) (drop (i + 1) claims))) e
    ∙ ap (λ back. take i into ++ back) (sym (at_drop_more (by_rank left) claims i 0 h))
    ∙ inv

-- all claims met
pub met_all : (left : ℕ) (claims into shares : List ℕ) (i : ℕ) → length claims ≤ i → length into ≤ i → take i into ++ by_rank left (drop i claims) ≡ shares → into ≡ shares
met_all left claims into shares i h k inv =
    sym (append-nil into)
    ∙ ap (λ front. front ++ []) (sym (take_all i into k))
    ∙ ap (λ back. take i into ++ back) (sym (at_drop_all (by_rank left) claims i h))
    ∙ inv

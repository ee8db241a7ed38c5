-- What last_first gives: as many shares as claims, none above its claim, the pool spent as far as claims go.
-- Assumes nothing.
use Rattle.std.specs.Prelude.{◌≡◌, ℕ, zero, suc, ◌+◌, ◌-◌, ◌<◌, ◌≤◌, min, List, [], ◌∷◌, ◌++◌, length, take, drop, sum, slice_index, slice_set, refl}
use Rattle.std.proofs.Common.{ap, sym, ◌∙◌, arith}
use Rattle.std.proofs.lemmas.List.{take_more_set, take_all, at_drop_more, at_drop_all, append_assoc, append-nil}
use Rattle.std.proofs.lemmas.List.Sums.{sum_by-cons}
use Rattle.trials.specs.LastFirst.{last_first}

pub each : (pool : ℕ) (claims : List ℕ) → length (last_first pool claims) ≡ length claims
each pool [] = refl
each pool (c ∷ cs) = ap suc (each pool cs)

pub within : (pool : ℕ) (claims : List ℕ) (i : ℕ) → slice_index (last_first pool claims) i ≤ slice_index claims i
within pool [] i = omega arith
within pool (c ∷ cs) zero = omega arith
within pool (c ∷ cs) (suc i) = within pool cs i

pub whole : (pool : ℕ) (claims : List ℕ) → sum (last_first pool claims) ≡ min pool (sum claims)
whole pool [] = omega arith
whole pool (c ∷ cs) =
    omega (arith, sum_by-cons (λ x. x) (min (pool - sum cs) c) (last_first pool cs), sum_by-cons (λ x. x) c cs, whole pool cs)

-- what the claims from a place on come to
pub from_here : (claims : List ℕ) (i : ℕ) → i < length claims → sum (drop i claims) ≡ slice_index claims i + sum (drop (i + 1) claims)
from_here claims i h = at_drop_more sum claims i 0 h ∙ sum_by-cons (λ x. x) (slice_index claims i) (drop (i + 1) claims)

-- one more claim met out of what the later ones leave
pub met_more : (pool : ℕ) (claims into shares : List ℕ) (i later met : ℕ) → later ≡ sum (drop (i + 1) claims) → met ≡ min (pool - later) (slice_index claims i)
    → i < length claims → i < length into
    → take i into ++ last_first pool (drop i claims) ≡ shares
    → take (i + 1) (slice_set into i met) ++ last_first pool (drop (i + 1) claims) ≡ shares
met_more pool claims into shares i later met l e h k inv =
    let back = last_first pool (drop (i + 1) claims) in
    ap (λ front. front ++ back) (take_more_set into i met k)
    ∙ append_assoc (take i into) (met ∷ []) back
    ∙ ap (λ m. take i into ++ (m ∷ back)) (e ∙ ap (λ n. min (pool - n) (slice_index claims i)) l)
    ∙ ap (λ rest. take i into ++ rest) (sym (at_drop_more (last_first pool) claims i 0 h))
    ∙ inv

-- all claims met
pub met_all : (pool : ℕ) (claims into shares : List ℕ) (i : ℕ) → length claims ≤ i → length into ≤ i → take i into ++ last_first pool (drop i claims) ≡ shares → into ≡ shares
met_all pool claims into shares i h k inv =
    sym (append-nil into)
    ∙ ap (λ front. front ++ []) (sym (take_all i into k))
    ∙ ap (λ back. take i into ++ back) (sym (at_drop_all (last_first pool) claims i h))
    ∙ inv

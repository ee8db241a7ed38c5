-- The lines of an input, one after the other.
-- Assumes nothing.
use Rattle.std.proofs.Common.{◌≡◌, ℕ, zero, suc, ◌+◌, ◌-◌, ◌<◌, ◌≤◌, max, Bool, false, true, List, [], ◌∷◌, eqb, length, get_or, take, drop, Some, None, sym, refl, ap, ◌∙◌, ⊎_elim, arith}
use Rattle.std.proofs.lemmas.Bool.{cases_Bool, cases_lt, cond-false, cond-true, lt-ltb}
use Rattle.std.proofs.lemmas.List.{take_rest}
use Rattle.std.proofs.lemmas.List.Quantifiers.{position-Some}
use Rattle.std.proofs.lemmas.List.Sums.{fails_before_first}
use Rattle.std.specs.List.{position, position_or_len}
use Rattle.text.specs.Session.{lines, onto}
use Rattle.std.proofs.lemmas.Option.{none-some}

length-onto : (b : ℕ) (ls : List (List ℕ)) → length (onto b ls) ≡ max 1 (length ls)
length-onto b [] = refl
length-onto b (l ∷ ls) = omega arith

-- every line has a byte of its own
pub few : (input : List ℕ) → length (lines input) ≤ length input
few [] = omega arith
few (b ∷ bs) =
    let rest = few bs in
    ⊎_elim
    (λ e. omega (arith, ap length (cond-true (eqb b 10) ([] ∷ lines bs) (onto b (lines bs)) e), rest))
    (λ e. omega (arith, ap length (cond-false (eqb b 10) ([] ∷ lines bs) (onto b (lines bs)) e), length-onto b (lines bs), rest))
    (cases_Bool (eqb b 10))

-- byte 10 ends the first line
pub cut : (bs : List ℕ) (n : ℕ) → n < length bs → eqb (get_or bs n 0) 10 ≡ true → ((k : ℕ) → k < n → eqb (get_or bs k 0) 10 ≡ false)
    → lines bs ≡ take n bs ∷ lines (drop (suc n) bs)
cut [] n some stops others = absurd (omega arith)
cut (b ∷ bs) zero some stops others = cond-true (eqb b 10) _ _ stops
cut (b ∷ bs) (suc n) some stops others =
    cond-false (eqb b 10) _ _ (others 0 (omega arith)) ∙ ap (onto b) (cut bs n (omega arith) stops (λ k h. others (suc k) (omega arith)))

-- no byte 10 ends the last line
uncut : (bs : List ℕ) → 0 < length bs → ((k : ℕ) → k < length bs → eqb (get_or bs k 0) 10 ≡ false) → lines bs ≡ bs ∷ []
uncut [] some others = absurd (omega arith)
uncut (b ∷ []) some others = cond-false (eqb b 10) _ _ (others 0 (omega arith))
uncut (b ∷ c ∷ bs) some others =
    cond-false (eqb b 10) _ _ (others 0 (omega arith)) ∙ ap (onto b) (uncut (c ∷ bs) (omega arith) (λ k h. others (suc k) (omega arith)))

pub first_cut : (bs : List ℕ) (n : ℕ) → position (λ b. eqb b 10) bs ≡ Some n → lines bs ≡ take n bs ∷ lines (take (length bs - (n + 1)) (drop (n + 1) bs))
first_cut bs n found =
    let at = position-Some (λ b. eqb b 10) bs n 0 found in
    let one_on : suc n ≡ n + 1 = omega arith in
    cut bs n at.0 at.1 at.2 ∙ ap (λ k. take n bs ∷ lines (drop k bs)) one_on ∙ ap (λ xs. take n bs ∷ lines xs) (sym (take_rest bs (n + 1)))

pub first_uncut : (bs : List ℕ) → 0 < length bs → position (λ b. eqb b 10) bs ≡ None → lines bs ≡ bs ∷ []
first_uncut bs some none =
    let p : ℕ → Bool = λ b. eqb b 10 in
    ⊎_elim
    (λ found. absurd (none-some _ (sym none ∙ cond-true _ _ _ (lt-ltb (position_or_len p bs) (length bs) found))))
    (λ past. uncut bs some (λ k h. fails_before_first p bs k 0 (omega arith)))
    (cases_lt (position_or_len p bs) (length bs))

-- A number and its text.
-- Assumes nothing.
use Rattle.std.proofs.Common.{◌≡◌, ℕ, zero, suc, ◌+◌, ◌*◌, ◌/◌, ◌%◌, ◌^◌, ◌<◌, ◌≤◌, true, false, not, ◌||◌, eqb, leb, List, [], ◌∷◌, length, get_or, ℤ, pos, negsuc, neg_ℤ, decimal, sym, refl, ap, ◌∙◌, subst, ⊎_elim, pow-suc, arith, lit<, rules}
use Rattle.std.proofs.Math.Nat.{suc-ne-zero}
use native.Mathlib.Nat.{one-le-pow}
use lib.Signed.{mag}
use Rattle.std.specs.Fmt.{digits as written_digits, digit_glyph, signed_decimal, digits_onto as spelt}
use Rattle.std.proofs.lemmas.Fmt.{decimal_digit, decimal_nonempty, decimal-digits_value, digits_decimal, first_decimal, length-decimal-le, digits_value-decimal}
use Rattle.std.proofs.lemmas.Str.Parse.{IsNumeralModel, numerals_by_fold, digits_value_short}
use Rattle.std.proofs.lemmas.Bool.{and_from, and_parts, both_ways, cases_Bool, cases_eq, cond_both, cond-false, eq-eqb, eqb-true, le-leb, ne_eqb, not_from_false, not-true, or_cases, or_right}
use Rattle.text.specs.Tokens.{digits, magnitude, natural, numeral, read_on, value}
use Rattle.text.proofs.Runs.{digit_bounds, digits_minus, digits_plain, natural_parts, numeral_minus, numeral_plain, value_minus}

own : IsNumeralModel (λ ds. digits ds ≡ true) (read_on 0)
own = numerals_by_fold _ (search rules) read_on (search rules)

-- what is written has a digit for each power of ten

spelt_longer : (k n : ℕ) (acc : List ℕ) → length acc ≤ length (spelt k 10 false n acc)
spelt_longer zero n acc = omega arith
spelt_longer (suc k) n acc =
    cond_both (eqb (n / 10) 0) (digit_glyph false (n % 10) ∷ acc) (spelt k 10 false (n / 10) (digit_glyph false (n % 10) ∷ acc)) (λ bs. length acc ≤ length bs)
    (λ _. omega arith) (λ _. let h = spelt_longer k (n / 10) (digit_glyph false (n % 10) ∷ acc) in omega arith)

spelt_some : (k n : ℕ) (acc : List ℕ) → length acc < length (spelt (suc k) 10 false n acc)
spelt_some k n acc =
    cond_both (eqb (n / 10) 0) (digit_glyph false (n % 10) ∷ acc) (spelt k 10 false (n / 10) (digit_glyph false (n % 10) ∷ acc)) (λ bs. length acc < length bs)
    (λ _. omega arith) (λ _. let h = spelt_longer k (n / 10) (digit_glyph false (n % 10) ∷ acc) in omega arith)

spelt_small : (k m n : ℕ) (acc : List ℕ) → m < k → length (spelt k 10 false n acc) ≤ m + length acc → n < 10 ^ m
spelt_small zero m n acc h short = absurd (omega arith)
spelt_small (suc k) zero n acc h short = let some = spelt_some k n acc in omega arith
spelt_small (suc k) (suc m) n acc h short =
    let e : 10 ^ suc m ≡ 10 ^ m * 10 = pow-suc 10 m in
    let one : 1 ≤ 10 ^ m = one-le-pow m 10 (lit< tt) in
    ⊎_elim
    (λ t. let z = eqb-true (n / 10) 0 t in omega arith)
    (λ t.
    let fewer : length (spelt k 10 false (n / 10) (digit_glyph false (n % 10) ∷ acc)) ≤ suc m + length acc = subst (λ bs. length bs ≤ suc m + length acc) (cond-false _ _ _ t) short in
    let small : n / 10 < 10 ^ m = spelt_small k m (n / 10) (digit_glyph false (n % 10) ∷ acc) (omega arith) (omega arith) in
    omega arith)
    (cases_Bool (eqb (n / 10) 0))

short_decimal : (n : ℕ) → length (decimal n) ≤ 16 → n < 2 ^ 64
unfolding written_digits
short_decimal n h = let small : n < 10 ^ 16 = spelt_small 64 16 n [] (omega arith) (omega arith) in omega arith

-- a number with no minus

natural_decimal : (n : ℕ) → n < 10 ^ 15 → natural (decimal n) ≡ true
natural_decimal n h =
    let few : n < 2 ^ 64 = omega arith in
    and_from _ _ (le-leb 1 (length (decimal n)) (decimal_nonempty n few))
    (and_from _ _ (le-leb (length (decimal n)) 15 (length-decimal-le 15 n (omega arith) h few)) (and_from _ _ (digits_decimal own n few) (no_zero n few)))
  where
    no_zero : (n : ℕ) → n < 2 ^ 64 → (eqb (length (decimal n)) 1 || not (eqb (get_or (decimal n) 0 0) 48)) ≡ true
    no_zero zero h = ap (λ bs. eqb (length bs) 1 || not (eqb (get_or bs 0 0) 48)) (decimal_digit 0 (omega arith))
    no_zero (suc n) h =
        or_right (eqb (length (decimal (suc n))) 1) _
        (not_from_false _ (ne_eqb (get_or (decimal (suc n)) 0 0) 48 (λ e. let first = first_decimal (suc n) (omega arith) h in omega arith)))

decimal-natural : (bs : List ℕ) → natural bs ≡ true → decimal (magnitude bs) ≡ bs
decimal-natural bs h =
    let p = natural_parts bs h in
    let few : magnitude bs < 10 ^ 15 = digits_value_short own bs 15 p.2 p.1 in
    decimal-digits_value own bs p.2 p.0 (no_zero (and_parts (digits bs) _ (and_parts (leb (length bs) 15) _ (and_parts (leb 1 (length bs)) _ h).1).1).1) (omega arith)
  where
    no_zero : (eqb (length bs) 1 || not (eqb (get_or bs 0 0) 48)) ≡ true → get_or bs 0 0 ≡ 48 → length bs ≡ 1
    no_zero e first =
        ⊎_elim (λ t. eqb-true (length bs) 1 t) (λ t. absurd (both_ways (eqb (get_or bs 0 0) 48) (not-true _ t) (eq-eqb (get_or bs 0 0) 48 first)))
        (or_cases (eqb (length bs) 1) _ e)

plain_value : (bs : List ℕ) → (get_or bs 0 0 ≡ 45 → ⊥) → value bs ≡ pos (magnitude bs)
plain_value bs plain = cond-false _ _ _ (ne_eqb (get_or bs 0 0) 45 plain)

no_minus : (bs : List ℕ) → digits bs ≡ true → get_or bs 0 0 ≡ 45 → ⊥
no_minus [] h e = suc-ne-zero 0 cc
no_minus (b ∷ bs) h e = let low = (digit_bounds b (and_parts _ _ h).0).0 in omega arith

-- a number, with a minus or without

pub numeral_signed : (z : ℤ) → mag z + 1 < 10 ^ 15 → numeral (signed_decimal z) ≡ true
numeral_signed (pos n) h =
    let few : n < 2 ^ 64 = omega arith in
    numeral_plain (decimal n) (no_minus (decimal n) (digits_decimal own n few)) ∙ natural_decimal n (omega arith)
numeral_signed (negsuc n) h =
    and_from _ _ (natural_decimal (suc n) (omega arith))
    (not_from_false _ (ne_eqb (get_or (decimal (suc n)) 0 0) 48 (λ e. let first = first_decimal (suc n) (omega arith) (omega arith) in omega arith)))

signed_minus : (m : ℕ) (ds : List ℕ) → decimal m ≡ ds → (get_or ds 0 0 ≡ 48 → ⊥) → 45 ∷ ds ≡ signed_decimal (neg_ℤ (pos m))
signed_minus zero ds e first = absurd (first (ap (λ bs. get_or bs 0 0) (sym e ∙ decimal_digit 0 (omega arith))))
signed_minus (suc m) ds e first = ap (λ bs. 45 ∷ bs) (sym e)

pub signed_value : (bs : List ℕ) → numeral bs ≡ true → bs ≡ signed_decimal (value bs)
signed_value [] h = absurd (both_ways (natural []) refl h)
signed_value (b ∷ ds) h =
    ⊎_elim
    (λ e.
    let p = and_parts (natural ds) _ (sym (numeral_minus (b ∷ ds) e) ∙ h) in
    ap (λ b. b ∷ ds) e
    ∙ signed_minus (magnitude ds) ds (decimal-natural ds p.0) (λ first. both_ways (eqb (get_or ds 0 0) 48) (not-true _ p.1) (eq-eqb (get_or ds 0 0) 48 first))
    ∙ ap signed_decimal (sym (value_minus (b ∷ ds) e)))
    (λ plain. sym (decimal-natural (b ∷ ds) (sym (numeral_plain (b ∷ ds) plain) ∙ h)) ∙ ap signed_decimal (sym (plain_value (b ∷ ds) plain)))
    (cases_eq b 45)

-- a number has few digits, so that it is below the most that is written whole
pub few_digits : (bs : List ℕ) → numeral bs ≡ true → length bs ≤ 16
few_digits [] h = omega arith
few_digits (b ∷ ds) h =
    ⊎_elim (λ e. let p = digits_minus (b ∷ ds) e h in omega (arith, p.1)) (λ plain. let p = digits_plain (b ∷ ds) plain h in omega (arith, p.1)) (cases_eq b 45)

pub value_signed : (z : ℤ) → numeral (signed_decimal z) ≡ true → value (signed_decimal z) ≡ z
value_signed (pos n) h =
    let few : n < 2 ^ 64 = short_decimal n (few_digits (decimal n) h) in
    plain_value (decimal n) (no_minus (decimal n) (digits_decimal own n few)) ∙ ap pos (digits_value-decimal own n few)
value_signed (negsuc n) h =
    let more = few_digits (45 ∷ decimal (suc n)) h in
    let few : suc n < 2 ^ 64 = short_decimal (suc n) (omega arith) in
    ap (λ m. neg_ℤ (pos m)) (digits_value-decimal own (suc n) few)

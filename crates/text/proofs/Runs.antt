-- What a run is, one byte after the other.
-- Assumes nothing.
use Rattle.std.proofs.Common.{◌≡◌, ℕ, ◌+◌, ◌^◌, ◌<◌, ◌≤◌, true, not, ◌&&◌, eqb, List, length, get_or, drop, pos, neg_ℤ, sym, ◌∙◌, arith, lit<}
use native.Mathlib.Nat.{pow-le-pow_right}
use Rattle.std.proofs.lemmas.List.{at_drop_more}
use Rattle.std.proofs.lemmas.Bool.{and_parts, cond-false, cond-true, eq-eqb, leb-true, ne_eqb}
use Rattle.text.specs.Bytes.{within}
use Rattle.text.specs.Tokens.{digits, magnitude, natural, numeral, value}

-- the next of digits that are left, and what is left behind it
pub next_digit : (bs : List ℕ) (i : ℕ) → i < length bs → digits (drop i bs) ≡ true
    → (within 48 57 (get_or bs i 0) ≡ true) × (digits (drop (i + 1) bs) ≡ true)
next_digit bs i h e = and_parts (within 48 57 (get_or bs i 0)) (digits (drop (i + 1) bs)) (sym (at_drop_more digits bs i 0 h) ∙ e)

pub digit_bounds : (b : ℕ) → within 48 57 b ≡ true → (48 ≤ b) × (b ≤ 57)
digit_bounds b e = let p = and_parts _ _ e in (leb-true 48 b p.0, leb-true b 57 p.1)

pub short : (n i k : ℕ) → n < 10 ^ i → i ≤ k → n < 10 ^ k
short n i k h le = let up : 10 ^ i ≤ 10 ^ k = pow-le-pow_right (lit< tt) le in omega arith

pub natural_parts : (bs : List ℕ) → natural bs ≡ true → (1 ≤ length bs) × (length bs ≤ 15) × (digits bs ≡ true)
natural_parts bs e =
    let p = and_parts _ _ e in
    let q = and_parts _ _ p.1 in
    (leb-true 1 (length bs) p.0, leb-true (length bs) 15 q.0, (and_parts _ _ q.1).0)

pub numeral_minus : (bs : List ℕ) → get_or bs 0 0 ≡ 45 → numeral bs ≡ (natural (drop 1 bs) && not (eqb (get_or (drop 1 bs) 0 0) 48))
numeral_minus bs e = cond-true _ _ _ (eq-eqb (get_or bs 0 0) 45 e)

pub numeral_plain : (bs : List ℕ) → (get_or bs 0 0 ≡ 45 → ⊥) → numeral bs ≡ natural bs
numeral_plain bs plain = cond-false _ _ _ (ne_eqb (get_or bs 0 0) 45 plain)

-- the digits of a number
pub digits_minus : (bs : List ℕ) → get_or bs 0 0 ≡ 45 → numeral bs ≡ true → (digits (drop 1 bs) ≡ true) × (length (drop 1 bs) ≤ 15)
digits_minus bs e h = let p = natural_parts (drop 1 bs) (and_parts _ _ (sym (numeral_minus bs e) ∙ h)).0 in (p.2, p.1)

pub digits_plain : (bs : List ℕ) → (get_or bs 0 0 ≡ 45 → ⊥) → numeral bs ≡ true → (digits bs ≡ true) × (length bs ≤ 15)
digits_plain bs plain h = let p = natural_parts bs (sym (numeral_plain bs plain) ∙ h) in (p.2, p.1)

pub value_minus : (bs : List ℕ) → get_or bs 0 0 ≡ 45 → value bs ≡ neg_ℤ (pos (magnitude (drop 1 bs)))
value_minus bs e = cond-true _ _ _ (eq-eqb (get_or bs 0 0) 45 e)

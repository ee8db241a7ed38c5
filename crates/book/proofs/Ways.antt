-- What tests of ranges tell. Assumes nothing.
use Rattle.std.proofs.Common.{◌≡◌, ℕ, zero, suc, ◌+◌, ◌-◌, ◌*◌, ◌/◌, ◌≤◌, min, Bool, true, false, cond, ltb, ◌⊎◌, ℤ, pos, negsuc, ◌+ℤ◌, ◌-ℤ◌, neg_ℤ, nat_abs, ◌≤ℤ◌, refl, inl, inr, ⊎_elim, mul_comm, mul-le-mul_left, arith}
use native.Mathlib.Nat.{div-le_of_le-mul}
use lib.Signed.{lt_z}
use Rattle.std.specs.Int.{int_max}
use Rattle.std.proofs.lemmas.Int.{clamps, ints}
use Rattle.std.proofs.lemmas.Bool.{both_ways, cond_both, le-ltb, or_parts}
use Rattle.payment.specs.Rule.{Between}
use Rattle.payment.specs.Stand.{award_most, cap_base_most, commitment_most}
use Rattle.book.specs.Account.{EitherWay, RangedTerms}
use Rattle.book.specs.Class.{both}
use Rattle.book.specs.Close.{above_zero, total_of}
use Rattle.book.specs.Entries.{renewed}
use Rattle.book.specs.Limits.{balance_least, off_way}
use Rattle.book.specs.Small.{Tight}
use Rattle.book.specs.declared.account.Ledger.{Ledger}
use Rattle.book.specs.declared.account.Terms.{Terms}
use Rattle.book.specs.declared.class.ByClass.{ByClass}

pub not_off : (most z : ℤ) → off_way most z ≡ false → EitherWay most z
not_off most z within =
    let low : lt_z z (neg_ℤ most) ≡ false = (or_parts (lt_z z (neg_ℤ most)) (lt_z most z) within).0 in
    let high : lt_z most z ≡ false = (or_parts (lt_z z (neg_ℤ most)) (lt_z most z) within).1 in
    (grind (arith, ints), grind (arith, ints))

above_le : (n : ℕ) (z : ℤ) → n ≤ above_zero z → (n ≡ 0) ⊎ (pos n ≤ℤ z)
above_le n (pos m) h = inr (omega (arith, ints))
above_le n (negsuc m) h = inl (omega arith)

-- a sum paid in that is no more than what is owed leaves the general balance within its limit
pub credited_within : (most : ℕ) (general entries : ℤ) (claims d a cents : ℕ) → 1000000000 ≤ most
    → EitherWay (pos most) general → EitherWay (pos 1000000000) entries
    → cents ≤ above_zero (neg_ℤ (general +ℤ entries +ℤ pos claims -ℤ pos (d + a)))
    → EitherWay (pos most) (general +ℤ pos (cents - (min cents d + min (cents - d) a)))
credited_within most general entries claims d a cents large (low, high) (low', high') owed = (
  omega (arith, ints, low),
  ⊎_elim (λ none. omega (arith, ints, high, none)) (λ some. omega (arith, ints, high, some, low'))
      (above_le cents (neg_ℤ (general +ℤ entries +ℤ pos claims -ℤ pos (d + a))) owed),
)

pub above_owed : (z : ℤ) → lt_z z (pos 0) ≡ true → above_zero (neg_ℤ z) ≡ nat_abs z
above_owed (pos n) e = absurd (both_ways (lt_z (pos n) (pos 0)) (le-ltb n 0 (omega arith)) e)
above_owed (negsuc n) e = refl

-- a part of what is owed is no more than all of it
pub part_within : (owed fall base : ℕ) → fall ≤ base → owed * fall / base ≤ owed
part_within owed fall base h = div-le_of_le-mul base (omega (arith, mul-le-mul_left owed h, mul_comm owed base))

pub above_most : (z : ℤ) → balance_least ≤ℤ z → above_zero (neg_ℤ z) ≤ 2000000000
above_most (pos n) h = omega (arith, above_none n)
  where
    above_none : (n : ℕ) → above_zero (neg_ℤ (pos n)) ≡ 0
    above_none zero = refl
    above_none (suc n) = refl
above_most (negsuc n) h = omega (arith, ints, h)

pub renewed_ranged : (year commitment : ℕ) (award : ℤ) (ready : Bool) (t : Terms) → EitherWay award_most award → commitment ≤ commitment_most → RangedTerms t
    → RangedTerms (renewed year award commitment ready t)
renewed_ranged year commitment award ready t ranged within (_, _, low, high) =
    let base = cond (ltb 0 commitment) (int_max (pos 0) award) (int_max t.cap_base award) in
    let fits : (pos 0 ≤ℤ base) × (base ≤ℤ cap_base_most) =
    cond_both (ltb 0 commitment) (int_max (pos 0) award) (int_max t.cap_base award) (λ z. (pos 0 ≤ℤ z) × (z ≤ℤ cap_base_most))
    (λ _. (omega (arith, ints, clamps), omega (arith, ints, clamps, ranged.1)))
    (λ _. (omega (arith, ints, clamps, low), omega (arith, ints, clamps, ranged.1, high)))
    in
    (ranged, within, fits.0, fits.1)

pub not_under : (a b : ℤ) → lt_z a b ≡ false → b ≤ℤ a
not_under a b e = grind (arith, ints)

-- what a payment between zero and the total leaves is no further from zero than the total
pub left_within : (most : ℕ) (total payment : ℤ) → EitherWay (pos most) total → Between total payment → EitherWay (pos most) (total -ℤ payment)
left_within most (pos n) payment (low, high) between =
    let b = between.to_holder (omega (arith, ints)) in
    (omega (arith, ints, b.0, b.1, low), omega (arith, ints, b.0, b.1, high))
left_within most (negsuc n) payment (low, high) between =
    let b = between.from_holder (omega (arith, ints)) in
    (omega (arith, ints, b.0, b.1, low), omega (arith, ints, b.0, b.1, high))

pub total_within : (l : Ledger) (award : ℤ) (taken share : ByClass) → Tight l → EitherWay award_most award → both taken ≤ 4000000000 → both share ≤ 4000000000
    → EitherWay (pos 4000000000000) (total_of award taken share l)
total_within l award taken share tight award-within taken_within share-within =
    let g = tight.general in
    let e = tight.entries in (
      omega (arith, ints, g.0, e.0, award-within.0, taken_within, share-within),
      omega (arith, ints, g.1, e.1, award-within.1, taken_within, share-within),
    )

use Rattle.std.specs.Prelude.{int_le}
use Rattle.std.specs.Int.{int_min}
use Rattle.std.proofs.Common.{rules, ◌≡◌, ℤ, pos, true, false, to_z, of_z, w64, ◌*ℤ◌, arith}
use Rattle.std.proofs.lemmas.Int.{ints}
use Rattle.payment.specs.Layers.{turns_cap}
use Rattle.payment.specs.Rule.{most_paid}
use Rattle.payment.specs.Stand.{Stand}
use Rattle.payment.specs.Standing.{view}
use Rattle.payment.proofs.layers.CapLayer.turn.Goals as goal

capped : (s : Stand) (award below most paid : ℤ) → int_le (pos 0) award ≡ true → award ≡ s.award → most ≡ most_paid s → paid ≡ int_min below most → paid ≡ turns_cap s below
capped s award below most paid capping a m p = search rules

free : (s : Stand) (award below : ℤ) → int_le (pos 0) award ≡ false → award ≡ s.award → below ≡ turns_cap s below
free s award below not_capping a = search rules

pub returns-then-award-ge0 : goal.returns-then-award-ge0
returns-then-award-ge0 c =
    let award = to_z w64 (of_z w64 c.award.result) in
    let paid = to_z w64 (of_z w64 c.min.result) in
    let twice = to_z w64 (of_z w64 (pos 2 *ℤ to_z w64 (of_z w64 c.cap_base.result))) in
    record { value = capped (view c.args.standing.now) award c.args.below twice paid c.if-award-ge0.true (search rules) (omega (arith, ints)) (search rules) }

pub returns-else-award-ge0 : goal.returns-else-award-ge0
returns-else-award-ge0 c =
    let award = to_z w64 (of_z w64 c.award.result) in
    let rest = free (view c.args.standing.now) award c.args.below c.if-award-ge0.false (search rules) in
    search rules

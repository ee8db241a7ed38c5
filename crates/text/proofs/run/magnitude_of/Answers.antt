use Rattle.std.proofs.Common.{get_or, arith}
use Rattle.text.proofs.Runs.{digit_bounds, next_digit, short}
use Rattle.text.proofs.run.magnitude_of.Goals as goal

pub overflow_mul-n : goal.overflow_mul-n
overflow_mul-n c = omega (arith, short c.loop-b.n c.loop-b.b-index 14 c.loop-b.invariant.2 (omega (arith, c.requires.1)))

pub overflow_add-n : goal.overflow_add-n
overflow_add-n c =
    let bounds = digit_bounds (get_or c.args.run.now c.loop-b.b-index 0) (next_digit c.args.run.now c.loop-b.b-index c.loop-b-test.true c.loop-b.invariant.1).0 in
    omega (arith, bounds.1, short c.loop-b.n c.loop-b.b-index 14 c.loop-b.invariant.2 (omega (arith, c.requires.1)))

pub returns-clause-bound : goal.returns-clause-bound
returns-clause-bound c = let h = short c.loop-b.n c.loop-b.b-index 15 c.loop-b.invariant.2 (omega (arith, c.requires.1)) in omega arith

use Rattle.std.proofs.Common.{◌≡◌, ◌+◌, ◌-◌, ◌<◌, eqb, length, take, drop, Some, None, sym, ap, ◌∙◌, arith, rules}
use Rattle.std.specs.List.{position}
use Rattle.text.specs.Session.{lines}
use Rattle.text.proofs.Lining.{first_cut, first_uncut}
use Rattle.text.proofs.input.LinesIterator.next.Goals as goal

pub returns-in-Some-clause-steps : goal.returns-in-Some-clause-steps
returns-in-Some-clause-steps c =
    let found : position (λ b. eqb b 10) c.args.self.now.0.now ≡ Some c.in-Some.end = sym c.line_end.ensures.value ∙ c.in-Some.is in
    first_cut c.args.self.now.0.now c.in-Some.end found

pub returns-in-Some-clause-goes : goal.returns-in-Some-clause-goes
returns-in-Some-clause-goes c =
    let rest = c.args.self.now.0.now in
    let found : position (λ b. eqb b 10) rest ≡ Some c.in-Some.end = sym c.line_end.ensures.value ∙ c.in-Some.is in
    let fewer : length (lines (take (length rest - (c.in-Some.end + 1)) (drop (c.in-Some.end + 1) rest))) < length (lines rest) =
    omega (arith, ap length (first_cut rest c.in-Some.end found)) in
    search rules

pub returns-in-None-clause-steps : goal.returns-in-None-clause-steps
returns-in-None-clause-steps c =
    let none : position (λ b. eqb b 10) c.args.self.now.0.now ≡ None = sym c.line_end.ensures.value ∙ c.in-None.is in
    first_uncut c.args.self.now.0.now (search rules) none

pub returns-in-None-clause-goes : goal.returns-in-None-clause-goes
returns-in-None-clause-goes c =
    let rest = c.args.self.now.0.now in
    let none : position (λ b. eqb b 10) rest ≡ None = sym c.line_end.ensures.value ∙ c.in-None.is in
    let one : 0 < length (lines rest) = omega (arith, ap length (first_uncut rest (search rules) none)) in
    search rules

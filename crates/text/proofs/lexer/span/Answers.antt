use Rattle.std.proofs.Common.{◌≡◌, rules, arith, tests}
use Rattle.std.proofs.lemmas.Iterator.{IsFirst-from_position, YieldsList-from_slice}
use Rattle.text.specs.Bytes.{sort}
use Rattle.text.proofs.lexer.span.Goals as goal

pub returns-clause-all : goal.returns-clause-all
returns-clause-all c =
    let first = IsFirst-from_position _ _ _ (λ b. sort b ≡ c.args.sort → ⊥) (λ b. sort b ≡ c.args.sort) c.position.ensures.ran (YieldsList-from_slice c.args.bytes.now cc) (λ x q k. search (rules, tests)) (λ x q k. search (rules, tests)) in
    grind arith

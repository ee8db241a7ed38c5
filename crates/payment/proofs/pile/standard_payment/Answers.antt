use Rattle.std.proofs.Common.{rules, ◌≡◌, to_z, of_z, w64, ◌∙◌}
use Rattle.payment.proofs.pile.standard_payment.Goals as goal

pub returns-clause-value : goal.returns-clause-value
returns-clause-value c =
    let total : to_z w64 (of_z w64 c.args.total) ≡ c.args.total = search rules in
    let paid : to_z w64 (of_z w64 c.payment.result) ≡ c.payment.result = search rules in
    paid ∙ rw total at c.payment.ensures.value

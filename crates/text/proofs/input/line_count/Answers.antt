use Rattle.std.proofs.Common.{inl, arith}
use Rattle.text.proofs.Lining.{few}
use Rattle.text.proofs.input.line_count.Goals as goal

pub count-requires-clause-fits : goal.count-requires-clause-fits
count-requires-clause-fits c = inl (omega (arith, few c.args.input.now))

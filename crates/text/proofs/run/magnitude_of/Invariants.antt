use Rattle.std.proofs.Common.{◌≡◌, ◌^◌, ◌<◌, true, drop}
use Rattle.text.specs.Tokens.{digits, read_on}
use Rattle.text.proofs.run.magnitude_of.Given as goal

abbrev pub invariant-loop-b : goal.invariant-loop-b
invariant-loop-b l =
    (read_on l.n (drop l.b-index l.run) ≡ read_on 0 l.run) × (digits (drop l.b-index l.run) ≡ true) × (l.n < 10 ^ l.b-index)

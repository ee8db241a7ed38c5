use Rattle.std.proofs.Common.{◌≡◌, true, pos, nat_abs, arith, rules}
use lib.Signed.{lt_z}
use Rattle.book.proofs.Ways.{above_owed, part_within}
use Rattle.book.proofs.account.invoice.invoice_of.Goals as goal

pub returns-clause-bound : goal.returns-clause-bound
returns-clause-bound c =
    let carried = c.args.carried in
    let owed : c.unsigned_abs-2.result ≡ nat_abs carried = search rules in
    let owes : lt_z carried (pos 0) ≡ true = search rules in
    omega (arith, above_owed carried owes, owed, part_within c.unsigned_abs-2.result c.min-fall.result c.unsigned_abs-base.result (omega (arith, c.min-fall.ensures)))

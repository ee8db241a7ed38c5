use Rattle.std.proofs.Common.{◌≡◌, pos, ◌-ℤ◌, sym, ap, subst, arith, w64, to_z, of_z, rules}
use Rattle.std.proofs.lemmas.Int.{ints}
use Rattle.book.specs.Account.{EitherWay}
use Rattle.book.specs.Class.{minus}
use Rattle.book.specs.Close.{total_of}
use Rattle.book.proofs.Ways.{left_within, total_within}
use Rattle.book.proofs.account.closing.Reckoning.closed.Goals as goal

pub returns-clause-small : goal.returns-clause-small
returns-clause-small c =
    let r = c.args.self.now in
    let l = r.ledger in
    let total = total_of r.award r.taken r.share l in
    let claims : c.minus.result ≡ minus l.claims r.share = search rules in
    let charges : c.minus-2.result ≡ minus l.charges r.taken = search rules in
    let left : to_z w64 (of_z w64 (to_z w64 (of_z w64 c.total.result) -ℤ to_z w64 (of_z w64 c.args.payment))) ≡ total -ℤ c.args.payment = search rules in
    let far = total_within l r.award r.taken r.share r.tight r.ranged (omega (arith, r.tight.charges, r.owed.0, r.owed.1)) (omega (arith, r.tight.claims, r.claimed.0, r.claimed.1)) in
    let near = left_within 4000000000000 total c.args.payment far c.requires in
    record {
      general = subst (EitherWay (pos 4000000000000)) (sym left) near;
      entries = (omega (arith, ints), omega (arith, ints));
      claims = omega (arith, ap (λ p. p.delivery) claims, ap (λ p. p.availability) claims, r.tight.claims);
      charges = omega (arith, ap (λ p. p.delivery) charges, ap (λ p. p.availability) charges, r.tight.charges);
    }

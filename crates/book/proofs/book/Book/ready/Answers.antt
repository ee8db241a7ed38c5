use Rattle.std.proofs.Common.{vec_items, rules}
use Rattle.book.specs.Calls.{marked}
use Rattle.book.proofs.Sound.{kept_terms}
use Rattle.book.proofs.book.Book.ready.Goals as goal

pub put-requires : goal.put-requires
put-requires g c =
    let b = c.args.self.now in
    let xs = vec_items b.accounts in
    let spot = c.in_ok-spot.spot in
    let found = c.in_ok-spot.ensures.cases in (
      search rules,
      (
        found.within,
        kept_terms g.row.N b.closes b.pools xs c.args.asset (marked spot.account.terms) spot b.kept found
            spot.ranged,
      ),
    )

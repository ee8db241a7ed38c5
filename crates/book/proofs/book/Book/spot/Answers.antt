use Rattle.std.proofs.Common.{◌≡◌, vec_items, sym, subst}
use Rattle.std.proofs.lemmas.List.{get_or_read}
use Rattle.book.specs.Account.{RangedTerms, opened}
use Rattle.book.specs.Accounts.{at}
use Rattle.book.specs.Small.{Small}
use Rattle.book.proofs.Sound.{small_from, tight_each}
use Rattle.book.proofs.book.Book.spot.Goals as goal

pub invariant_of-result : goal.invariant_of-result
invariant_of-result g c =
    let b = c.args.self.now in
    let xs = vec_items b.accounts in
    let i = c.args.place in
    let read : c.index.result.now ≡ at i xs = get_or_read xs _ _ c.requires c.index.ensures (opened 0 0) in
    record {
      ranged = subst (λ a. RangedTerms a.terms) (sym read) (b.kept.terms i c.requires);
      small = subst (λ a. Small a.ledger) (sym read) (small_from (at i xs).ledger (tight_each g.row.N b.closes b.pools xs b.kept b.in_time i c.requires));
    }

use Rattle.std.proofs.Common.{◌≤◌, vec_items, sym, subst, arith}
use Rattle.sharing.specs.Rule.{most_cents}
use Rattle.book.specs.Account.{RangedTerms}
use Rattle.book.specs.Accounts.{Each, charged}
use Rattle.book.specs.Small.{Tight}
use Rattle.book.proofs.Sound.{tight_each}
use Rattle.book.proofs.book.Book.pool_of.Goals as goal

pub taken_by_all-requires : goal.taken_by_all-requires
taken_by_all-requires g c =
    let b = c.args.self.now in
    subst (λ xs. Each (λ a. Tight a.ledger) xs × (Each (λ a. RangedTerms a.terms) xs × (charged c.args.class xs ≤ most_cents))) (sym c.deref.ensures.value)
    (tight_each g.row.N b.closes b.pools (vec_items b.accounts) b.kept b.in_time, (b.kept.terms, omega (arith, b.kept.charges c.args.class)))

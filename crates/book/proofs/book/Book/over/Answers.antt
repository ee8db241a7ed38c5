use Rattle.std.proofs.Common.{◌+◌, ◌≤◌, set, vec_items, sym, subst, rules}
use Rattle.sharing.specs.Rule.{most_cents}
use Rattle.book.specs.Account.{ledger_of}
use Rattle.book.specs.Accounts.{claimed}
use Rattle.book.specs.Calls.{on_ledger}
use Rattle.book.specs.Kept.{Kept}
use Rattle.book.proofs.Sound.{kept_claiming}
use Rattle.book.proofs.book.Book.over.Goals as goal

pub put-requires : goal.put-requires
put-requires g c =
    let b = c.args.self.now in
    let xs = vec_items b.accounts in
    let spot = c.in_ok-spot.spot in
    let found = c.in_ok-spot.ensures.value in
    let room : claimed c.args.class xs + c.args.cents ≤ most_cents = search rules in (
      search rules,
      (
        found.within,
        subst (λ pair. Kept g.row.N b.closes b.pools (set xs spot.place (on_ledger (λ l. ledger_of l.general l.entries pair l.charges) spot.account)))
            (sym c.more-account.ensures.value)
            (kept_claiming g.row.N b.closes b.pools xs c.args.asset c.args.cents c.args.class spot b.kept found room),
      ),
    )

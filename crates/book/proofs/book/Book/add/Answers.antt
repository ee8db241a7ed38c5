use Rattle.std.proofs.Common.{◌≡◌, true, false, set, ◌+ℤ◌, vec_items, sym, subst, Err, rules}
use Rattle.book.specs.Book.{view}
use Rattle.book.specs.Calls.{on_ledger}
use Rattle.book.specs.Entries.{adding}
use Rattle.book.specs.Kept.{Kept}
use Rattle.book.specs.Limits.{entries_most, off_way}
use Rattle.book.proofs.Sound.{kept_adding}
use Rattle.book.specs.declared.refusal.Refusal.TheVariants.{PastLimit}
use Rattle.book.proofs.Steps.{added_past}
use Rattle.book.proofs.Ways.{not_off}
use Rattle.book.proofs.book.Book.add.Goals as goal

pub put-requires : goal.put-requires
put-requires g c =
    let b = c.args.self.now in
    let xs = vec_items b.accounts in
    let spot = c.args.spot in
    let found = c.requires.0 in
    let account : c.in_ok-account.account ≡ on_ledger (adding c.args.cents) spot.account = search rules in
    let within : off_way entries_most (spot.account.ledger.entries +ℤ c.args.cents) ≡ false = search rules in (
      search rules,
      (
        found.within,
        subst (λ a. Kept g.row.N b.closes b.pools (set xs spot.place a)) (sym account)
            (kept_adding g.row.N b.closes b.pools xs spot.account.asset c.args.cents spot b.kept found
            (not_off entries_most (spot.account.ledger.entries +ℤ c.args.cents) within)),
      ),
    )

pub returns-in_err-account : goal.returns-in_err-account
returns-in_err-account g c =
    let spot = c.args.spot in
    let past : off_way entries_most (spot.account.ledger.entries +ℤ c.args.cents) ≡ true = search rules in
    let refused : c.from_residual.result ≡ Err PastLimit = search rules in
    record { cases = added_past (view c.args.self.now) spot.account.asset c.args.cents spot c.from_residual.result c.requires.0 past refused }

pub returns : goal.returns
returns g c = record { cases = (search rules, search rules) }

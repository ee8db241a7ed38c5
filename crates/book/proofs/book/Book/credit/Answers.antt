use Rattle.std.proofs.Common.{◌≡◌, set, vec_items, sym, ap, ◌∙◌, subst, arith, rules}
use Rattle.book.specs.Accounts.{charge}
use Rattle.book.specs.Book.{view}
use Rattle.book.specs.Calls.{on_ledger, on_terms}
use Rattle.book.specs.Class.{plus}
use Rattle.book.specs.Entries.{credited, settled}
use Rattle.book.specs.Kept.{Kept}
use Rattle.book.specs.declared.class.Class.TheVariants.{Availability, Delivery}
use Rattle.book.proofs.Sound.{kept_crediting, spot_within}
use Rattle.book.proofs.Steps.{paid_at}
use Rattle.book.proofs.book.Book.credit.Goals as goal

pub plus-pools-requires : goal.plus-pools-requires
plus-pools-requires g c =
    let b = c.args.self.now in
    let xs = vec_items b.accounts in
    let d = spot_within (charge Delivery) xs c.args.spot.account.asset c.args.spot c.requires.0 in
    let a = spot_within (charge Availability) xs c.args.spot.account.asset c.args.spot c.requires.0 in
    (omega (arith, d, b.kept.charges Delivery, c.settled.ensures.bound.0), omega (arith, a, b.kept.charges Availability, c.settled.ensures.bound.1))

pub put-requires : goal.put-requires
put-requires g c =
    let b = c.args.self.now in
    let xs = vec_items b.accounts in
    let spot = c.args.spot in
    let found = c.requires.0 in
    let account : c.credited.result ≡ on_ledger (credited c.args.cents) spot.account = search rules in
    let pooled : c.plus-pools.result ≡ plus b.pools (settled c.args.cents spot.account.ledger.charges) = search rules in (
      search rules,
      (
        found.within,
        subst (λ pools. Kept g.row.N b.closes pools (set xs spot.place (on_terms (λ _. c.args.terms) c.credited.result))) (sym pooled)
            (subst (λ a. Kept g.row.N b.closes (plus b.pools (settled c.args.cents spot.account.ledger.charges)) (set xs spot.place (on_terms (λ _. c.args.terms) a))) (sym account)
            (kept_crediting g.row.N b.closes b.pools xs spot.account.asset c.args.cents c.args.terms spot b.kept found c.requires.1.0 c.requires.1.1.0)),
      ),
    )

pub returns : goal.returns
returns g c =
    let b = c.args.self.now in
    let spot = c.args.spot in
    let account : c.credited.result ≡ on_ledger (credited c.args.cents) spot.account = search rules in
    let pooled : c.plus-pools.result ≡ plus b.pools (settled c.args.cents spot.account.ledger.charges) = search rules in
    record {
      after =
          c.put.ensures.after
          ∙ paid_at (view b) spot.account.asset c.args.cents c.args.terms spot c.plus-pools.result
          (on_terms (λ _. c.args.terms) c.credited.result) c.requires.0
          (ap (on_terms (λ _. c.args.terms)) account) pooled;
    }

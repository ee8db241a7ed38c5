use Rattle.std.proofs.Common.{◌≡◌, [], ◌∷◌, None, refl, subst, w64, rules}
use Rattle.std.proofs.lemmas.Int.{to_z-of_z}
use Rattle.book.specs.Book.{view}
use Rattle.book.specs.Calls.{resolution, unlisted}
use Rattle.book.specs.Outcome.{Added}
use Rattle.book.specs.Refusal.{first}
use Rattle.book.proofs.Steps.{entries_step}
use Rattle.book.proofs.book.Book.post.Goals as goal

pub returns : goal.returns
returns g c =
    let s = view c.args.self.now in
    let none : first ((unlisted s c.args.asset, 8) ∷ []) ≡ None = search rules in
    record {
      step =
          entries_step g.row.N g.R.SharingRule.shares g.P.PaymentRule.pays s (view c.add.new.self) resolution c.args.asset c.args.cents c.add.result
          ((unlisted s c.args.asset, 8) ∷ []) refl refl none
          (subst (λ n. Added s n c.args.cents c.add.result (view c.add.new.self)) c.in_ok-spot.ensures.cases.its
          (subst (λ z. Added s c.in_ok-spot.spot.account.asset z c.add.result (view c.add.new.self)) (to_z-of_z w64 c.args.cents c.ranges.cents) c.add.ensures.cases));
    }

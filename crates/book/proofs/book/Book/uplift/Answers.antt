use Rattle.std.proofs.Common.{◌≡◌, ℕ, ◌≤◌, Bool, ◌||◌, List, [], ◌∷◌, pos, None, vec_items, refl, subst, arith, w64, rules}
use Rattle.std.proofs.lemmas.Int.{ints, to_z_pos}
use Rattle.book.specs.Book.{view}
use Rattle.book.specs.Calls.{idle, unlisted, uplift as uplifting}
use Rattle.book.specs.Limits.{asset_most, entry_most, off}
use Rattle.book.specs.Outcome.{Added}
use Rattle.book.specs.Refusal.{first}
use Rattle.book.proofs.Places.{own}
use Rattle.book.proofs.Steps.{entries_step}
use Rattle.book.proofs.book.Book.uplift.Goals as goal

pub add-requires : goal.add-requires
add-requires g c =
    let most : c.args.cents ≤ 1000000000 = search rules in
    (search rules, (own c.args.asset (vec_items c.args.self.now.accounts) c.in_ok-spot.spot c.in_ok-spot.ensures.cases, (omega (arith, ints, most), omega (arith, ints, most))))

pub returns : goal.returns
returns g c =
    let s = view c.args.self.now in
    let most : c.args.cents ≤ 1000000000 = search rules in
    let early : List (Bool × ℕ) = (off asset_most c.args.asset || off entry_most c.args.cents, 4) ∷ (unlisted s c.args.asset, 8) ∷ (idle s c.args.asset, 11) ∷ [] in
    let none : first early ≡ None = search rules in
    record {
      step =
          entries_step g.row.N g.R.SharingRule.shares g.P.PaymentRule.pays s (view c.add.new.self) uplifting c.args.asset (pos c.args.cents) c.add.result
          early refl refl none
          (subst (λ n. Added s n (pos c.args.cents) c.add.result (view c.add.new.self)) c.in_ok-spot.ensures.cases.its
          (subst (λ z. Added s c.in_ok-spot.spot.account.asset z c.add.result (view c.add.new.self)) (to_z_pos w64 c.args.cents (omega (arith, most))) c.add.ensures.cases));
    }

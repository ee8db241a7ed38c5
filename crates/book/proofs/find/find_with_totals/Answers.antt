use Rattle.std.proofs.Common.{◌+◌, sym, ap, ◌∙◌, subst, arith, MatchOption}
use Rattle.std.proofs.lemmas.List.Sums.{sum_by_more}
use Rattle.book.specs.Account.{opened}
use Rattle.std.specs.Option.{option_or}
use Rattle.book.specs.Find.{FoundAt}
use Rattle.book.specs.Accounts.{at, charge, claim}
use Rattle.book.proofs.Places.{Before, found_all, found_more}
use Rattle.book.proofs.find.find_with_totals.Goals as goal

pub loop-i-preserved : goal.loop-i-preserved
loop-i-preserved c =
    let xs = c.args.accounts.now in
    let i = c.loop-i.i in
    let class = c.args.class in (
      subst (λ place. MatchOption place (Before c.args.asset (i + 1) xs) (λ k. FoundAt c.args.asset xs k (at k xs))) (sym (c.or-place.ensures ∙ ap (option_or c.loop-i.place) c.then_some.ensures))
          (found_more c.args.asset xs i c.loop-i.place c.loop-i-test.true c.loop-i.invariant.0),
      omega (arith, c.of-claims.ensures.value, sum_by_more (claim class) xs i (opened 0 0) c.loop-i-test.true),
      omega (arith, c.of-charges.ensures.value, sum_by_more (charge class) xs i (opened 0 0) c.loop-i-test.true),
    )

pub returns-clause-cases : goal.returns-clause-cases
returns-clause-cases c = found_all c.args.asset c.args.accounts.now c.loop-i.i c.loop-i.place c.loop-i-test.false c.loop-i.invariant.0

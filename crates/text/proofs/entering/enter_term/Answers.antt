use Rattle.std.proofs.Common.{sym, refl, subst, w64}
use Rattle.std.proofs.lemmas.Int.{to_z-of_z}
use Rattle.std.proofs.lemmas.Bool.{cond-false, ne_eqb}
use Rattle.book.specs.Book.{view}
use Rattle.book.specs.Calls.{Step, renewal}
use Rattle.text.proofs.entering.enter_term.Goals as goal

pub returns-clause-made : goal.returns-clause-made
returns-clause-made g c rows =
    record {
      event = renewal c.args.asset c.args.award c.args.commitment c.args.ready c.in_ok-cents.cents;
      asks = refl;
      step = subst
          (λ z. Step g.row.N g.R.SharingRule.shares g.P.PaymentRule.pays (view c.args.book.now)
          (renewal c.args.asset z c.args.commitment c.args.ready c.in_ok-cents.cents) (view c.term.new.self))
          (to_z-of_z w64 c.args.award c.ranges.award) c.in_ok-cents.ensures.step;
      prints = λ n. sym (cond-false _ _ _ (ne_eqb c.in_ok-cents.cents 0 c.if-cents-eq0.false));
    }

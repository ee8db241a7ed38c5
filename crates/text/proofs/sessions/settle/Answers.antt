use Rattle.std.proofs.Common.{vec_items, subst}
use Rattle.book.specs.Book.{view}
use Rattle.text.specs.Settling.{CarriedOn}
use Rattle.text.proofs.Tellings.{settled}
use Rattle.text.proofs.sessions.settle.Goals as goal

pub returns : goal.returns
returns g c =
    record {
      law = settled c.«open».ensures.law c.«open».ensures.worked
          (subst
          (λ s. CarriedOn g.row.N g.R.SharingRule.shares g.P.PaymentRule.pays s c.args.input.now (vec_items c.in_ok-out.out) (view c.session.new.book))
          c.in_ok-book.ensures.value c.in_ok-out.ensures.transcript);
    }

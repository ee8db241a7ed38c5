use Rattle.std.proofs.Common.{sym, subst, w64, SFits, rules}
use Rattle.std.proofs.lemmas.Int.{to_z-of_z}
use Rattle.book.specs.Book.{view}
use Rattle.text.specs.Answer.{Made}
use Rattle.text.specs.Entering.{booked}
use Rattle.text.specs.declared.form.Form.TheVariants.{Term}
use Rattle.text.proofs.entering.enter.Goals as goal

pub returns-in-Term : goal.returns-in-Term
returns-in-Term g c =
    let f : SFits w64 c.in-Term.award = search rules in
    let t = c.in-Term in
    record {
      made = subst
          (λ form. Made g.row.N g.R.SharingRule.shares g.P.PaymentRule.pays form (view c.args.book.now) (booked c.enter_term.result) c.args.rows.now (view c.enter_term.new.book))
          (sym t.is)
          (subst
          (λ z. Made g.row.N g.R.SharingRule.shares g.P.PaymentRule.pays (Term t.asset z t.commitment t.ready) (view c.args.book.now) (booked c.enter_term.result)
          c.args.rows.now (view c.enter_term.new.book))
          (to_z-of_z w64 t.award f) (c.enter_term.ensures.made c.args.rows.now));
      room = c.enter_term.ensures.room;
    }

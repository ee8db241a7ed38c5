use Rattle.std.proofs.Common.{rules}
use Rattle.book.specs.History.{History}
use Rattle.book.specs.Law.{EveryClose, Run, Whole, Worked}
use Rattle.book.specs.State.{State}
use Rattle.book.proofs.Wholes.{every_row, every_run}
use Rattle.book.proofs.book.Book.open.Given as given
use Rattle.book.proofs.book.Book.open.Goals as goal

law : (g : given.Over) (h : History) (s : State) → Run g.row.N g.R.SharingRule.shares g.P.PaymentRule.pays h s
    → Whole g.R.SharingRule.shares g.P.PaymentRule.pays g.P.PaymentRule.limits h s
law g =
    every_run g.row.N g.R.SharingRule.shares g.met.R.SharingRule.each g.met.R.SharingRule.within g.met.R.SharingRule.whole
    g.P.PaymentRule.pays g.P.PaymentRule.limits g.met.P.PaymentRule.owes

worked : (g : given.Over) (h : History) (s : State) → Run g.row.N g.R.SharingRule.shares g.P.PaymentRule.pays h s → EveryClose Worked h
worked g =
    every_row g.row.N g.R.SharingRule.shares g.met.R.SharingRule.each g.met.R.SharingRule.within g.met.R.SharingRule.whole
    g.P.PaymentRule.pays g.P.PaymentRule.limits g.met.P.PaymentRule.owes

pub returns-in_err-accounts : goal.returns-in_err-accounts
returns-in_err-accounts g c = record { value = search rules; law = law g; worked = worked g }

pub returns : goal.returns
returns g c = record { value = search rules; law = law g; worked = worked g }

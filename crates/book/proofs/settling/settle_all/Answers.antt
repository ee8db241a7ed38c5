use Rattle.std.proofs.Common.{◌≡◌, get_or, ap, ◌∙◌, arith}
use Rattle.book.specs.Account.{opened}
use Rattle.book.specs.Accounts.{at}
use Rattle.book.specs.Class.{by_class}
use Rattle.book.specs.Closable.{due_at}
use Rattle.book.specs.Close.{account_after, due, row}
use Rattle.book.proofs.Closes.{blank_row, fill_more, filled_all, filled_front, rest_more}
use Rattle.book.proofs.settling.settle_all.Goals as goal

pub loop-i-preserved : goal.loop-i-preserved
loop-i-preserved g c =
    let pays = g.P.PaymentRule.pays in
    let year = c.args.year in
    let xs = c.args.accounts.now in
    let d = c.args.delivery.now in
    let a = c.args.availability.now in
    let i = c.loop-i.i in
    let same : due (at i c.loop-i.accounts) (by_class (get_or d i 0) (get_or a i 0)) ≡ due_at i xs d a = ap (λ x. due x (by_class (get_or d i 0) (get_or a i 0))) (c.loop-i.invariant.1 i (omega arith)) in (
      fill_more (λ k. account_after pays year (due_at k xs d a)) c.loop-i.accounts i c.settle_one-settled.result.account (opened 0 0) (omega arith)
          (c.settle_one-settled.ensures.account ∙ ap (account_after pays year) same) c.loop-i.invariant.0,
      rest_more c.loop-i.accounts xs i c.settle_one-settled.result.account (opened 0 0) c.loop-i.invariant.1,
      (λ k e. fill_more (λ k. row pays year (due_at k xs d a)) c.loop-i.rows i c.settle_one-settled.result.row e (omega arith)
          (c.settle_one-settled.ensures.row ∙ ap (row pays year) same) (λ k. c.loop-i.invariant.2 k e) k),
      λ k e. rest_more c.loop-i.rows c.args.rows.now i c.settle_one-settled.result.row e (λ k. c.loop-i.invariant.3 k e) k,
    )

pub returns : goal.returns
returns g c =
    let pays = g.P.PaymentRule.pays in
    let year = c.args.year in
    let xs = c.args.accounts.now in
    let d = c.args.delivery.now in
    let a = c.args.availability.now in
    record {
      accounts = filled_all (account_after pays year) xs d a c.loop-i.accounts (opened 0 0) (omega arith) (λ k h. c.loop-i.invariant.0 k (omega arith));
      rows =
          filled_front (row pays year) xs d a c.loop-i.rows c.args.rows.now blank_row (omega arith) (omega arith)
          (λ k h. c.loop-i.invariant.2 k blank_row (omega arith)) (λ k h. c.loop-i.invariant.3 k blank_row (omega arith));
    }

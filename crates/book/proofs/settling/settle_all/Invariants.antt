use Rattle.std.proofs.Common.{◌≡◌, ℕ, ◌<◌, ◌≤◌, get_or}
use Rattle.book.specs.Accounts.{at}
use Rattle.book.specs.Closable.{due_at}
use Rattle.book.specs.Close.{account_after, row}
use Rattle.book.specs.declared.row.Row.{Row}
use Rattle.book.proofs.settling.settle_all.Given as goal

abbrev pub invariant-loop-i : goal.invariant-loop-i
invariant-loop-i g l =
    ((k : ℕ) → k < l.i → at k l.accounts ≡ account_after g.P.PaymentRule.pays l.year (due_at k l.initial.accounts l.delivery l.availability))
    × ((k : ℕ) → l.i ≤ k → at k l.accounts ≡ at k l.initial.accounts)
    × ((k : ℕ) (d : Row) → k < l.i → get_or l.rows k d ≡ row g.P.PaymentRule.pays l.year (due_at k l.initial.accounts l.delivery l.availability))
    × ((k : ℕ) (d : Row) → l.i ≤ k → get_or l.rows k d ≡ get_or l.initial.rows k d)

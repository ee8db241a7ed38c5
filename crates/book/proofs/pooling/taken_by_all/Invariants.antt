use Rattle.std.proofs.Common.{◌≡◌, ◌≤◌, take, sum_by}
use Rattle.book.specs.Accounts.{charged}
use Rattle.book.specs.Close.{taken_of}
use Rattle.book.proofs.pooling.taken_by_all.Given as goal

abbrev pub invariant-loop-account : goal.invariant-loop-account
invariant-loop-account l =
    (l.sum ≡ sum_by (taken_of l.year l.class) (take l.account-index l.accounts))
    × (l.sum ≤ charged l.class (take l.account-index l.accounts))

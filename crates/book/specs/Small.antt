-- Ledgers whose amounts leave room for the arithmetic on them.
--   Small   for any one act
--   Tight   for a whole close
-- Assumes nothing.
use Rattle.std.specs.Prelude.{◌≤◌, pos}
use Rattle.book.specs.Account.{EitherWay}
use Rattle.book.specs.Class.{both}
use Rattle.book.specs.declared.account.Ledger.{Ledger}

pub record Small (l : Ledger) : Type 0 where
  pub general : EitherWay (pos 4000000000000) l.general
  pub entries : EitherWay (pos 4000000000) l.entries
  pub claims : both l.claims ≤ 4000000000
  pub charges : both l.charges ≤ 4000000000

pub record Tight (l : Ledger) : Type 0 where
  pub general : EitherWay (pos 3000000000000) l.general
  pub entries : EitherWay (pos 4000000000) l.entries
  pub claims : both l.claims ≤ 4000000000
  pub charges : both l.charges ≤ 4000000000

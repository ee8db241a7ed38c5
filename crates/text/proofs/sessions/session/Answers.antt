use Rattle.std.proofs.Common.{arith, rules}
use Rattle.book.specs.Book.{view}
use Rattle.text.proofs.Lining.{few}
use Rattle.text.proofs.Tellings.{carried_on, not_read}
use Rattle.text.proofs.sessions.session.Goals as goal

pub returns-then-input-gt-INPUT_MOST : goal.returns-then-input-gt-INPUT_MOST
returns-then-input-gt-INPUT_MOST g c = record { transcript = not_read g.row.N g.R.SharingRule.shares g.P.PaymentRule.pays (view c.args.book.now) c.args.input.now c.unread.result (omega arith) c.unread.ensures.made }

pub room_for-room-requires : goal.room_for-room-requires
room_for-room-requires g c = (search rules, omega (arith, few c.args.input.now))

pub returns : goal.returns
returns g c = record { transcript = carried_on (omega arith) c.tell_lines.ensures.told.1 }

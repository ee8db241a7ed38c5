use Rattle.std.specs.Iterator.Adapters.{enumerate_count, enumerate_source}
use Rattle.book.specs.Book.{view}
use Rattle.text.specs.Session.{lines}
use Rattle.text.specs.Telling.{LinesTold}
use Rattle.text.proofs.sessions.tell_lines.Given as goal

abbrev pub invariant-loop-told : goal.invariant-loop-told
invariant-loop-told g l =
    LinesTold g.row.N g.R.SharingRule.shares g.P.PaymentRule.pays (view l.initial.book) (lines l.input) (lines (enumerate_source l.told-iterator).0.now)
    (enumerate_count l.told-iterator) (view l.book) l.transcript.bytes

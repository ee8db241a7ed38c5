use Rattle.std.proofs.Common.{◌≡◌, ◌+◌, [], ◌∷◌, vec_len, vec_capacity, ◌≤◌, length, sym, subst, rules}
use Rattle.std.specs.Iterator.Adapters.{enumerate_count, enumerate_source}
use Rattle.book.specs.Book.{view}
use Rattle.text.specs.Session.{Session, begun, lines}
use Rattle.text.specs.Telling.{LineTold, needed}
use Rattle.text.proofs.Tellings.{told_more}
use Rattle.text.proofs.sessions.tell_lines.Goals as goal

pub loop-told-init : goal.loop-told-init
loop-told-init g c =
    let it = c.into_iter-told-iterator.result in
    let all : lines (enumerate_source it).0.now ≡ lines c.args.input.now = search rules in
    let none : 0 ≡ enumerate_count it = search rules in
    record {
      told = [];
      made = [];
      session = subst (λ bs. Session g.row.N g.R.SharingRule.shares g.P.PaymentRule.pays (view c.args.book.now) [] bs [] (view c.args.book.now)) (sym c.requires.0) begun;
      whole = all;
      count = none;
      room = subst (λ ls. vec_len c.args.transcript.now.bytes + needed (length ls) (view c.args.book.now) ≤ vec_capacity c.args.transcript.now.bytes) (sym all) c.requires.1.1;
    }

pub loop-told-preserved : goal.loop-told-preserved
loop-told-preserved g c =
    let was = c.loop-told.told-iterator in
    let here : lines (enumerate_source was).0.now ≡ c.in-Some.line.now ∷ lines (enumerate_source c.next.new.self).0.now = search rules in
    let one_on : enumerate_count c.next.new.self ≡ enumerate_count was + 1 = search rules in
    let number : c.in-Some.told ≡ enumerate_count was = search rules in
    told_more c.loop-told.invariant here one_on
    (subst
    (λ n. LineTold g.row.N g.R.SharingRule.shares g.P.PaymentRule.pays (n + 1) c.in-Some.line.now (view c.loop-told.book) c.loop-told.transcript.bytes (view c.tell_line.new.book) c.tell_line.new.transcript.bytes)
    number c.tell_line.ensures.told)

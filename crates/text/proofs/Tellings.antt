-- A session, one line after the other.
-- Assumes nothing.
use Rattle.std.proofs.Common.{◌≡◌, ℕ, ◌+◌, ◌<◌, ◌≤◌, List, [], ◌∷◌, ◌++◌, length, ℤ, IfOk, Ok, Err, vec_items, Result, Vec, sym, refl, ap, ◌∙◌, subst, append_assoc, arith, MatchResult}
use Rattle.std.specs.declared.alloc.Global.{Global}
use Rattle.std.proofs.lemmas.List.{append-nil, length-append, length_push}
use Rattle.payment.specs.Rule.{Limit}
use Rattle.payment.specs.Stand.{Stand}
use Rattle.book.specs.History.{History}
use Rattle.book.specs.Law.{EveryClose, Run, Whole, Worked, begun as begun_run, then}
use Rattle.book.specs.State.{State, empty}
use Rattle.book.specs.declared.row.Row.{Row}
use Rattle.text.specs.Answer.{Came, Entered, text}
use Rattle.text.specs.Line.{fault_line}
use Rattle.text.specs.Session.{Session, Transcript, begun, faulty, input_most, lines, made, told, unread}
use Rattle.text.specs.Settling.{CarriedOn, Settled}
use Rattle.text.specs.Telling.{LineTold, LinesTold}
use Rattle.text.specs.declared.answer.Answer.{Answer}
use Rattle.text.specs.declared.fault.Fault.{Fault}
use Rattle.text.specs.declared.fault.Fault.TheVariants.{Book as ByBook, Form as InForm}
use Rattle.text.specs.declared.fault.FormFault.TheVariants.{Text as InText}
use Rattle.text.specs.declared.fault.TextFault.TheVariants.{LongInput}
use Rattle.text.proofs.Once.{only_one}

module _ {serves : ℕ} {rule : ℕ → List ℕ → List ℕ} {pays : Stand → ℤ → ℤ} {before : State} where
  -- a line more, of which the call was made
  entered_more : {ls : List (List ℕ)} {out : List ℕ} {h : History} {s s' : State} {l : List ℕ} {r : Result Answer Fault} {rows : List Row}
      → Session serves rule pays before ls out h s → Entered serves rule pays l s r rows s'
      → (h' : History) × Session serves rule pays before (ls ++ l ∷ []) (out ++ text (length ls + 1) r rows) h' s'
  entered_more {ls = ls} {out = out} {h = h} {s' = s'} {l = l} x c =
      let event = c.made.event in (
        event ∷ h,
        subst (λ bs. Session serves rule pays before (ls ++ l ∷ []) (out ++ bs) (event ∷ h) s') (sym (c.made.prints (length ls + 1)))
            (made x l c.form event s' c.reads c.made.asks c.made.step),
      )

  -- a line more
  session_more : {ls : List (List ℕ)} {out : List ℕ} {h : History} {s s' : State} (l : List ℕ) (r : Result Answer Fault) (rows : List Row)
      → Session serves rule pays before ls out h s → Came serves rule pays l s r rows s'
      → (h' : History) × Session serves rule pays before (ls ++ l ∷ []) (out ++ text (length ls + 1) r rows) h' s'
  session_more l (Ok answer) rows x c = entered_more x c
  session_more {ls = ls} {out = out} {h = h} l (Err (InForm fault)) rows x c =
      (h, subst (λ s. Session serves rule pays before (ls ++ l ∷ []) (out ++ text (length ls + 1) (Err (InForm fault)) rows) h s) (sym c.same) (faulty x l fault c.reads))
  session_more l (Err (ByBook why)) rows x c = entered_more x c

  pub told_more : {all left rest : List (List ℕ)} {l : List ℕ} {n m : ℕ} {s s' : State} {a b : Vec ℕ Global} → LinesTold serves rule pays before all left n s a
      → left ≡ l ∷ rest → m ≡ n + 1 → LineTold serves rule pays (n + 1) l s a s' b → LinesTold serves rule pays before all rest m s' b
  told_more {rest = rest} {l = l} {n = n} {s' = s'} {a = a} {b = b} x here one_on t =
      let next = session_more l t.answer t.rows x.session t.came in
      let items : vec_items b ≡ vec_items a ++ text (length x.told + 1) t.answer t.rows =
      t.added.items ∙ ap (λ m. vec_items a ++ text (m + 1) t.answer t.rows) (sym x.count) in
      record {
        told = x.told ++ l ∷ [];
        made = next.0;
        session = subst (λ bs. Session serves rule pays before (x.told ++ l ∷ []) bs next.0 s') (sym items) next.1;
        whole = append_assoc x.told (l ∷ []) rest ∙ ap (λ ls. x.told ++ ls) (sym here) ∙ x.whole;
        count = length_push x.told l ∙ ap (λ m. m + 1) x.count ∙ sym one_on;
        room = omega (
          arith,
          t.added.few,
          t.added.room,
          t.roomy.1,
          x.room,
          ap length here,
          b.ok.0,
          a.ok.0,
          ap length t.added.items,
          length-append (vec_items a) (text (n + 1) t.answer t.rows),
        );
      }

-- what a session entered and answered goes on from any history
session_runs : {serves : ℕ} {rule : ℕ → List ℕ → List ℕ} {pays : Stand → ℤ → ℤ} {before : State} {ls : List (List ℕ)} {out : List ℕ} {h : History} {s : State}
    → Session serves rule pays before ls out h s → (earlier : History) → Run serves rule pays earlier before → Run serves rule pays (h ++ earlier) s
session_runs begun earlier run = run
session_runs (faulty x l fault reads) earlier run = session_runs x earlier run
session_runs (made x l form e s' reads asks step) earlier run = then (session_runs x earlier run) step

pub carried_on : {serves : ℕ} {rule : ℕ → List ℕ → List ℕ} {pays : Stand → ℤ → ℤ} {before : State} {input out : List ℕ} {h : History} {s : State}
    → length input ≤ input_most → Session serves rule pays before (lines input) out h s → CarriedOn serves rule pays before input out s
carried_on {serves = serves} {rule = rule} {pays = pays} {before = before} {h = h} short x =
    record { history = h; transcript = told short x; only = only_one serves rule pays before (told short x); goes_on = session_runs x }

-- an input that is too long
pub not_read : (serves : ℕ) (rule : ℕ → List ℕ → List ℕ) (pays : Stand → ℤ → ℤ) (before : State) (input : List ℕ) {E : Type 0} (r : Result (Vec ℕ Global) E)
    → input_most < length input → IfOk r (λ out. vec_items out ≡ fault_line 0 (InForm (InText LongInput)))
    → MatchResult r (λ out. CarriedOn serves rule pays before input (vec_items out) before) (λ _. before ≡ before)
not_read serves rule pays before input (Ok out) long e =
    let x = subst (λ bs. Transcript serves rule pays before input bs [] before) (sym e) (unread long) in
    record {
      history = [];
      transcript = x;
      only = only_one serves rule pays before x;
      goes_on = λ earlier run. run;
    }
not_read serves rule pays before input (Err x) long e = refl

-- a session over a book that was empty
pub settled : {serves : ℕ} {rule : ℕ → List ℕ → List ℕ} {pays : Stand → ℤ → ℤ} {limits : List Limit} {input out : List ℕ} {s : State}
    → ((h : History) (s : State) → Run serves rule pays h s → Whole rule pays limits h s)
    → ((h : History) (s : State) → Run serves rule pays h s → EveryClose Worked h)
    → CarriedOn serves rule pays empty input out s → Settled serves rule pays limits input out s
settled {serves = serves} {rule = rule} {pays = pays} {s = s} law rowed x =
    let run : Run serves rule pays x.history s = subst (λ h. Run serves rule pays h s) (append-nil x.history) (x.goes_on [] begun_run) in
    record { history = x.history; transcript = x.transcript; only = x.only; run = run; whole = law x.history s run; worked = rowed x.history s run }

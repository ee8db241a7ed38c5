-- An input has one transcript.
-- Assumes nothing.
use Rattle.std.proofs.Common.{◌≡◌, ℕ, List, [], ◌∷◌, ◌++◌, length, ℤ, Some, None, Option, sym, refl, ap, ◌∙◌, subst, arith}
use Rattle.std.proofs.Math.Nat.{suc-ne-zero}
use Rattle.std.proofs.lemmas.List.{length_push, same_from_push}
use Rattle.payment.specs.Stand.{Stand}
use Rattle.book.specs.Account.{opened}
use Rattle.book.specs.Calls.{Call, Event, Step, after_entry, changed, close, closing, entered, entry, invoiced, list, marked, on_terms, opening, paid, ready, readying, refused, renewal, term, verdict}
use Rattle.book.specs.Close.{closed_state, residues, rows}
use Rattle.book.specs.Entries.{renewed}
use Rattle.book.specs.History.{History}
use Rattle.book.specs.State.{State, state, year}
use Rattle.text.specs.Reading.{reading}
use Rattle.text.specs.Session.{OnlyTranscript, Session, Transcript, begun, call_of, faulty, made, request, told, unread}

-- what comes of a call, and the state behind it
abbrev taken : (ℕ → List ℕ → List ℕ) → (Stand → ℤ → ℤ) → State → Call → Event × State
taken rule pays s (list asset holder) = (opening asset holder, state (s.accounts ++ opened asset holder ∷ []) s.pools s.closes)
taken rule pays s (term asset award commitment is_ready) =
    (renewal asset award commitment is_ready (invoiced s asset award), paid asset (invoiced s asset award) (on_terms (renewed (year s) award commitment is_ready)) s)
taken rule pays s (entry kind asset cents) = (entered kind asset cents, after_entry kind asset cents s)
taken rule pays s (ready asset) = (readying asset, changed asset (on_terms marked) s)
taken rule pays s (close places) = (closing places (rows rule pays s) (residues rule s), closed_state rule pays s)

abbrev ruled : (ℕ → List ℕ → List ℕ) → (Stand → ℤ → ℤ) → State → Call → Option ℕ → Event × State
ruled rule pays s call None = taken rule pays s call
ruled rule pays s call (Some number) = (refused call number, s)

abbrev comes : ℕ → (ℕ → List ℕ → List ℕ) → (Stand → ℤ → ℤ) → State → Call → Event × State
comes serves rule pays s call = ruled rule pays s call (verdict serves s call)

module _ (serves : ℕ) (rule : ℕ → List ℕ → List ℕ) (pays : Stand → ℤ → ℤ) where
  step_is : (s : State) (e : Event) (s' : State) → Step serves rule pays s e s' → (e, s') ≡ comes serves rule pays s (request e)
  step_is s (opening asset holder) s' h = ap (λ s'. (opening asset holder, s')) h.1 ∙ sym (ap (ruled rule pays s (list asset holder)) h.0)
  step_is s (renewal asset award commitment is_ready sum) s' h =
      ap (λ s'. (renewal asset award commitment is_ready sum, s')) h.2
      ∙ ap (λ n. (renewal asset award commitment is_ready n, paid asset n (on_terms (renewed (year s) award commitment is_ready)) s)) h.1
      ∙ sym (ap (ruled rule pays s (term asset award commitment is_ready)) h.0)
  step_is s (entered kind asset cents) s' h = ap (λ s'. (entered kind asset cents, s')) h.1 ∙ sym (ap (ruled rule pays s (entry kind asset cents)) h.0)
  step_is s (readying asset) s' h = ap (λ s'. (readying asset, s')) h.1 ∙ sym (ap (ruled rule pays s (ready asset)) h.0)
  step_is s (closing places written left) s' h =
      ap (λ s'. (closing places written left, s')) h.3
      ∙ ap (λ w. (closing places w left, closed_state rule pays s)) h.1
      ∙ ap (λ l. (closing places (rows rule pays s) l, closed_state rule pays s)) h.2
      ∙ sym (ap (ruled rule pays s (close places)) h.0)
  step_is s (refused call number) s' h = ap (λ s'. (refused call number, s')) h.1 ∙ sym (ap (ruled rule pays s call) h.0)

  step_one : (s : State) (e e' : Event) (s₁ s₂ : State) → request e ≡ request e' → Step serves rule pays s e s₁ → Step serves rule pays s e' s₂ → (e ≡ e') × (s₁ ≡ s₂)
  step_one s e e' s₁ s₂ same x y =
      let all : (e, s₁) ≡ (e', s₂) = step_is s e s₁ x ∙ ap (comes serves rule pays s) same ∙ sym (step_is s e' s₂ y) in
      (ap (λ p. p.0) all, ap (λ p. p.1) all)

  never_empty : (ls : List (List ℕ)) (l : List ℕ) → [] ≡ ls ++ l ∷ [] → ⊥
  never_empty ls l e = let n : 0 ≡ length (ls ++ l ∷ []) = ap length e in omega (arith, length_push ls l)

  record Same (out out' : List ℕ) (h h' : History) (s s' : State) : Type 0 where
    pub prints : out ≡ out'
    pub makes : h ≡ h'
    pub leaves : s ≡ s'

  module _ (before : State) where
    session_one : {ls ls' : List (List ℕ)} {out out' : List ℕ} {h h' : History} {s s' : State}
        → Session serves rule pays before ls out h s → Session serves rule pays before ls' out' h' s' → ls ≡ ls' → Same out out' h h' s s'
    session_one begun begun e = record { prints = refl; makes = refl; leaves = refl }
    session_one begun (faulty {ls = ls} y l fault reads) e = absurd (never_empty ls l e)
    session_one begun (made {ls = ls} y l form event s' reads asks step) e = absurd (never_empty ls l e)
    session_one (faulty {ls = ls} x l fault reads) begun e = absurd (never_empty ls l (sym e))
    session_one (faulty {ls = ls} x l fault reads) (faulty {ls = ls'} y l' fault' reads') e =
        let parts = same_from_push ls ls' l l' e in
        let i = session_one x y parts.0 in
        let faults : fault ≡ fault' = cc (ap reading parts.1) in
        record { prints = cc (i.prints, parts.0); makes = i.makes; leaves = i.leaves }
    session_one (faulty {ls = ls} x l fault reads) (made {ls = ls'} y l' form event s' reads' asks step) e =
        let parts = same_from_push ls ls' l l' e in
        absurd (suc-ne-zero 0 (cc (ap reading parts.1)))
    session_one (made {ls = ls} x l form event s reads asks step) begun e = absurd (never_empty ls l (sym e))
    session_one (made {ls = ls} x l form event s reads asks step) (faulty {ls = ls'} y l' fault reads') e =
        let parts = same_from_push ls ls' l l' e in
        absurd (suc-ne-zero 0 (cc (ap reading parts.1)))
    session_one (made {ls = ls} {s = s} x l form event s₁ reads asks step) (made {ls = ls'} {s = s'} y l' form' event' s₂ reads' asks' step') e =
        let parts = same_from_push ls ls' l l' e in
        let i = session_one x y parts.0 in
        let forms : form ≡ form' = cc (ap reading parts.1) in
        let calls : request event ≡ request event' = asks ∙ ap call_of forms ∙ sym asks' in
        let both = step_one s event event' s₁ s₂ calls step (subst (λ t. Step serves rule pays t event' s₂) (sym i.leaves) step') in
        record { prints = cc (i.prints, parts.0, both.0, both.1); makes = cc (i.makes, both.0); leaves = both.1 }

    transcript_one : {input out out' : List ℕ} {h h' : History} {s s' : State}
        → Transcript serves rule pays before input out h s → Transcript serves rule pays before input out' h' s' → Same out out' h h' s s'
    transcript_one (told short x) (told short' y) = session_one x y refl
    transcript_one (told short x) (unread long) = absurd (omega arith)
    transcript_one (unread long) (told short y) = absurd (omega arith)
    transcript_one (unread long) (unread long') = record { prints = refl; makes = refl; leaves = refl }

    pub only_one : {input out : List ℕ} {h : History} {s : State} → Transcript serves rule pays before input out h s → OnlyTranscript serves rule pays before input out s
    only_one x other h s y = let same = transcript_one y x in (same.prints, same.leaves)

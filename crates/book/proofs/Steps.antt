-- Steps of calls that end in a shared act. Assumes nothing.
use Rattle.std.proofs.Common.{◌≡◌, ℕ, Bool, true, false, cond, List, [], ◌∷◌, ◌++◌, set, ℤ, ◌+ℤ◌, Some, None, Ok, Err, Result, sym, refl, ap, ◌∙◌, subst, arith}
use Rattle.payment.specs.Stand.{Stand}
use Rattle.book.specs.Accounts.{account, change}
use Rattle.book.specs.Calls.{Kind, Step, after_entry, changed, entered, entries_past, entry, grounds, on_ledger, on_terms, paid}
use Rattle.book.specs.Class.{plus}
use Rattle.book.specs.Entries.{adding, credited, settled}
use Rattle.book.specs.Find.{Found}
use Rattle.book.specs.Limits.{entries_most, off_way}
use Rattle.book.specs.Outcome.{Added, outcome}
use Rattle.book.specs.Refusal.{first, number}
use Rattle.book.specs.State.{State, state}
use Rattle.book.specs.declared.account.Account.{Account}
use Rattle.book.specs.declared.account.Terms.{Terms}
use Rattle.book.specs.declared.class.ByClass.{ByClass}
use Rattle.book.specs.declared.spot.Spot.{Spot}
use Rattle.book.specs.declared.refusal.Refusal.{Refusal}
use Rattle.book.specs.declared.refusal.Refusal.TheVariants.{PastLimit}

-- a last ground, where no earlier one holds
first_last : (early : List (Bool × ℕ)) (test : Bool) (n : ℕ) → first early ≡ None → first (early ++ (test, n) ∷ []) ≡ cond test (Some n) None
first_last [] test n none = refl
first_last ((true, m) ∷ early) test n none = absurd (some_none none)
  where
    some_none : Some m ≡ None → ⊥
    some_none e = grind arith
first_last ((false, m) ∷ early) test n none = first_last early test n none

-- a sum that goes to the month's entries, by whichever call
pub entries_step : (serves : ℕ) (rule : ℕ → List ℕ → List ℕ) (pays : Stand → ℤ → ℤ) (s s' : State) (kind : Kind) (asset : ℕ) (cents : ℤ) (r : Result (Unit {0}) Refusal) (early : List (Bool × ℕ))
    → after_entry kind asset cents s ≡ changed asset (on_ledger (adding cents)) s
    → grounds serves s (entry kind asset cents) ≡ early ++ (entries_past s asset cents, 13) ∷ []
    → first early ≡ None → Added s asset cents r s'
    → Step serves rule pays s (outcome (entry kind asset cents) (λ _. entered kind asset cents) r) s'
entries_step serves rule pays s s' kind asset cents (Ok a) early adds same none (within, after) =
    (ap first same ∙ first_last early (entries_past s asset cents) 13 none ∙ ap (λ t. cond t (Some 13) None) within, after ∙ sym adds)
entries_step serves rule pays s s' kind asset cents (Err why) early adds same none (past, limit, after) =
    (ap first same ∙ first_last early (entries_past s asset cents) 13 none ∙ ap (λ t. cond t (Some 13) None) past ∙ ap (λ w. Some (number w)) (sym limit), after)

-- the month's entries would pass their limit
pub added_past : (s : State) (asset : ℕ) (cents : ℤ) (spot : Spot) (r : Result (Unit {0}) Refusal) → Found asset s.accounts spot
    → off_way entries_most (spot.account.ledger.entries +ℤ cents) ≡ true → r ≡ Err PastLimit → Added s asset cents r s
added_past s asset cents spot r found past same =
    subst (λ r. Added s asset cents r s) (sym same) (ap (λ a. off_way entries_most (a.ledger.entries +ℤ cents)) found.here ∙ past, refl, refl)

-- an account written back with a sum paid in and new terms
pub paid_at : (s : State) (asset cents : ℕ) (terms : Terms) (spot : Spot) (pools : ByClass) (put : Account) → Found asset s.accounts spot
    → put ≡ on_terms (λ _. terms) (on_ledger (credited cents) spot.account)
    → pools ≡ plus s.pools (settled cents spot.account.ledger.charges)
    → state (set s.accounts spot.place put) pools s.closes ≡ paid asset cents (on_terms (λ _. terms)) s
paid_at s asset cents terms spot pools put found written pooled =
    ap (λ a. state (set s.accounts spot.place a) pools s.closes) written
    ∙ ap (λ xs. state xs pools s.closes) (sym (found.changes (λ a. on_terms (λ _. terms) (on_ledger (credited cents) a))))
    ∙ ap (λ p. state (change asset (λ a. on_terms (λ _. terms) (on_ledger (credited cents) a)) s.accounts) p s.closes)
    (pooled ∙ ap (λ a. plus s.pools (settled cents a.ledger.charges)) (sym found.here))

-- what else becomes of the account is told by what becomes of this one
pub paid_like : (s : State) (asset cents : ℕ) (spot : Spot) (f g : Account → Account) → Found asset s.accounts spot
    → f (on_ledger (credited cents) spot.account) ≡ g (on_ledger (credited cents) spot.account) → paid asset cents f s ≡ paid asset cents g s
paid_like s asset cents spot f g found same =
    ap (λ xs. state xs (plus s.pools (settled cents (account asset s.accounts).ledger.charges)) s.closes)
    (found.changes (λ a. f (on_ledger (credited cents) a)) ∙ ap (set s.accounts spot.place) same ∙ sym (found.changes (λ a. g (on_ledger (credited cents) a))))

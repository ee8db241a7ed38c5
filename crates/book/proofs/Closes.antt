-- The work of a close, place by place. Assumes nothing.
use Rattle.std.proofs.Common.{◌≡◌, ℕ, zero, suc, ◌+◌, ◌-◌, ◌<◌, ◌≤◌, ◌≢◌, List, [], ◌∷◌, ◌++◌, map, length, get_or, drop, set, pos, sym, refl, ap, ◌∙◌, ⊎_elim, le_of_suc-le-suc, not-suc-le-zero, one-add, arith}
use Rattle.std.proofs.lemmas.List.Edits.{fill_by_more}
use Rattle.std.proofs.lemmas.List.{ext_get_or, get_or_append_left, get_or-append_right, get_or-drop, get_or-map, get_or-set_other, length-append, length-drop, length-map}
use Rattle.std.proofs.lemmas.Bool.{cases_lt}
use Rattle.book.specs.Account.{opened}
use Rattle.book.specs.Accounts.{at}
use Rattle.book.specs.Class.{by_class, none, of}
use Rattle.book.specs.Closable.{due_at}
use Rattle.book.specs.Close.{Due, due, dues}
use Rattle.book.specs.declared.account.Account.{Account}
use Rattle.book.specs.declared.class.ByClass.{ByClass}
use Rattle.book.specs.declared.class.Class.{Class}
use Rattle.book.specs.declared.class.Class.TheVariants.{Availability, Delivery}
use Rattle.book.specs.declared.row.Row.{Row}

pub length-dues : (xs : List Account) (d a : List ℕ) → length (dues xs d a) ≡ length xs
length-dues [] d a = refl
length-dues (x ∷ xs) d a = ap suc (length-dues xs (drop 1 d) (drop 1 a))

pub getD_dues : (xs : List Account) (d a : List ℕ) (i : ℕ) (e : Due) → i < length xs → get_or (dues xs d a) i e ≡ due_at i xs d a
getD_dues [] d a i e h = absurd (not-suc-le-zero h)
getD_dues (x ∷ xs) d a zero e h = refl
getD_dues (x ∷ xs) d a (suc i) e h =
    getD_dues xs (drop 1 d) (drop 1 a) i e (le_of_suc-le-suc h)
    ∙ ap (λ n. due (at i xs) (by_class n (get_or (drop 1 a) i 0))) (next d) ∙ ap (λ n. due (at i xs) (by_class (get_or d (suc i) 0) n)) (next a)
  where
    next : (ns : List ℕ) → get_or (drop 1 ns) i 0 ≡ get_or ns (suc i) 0
    next ns = get_or-drop 1 ns i 0 ∙ ap (λ k. get_or ns k 0) (one-add i)

-- one place more is written
pub fill_more : {X : Type 0} (f : ℕ → X) (xs : List X) (i : ℕ) (v d : X) → i < length xs → v ≡ f i
    → ((k : ℕ) → k < i → get_or xs k d ≡ f k) → (k : ℕ) → k < i + 1 → get_or (set xs i v) k d ≡ f k
fill_more f xs i v d within e filled k h = ap (λ w. get_or (set xs i w) k d) e ∙ fill_by_more f xs i d within filled k h

-- and the places behind it stand
pub rest_more : {X : Type 0} (xs ys : List X) (i : ℕ) (v d : X) → ((k : ℕ) → i ≤ k → get_or xs k d ≡ get_or ys k d)
    → (k : ℕ) → i + 1 ≤ k → get_or (set xs i v) k d ≡ get_or ys k d
rest_more xs ys i v d rest k h =
    let other : k ≢ i = omega arith in
    get_or-set_other xs i k v d other ∙ rest k (omega arith)

blank_due : Due
blank_due = due (opened 0 0) none

-- all places are written
pub filled_all : {X : Type 0} (f : Due → X) (xs : List Account) (d a : List ℕ) (ys : List X) (e : X) → length ys ≡ length xs
    → ((k : ℕ) → k < length xs → get_or ys k e ≡ f (due_at k xs d a)) → ys ≡ map f (dues xs d a)
unfolding blank_due
filled_all f xs d a ys e same filled =
    ext_get_or e ys (map f (dues xs d a)) (same ∙ sym (length-map (dues xs d a) f ∙ length-dues xs d a))
    (λ k h.
    let within : k < length xs = omega (arith, same) in
    filled k within ∙ ap f (sym (getD_dues xs d a k blank_due within)) ∙ sym (get_or-map f (dues xs d a) k blank_due e (omega (arith, length-dues xs d a, same))))

-- the front is written, and the rest stands
pub filled_front : {X : Type 0} (f : Due → X) (xs : List Account) (d a : List ℕ) (ys zs : List X) (e : X) → length ys ≡ length zs → length xs ≤ length zs
    → ((k : ℕ) → k < length xs → get_or ys k e ≡ f (due_at k xs d a)) → ((k : ℕ) → length xs ≤ k → get_or ys k e ≡ get_or zs k e)
    → ys ≡ map f (dues xs d a) ++ drop (length xs) zs
unfolding blank_due
filled_front f xs d a ys zs e same room filled rest =
    let front = map f (dues xs d a) in
    let as_many : length front ≡ length xs = length-map (dues xs d a) f ∙ length-dues xs d a in
    ext_get_or e ys (front ++ drop (length xs) zs) (omega (arith, same, as_many, length-append front (drop (length xs) zs), length-drop (length xs) zs))
    (λ k h. ⊎_elim
    (λ within.
    filled k within ∙ ap f (sym (getD_dues xs d a k blank_due within)) ∙ sym (get_or-map f (dues xs d a) k blank_due e (omega (arith, length-dues xs d a)))
    ∙ sym (get_or_append_left front (drop (length xs) zs) e k (omega (arith, as_many))))
    (λ past.
    let back : length xs + (k - length xs) ≡ k = omega arith in
    rest k past ∙ sym (get_or-append_right front (drop (length xs) zs) (length xs) k e as_many past ∙ get_or-drop (length xs) zs (k - length xs) e ∙ ap (λ n. get_or zs n e) back))
    (cases_lt k (length xs)))

abbrev pub blank_row : Row
blank_row = record { asset = 0; award = pos 0; taken = none; share = none; payment = pos 0; balance = pos 0 }

pub of_le : (class : Class) (p q : ByClass) → p.delivery ≤ q.delivery → p.availability ≤ q.availability → of class p ≤ of class q
of_le Delivery p q d a = d
of_le Availability p q d a = a

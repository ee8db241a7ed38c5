-- Where the tokens of a line stop being those of a form.
-- Assumes nothing.
use Rattle.std.proofs.Common.{◌≡◌, ℕ, suc, ◌+◌, ◌<◌, true, ◌⊎◌, List, [], ◌∷◌, length, take, Some, None, Err, Option, sym, refl, ap, ◌∙◌, subst, inl, inr, ⊎_elim, arith}
use Rattle.std.proofs.lemmas.Option.{none-some}
use Rattle.std.proofs.lemmas.Bool.{both_ways, cases_Bool, cond-false, cond-true}
use Rattle.text.specs.Forms.{fits, is_opening, verb_of, wanted}
use Rattle.text.specs.Grammar.{AllTokens, byte_of, said}
use Rattle.text.specs.Reading.{against, by_shape, by_verb, fault_by, form_in}
use Rattle.text.specs.Tokens.{Placed, Symbol, closing, nothing, number, opening, worded}
use Rattle.text.specs.declared.fault.FormFault.TheVariants.{NoForm}
use Rattle.text.specs.declared.form.Item.{Item}
use Rattle.text.specs.declared.form.Verb.{Verb}

fault_other : (s : Symbol) (place : ℕ) → (s ≡ nothing → ⊥) → fault_by s place ≡ NoForm (place + 1)
fault_other opening place h = refl
fault_other closing place h = refl
fault_other (worded bs) place h = refl
fault_other (number bs) place h = refl
fault_other nothing place h = absurd (h refl)

-- symbols that meet items one by one, all of them or the first

abbrev pub Meets : List Symbol → List Item → Type 0
Meets [] [] = Unit {0}
Meets [] (i ∷ is) = ⊥
Meets (s ∷ ss) [] = ⊥
Meets (s ∷ ss) (i ∷ is) = (fits i s ≡ true) × Meets ss is

abbrev pub Leads : List Symbol → List Item → Type 0
Leads [] is = Unit {0}
Leads (s ∷ ss) [] = ⊥
Leads (s ∷ ss) (i ∷ is) = (fits i s ≡ true) × Leads ss is

pub against_met : (end : ℕ) (is : List Item) (ts : List Placed) → Meets (said ts) is → against end is ts ≡ None
against_met end [] [] m = refl
against_met end [] (t ∷ ts) m = absurd m
against_met end (i ∷ is) [] m = absurd m
against_met end (i ∷ is) (t ∷ ts) m = cond-true _ _ _ m.0 ∙ against_met end is ts m.1

data Way (end : ℕ) (is : List Item) (ts : List Placed) : Type 0 where
  whole : Meets (said ts) is → Way end is ts
  cut : Leads (said ts) is → (Meets (said ts) is → ⊥) → against end is ts ≡ Some (NoForm end) → Way end is ts
  broken : (k : ℕ) → k < length ts → Leads (take k (said ts)) is → (Leads (take (suc k) (said ts)) is → ⊥)
      → against end is ts ≡ Some (NoForm (byte_of ts k)) → Way end is ts

further : (end : ℕ) (i : Item) (is : List Item) (t : Placed) (ts : List Placed) → fits i t.symbol ≡ true → Way end is ts → Way end (i ∷ is) (t ∷ ts)
further end i is t ts fit (whole m) = whole (fit, m)
further end i is t ts fit (cut l n e) = cut (fit, l) (λ m. n m.1) (cond-true _ _ _ fit ∙ e)
further end i is t ts fit (broken k h l n e) = broken (suc k) (omega arith) (fit, l) (λ m. n m.1) (cond-true _ _ _ fit ∙ e)

way : (end : ℕ) (is : List Item) (ts : List Placed) → AllTokens ts → Way end is ts
way end [] [] all = whole tt
way end [] (t ∷ ts) all = broken 0 (omega arith) tt (λ l. l) (ap Some (fault_other t.symbol t.place all.0))
way end (i ∷ is) [] all = cut tt (λ m. m) refl
way end (i ∷ is) (t ∷ ts) all =
    ⊎_elim (λ fit. further end i is t ts fit (way end is ts all.1))
    (λ misfit. broken 0 (omega arith) tt (λ l. both_ways (fits i t.symbol) misfit l.0) (cond-false _ _ _ misfit ∙ ap Some (fault_other t.symbol t.place all.0)))
    (cases_Bool (fits i t.symbol))

-- the same of a whole form

abbrev Headed : Symbol → Symbol → (List Item → Type 0) → Type 0
Headed s u P = (is_opening s ≡ true) × ((v : Verb) × (verb_of u ≡ Some v) × P (wanted v))

abbrev pub MeetsForm : List Symbol → Type 0
MeetsForm [] = ⊥
MeetsForm (s ∷ []) = ⊥
MeetsForm (s ∷ u ∷ ss) = Headed s u (Meets ss)

abbrev pub LeadsForm : List Symbol → Type 0
LeadsForm [] = Unit {0}
LeadsForm (s ∷ []) = is_opening s ≡ true
LeadsForm (s ∷ u ∷ ss) = Headed s u (Leads ss)

pub data Shape (end : ℕ) (ts : List Placed) : Type 0 where
  whole_form : MeetsForm (said ts) → Shape end ts
  cut_form : LeadsForm (said ts) → (MeetsForm (said ts) → ⊥) → form_in end ts ≡ Err (NoForm end) → Shape end ts
  broken_form : (k : ℕ) → k < length ts → LeadsForm (take k (said ts)) → (LeadsForm (take (suc k) (said ts)) → ⊥)
      → form_in end ts ≡ Err (NoForm (byte_of ts k)) → Shape end ts

pub cases_option : {A : Type 0} (o : Option A) → (o ≡ None) ⊎ ((x : A) × (o ≡ Some x))
cases_option None = inl refl
cases_option (Some x) = inr (x, refl)

-- a symbol is the word of one form at most
same_verb : {o : Option Verb} {v w : Verb} → o ≡ Some v → o ≡ Some w → w ≡ v
same_verb e d = cc

behind_word : (end : ℕ) (t u : Placed) (ts : List Placed) (v : Verb) → is_opening t.symbol ≡ true → verb_of u.symbol ≡ Some v → Way end (wanted v) ts
    → Shape end (t ∷ u ∷ ts)
behind_word end t u ts v opens named (whole m) = whole_form (opens, (v, named, m))
behind_word end t u ts v opens named (cut l n e) =
    cut_form (opens, (v, named, l)) (λ m. n (subst (λ w. Meets (said ts) (wanted w)) (same_verb named m.1.1) m.1.2))
    (cond-true _ _ _ opens ∙ ap (by_verb end u ts) named ∙ ap (by_shape v ts) e)
behind_word end t u ts v opens named (broken k h l n e) =
    broken_form (suc (suc k)) (omega arith) (opens, (v, named, l))
    (λ m. n (subst (λ w. Leads (take (suc k) (said ts)) (wanted w)) (same_verb named m.1.1) m.1.2))
    (cond-true _ _ _ opens ∙ ap (by_verb end u ts) named ∙ ap (by_shape v ts) e)

pub shape : (end : ℕ) (ts : List Placed) → AllTokens ts → Shape end ts
shape end [] all = cut_form tt (λ m. m) refl
shape end (t ∷ []) all =
    ⊎_elim (λ opens. cut_form opens (λ m. m) (ap Err (cond-true _ _ _ opens)))
    (λ other. broken_form 0 (omega arith) tt (λ l. both_ways (is_opening t.symbol) other l) (ap Err (cond-false _ _ _ other ∙ fault_other t.symbol t.place all.0)))
    (cases_Bool (is_opening t.symbol))
shape end (t ∷ u ∷ ts) all =
    ⊎_elim
    (λ opens. ⊎_elim
    (λ none. broken_form 1 (omega arith) opens (λ l. none-some _ (sym none ∙ l.1.1))
    (cond-true _ _ _ opens ∙ ap (by_verb end u ts) none ∙ ap Err (fault_other u.symbol u.place all.1.0)))
    (λ some. behind_word end t u ts some.0 opens some.1 (way end (wanted some.0) ts all.1.1))
    (cases_option (verb_of u.symbol)))
    (λ other. broken_form 0 (omega arith) tt (λ l. both_ways (is_opening t.symbol) other l) (cond-false _ _ _ other ∙ ap Err (fault_other t.symbol t.place all.0)))
    (cases_Bool (is_opening t.symbol))

-- A line, from its length to its form.
-- Assumes nothing.
use Rattle.std.proofs.Common.{◌≡◌, ℕ, ◌+◌, ◌≤◌, true, List, [], ◌∷◌, length, Some, None, Ok, Err, Option, sym, refl, ap, ◌∙◌, ⊎_elim}
use Rattle.std.proofs.Math.Nat.{suc-ne-zero}
use Rattle.std.proofs.lemmas.Option.{none-some}
use Rattle.std.proofs.lemmas.Bool.{cases_Bool, cond-false, cond-true, false≢true, le-ltb}
use Rattle.text.specs.Forms.{fits, is_opening, verb_of, wanted}
use Rattle.text.specs.Next.{first_nothing, stray}
use Rattle.text.specs.Reading.{against, by_shape, by_tokens, by_verb, form_in, reading}
use Rattle.text.specs.Tokens.{Placed, Symbol, closing, nothing, number, opening, tokens, worded}
use Rattle.text.specs.declared.fault.FormFault.{FormFault}
use Rattle.text.specs.declared.form.Form.{Form}
use Rattle.text.specs.declared.form.Field.TheVariants.{Asset, Award, Cents, Class as OfClass, Holder, Kw, Ready as IsReady}
use Rattle.text.specs.declared.form.Item.{Item}
use Rattle.text.specs.declared.form.Item.TheVariants.{Close as Closed, Name, Open, Value}
use Rattle.text.specs.declared.form.Verb.{Verb}

pub short_line : (line : List ℕ) → length line ≤ 300 → reading line ≡ by_tokens (length line + 1) (tokens 0 line) (first_nothing (tokens 0 line))
short_line line h = cond-false _ _ _ (le-ltb 300 (length line) h)

pub token_line : (line : List ℕ) → length line ≤ 300 → first_nothing (tokens 0 line) ≡ None → reading line ≡ form_in (length line + 1) (tokens 0 line)
token_line line h e = short_line line h ∙ ap (by_tokens (length line + 1) (tokens 0 line)) e

-- a symbol that fits something is no nothing
fits_some : (item : Item) (place : ℕ) (s : Symbol) (later : Option ℕ) → fits item s ≡ true → stray place s later ≡ later
fits_some item place opening later e = refl
fits_some item place closing later e = refl
fits_some item place (worded bs) later e = refl
fits_some item place (number bs) later e = refl
fits_some Open place nothing later e = absurd (false≢true e)
fits_some (Name f) place nothing later e = absurd (false≢true e)
fits_some (Value OfClass) place nothing later e = absurd (false≢true e)
fits_some (Value Asset) place nothing later e = absurd (false≢true e)
fits_some (Value Holder) place nothing later e = absurd (false≢true e)
fits_some (Value Award) place nothing later e = absurd (false≢true e)
fits_some (Value Kw) place nothing later e = absurd (false≢true e)
fits_some (Value IsReady) place nothing later e = absurd (false≢true e)
fits_some (Value Cents) place nothing later e = absurd (false≢true e)
fits_some Closed place nothing later e = absurd (false≢true e)

err≢ok : {fault : FormFault} {f : Form} → Err fault ≡ Ok f → ⊥
err≢ok e = suc-ne-zero 0 cc

-- items that are all met leave nothing that is no token
met_all : (end : ℕ) (is : List Item) (ts : List Placed) → against end is ts ≡ None → first_nothing ts ≡ None
met_all end [] [] e = refl
met_all end [] (t ∷ ts) e = absurd (none-some _ (sym e))
met_all end (i ∷ is) [] e = absurd (none-some _ (sym e))
met_all end (i ∷ is) (t ∷ ts) e =
    ⊎_elim (λ fit. fits_some i t.place t.symbol (first_nothing ts) fit ∙ met_all end is ts (sym (cond-true _ _ _ fit) ∙ e))
    (λ misfit. absurd (none-some _ (sym e ∙ cond-false _ _ _ misfit))) (cases_Bool (fits i t.symbol))

verb_some : (place : ℕ) (s : Symbol) (v : Verb) (later : Option ℕ) → verb_of s ≡ Some v → stray place s later ≡ later
verb_some place opening v later e = refl
verb_some place closing v later e = refl
verb_some place (worded bs) v later e = refl
verb_some place (number bs) v later e = refl
verb_some place nothing v later e = absurd (none-some _ e)

shaped_all : (v : Verb) (end : ℕ) (ts : List Placed) (f : Form) (o : Option FormFault) → against end (wanted v) ts ≡ o → by_shape v ts o ≡ Ok f → first_nothing ts ≡ None
shaped_all v end ts f (Some fault) e r = absurd (err≢ok r)
shaped_all v end ts f None e r = met_all end (wanted v) ts e

named_all : (end : ℕ) (u : Placed) (ts : List Placed) (f : Form) (o : Option Verb) → verb_of u.symbol ≡ o → by_verb end u ts o ≡ Ok f → first_nothing (u ∷ ts) ≡ None
named_all end u ts f None e r = absurd (err≢ok r)
named_all end u ts f (Some v) e r = verb_some u.place u.symbol v (first_nothing ts) e ∙ shaped_all v end ts f (against end (wanted v) ts) refl r

-- a form has no byte that is no token
pub formed_all : (end : ℕ) (ts : List Placed) (f : Form) → form_in end ts ≡ Ok f → first_nothing ts ≡ None
formed_all end [] f e = absurd (err≢ok e)
formed_all end (t ∷ []) f e = absurd (err≢ok e)
formed_all end (t ∷ u ∷ ts) f e =
    ⊎_elim
    (λ fit. fits_some Open t.place t.symbol (first_nothing (u ∷ ts)) fit ∙ named_all end u ts f (verb_of u.symbol) refl (sym (cond-true _ _ _ fit) ∙ e))
    (λ misfit. absurd (err≢ok (sym (cond-false _ _ _ misfit) ∙ e))) (cases_Bool (is_opening t.symbol))

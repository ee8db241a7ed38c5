-- Symbols that meet the items of a form are drawn by a form's word with some values, and those that meet the first of them
-- begin such symbols.
-- Assumes nothing.
use Rattle.std.proofs.Common.{◌≡◌, ℕ, true, false, cond, List, [], ◌∷◌, ◌++◌, take, drop, ℤ, is_some, Some, codes, Option, sym, refl, ap, ◌∙◌, subst, ⊎_elim}
use Rattle.std.specs.Fmt.{signed_decimal}
use Rattle.std.specs.List.{AllByRecursion}
use Rattle.std.specs.Str.{bytes_eq}
use Rattle.std.proofs.lemmas.Option.{none-some}
use Rattle.std.proofs.lemmas.Slice.Eq.{bytes_eq-Decides}
use Rattle.std.proofs.lemmas.List.{append_assoc, append-nil, take-append-drop}
use Rattle.std.proofs.lemmas.Bool.{both_ways, cases_Bool, cond-false, cond-true}
use Rattle.book.specs.declared.class.Class.{Class}
use Rattle.book.specs.declared.class.Class.TheVariants.{Availability, Delivery}
use Rattle.text.specs.Forms.{class_named, class_word, field_word, fields, fits, is_closing, is_number, is_opening, is_value, is_word, verb_of, verb_word, wanted, wanted_of}
use Rattle.text.specs.Grammar.{Begins, Drawn, Held, Values, drawn, drawn_fields, mark}
use Rattle.text.specs.Tokens.{Symbol, closing, nothing, number, numeral, opening, value, worded}
use Rattle.text.specs.declared.form.Field.{Field}
use Rattle.text.specs.declared.form.Field.TheVariants.{Asset, Award, Cents, Class as OfClass, Holder, Kw, Ready as IsReady}
use Rattle.text.specs.declared.form.Item.{Item}
use Rattle.text.specs.declared.form.Item.TheVariants.{Close as Closed, Name, Open, Value}
use Rattle.text.specs.declared.form.Verb.{Verb}
use Rattle.text.specs.declared.form.Verb.TheVariants.{Close, List as Listing, Over, Payin, Ready, Term, Under, Uplift}
use Rattle.text.proofs.Numbers.{signed_value}
use Rattle.text.proofs.Ways.{Leads, LeadsForm, Meets, MeetsForm}

-- the number of a symbol is one
abbrev pub Numeric : Symbol → Type 0
Numeric opening = Unit {0}
Numeric closing = Unit {0}
Numeric (worded bs) = Unit {0}
Numeric (number bs) = numeral bs ≡ true
Numeric nothing = Unit {0}

-- what is drawn meets its items

name_fits : (f : Field) → is_word (field_word f) (worded (field_word f)) ≡ true
name_fits f = (bytes_eq-Decides (field_word f) (field_word f)).1 refl

mark_fits : (f : Field) (x : Held f) → is_value f (mark f x) ≡ true
mark_fits OfClass Delivery = refl
mark_fits OfClass Availability = refl
mark_fits Asset z = refl
mark_fits Holder z = refl
mark_fits Award z = refl
mark_fits Kw z = refl
mark_fits IsReady z = refl
mark_fits Cents z = refl

pub word_verb : (v : Verb) → verb_of (worded (verb_word v)) ≡ Some v
word_verb Listing = refl
word_verb Term = refl
word_verb Over = refl
word_verb Under = refl
word_verb Uplift = refl
word_verb Payin = refl
word_verb Ready = refl
word_verb Close = refl

pub fields_meet : (fs : List Field) (vs : Values fs) → Meets (drawn_fields fs vs) (wanted_of fs)
fields_meet [] vs = (refl, tt)
fields_meet (f ∷ fs) (x, vs) = (refl, (name_fits f, (mark_fits f x, (refl, fields_meet fs vs))))

drawn_meets : (v : Verb) (vs : Values (fields v)) → MeetsForm (drawn v vs)
drawn_meets v vs = (refl, (v, word_verb v, fields_meet (fields v) vs))

pub drawn_met : {ss : List Symbol} → Drawn ss → MeetsForm ss
drawn_met d = subst MeetsForm (sym d.by) (drawn_meets d.verb d.values)

front_leads : (ss rest : List Symbol) (is : List Item) → Meets (ss ++ rest) is → Leads ss is
front_leads [] rest is m = tt
front_leads (s ∷ ss) rest [] m = absurd m
front_leads (s ∷ ss) rest (i ∷ is) m = (m.0, front_leads ss rest is m.1)

front_leads_form : (ss rest : List Symbol) → MeetsForm (ss ++ rest) → LeadsForm ss
front_leads_form [] rest m = tt
front_leads_form (s ∷ []) [] m = absurd m
front_leads_form (s ∷ []) (u ∷ rest) m = m.0
front_leads_form (s ∷ u ∷ ss) rest m = (m.0, (m.1.0, m.1.1, front_leads ss rest (wanted m.1.0) m.1.2))

pub begins_leads : {ss : List Symbol} → Begins ss → LeadsForm ss
begins_leads {ss} b = front_leads_form ss b.rest (subst MeetsForm (sym b.by) (drawn_meets b.verb b.values))

-- what meets an item

is_open : (s : Symbol) → is_opening s ≡ true → s ≡ opening
is_open opening e = refl
is_open closing e = absurd (both_ways false refl e)
is_open (worded bs) e = absurd (both_ways false refl e)
is_open (number bs) e = absurd (both_ways false refl e)
is_open nothing e = absurd (both_ways false refl e)

is_close : (s : Symbol) → is_closing s ≡ true → s ≡ closing
is_close opening e = absurd (both_ways false refl e)
is_close closing e = refl
is_close (worded bs) e = absurd (both_ways false refl e)
is_close (number bs) e = absurd (both_ways false refl e)
is_close nothing e = absurd (both_ways false refl e)

is_named : (word : List ℕ) (s : Symbol) → is_word word s ≡ true → s ≡ worded word
is_named word opening e = absurd (both_ways false refl e)
is_named word closing e = absurd (both_ways false refl e)
is_named word (worded bs) e = ap worded ((bytes_eq-Decides bs word).0 e)
is_named word (number bs) e = absurd (both_ways false refl e)
is_named word nothing e = absurd (both_ways false refl e)

is_figure : (s : Symbol) → Numeric s → is_number s ≡ true → (z : ℤ) × (s ≡ number (signed_decimal z))
is_figure opening h e = absurd (both_ways false refl e)
is_figure closing h e = absurd (both_ways false refl e)
is_figure (worded bs) h e = absurd (both_ways false refl e)
is_figure (number bs) h e = (value bs, ap number (signed_value bs h))
is_figure nothing h e = absurd (both_ways false refl e)

class_said : (bs : List ℕ) → is_some (class_named bs) ≡ true → (class : Class) × (worded bs ≡ worded (class_word class))
class_said bs e =
    ⊎_elim (λ t. (Delivery, ap worded ((bytes_eq-Decides bs (class_word Delivery)).0 t)))
    (λ f. ⊎_elim (λ t. (Availability, ap worded ((bytes_eq-Decides bs (class_word Availability)).0 t)))
    (λ g. absurd (both_ways (is_some (class_named bs)) (ap is_some (cond-false _ _ _ f ∙ cond-false _ _ _ g)) e))
    (cases_Bool (bytes_eq bs (class_word Availability))))
    (cases_Bool (bytes_eq bs (class_word Delivery)))

is_held : (f : Field) (s : Symbol) → Numeric s → is_value f s ≡ true → (x : Held f) × (s ≡ mark f x)
is_held OfClass opening h e = absurd (both_ways false refl e)
is_held OfClass closing h e = absurd (both_ways false refl e)
is_held OfClass (worded bs) h e = class_said bs e
is_held OfClass (number bs) h e = absurd (both_ways false refl e)
is_held OfClass nothing h e = absurd (both_ways false refl e)
is_held Asset s h e = is_figure s h e
is_held Holder s h e = is_figure s h e
is_held Award s h e = is_figure s h e
is_held Kw s h e = is_figure s h e
is_held IsReady s h e = is_figure s h e
is_held Cents s h e = is_figure s h e

named_next : (bs : List ℕ) (w : Verb) (later : Option Verb) (v : Verb) → cond (bytes_eq bs (verb_word w)) (Some w) later ≡ Some v
    → (later ≡ Some v → bs ≡ verb_word v) → bs ≡ verb_word v
named_next bs w later v e next =
    ⊎_elim (λ t. let same : w ≡ v = one (sym (cond-true _ _ _ t) ∙ e) in (bytes_eq-Decides bs (verb_word w)).0 t ∙ ap verb_word same)
    (λ f. next (sym (cond-false _ _ _ f) ∙ e)) (cases_Bool (bytes_eq bs (verb_word w)))
  where
    one : Some w ≡ Some v → w ≡ v
    one e = cc

is_verb : (s : Symbol) (v : Verb) → verb_of s ≡ Some v → s ≡ worded (verb_word v)
is_verb opening v e = absurd (none-some _ e)
is_verb closing v e = absurd (none-some _ e)
is_verb (worded bs) v e =
    ap worded
    (named_next bs Listing _ v e (λ e. named_next bs Term _ v e (λ e. named_next bs Over _ v e (λ e. named_next bs Under _ v e
    (λ e. named_next bs Uplift _ v e (λ e. named_next bs Payin _ v e (λ e. named_next bs Ready _ v e (λ e. named_next bs Close _ v e (λ e. absurd (none-some _ e))))))))))
is_verb (number bs) v e = absurd (none-some _ e)
is_verb nothing v e = absurd (none-some _ e)

-- what meets the items of a form is drawn

fields_drawn : (fs : List Field) (ss : List Symbol) → AllByRecursion Numeric ss → Meets ss (wanted_of fs) → (vs : Values fs) × (ss ≡ drawn_fields fs vs)
fields_drawn [] [] ns m = absurd m
fields_drawn [] (s ∷ []) ns m = (tt, ap (λ s. s ∷ []) (is_close s m.0))
fields_drawn [] (s ∷ u ∷ ss) ns m = absurd m.1
fields_drawn (f ∷ fs) [] ns m = absurd m
fields_drawn (f ∷ fs) (a ∷ []) ns m = absurd m.1
fields_drawn (f ∷ fs) (a ∷ b ∷ []) ns m = absurd m.1.1
fields_drawn (f ∷ fs) (a ∷ b ∷ c ∷ []) ns m = absurd m.1.1.1
fields_drawn (f ∷ fs) (a ∷ b ∷ c ∷ d ∷ ss) ns m =
    let held = is_held f c ns.1.1.0 m.1.1.0 in
    let more = fields_drawn fs ss ns.1.1.1.1 m.1.1.1.1 in
    ((held.0, more.0), four (is_open a m.0) (is_named (field_word f) b m.1.0) held.1 (is_close d m.1.1.1.0) more.1)
  where
    four : {a b c d a' b' c' d' : Symbol} {ss ss' : List Symbol} → a ≡ a' → b ≡ b' → c ≡ c' → d ≡ d' → ss ≡ ss' → a ∷ b ∷ c ∷ d ∷ ss ≡ a' ∷ b' ∷ c' ∷ d' ∷ ss'
    four a b c d ss = cc

pub met_drawn : (ss : List Symbol) → AllByRecursion Numeric ss → MeetsForm ss → Drawn ss
met_drawn [] ns m = absurd m
met_drawn (s ∷ []) ns m = absurd m
met_drawn (s ∷ u ∷ ss) ns m =
    let more = fields_drawn (fields m.1.0) ss ns.1.1 m.1.2 in
    record { verb = m.1.0; values = more.0; by = two (is_open s m.0) (is_verb u m.1.0 m.1.1) more.1 }
  where
    two : {a b a' b' : Symbol} {ss ss' : List Symbol} → a ≡ a' → b ≡ b' → ss ≡ ss' → a ∷ b ∷ ss ≡ a' ∷ b' ∷ ss'
    two a b ss = cc

-- what meets the first items goes on to meet them all

abbrev any_of : Item → Symbol
any_of Open = opening
any_of (Name f) = worded (field_word f)
any_of (Value OfClass) = worded (class_word Delivery)
any_of (Value Asset) = number (codes "0")
any_of (Value Holder) = number (codes "0")
any_of (Value Award) = number (codes "0")
any_of (Value Kw) = number (codes "0")
any_of (Value IsReady) = number (codes "0")
any_of (Value Cents) = number (codes "0")
any_of Closed = closing

any_fits : (i : Item) → fits i (any_of i) ≡ true
any_fits Open = refl
any_fits (Name f) = name_fits f
any_fits (Value OfClass) = refl
any_fits (Value Asset) = refl
any_fits (Value Holder) = refl
any_fits (Value Award) = refl
any_fits (Value Kw) = refl
any_fits (Value IsReady) = refl
any_fits (Value Cents) = refl
any_fits Closed = refl

any_numeric : (i : Item) → Numeric (any_of i)
any_numeric Open = tt
any_numeric (Name f) = tt
any_numeric (Value OfClass) = tt
any_numeric (Value Asset) = refl
any_numeric (Value Holder) = refl
any_numeric (Value Award) = refl
any_numeric (Value Kw) = refl
any_numeric (Value IsReady) = refl
any_numeric (Value Cents) = refl
any_numeric Closed = tt

record Onward (ss : List Symbol) (P : List Symbol → Type 0) : Type 0 where
  rest : List Symbol
  met : P (ss ++ rest)
  numeric : AllByRecursion Numeric (ss ++ rest)

onward : (ss : List Symbol) (is : List Item) → AllByRecursion Numeric ss → Leads ss is → Onward ss (λ ss. Meets ss is)
onward [] [] ns l = record { rest = []; met = tt; numeric = tt }
onward [] (i ∷ is) ns l =
    let more = onward [] is tt tt in
    record { rest = any_of i ∷ more.rest; met = (any_fits i, more.met); numeric = (any_numeric i, more.numeric) }
onward (s ∷ ss) [] ns l = absurd l
onward (s ∷ ss) (i ∷ is) ns l =
    let more = onward ss is ns.1 l.1 in
    record { rest = more.rest; met = (l.0, more.met); numeric = (ns.0, more.numeric) }

onward_form : (ss : List Symbol) → AllByRecursion Numeric ss → LeadsForm ss → Onward ss MeetsForm
onward_form [] ns l = record { rest = drawn Close tt; met = drawn_meets Close tt; numeric = (tt, (tt, (tt, tt))) }
onward_form (s ∷ []) ns l =
    record { rest = worded (verb_word Close) ∷ drawn_fields [] tt; met = (l, (Close, refl, fields_meet [] tt)); numeric = (ns.0, (tt, (tt, tt))) }
onward_form (s ∷ u ∷ ss) ns l =
    let more = onward ss (wanted l.1.0) ns.1.1 l.1.2 in
    record { rest = more.rest; met = (l.0, (l.1.0, l.1.1, more.met)); numeric = (ns.0, (ns.1.0, more.numeric)) }

pub leads_begins : (ss : List Symbol) → AllByRecursion Numeric ss → LeadsForm ss → Begins ss
leads_begins ss ns l =
    let more = onward_form ss ns l in
    let d = met_drawn (ss ++ more.rest) more.numeric more.met in
    record { verb = d.verb; values = d.values; rest = more.rest; by = d.by }

-- what begins with symbols begins with the first of them

pub drawn_begins : {ss : List Symbol} → Drawn ss → Begins ss
drawn_begins {ss} d = record { verb = d.verb; values = d.values; rest = []; by = append-nil ss ∙ d.by }

pub begins_take : {ss : List Symbol} (n : ℕ) → Begins ss → Begins (take n ss)
begins_take {ss} n b =
    record {
      verb = b.verb;
      values = b.values;
      rest = drop n ss ++ b.rest;
      by = sym (append_assoc (take n ss) (drop n ss) b.rest) ∙ ap (λ ss. ss ++ b.rest) (take-append-drop n ss) ∙ b.by;
    }

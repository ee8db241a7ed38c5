-- What a line says, or what is wrong with it.
--   fault_at    of a token that cannot stand where it stands
--   against     of tokens where items are wanted: the first that does not fit, or that the line ends early (at byte `end`)
--   hold        a draft with the value of a field in it; nothing where the value is outside its range
--   gather      the values of some fields, or the fault of the first that is outside its range
--   formed      the form of a word and of its values
--   reading     a line as the reader takes it: first its length, then whether all is tokens, then their form, then the ranges
-- Assumes nothing.
use Rattle.std.specs.Prelude.{ℕ, ◌+◌, Bool, true, false, cond, ◌&&◌, List, [], ◌∷◌, length, drop, ℤ, pos, neg_ℤ, Some, None, Ok, Err, Option, Result, ◌==◌, int_le, nat_lt, slice_index_or, unsigned_abs}
use Rattle.std.specs.Option.{ok_or}
use Rattle.payment.specs.Stand.{award_most, commitment_most}
use Rattle.book.specs.Limits.{asset_most, entry_most, holder_most}
use Rattle.book.specs.declared.class.Class.{Class}
use Rattle.book.specs.declared.class.Class.TheVariants.{Delivery}
use Rattle.text.specs.Forms.{class_named, fields, fits, is_opening, verb_of, wanted}
use Rattle.text.specs.Next.{first_nothing}
use Rattle.text.specs.Tokens.{Placed, Symbol, closing, nothing, number, opening, placed, tokens, value, worded}
use Rattle.text.specs.declared.fault.FormFault.{FormFault}
use Rattle.text.specs.declared.fault.FormFault.TheVariants.{NoForm, OutOfRange, Text}
use Rattle.text.specs.declared.fault.TextFault.TheVariants.{LongLine, NoToken}
use Rattle.text.specs.declared.draft.Draft.{Draft}
use Rattle.text.specs.declared.form.Field.{Field}
use Rattle.text.specs.declared.form.Field.TheVariants.{Asset, Award, Cents, Class as OfClass, Holder, Kw, Ready as IsReady}
use Rattle.text.specs.declared.form.Form.{Form}
use Rattle.text.specs.declared.form.Form.TheVariants as form
use Rattle.text.specs.declared.form.Item.{Item}
use Rattle.text.specs.declared.form.Verb.{Verb}
use Rattle.text.specs.declared.form.Verb.TheVariants.{Close, List as Listing, Over, Payin, Ready, Term, Under, Uplift}

-- the form of the tokens

abbrev pub fault_by : Symbol → ℕ → FormFault
fault_by opening place = NoForm (place + 1)
fault_by closing place = NoForm (place + 1)
fault_by (worded bs) place = NoForm (place + 1)
fault_by (number bs) place = NoForm (place + 1)
fault_by nothing place = Text (NoToken (place + 1))

abbrev pub fault_at : Placed → FormFault
fault_at t = fault_by t.symbol t.place

abbrev pub against : ℕ → List Item → List Placed → Option FormFault
against end [] [] = None
against end [] (t ∷ ts) = Some (fault_at t)
against end (i ∷ is) [] = Some (NoForm end)
against end (i ∷ is) (t ∷ ts) = cond (fits i t.symbol) (against end is ts) (Some (fault_at t))

-- the values of the fields

abbrev pub draft_of : Class → ℕ → ℕ → ℤ → ℕ → Bool → ℕ → Draft
draft_of class asset holder award kw ready cents =
    record { class = class; asset = asset; holder = holder; award = award; kw = kw; ready = ready; cents = cents }

-- whether a number is in a field's range
abbrev pub in_range : Field → ℤ → Bool
in_range OfClass z = true
in_range Asset z = int_le (pos 1) z && int_le z (pos asset_most)
in_range Holder z = int_le (pos 1) z && int_le z (pos holder_most)
in_range Award z = int_le (neg_ℤ award_most) z && int_le z award_most
in_range Kw z = int_le (pos 0) z && int_le z (pos commitment_most)
in_range IsReady z = int_le (pos 0) z && int_le z (pos 1)
in_range Cents z = int_le (pos 1) z && int_le z (pos entry_most)

abbrev pub with_number : Field → ℤ → Draft → Draft
with_number OfClass z d = d
with_number Asset z d = draft_of d.class (unsigned_abs z) d.holder d.award d.kw d.ready d.cents
with_number Holder z d = draft_of d.class d.asset (unsigned_abs z) d.award d.kw d.ready d.cents
with_number Award z d = draft_of d.class d.asset d.holder z d.kw d.ready d.cents
with_number Kw z d = draft_of d.class d.asset d.holder d.award (unsigned_abs z) d.ready d.cents
with_number IsReady z d = draft_of d.class d.asset d.holder d.award d.kw (unsigned_abs z == 1) d.cents
with_number Cents z d = draft_of d.class d.asset d.holder d.award d.kw d.ready (unsigned_abs z)

abbrev pub hold_number : Field → ℤ → Draft → Option Draft
hold_number f z d = cond (in_range f z) (Some (with_number f z d)) None

abbrev pub with_class : Option Class → Draft → Draft
with_class None d = d
with_class (Some class) d = draft_of class d.asset d.holder d.award d.kw d.ready d.cents

abbrev pub hold : Field → Symbol → Draft → Option Draft
hold f opening d = Some d
hold f closing d = Some d
hold f (worded bs) d = Some (with_class (class_named bs) d)
hold f (number bs) d = hold_number f (value bs) d
hold f nothing d = Some d

abbrev pub fresh : Draft
fresh = draft_of Delivery 0 0 (pos 0) 0 false 0

abbrev pub take_in : Field → Placed → Result Draft FormFault → Result Draft FormFault
take_in f t (Ok d) = ok_or (hold f t.symbol d) (OutOfRange (t.place + 1))
take_in f t (Err fault) = Err fault

-- the value of a field is the third of its four tokens
abbrev pub gather : List Field → List Placed → Result Draft FormFault → Result Draft FormFault
gather [] ts g = g
gather (f ∷ fs) ts g = gather fs (drop 4 ts) (take_in f (slice_index_or ts 2 (placed 0 nothing)) g)

abbrev pub formed : Verb → Draft → Form
formed Listing d = form.List d.asset d.holder
formed Term d = form.Term d.asset d.award d.kw d.ready
formed Over d = form.Over d.class d.asset d.cents
formed Under d = form.Under d.class d.asset d.cents
formed Uplift d = form.Uplift d.asset d.cents
formed Payin d = form.Payin d.asset d.cents
formed Ready d = form.Ready d.asset
formed Close d = form.Close

-- the line

abbrev pub by_range : Verb → Result Draft FormFault → Result Form FormFault
by_range v (Ok d) = Ok (formed v d)
by_range v (Err fault) = Err fault

abbrev pub by_shape : Verb → List Placed → Option FormFault → Result Form FormFault
by_shape v ts (Some fault) = Err fault
by_shape v ts None = by_range v (gather (fields v) ts (Ok fresh))

abbrev pub by_verb : ℕ → Placed → List Placed → Option Verb → Result Form FormFault
by_verb end u ts None = Err (fault_at u)
by_verb end u ts (Some v) = by_shape v ts (against end (wanted v) ts)

abbrev pub form_in : ℕ → List Placed → Result Form FormFault
form_in end [] = Err (NoForm end)
form_in end (t ∷ []) = Err (cond (is_opening t.symbol) (NoForm end) (fault_at t))
form_in end (t ∷ u ∷ ts) = cond (is_opening t.symbol) (by_verb end u ts (verb_of u.symbol)) (Err (fault_at t))

abbrev pub by_tokens : ℕ → List Placed → Option ℕ → Result Form FormFault
by_tokens end ts (Some place) = Err (Text (NoToken (place + 1)))
by_tokens end ts None = form_in end ts

abbrev pub reading : List ℕ → Result Form FormFault
reading line = cond (nat_lt 300 (length line)) (Err (Text LongLine)) (by_tokens (length line + 1) (tokens 0 line) (first_nothing (tokens 0 line)))

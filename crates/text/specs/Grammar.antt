-- The grammar: which lines are forms, and how every line is read.
--   Held f          what a field holds: a class, or a number of any size
--   Values fs       what some fields hold, one after the other
--   text, mark      the bytes that say what a field holds, and their symbol
--   drawn v vs      the symbols of a form's word with its fields: an opening bracket and the word, then each field, with its
--                   word and its value in brackets, then a closing bracket
--   Drawn ss        these symbols are those of a form's word with values of any size
--   Begins ss       such symbols begin with these
--   Within f x      what a field holds is in its range
--   Ranged fs vs    so is all that some fields hold
--   Off fs vs i     what is held before value i is in its range, and value i is not
--   verb, values    the word of a form, and what its fields hold
--   spelled f       the symbols of a form
--   Allowed f       all that its fields hold is in its range
--   written f       a line that says it, with one blank before each field and before each value
--   said ts         the symbols of some tokens
--   byte_of ts k    the byte of token k, counted from 1
--   AllTokens ts   none of them is nothing
--   Tokened line    the line has at most 300 bytes, and all of it is tokens
--   Reads line r    r is how the line is read
--   Only line r     the line is read in no other way
--   ReadBack       what is written of a form is read as that form
-- Assumes nothing.
use Rattle.std.specs.Prelude.{◌≡◌, ℕ, zero, suc, ◌+◌, ◌*◌, ◌<◌, ◌≤◌, cond, List, [], ◌∷◌, ◌++◌, map, length, get_or, take, ℤ, pos, neg_ℤ, ◌≤ℤ◌, Ok, Err, Result, ◌≢◌, slice_index_or}
use Rattle.std.specs.Fmt.{signed_decimal}
use Rattle.std.specs.List.{AllByRecursion}
use Rattle.payment.specs.Stand.{award_most, commitment_most}
use Rattle.book.specs.Limits.{asset_most, entry_most, holder_most}
use Rattle.book.specs.declared.class.Class.{Class}
use Rattle.text.specs.Forms.{class_word, field_word, fields, verb_word}
use Rattle.text.specs.Line.{form}
use Rattle.text.specs.Tokens.{Placed, Symbol, closing, nothing, number, opening, placed, tokens, worded}
use Rattle.text.specs.declared.fault.FormFault.{FormFault}
use Rattle.text.specs.declared.fault.FormFault.TheVariants.{NoForm, OutOfRange, Text}
use Rattle.text.specs.declared.fault.TextFault.TheVariants.{LongLine, NoToken}
use Rattle.text.specs.declared.form.Field.{Field}
use Rattle.text.specs.declared.form.Field.TheVariants.{Asset, Award, Cents, Class as OfClass, Holder, Kw, Ready as IsReady}
use Rattle.text.specs.declared.form.Form.{Form}
use Rattle.text.specs.declared.form.Form.TheVariants as say
use Rattle.text.specs.declared.form.Verb.{Verb}
use Rattle.text.specs.declared.form.Verb.TheVariants.{Close, List as Listing, Over, Payin, Ready, Term, Under, Uplift}

-- the symbols of a form

abbrev pub Held : Field → Type 0
Held OfClass = Class
Held Asset = ℤ
Held Holder = ℤ
Held Award = ℤ
Held Kw = ℤ
Held IsReady = ℤ
Held Cents = ℤ

abbrev pub Values : List Field → Type 0
Values [] = Unit {0}
Values (f ∷ fs) = Held f × Values fs

abbrev pub text : (f : Field) → Held f → List ℕ
text OfClass class = class_word class
text Asset z = signed_decimal z
text Holder z = signed_decimal z
text Award z = signed_decimal z
text Kw z = signed_decimal z
text IsReady z = signed_decimal z
text Cents z = signed_decimal z

abbrev pub mark : (f : Field) → Held f → Symbol
mark OfClass class = worded (class_word class)
mark Asset z = number (signed_decimal z)
mark Holder z = number (signed_decimal z)
mark Award z = number (signed_decimal z)
mark Kw z = number (signed_decimal z)
mark IsReady z = number (signed_decimal z)
mark Cents z = number (signed_decimal z)

abbrev pub drawn_fields : (fs : List Field) → Values fs → List Symbol
drawn_fields [] vs = closing ∷ []
drawn_fields (f ∷ fs) (x, vs) = opening ∷ worded (field_word f) ∷ mark f x ∷ closing ∷ drawn_fields fs vs

abbrev pub drawn : (v : Verb) → Values (fields v) → List Symbol
drawn v vs = opening ∷ worded (verb_word v) ∷ drawn_fields (fields v) vs

pub record Drawn (ss : List Symbol) : Type 0 where
  pub verb : Verb
  pub values : Values (fields verb)
  pub by : ss ≡ drawn verb values

pub record Begins (ss : List Symbol) : Type 0 where
  pub verb : Verb
  pub values : Values (fields verb)
  pub rest : List Symbol
  pub by : ss ++ rest ≡ drawn verb values

-- the ranges

abbrev pub Between : ℤ → ℤ → ℤ → Type 0
Between least most z = (least ≤ℤ z) × (z ≤ℤ most)

abbrev pub Within : (f : Field) → Held f → Type 0
Within OfClass class = Unit {0}
Within Asset z = Between (pos 1) (pos asset_most) z
Within Holder z = Between (pos 1) (pos holder_most) z
Within Award z = Between (neg_ℤ award_most) award_most z
Within Kw z = Between (pos 0) (pos commitment_most) z
Within IsReady z = Between (pos 0) (pos 1) z
Within Cents z = Between (pos 1) (pos entry_most) z

abbrev pub Ranged : (fs : List Field) → Values fs → Type 0
Ranged [] vs = Unit {0}
Ranged (f ∷ fs) (x, vs) = Within f x × Ranged fs vs

abbrev pub Off : (fs : List Field) → Values fs → ℕ → Type 0
Off [] vs i = ⊥
Off (f ∷ fs) (x, vs) zero = Within f x → ⊥
Off (f ∷ fs) (x, vs) (suc i) = Within f x × Off fs vs i

-- a form, its symbols, and a line that says it

abbrev pub verb : Form → Verb
verb (say.List asset holder) = Listing
verb (say.Term asset award commitment ready) = Term
verb (say.Over class asset cents) = Over
verb (say.Under class asset cents) = Under
verb (say.Uplift asset cents) = Uplift
verb (say.Payin asset cents) = Payin
verb (say.Ready asset) = Ready
verb say.Close = Close

abbrev pub values : (f : Form) → Values (fields (verb f))
values (say.List asset holder) = (pos asset, (pos holder, tt))
values (say.Term asset award commitment ready) = (pos asset, (award, (pos commitment, (cond ready (pos 1) (pos 0), tt))))
values (say.Over class asset cents) = (class, (pos asset, (pos cents, tt)))
values (say.Under class asset cents) = (class, (pos asset, (pos cents, tt)))
values (say.Uplift asset cents) = (pos asset, (pos cents, tt))
values (say.Payin asset cents) = (pos asset, (pos cents, tt))
values (say.Ready asset) = (pos asset, tt)
values say.Close = tt

abbrev pub spelled : Form → List Symbol
spelled f = drawn (verb f) (values f)

abbrev pub Allowed : Form → Type 0
Allowed f = Ranged (fields (verb f)) (values f)

abbrev pub texts : (fs : List Field) → Values fs → List (List ℕ × List ℕ)
texts [] vs = []
texts (f ∷ fs) (x, vs) = (field_word f, text f x) ∷ texts fs vs

abbrev pub written : Form → List ℕ
written f = form (verb_word (verb f)) (texts (fields (verb f)) (values f))

-- a line

abbrev pub said : List Placed → List Symbol
said ts = map (λ t. t.symbol) ts

abbrev pub byte_of : List Placed → ℕ → ℕ
byte_of ts k = (get_or ts k (placed 0 nothing)).place + 1

abbrev pub AllTokens : List Placed → Type 0
AllTokens ts = AllByRecursion (λ s. s ≢ nothing) (said ts)

pub record Tokened (line : List ℕ) : Type 0 where
  pub short : length line ≤ 300
  pub clean : AllTokens (tokens 0 line)

-- a form's bracket and word stand before its fields, which have four tokens each, the third of them the value
abbrev pub value_place : ℕ → ℕ
value_place i = 2 + 4 * i + 2

-- one way for each outcome; the byte that is named is that of the wrong token, or one past a line that ends early
pub data Reads (line : List ℕ) : Result Form FormFault → Type 0 where
  taken : {f : Form} → Tokened line → said (tokens 0 line) ≡ spelled f → Allowed f → Reads line (Ok f)
  long : 300 < length line → Reads line (Err (Text LongLine))
  -- token k is none, and those before it are
  stray : (k : ℕ) → length line ≤ 300 → k < length (tokens 0 line) → AllTokens (take k (tokens 0 line))
      → slice_index_or (said (tokens 0 line)) k nothing ≡ nothing
      → Reads line (Err (Text (NoToken (byte_of (tokens 0 line) k))))
  -- the tokens before token k begin a form, and with it they do not
  wrong : (k : ℕ) → Tokened line → k < length (tokens 0 line) → Begins (take k (said (tokens 0 line)))
      → (Begins (take (k + 1) (said (tokens 0 line))) → ⊥)
      → Reads line (Err (NoForm (byte_of (tokens 0 line) k)))
  -- all tokens begin a form, and are none
  early : Tokened line → Begins (said (tokens 0 line)) → (Drawn (said (tokens 0 line)) → ⊥) → Reads line (Err (NoForm (length line + 1)))
  -- value i is the first outside its range
  off : (v : Verb) (vs : Values (fields v)) (i : ℕ) → Tokened line → said (tokens 0 line) ≡ drawn v vs → Off (fields v) vs i
      → Reads line (Err (OutOfRange (byte_of (tokens 0 line) (value_place i))))

abbrev pub Only : List ℕ → Result Form FormFault → Type 0
Only line r = (other : Result Form FormFault) → Reads line other → other ≡ r

abbrev pub ReadBack : Type 0
ReadBack = (f : Form) → Allowed f → Reads (written f) (Ok f)

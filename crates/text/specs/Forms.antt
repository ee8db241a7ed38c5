-- The forms, by their tokens.
--   verb_word, field_word, class_word   the words
--   fields v        the fields of a form, in their order
--   wanted v        what stands behind a form's word: its fields, each with its word and its value in brackets, and a
--                   closing bracket
--   fits            whether a symbol may stand there
--   verb_of         the form that a symbol is the word of
--   class_of        the class that it is the word of
-- Assumes nothing.
use Rattle.std.specs.Prelude.{ℕ, Bool, true, false, cond, List, [], ◌∷◌, is_some, Some, None, codes, Option}
use Rattle.std.specs.Str.{bytes_eq}
use Rattle.book.specs.declared.class.Class.{Class}
use Rattle.book.specs.declared.class.Class.TheVariants.{Availability, Delivery}
use Rattle.text.specs.Tokens.{Symbol, closing, nothing, number, opening, worded}
use Rattle.text.specs.declared.form.Field.{Field}
use Rattle.text.specs.declared.form.Field.TheVariants.{Asset, Award, Cents, Class as OfClass, Holder, Kw, Ready as IsReady}
use Rattle.text.specs.declared.form.Item.{Item}
use Rattle.text.specs.declared.form.Item.TheVariants.{Close as Closed, Name, Open, Value}
use Rattle.text.specs.declared.form.Verb.{Verb}
use Rattle.text.specs.declared.form.Verb.TheVariants.{Close, List as Listing, Over, Payin, Ready, Term, Under, Uplift}

abbrev pub verb_word : Verb → List ℕ
verb_word Listing = codes "list"
verb_word Term = codes "term"
verb_word Over = codes "over"
verb_word Under = codes "under"
verb_word Uplift = codes "uplift"
verb_word Payin = codes "payin"
verb_word Ready = codes "ready"
verb_word Close = codes "close"

abbrev pub field_word : Field → List ℕ
field_word OfClass = codes "class"
field_word Asset = codes "asset"
field_word Holder = codes "holder"
field_word Award = codes "award"
field_word Kw = codes "kw"
field_word IsReady = codes "ready"
field_word Cents = codes "cents"

abbrev pub class_word : Class → List ℕ
class_word Delivery = codes "delivery"
class_word Availability = codes "availability"

abbrev pub fields : Verb → List Field
fields Listing = Asset ∷ Holder ∷ []
fields Term = Asset ∷ Award ∷ Kw ∷ IsReady ∷ []
fields Over = OfClass ∷ Asset ∷ Cents ∷ []
fields Under = OfClass ∷ Asset ∷ Cents ∷ []
fields Uplift = Asset ∷ Cents ∷ []
fields Payin = Asset ∷ Cents ∷ []
fields Ready = Asset ∷ []
fields Close = []

abbrev pub wanted_of : List Field → List Item
wanted_of [] = Closed ∷ []
wanted_of (f ∷ fs) = Open ∷ Name f ∷ Value f ∷ Closed ∷ wanted_of fs

abbrev pub wanted : Verb → List Item
wanted v = wanted_of (fields v)

abbrev pub is_opening : Symbol → Bool
is_opening opening = true
is_opening closing = false
is_opening (worded bs) = false
is_opening (number bs) = false
is_opening nothing = false

abbrev pub is_closing : Symbol → Bool
is_closing opening = false
is_closing closing = true
is_closing (worded bs) = false
is_closing (number bs) = false
is_closing nothing = false

abbrev pub is_word : List ℕ → Symbol → Bool
is_word word opening = false
is_word word closing = false
is_word word (worded bs) = bytes_eq bs word
is_word word (number bs) = false
is_word word nothing = false

abbrev pub is_number : Symbol → Bool
is_number opening = false
is_number closing = false
is_number (worded bs) = false
is_number (number bs) = true
is_number nothing = false

abbrev pub class_named : List ℕ → Option Class
class_named bs = cond (bytes_eq bs (codes "delivery")) (Some Delivery) (cond (bytes_eq bs (codes "availability")) (Some Availability) None)

abbrev pub class_of : Symbol → Option Class
class_of opening = None
class_of closing = None
class_of (worded bs) = class_named bs
class_of (number bs) = None
class_of nothing = None

abbrev pub is_value : Field → Symbol → Bool
is_value OfClass s = is_some (class_of s)
is_value Asset s = is_number s
is_value Holder s = is_number s
is_value Award s = is_number s
is_value Kw s = is_number s
is_value IsReady s = is_number s
is_value Cents s = is_number s

abbrev pub fits : Item → Symbol → Bool
fits Open s = is_opening s
fits (Name f) s = is_word (field_word f) s
fits (Value f) s = is_value f s
fits Closed s = is_closing s

abbrev pub named : List ℕ → Option Verb
named bs =
    cond (bytes_eq bs (codes "list")) (Some Listing)
    (cond (bytes_eq bs (codes "term")) (Some Term)
    (cond (bytes_eq bs (codes "over")) (Some Over)
    (cond (bytes_eq bs (codes "under")) (Some Under)
    (cond (bytes_eq bs (codes "uplift")) (Some Uplift)
    (cond (bytes_eq bs (codes "payin")) (Some Payin)
    (cond (bytes_eq bs (codes "ready")) (Some Ready)
    (cond (bytes_eq bs (codes "close")) (Some Close) None)))))))

abbrev pub verb_of : Symbol → Option Verb
verb_of opening = None
verb_of closing = None
verb_of (worded bs) = named bs
verb_of (number bs) = None
verb_of nothing = None

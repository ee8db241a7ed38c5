-- What the parts of the reader find, from a cursor over a line to the cursor behind what was read.
--   Wanted           a token where the line may not end: the token, or the fault
--   Took, Missed, Expected   one item: its token, or the fault
--   Read, FieldRead  a field: its value, or the fault
--   FieldsRead       some fields: what is gathered of them, or the fault
--   HeadRead         the opening bracket and the word of a form, or the fault
--   Finished         the closing bracket and nothing behind it, or the fault
--   read_behind      what is read behind a form's word
--   read_from        what is read of all that is left
-- Assumes nothing.
use Rattle.std.specs.Prelude.{◌≡◌, ◌⊎◌, ℕ, true, cond, List, [], ◌∷◌, drop, Some, None, Ok, Err, Option, Result, slice_index_or}
use Rattle.text.specs.Cursor.{Passed, Strays, end_of, left}
use Rattle.text.specs.Forms.{fits, is_opening, verb_of, wanted, wanted_of}
use Rattle.text.specs.Next.{symbol_of}
use Rattle.text.specs.Reading.{against, by_shape, fault_at, form_in, fresh, gather}
use Rattle.text.specs.Tokens.{Placed, nothing, placed}
use Rattle.text.specs.declared.draft.Draft.{Draft}
use Rattle.text.specs.declared.fault.FormFault.{FormFault}
use Rattle.text.specs.declared.fault.FormFault.TheVariants.{NoForm, Text}
use Rattle.text.specs.declared.fault.TextFault.{TextFault}
use Rattle.text.specs.declared.form.Field.{Field}
use Rattle.text.specs.declared.form.Form.{Form}
use Rattle.text.specs.declared.form.Item.{Item}
use Rattle.text.specs.declared.form.Item.TheVariants.{Close as Closed, Name, Open, Value}
use Rattle.text.specs.declared.form.Verb.{Verb}
use Rattle.text.specs.declared.lexer.Cursor.{Cursor}
use Rattle.text.specs.declared.token.Next.{Next}

abbrev pub Wanted : Cursor → Result Next FormFault → Cursor → Type 0
Wanted before (Ok next) after = Passed before next after
Wanted before (Err fault) after =
    ((left before ≡ []) × (fault ≡ NoForm (end_of before))) ⊎ ((stray : TextFault) × Strays (left before) stray × (fault ≡ Text stray))

pub record Took (before : Cursor) (item : Item) (next : Next) (after : Cursor) : Type 0 where
  pub passed : Passed before next after
  pub fitted : fits item (symbol_of next.token) ≡ true

-- the fault of tokens where an item is wanted, if the first does not fit
abbrev pub missed : ℕ → Item → List Placed → Option FormFault
missed end item [] = Some (NoForm end)
missed end item (t ∷ ts) = cond (fits item t.symbol) None (Some (fault_at t))

pub record Missed (end : ℕ) (item : Item) (ts : List Placed) (fault : FormFault) : Type 0 where
  pub by : missed end item ts ≡ Some fault

abbrev pub Expected : Cursor → Item → Result Next FormFault → Cursor → Type 0
Expected before item (Ok next) after = Took before item next after
Expected before item (Err fault) after = Missed (end_of before) item (left before) fault

abbrev pub with_field : Field → List Item → List Item
with_field f is = Open ∷ Name f ∷ Value f ∷ Closed ∷ is

pub record Read (before : Cursor) (field : Field) (next : Next) (after : Cursor) : Type 0 where
  pub held : slice_index_or (left before) 2 (placed 0 nothing) ≡ placed next.place (symbol_of next.token)
  pub rest : drop 4 (left before) ≡ left after
  pub passed : (is : List Item) → against (end_of before) (with_field field is) (left before) ≡ against (end_of before) is (left after)
  pub same_end : end_of after ≡ end_of before

abbrev pub FieldRead : Cursor → Field → Result Next FormFault → Cursor → Type 0
FieldRead before field (Ok next) after = Read before field next after
FieldRead before field (Err fault) after = (is : List Item) → against (end_of before) (with_field field is) (left before) ≡ Some fault

pub record Gone (before : Cursor) (fields : List Field) (gathered : Result Draft FormFault) (after : Cursor) : Type 0 where
  pub values : gathered ≡ gather fields (left before) (Ok fresh)
  pub passed : against (end_of before) (wanted_of fields) (left before) ≡ against (end_of before) (Closed ∷ []) (left after)
  pub same_end : end_of after ≡ end_of before

abbrev pub FieldsRead : Cursor → List Field → Result (Result Draft FormFault) FormFault → Cursor → Type 0
FieldsRead before fields (Ok gathered) after = Gone before fields gathered after
FieldsRead before fields (Err fault) after = against (end_of before) (wanted_of fields) (left before) ≡ Some fault

abbrev pub fault_in : {A : Type 0} → Result A FormFault → Option FormFault
fault_in (Ok a) = None
fault_in (Err fault) = Some fault

abbrev pub Finished : Cursor → Result (Unit {0}) FormFault → Type 0
Finished c result = fault_in result ≡ against (end_of c) (Closed ∷ []) (left c)

abbrev pub read_behind : Verb → Cursor → Result Form FormFault
read_behind verb c = by_shape verb (left c) (against (end_of c) (wanted verb) (left c))

abbrev pub read_from : Cursor → Result Form FormFault
read_from c = form_in (end_of c) (left c)

pub record Begins (before : Cursor) (verb : Verb) (after : Cursor) : Type 0 where
  pub bracket : Placed
  pub word : Placed
  pub first : left before ≡ bracket ∷ word ∷ left after
  pub opened : is_opening bracket.symbol ≡ true
  pub named : verb_of word.symbol ≡ Some verb
  pub same_end : end_of after ≡ end_of before

abbrev pub HeadRead : Cursor → Result Verb FormFault → Cursor → Type 0
HeadRead before (Ok verb) after = Begins before verb after
HeadRead before (Err fault) after = read_from before ≡ Err fault

-- How a line looks: a word with its fields behind it, in brackets.
--   field          one field: its word and its value, in brackets, behind a blank
--   form           a word with its fields
--   line           the same with byte 10 behind it
--   layer_word     the word of a layer
--   row_line, closed_line, invoice_line, refused_line   the printed lines
--   fault_line     the line of a fault, found in the line with this number
-- Assumes nothing.
use Rattle.std.specs.Prelude.{ℕ, List, [], ◌∷◌, ◌++◌, codes, decimal}
use Rattle.std.specs.Fmt.{signed_decimal}
use Rattle.std.specs.List.{flat_map}
use Rattle.book.specs.Class.{both}
use Rattle.book.specs.declared.class.ByClass.{ByClass}
use Rattle.book.specs.declared.row.Row.{Row}
use Rattle.text.specs.Fault.{byte, layer, number}
use Rattle.text.specs.declared.fault.Fault.{Fault}
use Rattle.text.specs.declared.fault.Layer.{Layer}
use Rattle.text.specs.declared.fault.Layer.TheVariants.{Book, Form, Text}

abbrev pub field : List ℕ × List ℕ → List ℕ
field (name, value) = codes " (" ++ name ++ codes " " ++ value ++ codes ")"

abbrev pub form : List ℕ → List (List ℕ × List ℕ) → List ℕ
form word fields = codes "(" ++ word ++ flat_map field fields ++ codes ")"

unfoldable pub line : List ℕ → List (List ℕ × List ℕ) → List ℕ
line word fields = form word fields ++ 10 ∷ []

unfoldable pub row_line : Row → List ℕ
row_line r =
    line (codes "row")
    ((codes "asset", decimal r.asset) ∷ (codes "award", signed_decimal r.award) ∷ (codes "taken", decimal (both r.taken))
    ∷ (codes "share", decimal (both r.share)) ∷ (codes "paid", signed_decimal r.payment) ∷ (codes "carried", signed_decimal r.balance) ∷ [])

unfoldable pub closed_line : ℕ → ByClass → List ℕ
closed_line period residues =
    line (codes "closed")
    ((codes "period", decimal period) ∷ (codes "delivery", decimal residues.delivery) ∷ (codes "availability", decimal residues.availability) ∷ [])

unfoldable pub invoice_line : ℕ → ℕ → List ℕ
invoice_line asset cents = line (codes "invoice") ((codes "asset", decimal asset) ∷ (codes "cents", decimal cents) ∷ [])

abbrev pub layer_word : Layer → List ℕ
layer_word Text = codes "text"
layer_word Form = codes "form"
layer_word Book = codes "book"

unfoldable pub refused_line : ℕ → ℕ → Layer → ℕ → List ℕ
refused_line n byte layer number =
    line (codes "refused")
    ((codes "line", decimal n) ∷ (codes "byte", decimal byte) ∷ (codes "layer", layer_word layer) ∷ (codes "number", decimal number) ∷ [])

abbrev pub fault_line : ℕ → Fault → List ℕ
fault_line n fault = refused_line n (byte fault) (layer fault) (number fault)

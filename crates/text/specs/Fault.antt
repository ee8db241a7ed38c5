-- What is wrong with a line. Faults nest: of the text, inside of the form, inside of the session.
--   number   the number of a fault
--   byte     the byte that it names, counted from 1: the first of the wrong token, one past the line where it ends early;
--            0 for the input as a whole, and 1 where the book refuses
--   layer    where it was found
-- Assumes nothing.
use Rattle.std.specs.Prelude.{ℕ}
use Rattle.book.specs.Refusal.{number as book_number}
use Rattle.text.specs.declared.fault.Fault.{Fault}
use Rattle.text.specs.declared.fault.Fault.TheVariants.{Book as ByBook, Form as InForm}
use Rattle.text.specs.declared.fault.FormFault.{FormFault}
use Rattle.text.specs.declared.fault.FormFault.TheVariants.{NoForm, OutOfRange, Text as InText}
use Rattle.text.specs.declared.fault.Layer.{Layer}
use Rattle.text.specs.declared.fault.Layer.TheVariants.{Book, Form, Text}
use Rattle.text.specs.declared.fault.TextFault.{TextFault}
use Rattle.text.specs.declared.fault.TextFault.TheVariants.{LongInput, LongLine, NoToken}

abbrev text_number : TextFault → ℕ
text_number LongInput = 1
text_number LongLine = 1
text_number (NoToken at) = 2

abbrev form_number : FormFault → ℕ
form_number (InText f) = text_number f
form_number (NoForm at) = 3
form_number (OutOfRange at) = 4

abbrev pub number : Fault → ℕ
number (InForm f) = form_number f
number (ByBook why) = book_number why

abbrev text_byte : TextFault → ℕ
text_byte LongInput = 0
text_byte LongLine = 301
text_byte (NoToken at) = at

abbrev form_byte : FormFault → ℕ
form_byte (InText f) = text_byte f
form_byte (NoForm at) = at
form_byte (OutOfRange at) = at

abbrev pub byte : Fault → ℕ
byte (InForm f) = form_byte f
byte (ByBook why) = 1

abbrev form_layer : FormFault → Layer
form_layer (InText f) = Text
form_layer (NoForm at) = Form
form_layer (OutOfRange at) = Form

abbrev pub layer : Fault → Layer
layer (InForm f) = form_layer f
layer (ByBook why) = Book

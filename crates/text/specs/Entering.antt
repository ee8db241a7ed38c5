-- Answers of a book, as the session has them.
--   booked   a refusal of the book as a fault
-- Assumes nothing.
use Rattle.std.specs.Prelude.{Ok, Err, Result}
use Rattle.book.specs.declared.refusal.Refusal.{Refusal}
use Rattle.text.specs.declared.answer.Answer.{Answer}
use Rattle.text.specs.declared.fault.Fault.{Fault}
use Rattle.text.specs.declared.fault.Fault.TheVariants.{Book as ByBook}

abbrev pub booked : Result Answer Refusal → Result Answer Fault
booked (Ok answer) = Ok answer
booked (Err why) = Err (ByBook why)

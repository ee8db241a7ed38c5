-- A line that is written into a page, the caller's bytes.
--   page_least                    the least bytes of a page
--   after_writing line page r     what the page holds then: the line with the bytes behind it as they were, or where it is refused all as it was
--   Written line page page' r     what a writer answers and leaves: it is refused by 16 exactly where the page is too short;
--                                 it answers the length of the line
-- Assumes nothing.
use Rattle.std.specs.Prelude.{◌≡◌, ℕ, ◌≤◌, List, ◌++◌, length, drop, IfOk, Ok, Err, Result}
use Rattle.text.specs.Refusal.{RefusedUnless, refusal}
use Rattle.text.specs.declared.refusal.Refusal.{Refusal}

abbrev pub page_least : ℕ
page_least = 300

abbrev pub after_writing : List ℕ → List ℕ → Result ℕ Refusal → List ℕ
after_writing line page (Ok n) = line ++ drop (length line) page
after_writing line page (Err why) = page

pub record Written (line page page' : List ℕ) (r : Result ℕ Refusal) : Type 0 where
  pub cases : RefusedUnless (page_least ≤ length page) 16 (refusal r)
  pub value : IfOk r (λ n. n ≡ length line)
  pub after : page' ≡ after_writing line page r

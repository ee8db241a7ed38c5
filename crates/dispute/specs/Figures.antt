-- The figures on days that the replies are known by.
--   Row       a reply to a paper served on day 100, and the number it is refused by, if it is
--   rows      the table
--   Figures   each reply is refused, or not, as its row says
-- Assumes nothing.
use Rattle.std.specs.Prelude.{◌≡◌, ℕ, List, [], ◌∷◌, Some, None, Option}
use Rattle.std.specs.List.{AllByRecursion}
use Rattle.dispute.specs.Paper.{Reply, accept, lapse, reject}
use Rattle.dispute.specs.Replies.{reply_ground}

pub record Row : Type 0 where
  pub act : Reply
  pub by : Option ℕ

abbrev row : Reply → Option ℕ → Row
row act by = record { act = act; by = by }

abbrev pub rows : List Row
rows =
    row (accept 99) (Some 18)
    ∷ row (accept 100) None
    ∷ row (accept 130) None
    ∷ row (accept 131) (Some 18)
    ∷ row (lapse 130) (Some 18)
    ∷ row (lapse 131) None
    ∷ row (reject 99) (Some 18)
    ∷ row (reject 100) None
    ∷ row (reject 130) None
    ∷ row (reject 131) (Some 18)
    ∷ []

abbrev pub Figures : Type 0
Figures = AllByRecursion (λ r. reply_ground 100 r.act ≡ r.by) rows

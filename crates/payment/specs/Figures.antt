-- The figures that the standard pile is known by. Assumes nothing.
--     Row       a standing, a total, and what is paid
--     rows      the table, in cents
--     Figures   the standard pile pays what each row says
use Rattle.std.specs.Prelude.{◌≡◌, List, [], ◌∷◌, ℤ, pos, neg_ℤ}
use Rattle.std.specs.List.{AllByRecursion}
use Rattle.payment.specs.Pile.{standard}
use Rattle.payment.specs.Stand.{Stand, stand}
use Rattle.payment.specs.declared.mark.Mark.TheVariants.{Ready, ReadyNext}

pub record Row : Type 0 where
  pub at : Stand
  pub total : ℤ
  pub paid : ℤ

abbrev row : Stand → ℤ → ℤ → Row
row at total paid = record { at = at; total = total; paid = paid }

-- ready, and committed for 500 kW
abbrev ready : ℤ → ℤ → Stand
ready award cap_base = stand award cap_base 500 Ready

abbrev pub rows : List Row
rows =
    row (ready (pos 400) (pos 400)) (pos 800) (pos 800)
    ∷ row (ready (pos 400) (pos 400)) (pos 801) (pos 800)
    ∷ row (ready (pos 400) (pos 400)) (neg_ℤ (pos 1)) (pos 0)
    ∷ row (ready (neg_ℤ (pos 400)) (pos 0)) (neg_ℤ (pos 450)) (neg_ℤ (pos 450))
    ∷ row (ready (neg_ℤ (pos 400)) (pos 0)) (pos 30) (pos 30)
    ∷ row (stand (pos 400) (pos 400) 500 ReadyNext) (pos 500) (pos 0)
    ∷ []

abbrev pub Figures : Type 0
Figures = AllByRecursion (λ r. standard r.at r.total ≡ r.paid) rows

-- The values of the code, read as papers and answers.
--   filed_paper, served_paper, referred_paper   a paper at each stage
--   yields        the answer that yields this resolution
--   answer f r    what a call answered: f of what it gave, or the number that it refused by
--   after f g r   the paper after a call: f of what it gave, or g of what it handed back
--   Same p r      a call that refused handed back p itself
-- Assumes nothing.
use Rattle.std.specs.Prelude.{◌≡◌, Ok, Err, Result}
use Rattle.dispute.specs.Paper.{Answer, Paper, filed, referred, refused, resolution, served}
use Rattle.dispute.specs.Refusal.{number}
use Rattle.dispute.specs.declared.paper.Offer.{Offer}
use Rattle.dispute.specs.declared.paper.Paper.{Paper as PaperAt}
use Rattle.dispute.specs.declared.paper.Rejected.{Rejected}
use Rattle.dispute.specs.declared.paper.Resolution.{Resolution}
use Rattle.dispute.specs.declared.paper.Unserved.{Unserved}
use Rattle.dispute.specs.declared.refusal.Refusal.{Refusal}

abbrev pub filed_paper : PaperAt Unserved → Paper
filed_paper p = filed p.asset p.period

abbrev pub served_paper : PaperAt Offer → Paper
served_paper p = served p.asset p.period p.stage.cents p.stage.day

abbrev pub referred_paper : PaperAt Rejected → Paper
referred_paper p = referred p.asset p.period

abbrev pub yields : Resolution → Answer
yields r = resolution r.asset r.cents

abbrev pub answer : {A B : Type 0} → (A → Answer) → Result A (B × Refusal) → Answer
answer f (Ok a) = f a
answer f (Err e) = refused (number e.1)

abbrev pub after : {A B : Type 0} → (A → Paper) → (B → Paper) → Result A (B × Refusal) → Paper
after f g (Ok a) = f a
after f g (Err e) = g e.0

abbrev pub Same : {A B : Type 0} → B → Result A (B × Refusal) → Type 0
Same paper (Ok a) = Unit {0}
Same paper (Err e) = e.0 ≡ paper

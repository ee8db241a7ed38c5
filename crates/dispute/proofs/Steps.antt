-- The step of a reply that resolves, from why it is refused, what it yields and what it hands back. Assumes nothing.
use Rattle.std.proofs.Common.{◌≡◌, IfOk, None, Ok, Err, Result, sym}
use Rattle.dispute.specs.Paper.{Reply, reply, resolution, resolved}
use Rattle.dispute.specs.Refusal.{refused_by}
use Rattle.dispute.specs.Replies.{ServedStep, reply_ground, reply_refused}
use Rattle.dispute.specs.Views.{Same, after, answer, served_paper, yields}
use Rattle.dispute.specs.declared.paper.Offer.{Offer}
use Rattle.dispute.specs.declared.paper.Paper.{Paper}
use Rattle.dispute.specs.declared.paper.Resolution.{Resolution}
use Rattle.dispute.specs.declared.refusal.Refusal.{Refusal}

pub resolving_step : (paper : Paper Offer) (r : Reply) (result : Result Resolution (Paper Offer × Refusal))
    → (reply_ground paper.stage.day r ≡ None → ServedStep (served_paper paper) (reply r) (resolution paper.asset paper.stage.cents) resolved)
    → refused_by result ≡ reply_ground paper.stage.day r
    → IfOk result (λ given. yields given ≡ resolution paper.asset paper.stage.cents)
    → Same paper result
    → ServedStep (served_paper paper) (reply r) (answer yields result) (after (λ _. resolved) served_paper result)
resolving_step paper r (Ok given) resolving cases value same = rw value (resolving (sym cases))
resolving_step paper r (Err back) resolving cases value same = rw same (reply_refused (sym cases))

use Rattle.std.proofs.Common.{rules}
use Rattle.dispute.specs.Paper.{lapse}
use Rattle.dispute.specs.Replies.{lapsed}
use Rattle.dispute.proofs.Steps.{resolving_step}
use Rattle.dispute.proofs.paper.replies.Served.lapse.Goals as goal

pub returns-clause-step : goal.returns-clause-step
returns-clause-step c =
    let e = c.resolve.ensures in
    resolving_step c.args.self (lapse c.args.day) c.resolve.result lapsed (search rules) e.value e.same

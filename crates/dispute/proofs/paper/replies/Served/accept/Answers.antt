use Rattle.std.proofs.Common.{rules}
use Rattle.dispute.specs.Paper.{accept}
use Rattle.dispute.specs.Replies.{accepted}
use Rattle.dispute.proofs.Steps.{resolving_step}
use Rattle.dispute.proofs.paper.replies.Served.accept.Goals as goal

pub returns-clause-step : goal.returns-clause-step
returns-clause-step c =
    let e = c.resolve.ensures in
    resolving_step c.args.self (accept c.args.day) c.resolve.result accepted (search rules) e.value e.same

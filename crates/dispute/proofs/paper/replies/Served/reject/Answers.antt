use Rattle.std.proofs.Common.{rules}
use Rattle.dispute.specs.Replies.{rejected, reply_refused}
use Rattle.dispute.proofs.paper.replies.Served.reject.Goals as goal

pub returns-in-Ok-clause-step : goal.returns-in-Ok-clause-step
returns-in-Ok-clause-step c = search (rules, rejected)

pub returns-in-Err-clause-step : goal.returns-in-Err-clause-step
returns-in-Err-clause-step c = reply_refused (search rules)

use Rattle.std.proofs.Common.{rules}
use Rattle.dispute.specs.Filing.{offer_refused, offered}
use Rattle.dispute.proofs.paper.filing.Filed.offer.Goals as goal

pub returns-in-Ok-clause-step : goal.returns-in-Ok-clause-step
returns-in-Ok-clause-step c = search (rules, offered)

pub returns-in-Err-clause-step : goal.returns-in-Err-clause-step
returns-in-Err-clause-step c = offer_refused (search rules)

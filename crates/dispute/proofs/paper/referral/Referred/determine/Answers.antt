use Rattle.std.proofs.Common.{rules}
use Rattle.dispute.specs.Referral.{determine_refused, determined}
use Rattle.dispute.proofs.paper.referral.Referred.determine.Goals as goal

pub returns-then-not-is_sum-clause-step : goal.returns-then-not-is_sum-clause-step
returns-then-not-is_sum-clause-step c = determine_refused (search rules)

pub returns-clause-step : goal.returns-clause-step
returns-clause-step c = search (rules, determined)

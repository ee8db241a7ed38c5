use Rattle.dispute.proofs.Lives.{lawful}
use Rattle.dispute.proofs.paper.filing.Filed.file.Goals as goal

pub returns-clause-life : goal.returns-clause-life
returns-clause-life c = lawful c.args.asset c.args.period

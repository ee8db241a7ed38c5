use Rattle.std.proofs.Common.{eqb, rules, tests}
use Rattle.std.proofs.lemmas.Iterator.{YieldsList-from_slice}
use Rattle.std.proofs.lemmas.Iterator.Search.{position_from_yields_List}
use Rattle.book.proofs.Places.{first_found}
use Rattle.book.proofs.find.find.Goals as goal

pub returns : goal.returns
returns c =
    let xs = c.args.accounts.now in
    record { cases = first_found c.args.asset xs c.position.result (position_from_yields_List (λ x. eqb x.asset c.args.asset) _ _ c.position.result c.position.ensures.ran (YieldsList-from_slice xs cc) (λ x b q k. search (rules, tests))) }

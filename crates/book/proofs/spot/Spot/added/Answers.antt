use Rattle.std.proofs.Common.{◌+ℤ◌, w64, SFits, rules}
use Rattle.std.proofs.lemmas.Int.{to_z-of_z}
use Rattle.book.proofs.spot.Spot.added.Goals as goal

pub returns : goal.returns
returns c =
    let general : SFits w64 c.args.self.now.account.ledger.general = search rules in
    let entries : SFits w64 c.args.self.now.account.ledger.entries = search rules in
    let cents : SFits w64 c.args.cents = search rules in
    let sum : SFits w64 (c.args.self.now.account.ledger.entries +ℤ c.args.cents) = search rules in
    record { cases = (search rules, simp to_z-of_z) }

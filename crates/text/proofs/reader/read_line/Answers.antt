use Rattle.text.proofs.Readings.{law_of, only_of}
use Rattle.text.proofs.Sayings.{read_back}
use Rattle.text.proofs.reader.read_line.Goals as goal

pub returns : goal.returns
returns c =
    let line = c.args.line.now in
    let e = c.read_whole.ensures.value in
    record { value = e; law = law_of line e; only = only_of line e; back = read_back }

use Rattle.std.proofs.Common.{codes, sym, ap, arith}
use Rattle.std.proofs.lemmas.Slice.Eq.{text_from_reads}
use Rattle.text.specs.Forms.{named}
use Rattle.text.proofs.words.verb_named.Goals as goal

pub returns-in-uplift : goal.returns-in-uplift
returns-in-uplift c =
    record {
      value = sym
          (ap named
          (text_from_reads c.args.word.now (codes "uplift") (omega arith) (omega arith, (omega arith, (omega arith, (omega arith, (omega arith, (omega arith, tt))))))));
    }

use Rattle.std.proofs.Common.{take}
use Rattle.std.specs.List.{flat_map}
use Rattle.text.specs.Line.{row_line}
use Rattle.text.specs.Transcript.{Added}
use Rattle.text.proofs.transcript.Transcript.print_rows.Given as goal

abbrev pub invariant-loop-row : goal.invariant-loop-row
invariant-loop-row l = Added l.row-index (flat_map row_line (take l.row-index l.rows)) l.initial.self.bytes l.self.bytes

use Rattle.std.proofs.Common.{◌+◌, ◌<◌, ◌∷◌, take, drop, sym, ap, ◌∙◌, arith}
use Rattle.text.specs.Tokens.{placed, symbol_by, tokens}
use Rattle.text.proofs.Lexing.{at_run}
use Rattle.text.proofs.lexer.piece_len.Goals as goal

pub returns-in-Part-clause-value : goal.returns-in-Part-clause-value
returns-in-Part-clause-value c place =
    let bs = c.args.bytes.now in
    let n = c.span.result in
    let some : 0 < n = grind (arith, c.span.ensures.stops) in
    at_run place n bs some c.span.ensures.bound (λ k h. c.span.ensures.all k h ∙ c.in-Part.is) (λ h e. c.span.ensures.stops h (e ∙ sym c.in-Part.is))
    ∙ ap (λ s. placed place (symbol_by s (take n bs)) ∷ tokens (place + n) (drop n bs)) (sym c.in-Part.is)

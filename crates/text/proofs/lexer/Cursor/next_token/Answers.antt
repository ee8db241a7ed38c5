use Rattle.std.proofs.lemmas.Result.{err_from_is_err_and}
use Rattle.std.proofs.Common.{◌≡◌, ◌+◌, Some, None, refl, sym, ap, ◌∙◌, arith}
use Rattle.text.specs.Next.{told}
use Rattle.std.proofs.lemmas.List.{at_drop_all}
use Rattle.text.specs.Tokens.{tokens}
use Rattle.text.proofs.Lexing.{first_token, past}
use Rattle.text.proofs.lexer.Cursor.next_token.Goals as goal

pub returns-in_default : goal.returns-in_default
returns-in_default c =
    let bs = c.args.self.now.rest.now in
    let at = c.args.self.now.at in
    let n = c.span-blanks.result in
    let e = c.span-blanks.ensures in
    (past at n bs e.bound e.all ∙ at_drop_all (tokens (at + n)) bs n (omega arith), refl)

pub returns-in_err-token : goal.returns-in_err-token
returns-in_err-token c =
    let e = c.span-blanks.ensures in
    let none : c.token_of.result ≡ None = grind arith in
    let p = err_from_is_err_and c.from_residual.result c.from_residual.ensures.1 in
    rw (p.1, p.2) record {
      place = c.args.self.now.at + c.span-blanks.result;
      rest = tokens (c.args.self.now.at + c.span-blanks.result + c.piece_len-len.result) c.split_at-2.result.1.now;
      first = first_token c.args.self.now.at c.span-blanks.result c.piece_len-len.result c.args.self.now.rest.now c.split_at.result.1.now c.split_at-2.result.0.now
          c.split_at-2.result.1.now c.from-sort.result _ e.bound e.all c.split_at.ensures.back c.piece_len-len.ensures.value c.split_at-2.ensures.front c.split_at-2.ensures.back
          (ap told (sym none) ∙ c.token_of.ensures);
      named = grind arith;
    }

pub returns : goal.returns
returns c =
    let e = c.span-blanks.ensures in
    let one : c.token_of.result ≡ Some c.in_ok-token.token = grind arith in
    record {
      first = first_token c.args.self.now.at c.span-blanks.result c.piece_len-len.result c.args.self.now.rest.now c.split_at.result.1.now c.split_at-2.result.0.now
          c.split_at-2.result.1.now c.from-sort.result _ e.bound e.all c.split_at.ensures.back c.piece_len-len.ensures.value c.split_at-2.ensures.front c.split_at-2.ensures.back
          (ap told (sym one) ∙ c.token_of.ensures);
      same_end = omega (arith, c.split_at.ensures.back_len, c.split_at-2.ensures.back_len);
      onward = omega (arith, c.split_at.ensures.back_len, c.split_at-2.ensures.back_len, c.piece_len-len.ensures.bound.0);
    }

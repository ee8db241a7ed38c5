-- The next token, by the sort of the byte that it begins with.
-- Assumes nothing.
use Rattle.std.proofs.Common.{◌≡◌, ℕ, zero, suc, ◌+◌, ◌<◌, ◌≤◌, List, [], ◌∷◌, map, length, take, drop, sym, ap, ◌∙◌, arith}
use Rattle.text.specs.Bytes.{sort_at}
use Rattle.text.specs.Tokens.{Piece, Placed, placed, run_symbol, Symbol, symbol, symbol_by, tokens}
use Rattle.text.specs.declared.byte.Sort.{Sort}
use Rattle.text.specs.declared.byte.Sort.TheVariants.{Blank, Part}
use Rattle.text.proofs.Pieces.{past_blanks, run_piece}

abbrev token : Piece → Placed
token p = placed p.place (symbol p.bytes)

-- the same from behind the blanks
pub past : (place n : ℕ) (bs : List ℕ) → n ≤ length bs → ((k : ℕ) → k < n → sort_at bs k ≡ Blank) → tokens place bs ≡ tokens (place + n) (drop n bs)
past place n bs h blanks = ap (map token) (past_blanks n place bs h blanks)

-- a run is one token
pub at_run : (place n : ℕ) (bs : List ℕ) → 0 < n → n ≤ length bs → ((k : ℕ) → k < n → sort_at bs k ≡ Part) → (n < length bs → sort_at bs n ≡ Part → ⊥)
    → tokens place bs ≡ placed place (run_symbol (take n bs)) ∷ tokens (place + n) (drop n bs)
at_run place n [] some h all stops = absurd (omega arith)
at_run place zero (b ∷ bs) some h all stops = absurd (omega arith)
at_run place (suc n) (b ∷ bs) some h all stops =
    ap (map token) (run_piece n place (b ∷ bs) (omega arith) all stops)
    ∙ ap (λ s. placed place (symbol_by s (b ∷ take n bs)) ∷ tokens (place + suc n) (drop n bs)) (all 0 some)

-- the first token, where the bytes behind the blanks are cut in two
pub first_token : (at n m : ℕ) (bs rest front behind : List ℕ) (s : Sort) (t : Symbol) → n ≤ length bs → ((k : ℕ) → k < n → sort_at bs k ≡ Blank) → rest ≡ drop n bs
    → ((place : ℕ) → tokens place rest ≡ placed place (symbol_by s (take m rest)) ∷ tokens (place + m) (drop m rest)) → front ≡ take m rest → behind ≡ drop m rest
    → t ≡ symbol_by s front → tokens at bs ≡ placed (at + n) t ∷ tokens (at + n + m) behind
first_token at n m bs rest front behind s t h blanks there first one others told =
    past at n bs h blanks ∙ ap (tokens (at + n)) (sym there) ∙ first (at + n)
    ∙ ap (λ t. placed (at + n) t ∷ tokens (at + n + m) (drop m rest)) (sym (told ∙ ap (symbol_by s) one))
    ∙ ap (λ bs. placed (at + n) t ∷ tokens (at + n + m) bs) (sym others)

-- Bytes to tokens.
--   Piece      a part of a line that stands for itself, with its place: a bracket, a whole run, or a byte of no token
--   pieces     of bytes that begin at a place: brackets and blanks part runs, and a run goes on as long as it can
--   word       whether a run is a word: 1 to 12 letters
--   numeral    whether it is a number: 1 to 15 digits with no leading zero, a minus before them unless they are 0
--   value      what a number says
--   Symbol     what a piece is: a bracket, a word or a number with its bytes, or nothing
--   tokens     the pieces, each read as a symbol
-- Assumes nothing.
use Rattle.std.specs.Prelude.{ℕ, ◌+◌, ◌-◌, ◌*◌, Bool, cond, not, ◌&&◌, ◌||◌, List, [], ◌∷◌, map, length, drop, ℤ, pos, neg_ℤ, ◌==◌, nat_le, slice_index}
use Rattle.std.specs.List.{list_all}
use Rattle.text.specs.Bytes.{part, sort, within}
use Rattle.text.specs.declared.byte.Sort.{Sort}
use Rattle.text.specs.declared.byte.Sort.TheVariants.{Blank, Close, Foreign, Open, Part}

pub record Piece : Type 0 where
  pub place : ℕ
  pub bytes : List ℕ

abbrev pub piece : ℕ → List ℕ → Piece
piece place bytes = record { place = place; bytes = bytes }

-- a byte of a run, before the pieces behind it
abbrev pub grown : ℕ → ℕ → List Piece → List Piece
grown place b [] = piece place (b ∷ []) ∷ []
grown place b (next ∷ rest) =
    cond (next.place == place + 1 && part (slice_index next.bytes 0)) (piece place (b ∷ next.bytes) ∷ rest) (piece place (b ∷ []) ∷ next ∷ rest)

abbrev pub joined_to : Sort → ℕ → ℕ → List Piece → List Piece
joined_to Open place b rest = piece place (b ∷ []) ∷ rest
joined_to Close place b rest = piece place (b ∷ []) ∷ rest
joined_to Blank place b rest = rest
joined_to Part place b rest = grown place b rest
joined_to Foreign place b rest = piece place (b ∷ []) ∷ rest

abbrev pub pieces : ℕ → List ℕ → List Piece
pieces place [] = []
pieces place (b ∷ bs) = joined_to (sort b) place b (pieces (place + 1) bs)

abbrev pub all_within : ℕ → ℕ → List ℕ → Bool
all_within least most bs = list_all (within least most) bs

abbrev pub word : List ℕ → Bool
word bs = nat_le 1 (length bs) && (nat_le (length bs) 12 && all_within 97 122 bs)

abbrev pub digits : List ℕ → Bool
digits bs = all_within 48 57 bs

-- digits that begin with no zero, or are just 0
abbrev pub natural : List ℕ → Bool
natural bs = nat_le 1 (length bs) && (nat_le (length bs) 15 && (digits bs && (length bs == 1 || not (slice_index bs 0 == 48))))

abbrev pub numeral : List ℕ → Bool
numeral bs = cond (slice_index bs 0 == 45) (natural (drop 1 bs) && not (slice_index (drop 1 bs) 0 == 48)) (natural bs)

pub data Symbol : Type 0 where
  opening : Symbol
  closing : Symbol
  worded : List ℕ → Symbol
  number : List ℕ → Symbol
  nothing : Symbol

pub record Placed : Type 0 where
  pub place : ℕ
  pub symbol : Symbol

abbrev pub placed : ℕ → Symbol → Placed
placed place symbol = record { place = place; symbol = symbol }

abbrev pub run_symbol : List ℕ → Symbol
run_symbol bs = cond (word bs) (worded bs) (cond (numeral bs) (number bs) nothing)

abbrev pub symbol_by : Sort → List ℕ → Symbol
symbol_by Open bs = opening
symbol_by Close bs = closing
symbol_by Blank bs = nothing
symbol_by Part bs = run_symbol bs
symbol_by Foreign bs = nothing

-- a piece is what its first byte begins
abbrev pub symbol : List ℕ → Symbol
symbol bs = symbol_by (sort (slice_index bs 0)) bs

abbrev pub tokens : ℕ → List ℕ → List Placed
tokens place bs = map (λ p. placed p.place (symbol p.bytes)) (pieces place bs)

-- what a number says

abbrev pub read_on : ℕ → List ℕ → ℕ
read_on n [] = n
read_on n (b ∷ bs) = read_on (n * 10 + (b - 48)) bs

abbrev pub magnitude : List ℕ → ℕ
magnitude bs = read_on 0 bs

abbrev pub value : List ℕ → ℤ
value bs = cond (slice_index bs 0 == 45) (neg_ℤ (pos (magnitude (drop 1 bs)))) (pos (magnitude bs))

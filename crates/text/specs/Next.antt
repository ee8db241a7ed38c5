-- Tokens of the code, and the first symbol that is none.
--   symbol_of        what a token of the code says
--   told             the same, nothing where there is none
--   first_nothing    the place of the first of some tokens that is none
--   Sound            all are tokens, or the fault names the first that is none
-- Assumes nothing.
use Rattle.std.specs.Prelude.{◌≡◌, ℕ, ◌+◌, List, [], ◌∷◌, Some, None, Ok, Err, Option, Result}
use Rattle.text.specs.Tokens.{Placed, Symbol, closing, nothing, number, opening, worded}
use Rattle.text.specs.declared.fault.TextFault.{TextFault}
use Rattle.text.specs.declared.fault.TextFault.TheVariants.{NoToken}
use Rattle.text.specs.declared.token.Token.{Token}
use Rattle.text.specs.declared.token.Token.TheVariants.{Close, Number, Open, Word}

abbrev pub symbol_of : Token → Symbol
symbol_of Open = opening
symbol_of Close = closing
symbol_of (Word t) = worded t.now
symbol_of (Number t) = number t.run.now

abbrev pub told : Option Token → Symbol
told None = nothing
told (Some t) = symbol_of t

abbrev pub stray : ℕ → Symbol → Option ℕ → Option ℕ
stray place opening later = later
stray place closing later = later
stray place (worded bs) later = later
stray place (number bs) later = later
stray place nothing later = Some place

abbrev pub first_nothing : List Placed → Option ℕ
first_nothing [] = None
first_nothing (t ∷ ts) = stray t.place t.symbol (first_nothing ts)

abbrev pub Sound : List Placed → Result (Unit {0}) TextFault → Type 0
Sound ts (Ok u) = first_nothing ts ≡ None
Sound ts (Err fault) = (place : ℕ) × (first_nothing ts ≡ Some place) × (fault ≡ NoToken (place + 1))

-- The tokens of a line: the numbers among them, and the first that is none.
-- Assumes nothing.
use Rattle.std.proofs.Common.{◌≡◌, ℕ, zero, suc, ◌<◌, cond, ◌⊎◌, List, [], ◌∷◌, map, length, get_or, take, Some, None, Option, sym, refl, ap, ◌∙◌, inl, inr, ⊎_elim, arith}
use Rattle.std.proofs.Math.Nat.{suc-ne-zero}
use Rattle.std.specs.List.{AllByRecursion}
use Rattle.std.proofs.lemmas.Option.{none-some}
use Rattle.std.proofs.lemmas.Bool.{cond_both}
use Rattle.text.specs.Bytes.{sort}
use Rattle.text.specs.Grammar.{AllTokens, said}
use Rattle.text.specs.Next.{first_nothing, stray}
use Rattle.text.specs.Tokens.{Piece, Placed, Symbol, closing, nothing, number, numeral, opening, pieces, placed, run_symbol, symbol, symbol_by, tokens, word, worded}
use Rattle.text.specs.declared.byte.Sort.{Sort}
use Rattle.text.specs.declared.byte.Sort.TheVariants.{Blank, Close, Foreign, Open, Part}
use Rattle.text.proofs.Drafts.{Numeric}

-- a token that is a number is read as one

run_numeric : (bs : List ℕ) → Numeric (run_symbol bs)
run_numeric bs =
    cond_both (word bs) (worded bs) (cond (numeral bs) (number bs) nothing) Numeric (λ _. tt)
    (λ _. cond_both (numeral bs) (number bs) nothing Numeric (λ e. e) (λ _. tt))

sort_numeric : (s : Sort) (bs : List ℕ) → Numeric (symbol_by s bs)
sort_numeric Open bs = tt
sort_numeric Close bs = tt
sort_numeric Blank bs = tt
sort_numeric Part bs = run_numeric bs
sort_numeric Foreign bs = tt

pieces_numeric : (ps : List Piece) → AllByRecursion Numeric (said (map (λ p. placed p.place (symbol p.bytes)) ps))
pieces_numeric [] = tt
pieces_numeric (p ∷ ps) = (sort_numeric (sort (get_or p.bytes 0 0)) p.bytes, pieces_numeric ps)

pub tokens_numeric : (place : ℕ) (bs : List ℕ) → AllByRecursion Numeric (said (tokens place bs))
tokens_numeric place bs = pieces_numeric (pieces place bs)

-- the first that is none

nothing_or_not : (s : Symbol) → (s ≡ nothing) ⊎ (s ≡ nothing → ⊥)
nothing_or_not opening = inr (λ e. suc-ne-zero 0 cc)
nothing_or_not closing = inr (λ e. suc-ne-zero 0 cc)
nothing_or_not (worded bs) = inr (λ e. suc-ne-zero 0 cc)
nothing_or_not (number bs) = inr (λ e. suc-ne-zero 0 cc)
nothing_or_not nothing = inl refl

stray_other : (s : Symbol) (place : ℕ) (later : Option ℕ) → (s ≡ nothing → ⊥) → stray place s later ≡ later
stray_other opening place later h = refl
stray_other closing place later h = refl
stray_other (worded bs) place later h = refl
stray_other (number bs) place later h = refl
stray_other nothing place later h = absurd (h refl)

pub clean_none : (ts : List Placed) → AllTokens ts → first_nothing ts ≡ None
clean_none [] all = refl
clean_none (t ∷ ts) all = stray_other t.symbol t.place (first_nothing ts) all.0 ∙ clean_none ts all.1

pub none_clean : (ts : List Placed) → first_nothing ts ≡ None → AllTokens ts
none_clean [] e = tt
none_clean (t ∷ ts) e =
    ⊎_elim (λ stray-here. absurd (none-some _ (sym e ∙ ap (λ s. stray t.place s (first_nothing ts)) stray-here)))
    (λ other. (other, none_clean ts (sym (stray_other t.symbol t.place (first_nothing ts) other) ∙ e))) (nothing_or_not t.symbol)

pub stray_first : (ts : List Placed) (k : ℕ) → k < length ts → AllTokens (take k ts) → get_or (said ts) k nothing ≡ nothing
    → first_nothing ts ≡ Some (get_or ts k (placed 0 nothing)).place
stray_first [] k h all e = absurd (omega arith)
stray_first (t ∷ ts) zero h all e = ap (λ s. stray t.place s (first_nothing ts)) e
stray_first (t ∷ ts) (suc k) h all e = stray_other t.symbol t.place (first_nothing ts) all.0 ∙ stray_first ts k (omega arith) all.1 e

pub record Stray (ts : List Placed) (place : ℕ) : Type 0 where
  pub at : ℕ
  pub among : at < length ts
  pub before : AllTokens (take at ts)
  pub none : get_or (said ts) at nothing ≡ nothing
  pub there : place ≡ (get_or ts at (placed 0 nothing)).place

pub first_stray : (ts : List Placed) (place : ℕ) → first_nothing ts ≡ Some place → Stray ts place
first_stray [] place e = absurd (none-some _ e)
first_stray (t ∷ ts) place e =
    ⊎_elim
    (λ here. record { at = 0; among = omega arith; before = tt; none = here; there = one (sym (ap (λ s. stray t.place s (first_nothing ts)) here) ∙ e) })
    (λ other.
    let more = first_stray ts place (sym (stray_other t.symbol t.place (first_nothing ts) other) ∙ e) in
    record { at = suc more.at; among = omega arith; before = (other, more.before); none = more.none; there = more.there })
    (nothing_or_not t.symbol)
  where
    one : {x y : ℕ} → Some x ≡ Some y → y ≡ x
    one e = cc

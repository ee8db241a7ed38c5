-- A line as the pieces that are put for it: what stands between two values is one piece with the value behind it. Assumes nothing.
use Rattle.std.proofs.Common.{◌≡◌, ℕ, List, [], ◌∷◌, ◌++◌, codes, sym, ap, ◌∙◌, append_assoc, append-nil}
use Rattle.std.specs.List.{concat, flat_map}
use Rattle.text.specs.Line.{field, line}

-- these pieces were put behind a, one after the other, and made b of it
pub data Puts : List ℕ → List (List ℕ) → List ℕ → Type 0 where
  none : {a : List ℕ} → Puts a [] a
  more : {a b c piece : List ℕ} {pieces : List (List ℕ)} → b ≡ a ++ piece → Puts b pieces c → Puts a (piece ∷ pieces) c

infixr 60 ◌⨾◌
pub ◌⨾◌ : {a b c piece : List ℕ} {pieces : List (List ℕ)} → b ≡ a ++ piece → Puts b pieces c → Puts a (piece ∷ pieces) c
p ⨾ q = more p q

pub last : {a b piece : List ℕ} → b ≡ a ++ piece → Puts a (piece ∷ []) b
last p = more p none

-- two pieces as one
pub joined : (a bs cs : List ℕ) {b c : List ℕ} → b ≡ a ++ bs → c ≡ b ++ cs → c ≡ a ++ (bs ++ cs)
joined a bs cs p q = q ∙ ap (λ xs. xs ++ cs) p ∙ append_assoc a bs cs

all_put : {a b : List ℕ} {pieces : List (List ℕ)} → Puts a pieces b → b ≡ a ++ concat pieces
all_put {a = a} none = sym (append-nil a)
all_put {a = a} (more {piece = piece} {pieces = pieces} p q) = joined a piece (concat pieces) p (all_put q)

-- the pieces of a line that has begun: each field with what stands before its value, and the end of the line
abbrev pieces_of : List ℕ → List (List ℕ × List ℕ) → List (List ℕ)
pieces_of before [] = (before ++ codes ")" ++ 10 ∷ []) ∷ []
pieces_of before ((name, value) ∷ fields) = (before ++ codes " (" ++ name ++ codes " " ++ value) ∷ pieces_of (codes ")") fields

pieces_are : (before : List ℕ) (fields : List (List ℕ × List ℕ)) → concat (pieces_of before fields) ≡ before ++ (flat_map field fields ++ codes ")" ++ 10 ∷ [])
pieces_are before [] = simp (append_assoc, append-nil)
pieces_are before ((name, value) ∷ fields) = ap (λ xs. before ++ codes " (" ++ name ++ codes " " ++ value ++ xs) (pieces_are (codes ")") fields) ∙ simp append_assoc

-- the pieces of a line, put behind nothing, are the line
pub spelled : (word : List ℕ) (fields : List (List ℕ × List ℕ)) {a b : List ℕ} → a ≡ [] → Puts a (pieces_of (codes "(" ++ word) fields) b → b ≡ line word fields
unfolding line
spelled word fields empty puts =
    all_put puts ∙ ap (λ xs. xs ++ concat (pieces_of (codes "(" ++ word) fields)) empty ∙ pieces_are (codes "(" ++ word) fields ∙ simp append_assoc

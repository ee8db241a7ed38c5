-- The pieces of a line, one after the other.
-- Assumes nothing.
use Rattle.std.proofs.Common.{◌≡◌, ℕ, zero, suc, ◌+◌, ◌<◌, ◌≤◌, Bool, true, false, ◌&&◌, eqb, List, [], ◌∷◌, length, get_or, take, drop, refl, ap, ◌∙◌, subst, ⊎_elim, arith}
use Rattle.std.proofs.lemmas.Bool.{and_from, and_left, and_right, both_ways, cases_Bool, cond_both, cond-false, cond-true, eq-eqb, ne_eqb}
use Rattle.text.specs.Bytes.{part, sort, sort_at}
use Rattle.text.specs.Tokens.{Piece, grown, joined_to, piece, pieces}
use Rattle.text.specs.declared.byte.Sort.{Sort}
use Rattle.text.specs.declared.byte.Sort.TheVariants.{Blank, Close, Foreign, Open, Part}

-- blanks, so many of them
pub past_blanks : (n place : ℕ) (bs : List ℕ) → n ≤ length bs → ((k : ℕ) → k < n → sort_at bs k ≡ Blank) → pieces place bs ≡ pieces (place + n) (drop n bs)
past_blanks zero place bs h all = ap (λ p. pieces p bs) (omega arith)
past_blanks (suc n) place [] h all = absurd (omega arith)
past_blanks (suc n) place (b ∷ bs) h all =
    ap (λ s. joined_to s place b (pieces (place + 1) bs)) (all 0 (omega arith))
    ∙ past_blanks n (place + 1) bs (omega arith) (λ k low. all (suc k) (omega arith))
    ∙ ap (λ p. pieces p (drop n bs)) (omega arith)

-- a byte is part of a run just where it is of that sort
pub part_sort : (b : ℕ) → part b ≡ true → sort b ≡ Part
part_sort b e =
    cond-false _ _ _ (other 40 (λ s. both_ways (part 40) refl s))
    ∙ cond-false _ _ _ (other 41 (λ s. both_ways (part 41) refl s))
    ∙ cond-false _ _ _ (other 32 (λ s. both_ways (part 32) refl s))
    ∙ cond-true _ _ _ e
  where
    other : (n : ℕ) → (part n ≡ true → ⊥) → eqb b n ≡ false
    other n bad = ne_eqb b n (λ same. bad (subst (λ m. part m ≡ true) same e))

abbrev of_run : Sort → Bool
of_run Open = false
of_run Close = false
of_run Blank = false
of_run Part = true
of_run Foreign = false

sort_part : (b : ℕ) → sort b ≡ Part → part b ≡ true
sort_part b e = ⊎_elim (λ p. p) (λ p. absurd (both_ways (of_run (sort b)) (no_run p) (ap of_run e))) (cases_Bool (part b))
  where
    no_run : part b ≡ false → of_run (sort b) ≡ false
    no_run p =
        cond_both (eqb b 40) Open _ (λ s. of_run s ≡ false) (λ _. refl)
        (λ _. cond_both (eqb b 41) Close _ (λ s. of_run s ≡ false) (λ _. refl)
        (λ _. cond_both (eqb b 32) Blank _ (λ s. of_run s ≡ false) (λ _. refl) (λ _. ap of_run (cond-false _ Part Foreign p))))

-- no piece stands before the place where its bytes begin
abbrev Behind : ℕ → List Piece → Type 0
Behind place [] = Unit {0}
Behind place (next ∷ rest) = place ≤ next.place

behind_grown : (place b : ℕ) (rest : List Piece) → Behind place (grown place b rest)
behind_grown place b [] = omega arith
behind_grown place b (next ∷ rest) =
    cond_both (eqb next.place (place + 1) && part (get_or next.bytes 0 0)) (piece place (b ∷ next.bytes) ∷ rest) (piece place (b ∷ []) ∷ next ∷ rest)
    (Behind place) (λ _. omega arith) (λ _. omega arith)

behind_weaker : (place : ℕ) (ps : List Piece) → Behind (place + 1) ps → Behind place ps
behind_weaker place [] h = tt
behind_weaker place (p ∷ ps) h = omega arith

behind_joined : (s : Sort) (place b : ℕ) (rest : List Piece) → Behind (place + 1) rest → Behind place (joined_to s place b rest)
behind_joined Open place b rest h = omega arith
behind_joined Close place b rest h = omega arith
behind_joined Blank place b rest h = behind_weaker place rest h
behind_joined Part place b rest h = behind_grown place b rest
behind_joined Foreign place b rest h = omega arith

behind : (place : ℕ) (bs : List ℕ) → Behind place (pieces place bs)
behind place [] = tt
behind place (b ∷ bs) = behind_joined (sort b) place b (pieces (place + 1) bs) (behind (place + 1) bs)

-- a run that ends before a place does not go on in the pieces there
abbrev Apart : ℕ → List Piece → Type 0
Apart place [] = Unit {0}
Apart place (next ∷ rest) = (eqb next.place place && part (get_or next.bytes 0 0)) ≡ false

grown_apart : (place b : ℕ) (rest : List Piece) → Apart (place + 1) rest → grown place b rest ≡ piece place (b ∷ []) ∷ rest
grown_apart place b [] h = refl
grown_apart place b (next ∷ rest) h = cond-false _ _ _ h

apart_past : (place : ℕ) (ps : List Piece) → Behind (place + 1) ps → Apart place ps
apart_past place [] h = tt
apart_past place (next ∷ rest) h = and_left _ _ (ne_eqb next.place place (λ e. omega arith))

not_part : (b : ℕ) → (sort b ≡ Part → ⊥) → part b ≡ false
not_part b other = ⊎_elim (λ p. absurd (other (part_sort b p))) (λ p. p) (cases_Bool (part b))

apart_joined : (s : Sort) (place b : ℕ) (rest : List Piece) → sort b ≡ s → (sort b ≡ Part → ⊥) → Behind (place + 1) rest → Apart place (joined_to s place b rest)
apart_joined Open place b rest e other h = and_right _ _ (not_part b other)
apart_joined Close place b rest e other h = and_right _ _ (not_part b other)
apart_joined Blank place b rest e other h = apart_past place rest h
apart_joined Part place b rest e other h = absurd (other e)
apart_joined Foreign place b rest e other h = and_right _ _ (not_part b other)

apart : (place : ℕ) (bs : List ℕ) → (0 < length bs → sort_at bs 0 ≡ Part → ⊥) → Apart place (pieces place bs)
apart place [] stops = tt
apart place (b ∷ bs) stops = apart_joined (sort b) place b (pieces (place + 1) bs) refl (stops (omega arith)) (behind (place + 1) bs)

-- a run of so many bytes and one more is one piece
pub run_piece : (n place : ℕ) (bs : List ℕ) → n < length bs → ((k : ℕ) → k < suc n → sort_at bs k ≡ Part) → (suc n < length bs → sort_at bs (suc n) ≡ Part → ⊥)
    → pieces place bs ≡ piece place (take (suc n) bs) ∷ pieces (place + suc n) (drop (suc n) bs)
run_piece n place [] h all stops = absurd (omega arith)
run_piece zero place (b ∷ bs) h all stops =
    ap (λ s. joined_to s place b (pieces (place + 1) bs)) (all 0 (omega arith))
    ∙ grown_apart place b (pieces (place + 1) bs) (apart (place + 1) bs (λ h. stops (omega arith)))
run_piece (suc n) place (b ∷ []) h all stops = absurd (omega arith)
run_piece (suc n) place (b ∷ c ∷ bs) h all stops =
    let next = take (suc n) (c ∷ bs) in
    let rest = drop (suc n) (c ∷ bs) in
    let inner : pieces (place + 1) (c ∷ bs) ≡ piece (place + 1) next ∷ pieces (place + 1 + suc n) rest =
    run_piece n (place + 1) (c ∷ bs) (omega arith) (λ k low. all (suc k) (omega arith)) (λ h. stops (omega arith)) in
    ap (λ s. joined_to s place b (pieces (place + 1) (c ∷ bs))) (all 0 (omega arith))
    ∙ ap (grown place b) inner
    ∙ cond-true _ _ _ (and_from _ _ (eq-eqb (place + 1) (place + 1) refl) (sort_part c (all 1 (omega arith))))
    ∙ ap (λ p. piece place (b ∷ next) ∷ pieces p rest) (omega arith)

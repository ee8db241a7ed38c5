-- The line that is written of a form has its symbols.
-- Assumes nothing.
use Rattle.std.proofs.Common.{◌≡◌, ℕ, zero, suc, ◌+◌, ◌*◌, ◌^◌, ◌<◌, ◌≤◌, Bool, true, false, ◌&&◌, eqb, leb, List, [], ◌∷◌, ◌++◌, length, get_or, drop, ℤ, pos, negsuc, neg_ℤ, ◌≤ℤ◌, sym, refl, ap, ◌∙◌, subst, ⊎_elim, arith}
use Rattle.std.proofs.Math.Nat.{suc-ne-zero}
use lib.Signed.{mag}
use Rattle.std.specs.Fmt.{signed_decimal}
use Rattle.std.specs.List.{flat_map, AllByRecursion}
use Rattle.std.proofs.lemmas.List.{append_assoc, drop_at, get_or-append-add, get_or_append_left, length-append, take_at}
use Rattle.std.proofs.lemmas.Int.{ints}
use Rattle.std.proofs.lemmas.Bool.{and_from, and_left, and_parts, and_right, both_ways, cases_eq, cond-false, cond-true, le-leb, leb-true, lt-leb, or_left, or_right}
use Rattle.payment.specs.Stand.{award_most, commitment_most}
use Rattle.book.specs.Limits.{asset_most, entry_most, holder_most}
use Rattle.book.specs.declared.class.Class.TheVariants.{Availability, Delivery}
use Rattle.text.specs.Bytes.{part, sort, within}
use Rattle.text.specs.Forms.{field_word, fields, verb_word}
use Rattle.text.specs.Grammar.{Allowed, Between, Held, Ranged, ReadBack, Values, Within, drawn, drawn_fields, mark, said, spelled, taken, text, texts, values, verb, written}
use Rattle.text.specs.Line.{field, form}
use Rattle.text.specs.Tokens.{Symbol, all_within, closing, digits, natural, nothing, number, numeral, opening, run_symbol, tokens, word, worded}
use Rattle.text.specs.declared.byte.Sort.TheVariants.{Part}
use Rattle.text.specs.declared.form.Field.{Field}
use Rattle.text.specs.declared.form.Field.TheVariants.{Asset, Award, Cents, Class as OfClass, Holder, Kw, Ready as IsReady}
use Rattle.text.specs.declared.form.Form.{Form}
use Rattle.text.specs.declared.form.Verb.{Verb}
use Rattle.text.specs.declared.form.Verb.TheVariants.{Close, List as Listing, Over, Payin, Ready, Term, Under, Uplift}
use Rattle.text.proofs.Lexing.{at_run}
use Rattle.text.proofs.Numbers.{few_digits, numeral_signed}
use Rattle.text.proofs.Pieces.{part_sort}
use Rattle.text.proofs.Runs.{digit_bounds, digits_minus, digits_plain}

-- bytes have these symbols, wherever they stand
record Says (bs : List ℕ) (ss : List Symbol) : Type 0 where
  by : (place : ℕ) → said (tokens place bs) ≡ ss

says_opening : {bs : List ℕ} {ss : List Symbol} → Says bs ss → Says (40 ∷ bs) (opening ∷ ss)
says_opening says = record { by = λ place. ap (λ ss. opening ∷ ss) (says.by (place + 1)) }

says_closing : {bs : List ℕ} {ss : List Symbol} → Says bs ss → Says (41 ∷ bs) (closing ∷ ss)
says_closing says = record { by = λ place. ap (λ ss. closing ∷ ss) (says.by (place + 1)) }

says_blank : {bs : List ℕ} {ss : List Symbol} → Says bs ss → Says (32 ∷ bs) ss
says_blank says = record { by = λ place. says.by (place + 1) }

-- a run, up to a byte that is no part of one

abbrev parts : List ℕ → Bool
parts [] = true
parts (b ∷ bs) = part b && parts bs

part_at : (run : List ℕ) (k : ℕ) → parts run ≡ true → k < length run → sort (get_or run k 0) ≡ Part
part_at [] k h lt = absurd (omega arith)
part_at (b ∷ run) zero h lt = part_sort b (and_parts (part b) (parts run) h).0
part_at (b ∷ run) (suc k) h lt = part_at run k (and_parts (part b) (parts run) h).1 (omega arith)

record Run (run : List ℕ) (s : Symbol) : Type 0 where
  some : leb 1 (length run) ≡ true
  short : leb (length run) 16 ≡ true
  whole : parts run ≡ true
  means : run_symbol run ≡ s

abbrev Stops : List ℕ → Type 0
Stops bs = sort (get_or bs 0 0) ≡ Part → ⊥

run_said : (run rest : List ℕ) (s : Symbol) (ss : List Symbol) → Run run s → Stops rest → Says rest ss → (place : ℕ) → said (tokens place (run ++ rest)) ≡ s ∷ ss
run_said run rest s ss r stops says place =
    ap said
    (at_run place (length run) (run ++ rest) (leb-true 1 (length run) r.some) (simp length-append (omega arith))
    (λ k high. ap sort (get_or_append_left run rest 0 k high) ∙ part_at run k r.whole high)
    (λ h e. stops (sym (ap sort (ap (λ n. get_or (run ++ rest) n 0) (omega arith) ∙ get_or-append-add run rest 0 0)) ∙ e)))
    ∙ ap (λ bs. run_symbol bs ∷ said (tokens (place + length run) (drop (length run) (run ++ rest)))) (take_at run rest (length run) refl)
    ∙ ap (λ bs. run_symbol run ∷ said (tokens (place + length run) bs)) (drop_at run rest (length run) refl)
    ∙ ap (λ ss. run_symbol run ∷ ss) (says.by (place + length run))
    ∙ ap (λ s. s ∷ ss) r.means

says_run : {run rest : List ℕ} {s : Symbol} {ss : List Symbol} → Run run s → Stops rest → Says rest ss → Says (run ++ rest) (s ∷ ss)
says_run {run} {rest} {s} {ss} r stops says = record { by = run_said run rest s ss r stops says }

-- the words are runs, and so are numbers

field_run : (f : Field) → Run (field_word f) (worded (field_word f))
field_run OfClass = record { some = refl; short = refl; whole = refl; means = refl }
field_run Asset = record { some = refl; short = refl; whole = refl; means = refl }
field_run Holder = record { some = refl; short = refl; whole = refl; means = refl }
field_run Award = record { some = refl; short = refl; whole = refl; means = refl }
field_run Kw = record { some = refl; short = refl; whole = refl; means = refl }
field_run IsReady = record { some = refl; short = refl; whole = refl; means = refl }
field_run Cents = record { some = refl; short = refl; whole = refl; means = refl }

verb_run : (v : Verb) → Run (verb_word v) (worded (verb_word v))
verb_run Listing = record { some = refl; short = refl; whole = refl; means = refl }
verb_run Term = record { some = refl; short = refl; whole = refl; means = refl }
verb_run Over = record { some = refl; short = refl; whole = refl; means = refl }
verb_run Under = record { some = refl; short = refl; whole = refl; means = refl }
verb_run Uplift = record { some = refl; short = refl; whole = refl; means = refl }
verb_run Payin = record { some = refl; short = refl; whole = refl; means = refl }
verb_run Ready = record { some = refl; short = refl; whole = refl; means = refl }
verb_run Close = record { some = refl; short = refl; whole = refl; means = refl }

digit_part : (b : ℕ) → within 48 57 b ≡ true → part b ≡ true
digit_part b e = or_right (within 97 122 b) _ (or_left _ (eqb b 45) e)

digits_parts : (bs : List ℕ) → digits bs ≡ true → parts bs ≡ true
digits_parts [] e = refl
digits_parts (b ∷ bs) e = let p = and_parts (within 48 57 b) (digits bs) e in and_from _ _ (digit_part b p.0) (digits_parts bs p.1)

low_no_word : (b : ℕ) (ds : List ℕ) → b < 97 → word (b ∷ ds) ≡ false
low_no_word b ds h = and_right (leb 1 (length (b ∷ ds))) _ (and_right (leb (length (b ∷ ds)) 12) _ (and_left _ (all_within 97 122 ds) (and_left _ (leb b 122) (lt-leb 97 b h))))

number_run : (bs : List ℕ) → numeral bs ≡ true → Run bs (number bs)
number_run [] e = absurd (both_ways (natural []) refl e)
number_run (b ∷ ds) e =
    ⊎_elim
    (λ minus.
    let ps : parts (b ∷ ds) ≡ true = and_from (part b) _ (ap part minus) (digits_parts ds (digits_minus (b ∷ ds) minus e).0) in
    run ps (omega arith))
    (λ plain.
    let p = and_parts (within 48 57 b) (digits ds) (digits_plain (b ∷ ds) plain e).0 in
    let high = (digit_bounds b p.0).1 in
    run (digits_parts (b ∷ ds) (digits_plain (b ∷ ds) plain e).0) (omega arith))
    (cases_eq b 45)
  where
    run : parts (b ∷ ds) ≡ true → b < 97 → Run (b ∷ ds) (number (b ∷ ds))
    run ps low =
        record {
          some = le-leb 1 (length (b ∷ ds)) (omega arith);
          short = le-leb (length (b ∷ ds)) 16 (few_digits (b ∷ ds) e);
          whole = ps;
          means = cond-false _ _ _ (low_no_word b ds low) ∙ cond-true _ _ _ e;
        }

-- what a field holds in its range is a number, or the word of a class

within_numeral : (least most z : ℤ) → Between least most z → neg_ℤ award_most ≤ℤ least → most ≤ℤ award_most → numeral (signed_decimal z) ≡ true
within_numeral least most z h low high = numeral_signed z (small z (omega (arith, ints)) (omega (arith, ints)))
  where
    small : (z : ℤ) → neg_ℤ award_most ≤ℤ z → z ≤ℤ award_most → mag z + 1 < 10 ^ 15
    small (pos n) low high = omega (arith, ints)
    small (negsuc n) low high = omega (arith, ints)

text_run : (f : Field) (x : Held f) → Within f x → Run (text f x) (mark f x)
text_run OfClass Delivery w = record { some = refl; short = refl; whole = refl; means = refl }
text_run OfClass Availability w = record { some = refl; short = refl; whole = refl; means = refl }
text_run Asset z w = number_run (signed_decimal z) (within_numeral (pos 1) (pos asset_most) z w (omega (arith, ints)) (omega (arith, ints)))
text_run Holder z w = number_run (signed_decimal z) (within_numeral (pos 1) (pos holder_most) z w (omega (arith, ints)) (omega (arith, ints)))
text_run Award z w = number_run (signed_decimal z) (within_numeral (neg_ℤ award_most) award_most z w (omega (arith, ints)) (omega (arith, ints)))
text_run Kw z w = number_run (signed_decimal z) (within_numeral (pos 0) (pos commitment_most) z w (omega (arith, ints)) (omega (arith, ints)))
text_run IsReady z w = number_run (signed_decimal z) (within_numeral (pos 0) (pos 1) z w (omega (arith, ints)) (omega (arith, ints)))
text_run Cents z w = number_run (signed_decimal z) (within_numeral (pos 1) (pos entry_most) z w (omega (arith, ints)) (omega (arith, ints)))

-- the fields of a line, up to its last bracket

abbrev tail : List (List ℕ × List ℕ) → List ℕ
tail fs = flat_map field fs ++ 41 ∷ []

field_bytes : (name value rest : List ℕ) → field (name, value) ++ rest ≡ 32 ∷ 40 ∷ (name ++ 32 ∷ (value ++ 41 ∷ rest))
field_bytes name value rest = simp append_assoc

tail_bytes : (name value : List ℕ) (fs : List (List ℕ × List ℕ)) → tail ((name, value) ∷ fs) ≡ 32 ∷ 40 ∷ (name ++ 32 ∷ (value ++ 41 ∷ tail fs))
tail_bytes name value fs = append_assoc (field (name, value)) (flat_map field fs) (41 ∷ []) ∙ field_bytes name value (tail fs)

blank_stops : (bs : List ℕ) → Stops (32 ∷ bs)
blank_stops bs e = suc-ne-zero 0 cc

closing_stops : (bs : List ℕ) → Stops (41 ∷ bs)
closing_stops bs e = suc-ne-zero 0 cc

tail_stops : (fs : List (List ℕ × List ℕ)) → Stops (tail fs)
tail_stops [] = closing_stops []
tail_stops ((name, value) ∷ fs) = subst Stops (sym (tail_bytes name value fs)) (blank_stops (40 ∷ (name ++ 32 ∷ (value ++ 41 ∷ tail fs))))

says_tail : (fs : List Field) (vs : Values fs) → Ranged fs vs → Says (tail (texts fs vs)) (drawn_fields fs vs)
says_tail [] vs r = record { by = λ place. refl }
says_tail (f ∷ fs) (x, vs) r =
    subst (λ bs. Says bs (drawn_fields (f ∷ fs) (x, vs))) (sym (tail_bytes (field_word f) (text f x) (texts fs vs)))
    (says_blank (says_opening (says_run (field_run f) (blank_stops (text f x ++ 41 ∷ tail (texts fs vs)))
    (says_blank (says_run (text_run f x r.0) (closing_stops (tail (texts fs vs))) (says_closing (says_tail fs vs r.1)))))))

line_bytes : (word : List ℕ) (fs : List (List ℕ × List ℕ)) → form word fs ≡ 40 ∷ (word ++ tail fs)
line_bytes word fs = simp append_assoc

says_line : (f : Form) → Allowed f → Says (written f) (spelled f)
says_line f s =
    let fs = texts (fields (verb f)) (values f) in
    subst (λ bs. Says bs (spelled f)) (sym (line_bytes (verb_word (verb f)) fs))
    (says_opening (says_run (verb_run (verb f)) (tail_stops fs) (says_tail (fields (verb f)) (values f) s)))

-- none of its symbols is nothing

mark_some : (f : Field) (x : Held f) → mark f x ≡ nothing → ⊥
mark_some OfClass class e = suc-ne-zero 0 cc
mark_some Asset x e = suc-ne-zero 0 cc
mark_some Holder x e = suc-ne-zero 0 cc
mark_some Award x e = suc-ne-zero 0 cc
mark_some Kw x e = suc-ne-zero 0 cc
mark_some IsReady x e = suc-ne-zero 0 cc
mark_some Cents x e = suc-ne-zero 0 cc

opening_some : opening ≡ nothing → ⊥
opening_some e = suc-ne-zero 0 cc

closing_some : closing ≡ nothing → ⊥
closing_some e = suc-ne-zero 0 cc

worded_some : {bs : List ℕ} → worded bs ≡ nothing → ⊥
worded_some e = suc-ne-zero 0 cc

fields_some : (fs : List Field) (vs : Values fs) → AllByRecursion (λ s. s ≡ nothing → ⊥) (drawn_fields fs vs)
fields_some [] vs = (closing_some, tt)
fields_some (f ∷ fs) (x, vs) = (opening_some, (worded_some, (mark_some f x, (closing_some, fields_some fs vs))))

drawn_some : (v : Verb) (vs : Values (fields v)) → AllByRecursion (λ s. s ≡ nothing → ⊥) (drawn v vs)
drawn_some v vs = (opening_some, (worded_some, fields_some (fields v) vs))

-- and it is short

few_fields : (v : Verb) → leb (length (fields v)) 4 ≡ true
few_fields Listing = refl
few_fields Term = refl
few_fields Over = refl
few_fields Under = refl
few_fields Uplift = refl
few_fields Payin = refl
few_fields Ready = refl
few_fields Close = refl

run_short : {run : List ℕ} {s : Symbol} → Run run s → length run ≤ 16
run_short {run} r = leb-true (length run) 16 r.short

-- a word or a value has at most 16 bytes, and four more stand around them
tail_short : (fs : List Field) (vs : Values fs) → Ranged fs vs → length (tail (texts fs vs)) ≤ 36 * length fs + 1
tail_short [] vs r = omega arith
tail_short (f ∷ fs) (x, vs) r =
    let name = run_short (field_run f) in
    let value = run_short (text_run f x r.0) in
    let more = tail_short fs vs r.1 in
    let size : length (tail (texts (f ∷ fs) (x, vs))) ≡ 4 + length (field_word f) + length (text f x) + length (tail (texts fs vs)) =
    ap length (tail_bytes (field_word f) (text f x) (texts fs vs)) ∙ simp length-append (omega arith) in
    omega arith

line_short : (f : Form) → Allowed f → length (written f) ≤ 300
line_short f s =
    let fs = texts (fields (verb f)) (values f) in
    let word = run_short (verb_run (verb f)) in
    let few = leb-true (length (fields (verb f))) 4 (few_fields (verb f)) in
    let rest = tail_short (fields (verb f)) (values f) s in
    let size : length (written f) ≡ 1 + length (verb_word (verb f)) + length (tail fs) = ap length (line_bytes (verb_word (verb f)) fs) ∙ simp length-append (omega arith) in
    omega arith

pub read_back : ReadBack
read_back f s =
    let says = (says_line f s).by 0 in
    taken (record { short = line_short f s; clean = subst (AllByRecursion (λ s. s ≡ nothing → ⊥)) (sym says) (drawn_some (verb f) (values f)) }) says s

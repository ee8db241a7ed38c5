-- A line is read as the grammar says, and in no other way.
-- Assumes nothing.
use Rattle.std.proofs.Common.{◌≡◌, ℕ, suc, ◌+◌, ◌*◌, ◌<◌, List, [], ◌∷◌, length, get_or, take, drop, Ok, Err, Result, sym, refl, ap, ◌∙◌, subst, ⊎_elim, add-one, arith}
use Rattle.std.proofs.Math.Nat.{suc-ne-zero}
use Rattle.std.specs.List.{AllByRecursion}
use Rattle.std.proofs.ByRecursion.{All-take}
use Rattle.std.proofs.lemmas.List.{drop-map, get_or-drop, take-take}
use Rattle.std.proofs.lemmas.Bool.{cases_lt, cases_order, cond-true, lt-ltb}
use Rattle.text.specs.Forms.{fields, is_opening, verb_of, wanted}
use Rattle.text.specs.Grammar.{Begins, Drawn, Off, Only, Ranged, Reads, Tokened, Values, byte_of, drawn, drawn_fields, early, long, off, said, stray, taken, value_place, values, verb, wrong}
use Rattle.text.specs.Next.{first_nothing}
use Rattle.text.specs.Reading.{by_range, by_shape, by_tokens, by_verb, form_in, formed, fresh, gather, reading}
use Rattle.text.specs.Tokens.{Placed, Symbol, nothing, placed, tokens}
use Rattle.text.specs.declared.fault.FormFault.{FormFault}
use Rattle.text.specs.declared.fault.FormFault.TheVariants.{NoForm, OutOfRange, Text}
use Rattle.text.specs.declared.fault.TextFault.TheVariants.{NoToken}
use Rattle.text.specs.declared.form.Form.{Form}
use Rattle.text.specs.declared.form.Verb.{Verb}
use Rattle.text.proofs.Drafts.{Numeric, begins_leads, begins_take, drawn_begins, drawn_met, fields_meet, leads_begins, met_drawn, word_verb}
use Rattle.text.proofs.Lines.{short_line, token_line}
use Rattle.text.proofs.Ranges.{filled, formed_again, gather_off, gather_ranged, made, ranged_or_off}
use Rattle.text.proofs.Strays.{clean_none, first_stray, none_clean, stray_first, tokens_numeric}
use Rattle.text.proofs.Ways.{LeadsForm, Meets, Shape, against_met, broken_form, cases_option, cut_form, shape, whole_form}

-- tokens that are drawn by a form's word with some values

drawn_read : (end : ℕ) (ts : List Placed) (v : Verb) (vs : Values (fields v)) → said ts ≡ drawn v vs
    → form_in end ts ≡ by_range v (gather (fields v) (drop 2 ts) (Ok fresh))
drawn_read end [] v vs e = absurd (suc-ne-zero 0 cc)
drawn_read end (t ∷ []) v vs e = absurd (suc-ne-zero 0 cc)
drawn_read end (t ∷ u ∷ ts) v vs e =
    let rest : said ts ≡ drawn_fields (fields v) vs = ap (drop 2) e in
    cond-true _ _ _ (ap (λ ss. is_opening (get_or ss 0 nothing)) e)
    ∙ ap (by_verb end u ts) (ap (λ ss. verb_of (get_or ss 1 nothing)) e ∙ word_verb v)
    ∙ ap (by_shape v ts) (against_met end (wanted v) ts (subst (λ ss. Meets ss (wanted v)) (sym rest) (fields_meet (fields v) vs)))

module _ (end : ℕ) (ts : List Placed) (v : Verb) (vs : Values (fields v)) (e : said ts ≡ drawn v vs) (ns : AllByRecursion Numeric (said ts)) where
  fields_said : said (drop 2 ts) ≡ drawn_fields (fields v) vs
  fields_said = sym (drop-map (λ t. t.symbol) 2 ts) ∙ ap (drop 2) e

  fields_numeric : AllByRecursion Numeric (drawn_fields (fields v) vs)
  fields_numeric = (subst (AllByRecursion Numeric) e ns).1.1

  ranged_read : (f : Form) → Ranged (fields v) vs → formed v (filled (fields v) vs fresh) ≡ f → form_in end ts ≡ Ok f
  ranged_read f r same =
      drawn_read end ts v vs e ∙ ap (by_range v) (gather_ranged (fields v) vs (drop 2 ts) fresh fields_said fields_numeric r) ∙ ap Ok same

  off_read : (i : ℕ) → Off (fields v) vs i → form_in end ts ≡ Err (OutOfRange (byte_of ts (value_place i)))
  off_read i o =
      drawn_read end ts v vs e
      ∙ ap (by_range v) (gather_off (fields v) vs (drop 2 ts) fresh i fields_said fields_numeric o)
      ∙ ap (λ t. Err (OutOfRange (t.place + 1))) (get_or-drop 2 ts (4 * i + 2) (placed 0 nothing))
      ∙ ap (λ k. Err (OutOfRange (byte_of ts k))) (omega arith)

-- a place where tokens stop being those of a form is the only one

module _ (ss : List Symbol) (ns : AllByRecursion Numeric ss) where
  begins_next : (j k : ℕ) → j < k → Begins (take k ss) → Begins (take (suc j) ss)
  begins_next j k h b = subst Begins (take-take (suc j) k ss h) (begins_take (suc j) b)

  leads_next : (j k : ℕ) → j < k → LeadsForm (take k ss) → Begins (take (suc j) ss)
  leads_next j k h l = begins_next j k h (leads_begins (take k ss) (All-take Numeric k ss ns) l)

wrong_read : (end : ℕ) (ts : List Placed) (k : ℕ) → AllByRecursion Numeric (said ts) → Begins (take k (said ts)) → (Begins (take (suc k) (said ts)) → ⊥) → Shape end ts
    → form_in end ts ≡ Err (NoForm (byte_of ts k))
wrong_read end ts k ns b n (whole_form m) = absurd (n (begins_take (suc k) (drawn_begins (met_drawn (said ts) ns m))))
wrong_read end ts k ns b n (cut_form l m e) = absurd (n (begins_take (suc k) (leads_begins (said ts) ns l)))
wrong_read end ts k ns b n (broken_form j h l m e) =
    ⊎_elim (λ same. e ∙ ap (λ k. Err (NoForm (byte_of ts k))) same)
    (⊎_elim (λ lt. absurd (m (begins_leads (begins_next (said ts) ns j k lt b)))) (λ gt. absurd (n (leads_next (said ts) ns k j gt l)))) (cases_order j k)

early_read : (end : ℕ) (ts : List Placed) → AllByRecursion Numeric (said ts) → Begins (said ts) → (Drawn (said ts) → ⊥) → Shape end ts → form_in end ts ≡ Err (NoForm end)
early_read end ts ns b n (whole_form m) = absurd (n (met_drawn (said ts) ns m))
early_read end ts ns b n (cut_form l m e) = e
early_read end ts ns b n (broken_form j h l m e) = absurd (m (begins_leads (begins_take (suc j) b)))

-- a line has one reading at most

tokened_line : (line : List ℕ) → Tokened line → reading line ≡ form_in (length line + 1) (tokens 0 line)
tokened_line line t = token_line line t.short (clean_none (tokens 0 line) t.clean)

reads_only : (line : List ℕ) (r : Result Form FormFault) → Reads line r → r ≡ reading line
reads_only line r (taken {f} t e s) =
    sym
    (tokened_line line t
    ∙ ranged_read (length line + 1) (tokens 0 line) (verb f) (values f) e (tokens_numeric 0 line) f s (formed_again f))
reads_only line r (long h) = sym (cond-true _ _ _ (lt-ltb 300 (length line) h))
reads_only line r (stray k h among before none) =
    sym (short_line line h ∙ ap (by_tokens (length line + 1) (tokens 0 line)) (stray_first (tokens 0 line) k among before none))
reads_only line r (wrong k t among b n) =
    sym
    (tokened_line line t
    ∙ wrong_read (length line + 1) (tokens 0 line) k (tokens_numeric 0 line) b (λ m. n (rw add-one m)) (shape (length line + 1) (tokens 0 line) t.clean))
reads_only line r (early t b n) =
    sym (tokened_line line t ∙ early_read (length line + 1) (tokens 0 line) (tokens_numeric 0 line) b n (shape (length line + 1) (tokens 0 line) t.clean))
reads_only line r (off v vs i t e o) =
    sym (tokened_line line t ∙ off_read (length line + 1) (tokens 0 line) v vs e (tokens_numeric 0 line) i o)

-- and it has that one

module _ (line : List ℕ) (t : Tokened line) where
  read_as : {r : Result Form FormFault} → form_in (length line + 1) (tokens 0 line) ≡ r → Reads line r → Reads line (reading line)
  read_as e reads = subst (Reads line) (sym (tokened_line line t ∙ e)) reads

  drawn_law : (v : Verb) (vs : Values (fields v)) → said (tokens 0 line) ≡ drawn v vs → Reads line (reading line)
  drawn_law v vs e =
      ⊎_elim
      (λ r.
      let m = made v vs r in
      read_as (ranged_read (length line + 1) (tokens 0 line) v vs e (tokens_numeric 0 line) _ r refl) (taken t (e ∙ m.symbols) m.sound))
      (λ o. read_as (off_read (length line + 1) (tokens 0 line) v vs e (tokens_numeric 0 line) o.0 o.1) (off v vs o.0 t e o.1))
      (ranged_or_off (fields v) vs)

  shape_law : Shape (length line + 1) (tokens 0 line) → Reads line (reading line)
  shape_law (whole_form m) = let d = met_drawn (said (tokens 0 line)) (tokens_numeric 0 line) m in drawn_law d.verb d.values d.by
  shape_law (cut_form l n e) = read_as e (early t (leads_begins (said (tokens 0 line)) (tokens_numeric 0 line) l) (λ d. n (drawn_met d)))
  shape_law (broken_form k among l n e) =
      read_as e
      (wrong k t among (leads_begins (take k (said (tokens 0 line))) (All-take Numeric k (said (tokens 0 line)) (tokens_numeric 0 line)) l)
      (λ b. n (begins_leads (rw add-one at b))))

reads_law : (line : List ℕ) → Reads line (reading line)
reads_law line =
    ⊎_elim (λ h. subst (Reads line) (sym (cond-true _ _ _ (lt-ltb 300 (length line) h))) (long h))
    (λ h. ⊎_elim
    (λ none.
    let t : Tokened line = record { short = h; clean = none_clean (tokens 0 line) none } in
    shape_law line t (shape (length line + 1) (tokens 0 line) t.clean))
    (λ some.
    let s = first_stray (tokens 0 line) some.0 some.1 in
    subst (Reads line)
    (sym (short_line line h ∙ ap (by_tokens (length line + 1) (tokens 0 line)) some.1 ∙ ap (λ place. Err (Text (NoToken (place + 1)))) s.there))
    (stray s.at h s.among s.before s.none))
    (cases_option (first_nothing (tokens 0 line))))
    (cases_lt 300 (length line))

pub law_of : (line : List ℕ) {r : Result Form FormFault} → r ≡ reading line → Reads line r
law_of line e = subst (Reads line) (sym e) (reads_law line)

pub only_of : (line : List ℕ) {r : Result Form FormFault} → r ≡ reading line → Only line r
only_of line e other reads = reads_only line other reads ∙ sym e

use Rattle.std.proofs.Common.{◌≡◌, ℕ, false, List, get_or, codes, sym, ap, ◌∙◌, ⊎_elim, arith}
use Rattle.std.specs.Str.{bytes_eq}
use Rattle.std.proofs.lemmas.Bool.{cases_Bool, cond-false}
use Rattle.std.proofs.lemmas.Slice.Eq.{bytes_eq-Decides, text_from_reads}
use Rattle.text.specs.Forms.{class_named}
use Rattle.text.proofs.words.class_named.Goals as goal

-- a word that differs in one byte is another
other : (bs word : List ℕ) (k : ℕ) → (get_or bs k 0 ≡ get_or word k 0 → ⊥) → bytes_eq bs word ≡ false
other bs word k h =
    ⊎_elim (λ e. absurd (h (ap (λ xs. get_or xs k 0) ((bytes_eq-Decides bs word).0 e)))) (λ e. e) (cases_Bool (bytes_eq bs word))

pub returns-in-delivery : goal.returns-in-delivery
returns-in-delivery c =
    let bs = c.args.word.now in
    record {
      value = sym
          (ap class_named
          (text_from_reads bs (codes "delivery") (omega arith)
          (omega arith, (omega arith, (omega arith, (omega arith, (omega arith, (omega arith, (omega arith, (omega arith, tt))))))))));
    }

pub returns-in-availability : goal.returns-in-availability
returns-in-availability c =
    let bs = c.args.word.now in
    record {
      value = sym
          (ap class_named
          (text_from_reads bs (codes "availability") (omega arith)
          (omega arith, (omega arith, (omega arith, (omega arith, (omega arith, (omega arith, (omega arith, (omega arith, (omega arith, (omega arith, (omega arith, (omega arith, tt))))))))))))));
    }

pub returns-in_default-12 : goal.returns-in_default-12
returns-in_default-12 c =
    let bs = c.args.word.now in
    record { value = sym (cond-false _ _ _ (other bs (codes "delivery") 0 (λ e. omega arith)) ∙ cond-false _ _ _ (other bs (codes "availability") 10 (λ e. omega arith))) }

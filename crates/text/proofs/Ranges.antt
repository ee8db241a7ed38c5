-- What is gathered of the values that are drawn: all of them, or the fault of the first that is outside its range.
-- Assumes nothing.
use Rattle.std.proofs.Common.{◌≡◌, ℕ, zero, suc, ◌+◌, ◌*◌, true, false, ◌&&◌, eqb, ◌⊎◌, List, [], ◌∷◌, get_or, drop, ℤ, pos, negsuc, nat_abs, Some, None, Ok, Err, Option, sym, refl, ap, ◌∙◌, inl, inr, ⊎_elim, arith}
use lib.Signed.{le_z}
use Rattle.std.specs.Option.{ok_or}
use Rattle.std.specs.List.{AllByRecursion}
use Rattle.std.proofs.lemmas.List.{drop-map, get_or-drop}
use Rattle.std.proofs.lemmas.Int.{ints}
use Rattle.std.proofs.lemmas.Bool.{and_parts, both_ways, cases_Bool, cond-false, cond-true}
use Rattle.book.specs.declared.class.Class.TheVariants.{Availability, Delivery}
use Rattle.text.specs.Forms.{fields}
use Rattle.text.specs.Grammar.{Allowed, Between, Held, Off, Ranged, Values, Within, byte_of, drawn, drawn_fields, mark, said, spelled, values, verb}
use Rattle.text.specs.Reading.{draft_of, formed, fresh, gather, hold, hold_number, take_in}
use Rattle.text.specs.Tokens.{Placed, nothing, placed}
use Rattle.text.specs.declared.draft.Draft.{Draft}
use Rattle.text.specs.declared.fault.FormFault.{FormFault}
use Rattle.text.specs.declared.fault.FormFault.TheVariants.{OutOfRange}
use Rattle.text.specs.declared.form.Field.{Field}
use Rattle.text.specs.declared.form.Field.TheVariants.{Asset, Award, Cents, Class as OfClass, Holder, Kw, Ready as IsReady}
use Rattle.text.specs.declared.form.Form.{Form}
use Rattle.text.specs.declared.form.Form.TheVariants as say
use Rattle.text.specs.declared.form.Verb.{Verb}
use Rattle.text.specs.declared.form.Verb.TheVariants.{Close, List as Listing, Over, Payin, Ready, Term, Under, Uplift}
use Rattle.text.proofs.Drafts.{Numeric}
use Rattle.text.proofs.Numbers.{value_signed}

-- a range as it is tested

between_true : (least most z : ℤ) → Between least most z → (le_z least z && le_z z most) ≡ true
between_true least most z h = grind (arith, ints)

between_from : (least most z : ℤ) → (le_z least z && le_z z most) ≡ true → Between least most z
between_from least most z e = let p = and_parts (le_z least z) (le_z z most) e in grind (arith, ints)

decide : (least most z : ℤ) → Between least most z ⊎ (Between least most z → ⊥)
decide least most z =
    ⊎_elim (λ t. inl (between_from least most z t)) (λ f. inr (λ h. both_ways (le_z least z && le_z z most) f (between_true least most z h)))
    (cases_Bool (le_z least z && le_z z most))

between_false : (least most z : ℤ) → (Between least most z → ⊥) → (le_z least z && le_z z most) ≡ false
between_false least most z n = ⊎_elim (λ t. absurd (n (between_from least most z t))) (λ f. f) (cases_Bool (le_z least z && le_z z most))

within_or_not : (f : Field) (x : Held f) → Within f x ⊎ (Within f x → ⊥)
within_or_not OfClass class = inl tt
within_or_not Asset z = decide _ _ z
within_or_not Holder z = decide _ _ z
within_or_not Award z = decide _ _ z
within_or_not Kw z = decide _ _ z
within_or_not IsReady z = decide _ _ z
within_or_not Cents z = decide _ _ z

pub ranged_or_off : (fs : List Field) (vs : Values fs) → Ranged fs vs ⊎ ((i : ℕ) × Off fs vs i)
ranged_or_off [] vs = inl tt
ranged_or_off (f ∷ fs) (x, vs) =
    ⊎_elim (λ here. ⊎_elim (λ more. inl (here, more)) (λ later. inr (suc later.0, (here, later.1))) (ranged_or_off fs vs)) (λ outside. inr (0, outside))
    (within_or_not f x)

-- the draft that takes in a value

abbrev put : (f : Field) → Held f → Draft → Draft
put OfClass class d = draft_of class d.asset d.holder d.award d.kw d.ready d.cents
put Asset z d = draft_of d.class (nat_abs z) d.holder d.award d.kw d.ready d.cents
put Holder z d = draft_of d.class d.asset (nat_abs z) d.award d.kw d.ready d.cents
put Award z d = draft_of d.class d.asset d.holder z d.kw d.ready d.cents
put Kw z d = draft_of d.class d.asset d.holder d.award (nat_abs z) d.ready d.cents
put IsReady z d = draft_of d.class d.asset d.holder d.award d.kw (eqb (nat_abs z) 1) d.cents
put Cents z d = draft_of d.class d.asset d.holder d.award d.kw d.ready (nat_abs z)

abbrev pub filled : (fs : List Field) → Values fs → Draft → Draft
filled [] vs d = d
filled (f ∷ fs) (x, vs) d = filled fs vs (put f x d)

hold_within : (f : Field) (x : Held f) (d : Draft) → Numeric (mark f x) → Within f x → hold f (mark f x) d ≡ Some (put f x d)
hold_within OfClass Delivery d n w = refl
hold_within OfClass Availability d n w = refl
hold_within Asset z d n w = ap (λ z. hold_number Asset z d) (value_signed z n) ∙ cond-true _ _ _ (between_true _ _ z w)
hold_within Holder z d n w = ap (λ z. hold_number Holder z d) (value_signed z n) ∙ cond-true _ _ _ (between_true _ _ z w)
hold_within Award z d n w = ap (λ z. hold_number Award z d) (value_signed z n) ∙ cond-true _ _ _ (between_true _ _ z w)
hold_within Kw z d n w = ap (λ z. hold_number Kw z d) (value_signed z n) ∙ cond-true _ _ _ (between_true _ _ z w)
hold_within IsReady z d n w = ap (λ z. hold_number IsReady z d) (value_signed z n) ∙ cond-true _ _ _ (between_true _ _ z w)
hold_within Cents z d n w = ap (λ z. hold_number Cents z d) (value_signed z n) ∙ cond-true _ _ _ (between_true _ _ z w)

hold_outside : (f : Field) (x : Held f) (d : Draft) → Numeric (mark f x) → (Within f x → ⊥) → hold f (mark f x) d ≡ None
hold_outside OfClass class d n w = absurd (w tt)
hold_outside Asset z d n w = ap (λ z. hold_number Asset z d) (value_signed z n) ∙ cond-false _ _ _ (between_false _ _ z w)
hold_outside Holder z d n w = ap (λ z. hold_number Holder z d) (value_signed z n) ∙ cond-false _ _ _ (between_false _ _ z w)
hold_outside Award z d n w = ap (λ z. hold_number Award z d) (value_signed z n) ∙ cond-false _ _ _ (between_false _ _ z w)
hold_outside Kw z d n w = ap (λ z. hold_number Kw z d) (value_signed z n) ∙ cond-false _ _ _ (between_false _ _ z w)
hold_outside IsReady z d n w = ap (λ z. hold_number IsReady z d) (value_signed z n) ∙ cond-false _ _ _ (between_false _ _ z w)
hold_outside Cents z d n w = ap (λ z. hold_number Cents z d) (value_signed z n) ∙ cond-false _ _ _ (between_false _ _ z w)

-- the tokens of a field, of which the third says its value

symbol_at : (ts : List Placed) (k : ℕ) → (get_or ts k (placed 0 nothing)).symbol ≡ get_or (said ts) k nothing
symbol_at [] k = refl
symbol_at (t ∷ ts) zero = refl
symbol_at (t ∷ ts) (suc k) = symbol_at ts k

module _ (f : Field) (fs : List Field) (x : Held f) (vs : Values fs) (ts : List Placed) (e : said ts ≡ drawn_fields (f ∷ fs) (x, vs)) where
  value_said : (get_or ts 2 (placed 0 nothing)).symbol ≡ mark f x
  value_said = symbol_at ts 2 ∙ ap (λ ss. get_or ss 2 nothing) e

  rest_said : said (drop 4 ts) ≡ drawn_fields fs vs
  rest_said = sym (drop-map (λ t. t.symbol) 4 ts) ∙ ap (drop 4) e

  took : (d : Draft) (o : Option Draft) → hold f (mark f x) d ≡ o → take_in f (get_or ts 2 (placed 0 nothing)) (Ok d) ≡ ok_or o (OutOfRange (byte_of ts 2))
  took d o held = ap (λ o. ok_or o (OutOfRange (byte_of ts 2))) (ap (λ s. hold f s d) value_said ∙ held)

pub gather_ranged : (fs : List Field) (vs : Values fs) (ts : List Placed) (d : Draft) → said ts ≡ drawn_fields fs vs → AllByRecursion Numeric (drawn_fields fs vs) → Ranged fs vs
    → gather fs ts (Ok d) ≡ Ok (filled fs vs d)
gather_ranged [] vs ts d e ns r = refl
gather_ranged (f ∷ fs) (x, vs) ts d e ns r =
    ap (gather fs (drop 4 ts)) (took f fs x vs ts e d _ (hold_within f x d ns.1.1.0 r.0))
    ∙ gather_ranged fs vs (drop 4 ts) (put f x d) (rest_said f fs x vs ts e) ns.1.1.1.1 r.1

gather_kept : (fs : List Field) (ts : List Placed) (fault : FormFault) → gather fs ts (Err fault) ≡ Err fault
gather_kept [] ts fault = refl
gather_kept (f ∷ fs) ts fault = gather_kept fs (drop 4 ts) fault

pub gather_off : (fs : List Field) (vs : Values fs) (ts : List Placed) (d : Draft) (i : ℕ) → said ts ≡ drawn_fields fs vs → AllByRecursion Numeric (drawn_fields fs vs) → Off fs vs i
    → gather fs ts (Ok d) ≡ Err (OutOfRange (byte_of ts (4 * i + 2)))
gather_off [] vs ts d i e ns off = absurd off
gather_off (f ∷ fs) (x, vs) ts d zero e ns off =
    ap (gather fs (drop 4 ts)) (took f fs x vs ts e d None (hold_outside f x d ns.1.1.0 off)) ∙ gather_kept fs (drop 4 ts) (OutOfRange (byte_of ts 2))
gather_off (f ∷ fs) (x, vs) ts d (suc i) e ns off =
    ap (gather fs (drop 4 ts)) (took f fs x vs ts e d _ (hold_within f x d ns.1.1.0 off.0))
    ∙ gather_off fs vs (drop 4 ts) (put f x d) i (rest_said f fs x vs ts e) ns.1.1.1.1 off.1
    ∙ ap (λ t. Err (OutOfRange (t.place + 1))) (get_or-drop 4 ts (4 * i + 2) (placed 0 nothing))
    ∙ ap (λ k. Err (OutOfRange (byte_of ts k))) (omega arith)

-- the form of a word and of values in their ranges

pub formed_again : (f : Form) → formed (verb f) (filled (fields (verb f)) (values f) fresh) ≡ f
formed_again (say.List asset holder) = refl
formed_again (say.Term asset award commitment true) = refl
formed_again (say.Term asset award commitment false) = refl
formed_again (say.Over class asset cents) = refl
formed_again (say.Under class asset cents) = refl
formed_again (say.Uplift asset cents) = refl
formed_again (say.Payin asset cents) = refl
formed_again (say.Ready asset) = refl
formed_again say.Close = refl

pub record Made (v : Verb) (vs : Values (fields v)) (f : Form) : Type 0 where
  pub symbols : drawn v vs ≡ spelled f
  pub sound : Allowed f

abbrev made_of : (v : Verb) → Values (fields v) → Form
made_of v vs = formed v (filled (fields v) vs fresh)

pub made : (v : Verb) (vs : Values (fields v)) → Ranged (fields v) vs → Made v vs (made_of v vs)
made Listing (pos asset, (pos holder, tt)) r = record { symbols = refl; sound = r }
made Listing (pos asset, (negsuc n, tt)) r = absurd r.1.0.0.le
made Listing (negsuc n, vs) r = absurd r.0.0.le
made Term (pos asset, (award, (pos kw, (pos zero, tt)))) r = record { symbols = refl; sound = r }
made Term (pos asset, (award, (pos kw, (pos (suc zero), tt)))) r = record { symbols = refl; sound = r }
made Term (pos asset, (award, (pos kw, (pos (suc (suc n)), tt)))) r = absurd (let h = r.1.1.1.0.1 in omega (arith, ints))
made Term (pos asset, (award, (pos kw, (negsuc n, tt)))) r = absurd r.1.1.1.0.0.le
made Term (pos asset, (award, (negsuc n, vs))) r = absurd r.1.1.0.0.le
made Term (negsuc n, vs) r = absurd r.0.0.le
made Over (class, (pos asset, (pos cents, tt))) r = record { symbols = refl; sound = r }
made Over (class, (pos asset, (negsuc n, tt))) r = absurd r.1.1.0.0.le
made Over (class, (negsuc n, vs)) r = absurd r.1.0.0.le
made Under (class, (pos asset, (pos cents, tt))) r = record { symbols = refl; sound = r }
made Under (class, (pos asset, (negsuc n, tt))) r = absurd r.1.1.0.0.le
made Under (class, (negsuc n, vs)) r = absurd r.1.0.0.le
made Uplift (pos asset, (pos cents, tt)) r = record { symbols = refl; sound = r }
made Uplift (pos asset, (negsuc n, tt)) r = absurd r.1.0.0.le
made Uplift (negsuc n, vs) r = absurd r.0.0.le
made Payin (pos asset, (pos cents, tt)) r = record { symbols = refl; sound = r }
made Payin (pos asset, (negsuc n, tt)) r = absurd r.1.0.0.le
made Payin (negsuc n, vs) r = absurd r.0.0.le
made Ready (pos asset, tt) r = record { symbols = refl; sound = r }
made Ready (negsuc n, tt) r = absurd r.0.0.le
made Close tt r = record { symbols = refl; sound = tt }

-- What a history adds up to, for one asset. Assumes nothing.
use Rattle.std.proofs.Common.{◌≡◌, ℕ, ◌+◌, ◌<◌, ◌≤◌, Bool, true, false, cond, ◌&&◌, eqb, List, [], ◌∷◌, ℤ, pos, negsuc, ◌+ℤ◌, ◌-ℤ◌, nat_abs, sym, refl, ap, ◌∙◌, ⊎_elim, arith}
use Rattle.std.proofs.lemmas.Int.{ints}
use Rattle.std.proofs.lemmas.Bool.{cases_Bool, cases_lt, eqb-false, ne_eqb, true≢false}
use Rattle.book.specs.Account.{award_in_force, balance}
use Rattle.book.specs.Calls.{Kind, closing, entered, marked, opening, over, payin, readying, refused, renewal, resolution, under, uplift}
use Rattle.book.specs.Class.{of}
use Rattle.book.specs.Entries.{credited, renewed}
use Rattle.book.specs.History.{History, awards, invoices, is_over, is_payin, is_resolution, is_under, is_uplift, its_row, ledger_of, ledger_with, overs, payins, payments, resolutions, term_award, terms_of, unders, uplifts, year_of}
use Rattle.book.specs.Law.{paid_in}
use Rattle.book.specs.Limits.{off_sum}
use Rattle.book.specs.declared.class.ByClass.{ByClass}
use Rattle.book.specs.declared.class.Class.{Class}
use Rattle.book.specs.declared.class.Class.TheVariants.{Availability, Delivery}
use Rattle.book.specs.declared.row.Row.{Row}
use Rattle.book.proofs.Balances.{balance-adding, balance-charging, balance-claiming, balance_closed, balance-credited}

-- a year has no term before it comes
no_later : (a : ℕ) (h : History) (y : ℕ) → year_of h < y → term_award a y h ≡ pos 0
no_later a [] y later = refl
no_later a (opening b holder ∷ h) y later = no_later a h y later
no_later a (renewal b award commitment is_ready sum ∷ h) y later =
    let other : eqb (year_of h) y ≡ false = ne_eqb (year_of h) y (λ e. omega (arith, e)) in
    ap (λ t. cond (eqb b a && t) award (term_award a y h)) other
    ∙ elim (eqb b a) as (λ t. cond (t && false) award (term_award a y h) ≡ pos 0) [ true ↦ no_later a h y later | false ↦ no_later a h y later ]
no_later a (entered kind b cents ∷ h) y later = no_later a h y later
no_later a (readying b ∷ h) y later = no_later a h y later
no_later a (closing places rows left ∷ h) y later = no_later a h y (omega arith)
no_later a (refused call n ∷ h) y later = no_later a h y later

-- what is in force is the award of the term of that year
pub award_link : (a : ℕ) (h : History) (y : ℕ) → year_of h ≤ y → award_in_force y (terms_of a h) ≡ term_award a y h
award_link a [] y now = refl
award_link a (opening b holder ∷ h) y now = award_link a h y now
award_link a (renewal b award commitment is_ready sum ∷ h) y now =
    elim (eqb b a) as (λ t. award_in_force y (cond t (renewed (year_of h) award commitment is_ready (terms_of a h)) (terms_of a h)) ≡ cond (t && eqb (year_of h) y) award (term_award a y h))
    [ true ↦ this | false ↦ award_link a h y now ]
  where
    this : cond (eqb (year_of h) y) award (pos 0) ≡ cond (eqb (year_of h) y) award (term_award a y h)
    this = ⊎_elim (λ same. ap (λ t. cond t award (pos 0)) same ∙ ap (λ t. cond t award (term_award a y h)) (sym same))
        (λ other. ap (λ t. cond t award (pos 0)) other
        ∙ sym (no_later a h y (later other)) ∙ ap (λ t. cond t award (term_award a y h)) (sym other))
        (cases_Bool (eqb (year_of h) y))
      where
        later : eqb (year_of h) y ≡ false → year_of h < y
        later other = ⊎_elim (λ l. l) (λ l. absurd (eqb-false (year_of h) y other (omega arith))) (cases_lt (year_of h) y)
award_link a (entered kind b cents ∷ h) y now = award_link a h y now
award_link a (readying b ∷ h) y now =
    elim (eqb b a) as (λ t. award_in_force y (cond t (marked (terms_of a h)) (terms_of a h)) ≡ term_award a y h) [ true ↦ award_link a h y now | false ↦ award_link a h y now ]
award_link a (closing places rows left ∷ h) y now = award_link a h y (omega arith)
award_link a (refused call n ∷ h) y now = award_link a h y now

-- an entry's sum is not below zero
pub not_below : (most : ℕ) (cents : ℤ) → off_sum most cents ≡ false → cents ≡ pos (nat_abs cents)
not_below most (pos n) e = refl
not_below most (negsuc n) e = absurd (true≢false e)

-- one asset balances: what it was given, less what it was charged, is paid or carried
abbrev pub Even : ℕ → History → Type 0
Even a h =
    awards a h +ℤ uplifts a h +ℤ resolutions a h +ℤ (overs Delivery a h +ℤ overs Availability a h) +ℤ paid_in a h -ℤ (unders Delivery a h +ℤ unders Availability a h)
    ≡ payments a h +ℤ balance (ledger_of a h)

-- sums of whole numbers, with more in one place
module _ (aw up re ov pi un pay b b' c : ℤ) (even : aw +ℤ up +ℤ re +ℤ ov +ℤ pi -ℤ un ≡ pay +ℤ b) where
  more_up : b' ≡ b +ℤ c → aw +ℤ (up +ℤ c) +ℤ re +ℤ ov +ℤ pi -ℤ un ≡ pay +ℤ b'
  more_up e = omega (arith, ints, even, e)

  more_re : b' ≡ b +ℤ c → aw +ℤ up +ℤ (re +ℤ c) +ℤ ov +ℤ pi -ℤ un ≡ pay +ℤ b'
  more_re e = omega (arith, ints, even, e)

  more_ov : (ov' : ℤ) → ov' ≡ ov +ℤ c → b' ≡ b +ℤ c → aw +ℤ up +ℤ re +ℤ ov' +ℤ pi -ℤ un ≡ pay +ℤ b'
  more_ov ov' o e = omega (arith, ints, even, o, e)

  more_pi : (pi' : ℤ) → pi' ≡ pi +ℤ c → b' ≡ b +ℤ c → aw +ℤ up +ℤ re +ℤ ov +ℤ pi' -ℤ un ≡ pay +ℤ b'
  more_pi pi' o e = omega (arith, ints, even, o, e)

  more_un : (un' : ℤ) → un' ≡ un +ℤ c → b' ≡ b -ℤ c → aw +ℤ up +ℤ re +ℤ ov +ℤ pi -ℤ un' ≡ pay +ℤ b'
  more_un un' o e = omega (arith, ints, even, o, e)

  more_aw : (aw' pay' p : ℤ) → aw' ≡ aw +ℤ c → pay' ≡ pay +ℤ p → b' +ℤ p ≡ b +ℤ c → aw' +ℤ up +ℤ re +ℤ ov +ℤ pi -ℤ un ≡ pay' +ℤ b'
  more_aw aw' pay' p o q e = omega (arith, ints, even, o, q, e)

-- the same with an entry, of this asset or not
abbrev EvenWith : Kind → ℤ → ℕ → History → Bool → Type 0
EvenWith kind cents a h t =
    awards a h +ℤ cond (t && is_uplift kind) (uplifts a h +ℤ cents) (uplifts a h) +ℤ cond (t && is_resolution kind) (resolutions a h +ℤ cents) (resolutions a h)
    +ℤ (cond (t && is_over Delivery kind) (overs Delivery a h +ℤ cents) (overs Delivery a h) +ℤ cond (t && is_over Availability kind) (overs Availability a h +ℤ cents) (overs Availability a h))
    +ℤ (cond (t && is_payin kind) (payins a h +ℤ cents) (payins a h) +ℤ pos (invoices a h))
    -ℤ (cond (t && is_under Delivery kind) (unders Delivery a h +ℤ cents) (unders Delivery a h) +ℤ cond (t && is_under Availability kind) (unders Availability a h +ℤ cents) (unders Availability a h))
    ≡ payments a h +ℤ balance (cond t (ledger_with kind cents (ledger_of a h)) (ledger_of a h))

module _ (a : ℕ) (h : History) (even : Even a h) where
  the_overs : ℤ
  the_overs = overs Delivery a h +ℤ overs Availability a h

  the_unders : ℤ
  the_unders = unders Delivery a h +ℤ unders Availability a h

  even_its : (kind : Kind) (cents : ℤ) → ((is_uplift kind ≡ false) → (is_resolution kind ≡ false) → cents ≡ pos (nat_abs cents)) → EvenWith kind cents a h true
  unfolding the_overs the_unders
  even_its (over Delivery) cents e =
      more_ov (awards a h) (uplifts a h) (resolutions a h) the_overs (paid_in a h) the_unders (payments a h) (balance (ledger_of a h)) _ cents even
      (overs Delivery a h +ℤ cents +ℤ overs Availability a h) (omega (arith, ints)) (balance-claiming Delivery (nat_abs cents) (ledger_of a h) ∙ ap (λ z. balance (ledger_of a h) +ℤ z) (sym (e refl refl)))
  even_its (over Availability) cents e =
      more_ov (awards a h) (uplifts a h) (resolutions a h) the_overs (paid_in a h) the_unders (payments a h) (balance (ledger_of a h)) _ cents even
      (overs Delivery a h +ℤ (overs Availability a h +ℤ cents)) (omega (arith, ints)) (balance-claiming Availability (nat_abs cents) (ledger_of a h) ∙ ap (λ z. balance (ledger_of a h) +ℤ z) (sym (e refl refl)))
  even_its (under Delivery) cents e =
      more_un (awards a h) (uplifts a h) (resolutions a h) the_overs (paid_in a h) the_unders (payments a h) (balance (ledger_of a h)) _ cents even
      (unders Delivery a h +ℤ cents +ℤ unders Availability a h) (omega (arith, ints)) (balance-charging Delivery (nat_abs cents) (ledger_of a h) ∙ ap (λ z. balance (ledger_of a h) -ℤ z) (sym (e refl refl)))
  even_its (under Availability) cents e =
      more_un (awards a h) (uplifts a h) (resolutions a h) the_overs (paid_in a h) the_unders (payments a h) (balance (ledger_of a h)) _ cents even
      (unders Delivery a h +ℤ (unders Availability a h +ℤ cents)) (omega (arith, ints)) (balance-charging Availability (nat_abs cents) (ledger_of a h) ∙ ap (λ z. balance (ledger_of a h) -ℤ z) (sym (e refl refl)))
  even_its uplift cents e =
      more_up (awards a h) (uplifts a h) (resolutions a h) the_overs (paid_in a h) the_unders (payments a h) (balance (ledger_of a h)) _ cents even (balance-adding cents (ledger_of a h))
  even_its resolution cents e =
      more_re (awards a h) (uplifts a h) (resolutions a h) the_overs (paid_in a h) the_unders (payments a h) (balance (ledger_of a h)) _ cents even (balance-adding cents (ledger_of a h))
  even_its payin cents e =
      more_pi (awards a h) (uplifts a h) (resolutions a h) the_overs (paid_in a h) the_unders (payments a h) (balance (ledger_of a h)) _ cents even
      (payins a h +ℤ cents +ℤ pos (invoices a h)) (omega (arith, ints)) (balance-credited (nat_abs cents) (ledger_of a h) ∙ ap (λ z. balance (ledger_of a h) +ℤ z) (sym (e refl refl)))

  pub even_entry : (kind : Kind) (b : ℕ) (cents : ℤ) → ((is_uplift kind ≡ false) → (is_resolution kind ≡ false) → cents ≡ pos (nat_abs cents)) → Even a (entered kind b cents ∷ h)
  even_entry kind b cents e = elim (eqb b a) as (EvenWith kind cents a h) [ true ↦ even_its kind cents e | false ↦ even ]

  pub even_renewal : (b : ℕ) (award : ℤ) (commitment : ℕ) (is_ready : Bool) (sum : ℕ) → Even a (renewal b award commitment is_ready sum ∷ h)
  unfolding the_overs the_unders
  even_renewal b award commitment is_ready sum =
      elim (eqb b a) as (λ t. awards a h +ℤ uplifts a h +ℤ resolutions a h +ℤ the_overs +ℤ (payins a h +ℤ pos (cond t (invoices a h + sum) (invoices a h))) -ℤ the_unders
      ≡ payments a h +ℤ balance (cond t (credited sum (ledger_of a h)) (ledger_of a h))) [
        | true ↦ more_pi (awards a h) (uplifts a h) (resolutions a h) the_overs (paid_in a h) the_unders (payments a h) (balance (ledger_of a h)) _ (pos sum) even
            (payins a h +ℤ pos (invoices a h + sum)) (omega (arith, ints)) (balance-credited sum (ledger_of a h))
        | false ↦ even
      ]

  pub even_closing : (places : ℕ) (rows : List Row) (left : ByClass)
      → ((class : Class) → of class (its_row a rows).taken ≤ of class (ledger_of a h).charges) → ((class : Class) → of class (its_row a rows).share ≤ of class (ledger_of a h).claims)
      → Even a (closing places rows left ∷ h)
  unfolding the_overs the_unders
  even_closing places rows left took shared =
      let l = ledger_of a h in
      let r = its_row a rows in
      let award = award_in_force (year_of h) (terms_of a h) in
      more_aw (awards a h) (uplifts a h) (resolutions a h) the_overs (paid_in a h) the_unders (payments a h) (balance l) _ award even
      (awards a h +ℤ term_award a (year_of h) h) (payments a h +ℤ r.payment) r.payment
      (ap (λ z. awards a h +ℤ z) (sym (award_link a h (year_of h) (omega arith)))) refl
      (balance_closed award r.taken r.share r.payment l (took Delivery) (took Availability) (shared Delivery) (shared Availability))

-- What a history of calls and answers tells. A history lists its events, the newest first.
--   closes h, year_of h    the periods closed, and the year that is open after it
--   assets h               the assets listed, in listing order
--   among a as             whether an asset is among these
--   its_row a rows         the row of an asset
--   entered_by t a h       what entries of the kinds that t tells came to, for an asset
--   overs, unders, uplifts, resolutions, payins, invoices   for an asset; overs and unders in a class
--   awards a h             the award at each close: that of the asset's term of that year, else 0
--   payments, shares       out of its rows
--   all_unders, all_shares, residues   of a class, for all assets
--   terms_of, ledger_of    the terms and the ledger of an asset, as the rules make them of the entries and answers
--   pools_of               the open pools: what sums paid in took off charges since the last close
-- Assumes nothing.
use Rattle.std.specs.Prelude.{ℕ, ◌+◌, ◌/◌, Bool, true, false, cond, ◌&&◌, ◌||◌, List, [], ◌∷◌, ◌++◌, ℤ, pos, ◌+ℤ◌, sum_by, ◌==◌, unsigned_abs}
use Rattle.book.specs.Account.{award_in_force, opened}
use Rattle.book.specs.Calls.{Event, Kind, closing, entered, marked, opening, over, payin, readying, refused, renewal, resolution, under, uplift}
use Rattle.book.specs.Class.{none, of, plus}
use Rattle.book.specs.Close.{closed_ledger, closed_terms}
use Rattle.book.specs.Entries.{adding, charging, claiming, credited, renewed, settled}
use Rattle.book.specs.declared.account.Ledger.{Ledger}
use Rattle.book.specs.declared.account.Terms.{Terms}
use Rattle.book.specs.declared.class.ByClass.{ByClass}
use Rattle.book.specs.declared.class.Class.{Class}
use Rattle.book.specs.declared.class.Class.TheVariants.{Availability, Delivery}
use Rattle.book.specs.declared.row.Row.{Row}

abbrev pub History : Type 0
History = List Event

abbrev pub closes : History → ℕ
closes [] = 0
closes (opening asset holder ∷ h) = closes h
closes (renewal asset award commitment is_ready sum ∷ h) = closes h
closes (entered kind asset cents ∷ h) = closes h
closes (readying asset ∷ h) = closes h
closes (closing places rows left ∷ h) = closes h + 1
closes (refused call n ∷ h) = closes h

abbrev pub year_of : History → ℕ
year_of h = closes h / 12 + 1

abbrev pub assets : History → List ℕ
assets [] = []
assets (opening asset holder ∷ h) = assets h ++ asset ∷ []
assets (renewal asset award commitment is_ready sum ∷ h) = assets h
assets (entered kind asset cents ∷ h) = assets h
assets (readying asset ∷ h) = assets h
assets (closing places rows left ∷ h) = assets h
assets (refused call n ∷ h) = assets h

abbrev pub among : ℕ → List ℕ → Bool
among a [] = false
among a (b ∷ bs) = b == a || among a bs

abbrev pub blank_row : Row
blank_row = record { asset = 0; award = pos 0; taken = none; share = none; payment = pos 0; balance = pos 0 }

abbrev pub its_row : ℕ → List Row → Row
its_row asset [] = blank_row
its_row asset (row ∷ rows) = cond (row.asset == asset) row (its_row asset rows)

-- entries

abbrev same_class : Class → Class → Bool
same_class Delivery Delivery = true
same_class Delivery Availability = false
same_class Availability Delivery = false
same_class Availability Availability = true

abbrev pub is_over : Class → Kind → Bool
is_over class (over k) = same_class class k
is_over class (under k) = false
is_over class uplift = false
is_over class resolution = false
is_over class payin = false

abbrev pub is_under : Class → Kind → Bool
is_under class (over k) = false
is_under class (under k) = same_class class k
is_under class uplift = false
is_under class resolution = false
is_under class payin = false

abbrev pub is_uplift : Kind → Bool
is_uplift (over k) = false
is_uplift (under k) = false
is_uplift uplift = true
is_uplift resolution = false
is_uplift payin = false

abbrev pub is_resolution : Kind → Bool
is_resolution (over k) = false
is_resolution (under k) = false
is_resolution uplift = false
is_resolution resolution = true
is_resolution payin = false

abbrev pub is_payin : Kind → Bool
is_payin (over k) = false
is_payin (under k) = false
is_payin uplift = false
is_payin resolution = false
is_payin payin = true

abbrev pub entered_by : (Kind → Bool) → ℕ → History → ℤ
entered_by told a [] = pos 0
entered_by told a (opening asset holder ∷ h) = entered_by told a h
entered_by told a (renewal asset award commitment is_ready sum ∷ h) = entered_by told a h
entered_by told a (entered kind asset cents ∷ h) = cond (asset == a && told kind) (entered_by told a h +ℤ cents) (entered_by told a h)
entered_by told a (readying asset ∷ h) = entered_by told a h
entered_by told a (closing places rows left ∷ h) = entered_by told a h
entered_by told a (refused call n ∷ h) = entered_by told a h

abbrev pub overs : Class → ℕ → History → ℤ
overs class = entered_by (is_over class)

abbrev pub unders : Class → ℕ → History → ℤ
unders class = entered_by (is_under class)

abbrev pub uplifts : ℕ → History → ℤ
uplifts = entered_by is_uplift

abbrev pub resolutions : ℕ → History → ℤ
resolutions = entered_by is_resolution

abbrev pub payins : ℕ → History → ℤ
payins = entered_by is_payin

abbrev pub invoices : ℕ → History → ℕ
invoices a [] = 0
invoices a (opening asset holder ∷ h) = invoices a h
invoices a (renewal asset award commitment is_ready sum ∷ h) = cond (asset == a) (invoices a h + sum) (invoices a h)
invoices a (entered kind asset cents ∷ h) = invoices a h
invoices a (readying asset ∷ h) = invoices a h
invoices a (closing places rows left ∷ h) = invoices a h
invoices a (refused call n ∷ h) = invoices a h

-- the award of the asset's term of a year, 0 where the year has none
abbrev pub term_award : ℕ → ℕ → History → ℤ
term_award a year [] = pos 0
term_award a year (opening asset holder ∷ h) = term_award a year h
term_award a year (renewal asset award commitment is_ready sum ∷ h) = cond (asset == a && year_of h == year) award (term_award a year h)
term_award a year (entered kind asset cents ∷ h) = term_award a year h
term_award a year (readying asset ∷ h) = term_award a year h
term_award a year (closing places rows left ∷ h) = term_award a year h
term_award a year (refused call n ∷ h) = term_award a year h

-- answers

abbrev pub at_closes : {A : Type 0} → (A → A → A) → A → (List Row → History → A) → History → A
at_closes plus zero f [] = zero
at_closes plus zero f (opening asset holder ∷ h) = at_closes plus zero f h
at_closes plus zero f (renewal asset award commitment is_ready sum ∷ h) = at_closes plus zero f h
at_closes plus zero f (entered kind asset cents ∷ h) = at_closes plus zero f h
at_closes plus zero f (readying asset ∷ h) = at_closes plus zero f h
at_closes plus zero f (closing places rows left ∷ h) = plus (at_closes plus zero f h) (f rows h)
at_closes plus zero f (refused call n ∷ h) = at_closes plus zero f h

abbrev pub awards : ℕ → History → ℤ
awards a = at_closes ◌+ℤ◌ (pos 0) (λ rows h. term_award a (year_of h) h)

abbrev pub payments : ℕ → History → ℤ
payments a = at_closes ◌+ℤ◌ (pos 0) (λ rows h. (its_row a rows).payment)

abbrev pub shares : Class → ℕ → History → ℕ
shares class a = at_closes ◌+◌ 0 (λ rows h. of class (its_row a rows).share)

abbrev pub all_shares : Class → History → ℕ
all_shares class = at_closes ◌+◌ 0 (λ rows h. sum_by (λ r. of class r.share) rows)

abbrev pub residues : Class → History → ℕ
residues class [] = 0
residues class (opening asset holder ∷ h) = residues class h
residues class (renewal asset award commitment is_ready sum ∷ h) = residues class h
residues class (entered kind asset cents ∷ h) = residues class h
residues class (readying asset ∷ h) = residues class h
residues class (closing places rows left ∷ h) = residues class h + of class left
residues class (refused call n ∷ h) = residues class h

abbrev pub all_unders : Class → History → ℕ
all_unders class [] = 0
all_unders class (opening asset holder ∷ h) = all_unders class h
all_unders class (renewal asset award commitment is_ready sum ∷ h) = all_unders class h
all_unders class (entered kind asset cents ∷ h) = cond (is_under class kind) (all_unders class h + unsigned_abs cents) (all_unders class h)
all_unders class (readying asset ∷ h) = all_unders class h
all_unders class (closing places rows left ∷ h) = all_unders class h
all_unders class (refused call n ∷ h) = all_unders class h

-- what the rules make of an asset

abbrev pub ledger_with : Kind → ℤ → Ledger → Ledger
ledger_with (over class) cents l = claiming class (unsigned_abs cents) l
ledger_with (under class) cents l = charging class (unsigned_abs cents) l
ledger_with uplift cents l = adding cents l
ledger_with resolution cents l = adding cents l
ledger_with payin cents l = credited (unsigned_abs cents) l

abbrev pub terms_of : ℕ → History → Terms
terms_of a [] = (opened a 0).terms
terms_of a (opening asset holder ∷ h) = terms_of a h
terms_of a (renewal asset award commitment is_ready sum ∷ h) = cond (asset == a) (renewed (year_of h) award commitment is_ready (terms_of a h)) (terms_of a h)
terms_of a (entered kind asset cents ∷ h) = terms_of a h
terms_of a (readying asset ∷ h) = cond (asset == a) (marked (terms_of a h)) (terms_of a h)
terms_of a (closing places rows left ∷ h) = closed_terms (terms_of a h)
terms_of a (refused call n ∷ h) = terms_of a h

abbrev pub ledger_of : ℕ → History → Ledger
ledger_of a [] = (opened a 0).ledger
ledger_of a (opening asset holder ∷ h) = ledger_of a h
ledger_of a (renewal asset award commitment is_ready sum ∷ h) = cond (asset == a) (credited sum (ledger_of a h)) (ledger_of a h)
ledger_of a (entered kind asset cents ∷ h) = cond (asset == a) (ledger_with kind cents (ledger_of a h)) (ledger_of a h)
ledger_of a (readying asset ∷ h) = ledger_of a h
ledger_of a (closing places rows left ∷ h) =
    closed_ledger (award_in_force (year_of h) (terms_of a h)) (its_row a rows).taken (its_row a rows).share (its_row a rows).payment (ledger_of a h)
ledger_of a (refused call n ∷ h) = ledger_of a h

abbrev pub pools_of : History → ByClass
pools_of [] = none
pools_of (opening asset holder ∷ h) = pools_of h
pools_of (renewal asset award commitment is_ready sum ∷ h) = plus (pools_of h) (settled sum (ledger_of asset h).charges)
pools_of (entered kind asset cents ∷ h) = cond (is_payin kind) (plus (pools_of h) (settled (unsigned_abs cents) (ledger_of asset h).charges)) (pools_of h)
pools_of (readying asset ∷ h) = pools_of h
pools_of (closing places rows left ∷ h) = none
pools_of (refused call n ∷ h) = pools_of h

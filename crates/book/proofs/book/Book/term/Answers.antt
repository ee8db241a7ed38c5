use Rattle.std.proofs.Common.{◌≡◌, ◌≤◌, false, neg_ℤ, ◌≤ℤ◌, vec_items, sym, ap, ◌∙◌, subst, arith, w64, SFits, rules}
use lib.Signed.{lt_z}
use Rattle.std.proofs.lemmas.Int.{to_z-of_z}
use Rattle.payment.specs.Stand.{award_most, commitment_most}
use Rattle.book.specs.Account.{RangedTerms, balance}
use Rattle.book.specs.Book.{view}
use Rattle.book.specs.Calls.{on_ledger, on_terms, paid}
use Rattle.book.specs.Close.{above_zero}
use Rattle.book.specs.Entries.{credited, invoice, renewed}
use Rattle.book.specs.Limits.{balance_least, off_way}
use Rattle.book.specs.State.{year}
use Rattle.book.proofs.Places.{own}
use Rattle.book.proofs.Steps.{paid_like}
use Rattle.book.proofs.Ways.{above_most, not_off, not_under, renewed_ranged}
use Rattle.book.proofs.book.Book.term.Goals as goal

pub invoice_of-invoice-requires : goal.invoice_of-invoice-requires
invoice_of-invoice-requires g c =
    let last : SFits w64 c.in_ok-spot.spot.account.terms.award = search rules in
    let award : SFits w64 c.args.award = search rules in
    let carried : SFits w64 c.balance-carried.result = search rules in
    let within : off_way award_most c.args.award ≡ false = search rules in
    let least : balance_least ≤ℤ c.balance-carried.result = search rules in
    simp to_z-of_z (c.in_ok-spot.spot.ranged.0, (not_off award_most c.args.award within, least))

pub credit-requires : goal.credit-requires
credit-requires g c =
    let spot = c.in_ok-spot.spot in
    let fits : SFits w64 c.balance-carried.result = record { sfits = c.balance-carried.type_inv } in
    let carried : c.balance-carried.result ≡ balance spot.account.ledger = c.balance-carried.ensures.value in
    let bound : c.invoice_of-invoice.result ≤ above_zero (neg_ℤ (balance spot.account.ledger)) = search rules in
    let least : balance_least ≤ℤ balance spot.account.ledger = not_under (balance spot.account.ledger) balance_least (subst (λ z. lt_z z balance_least ≡ false) (to_z-of_z w64 c.balance-carried.result fits ∙ carried) c.if-carried-lt-BALANCE_LEAST.false) in
    let within : off_way award_most c.args.award ≡ false = search rules in
    let few : c.args.commitment ≤ commitment_most = c.if-commitment-gt-COMMITMENT_MOST.false in
    let terms : c.renewed.result ≡ renewed c.year-year.result c.args.award c.args.commitment c.args.ready spot.account.terms = search rules in (
      search rules,
      (
        own c.args.asset (vec_items c.args.self.now.accounts) spot c.in_ok-spot.ensures.cases,
        (
          subst RangedTerms (sym terms) (renewed_ranged c.year-year.result c.args.commitment c.args.award c.args.ready spot.account.terms (not_off award_most c.args.award within) few spot.ranged),
          (bound, omega (arith, bound, above_most (balance spot.account.ledger) least)),
        ),
      ),
    )

pub returns : goal.returns
returns g c =
    let spot = c.in_ok-spot.spot in
    let s = view c.args.self.now in
    let found = c.in_ok-spot.ensures.cases in
    let sum : c.invoice_of-invoice.result ≡ invoice spot.account.terms.award c.args.award (balance spot.account.ledger) = search rules in
    let terms : c.renewed.result ≡ renewed (year s) c.args.award c.args.commitment c.args.ready spot.account.terms = search rules in
    record {
      step = (
        search rules,
        sum ∙ ap (λ a. invoice a.terms.award c.args.award (balance a.ledger)) (sym found.here),
        c.credit.ensures.after
            ∙ ap (λ n. paid n c.invoice_of-invoice.result (on_terms (λ _. c.renewed.result)) s) found.its
            ∙ paid_like s c.args.asset c.invoice_of-invoice.result spot (on_terms (λ _. c.renewed.result))
            (on_terms (renewed (year s) c.args.award c.args.commitment c.args.ready)) found
            (ap (λ t. on_terms (λ _. t) (on_ledger (credited c.invoice_of-invoice.result) spot.account)) terms),
      );
    }

use Rattle.std.proofs.Common.{◌≡◌, ◌+◌, ◌++◌, map, length, drop, vec_items, sym, ap, ◌∙◌, subst, rules}
use Rattle.std.specs.Vec.{with_items}
use Rattle.std.proofs.lemmas.List.{with_items_is}
use Rattle.book.specs.Book.{view}
use Rattle.book.specs.Class.{by_class, none}
use Rattle.book.specs.Close.{account_after, all_dues, closed_state, residue, row}
use Rattle.book.specs.Kept.{Kept}
use Rattle.book.specs.State.{state, year}
use Rattle.book.specs.declared.class.Class.TheVariants.{Delivery}
use Rattle.book.proofs.AfterClose.{all_closable, kept_after, same_work}
use Rattle.book.proofs.book.Book.close_with.Goals as goal

pub settle_all-requires : goal.settle_all-requires
settle_all-requires g c =
    let b = c.args.self.now in (
      search rules,
      (
        search rules,
        (
          search rules,
          all_closable g.row.N (view b) b.kept g.R.SharingRule.shares g.met.R.SharingRule.within g.P.PaymentRule.pays g.P.PaymentRule.limits g.met.P.PaymentRule.owes
              b.in_time c.as_mut_slice.result.now c.share_class.new.shares c.share_class-2.new.shares
              c.as_mut_slice.ensures.value c.share_class.ensures.after c.share_class-2.ensures.after,
        ),
      ),
    )

pub invariant_of-self-2-clause-kept : goal.invariant_of-self-2-clause-kept
invariant_of-self-2-clause-kept g c =
    let b = c.args.self.now in
    let s = view b in
    let rule = g.R.SharingRule.shares in
    let pays = g.P.PaymentRule.pays in
    let same : vec_items (with_items b.accounts c.settle_all.new.accounts) ≡ (closed_state rule pays s).accounts =
    with_items_is b.accounts c.settle_all.new.accounts (search rules) ∙ c.settle_all.ensures.accounts
    ∙ same_work (account_after pays) s rule c.year-year.ensures.value c.as_mut_slice.ensures.value c.share_class.ensures.after c.share_class-2.ensures.after in
    subst (Kept g.row.N (b.closes + 1) none) (sym same) (kept_after g.row.N s b.kept rule g.met.R.SharingRule.within pays g.P.PaymentRule.limits g.met.P.PaymentRule.owes)

pub returns : goal.returns
returns g c =
    let b = c.args.self.now in
    let s = view b in
    let rule = g.R.SharingRule.shares in
    let pays = g.P.PaymentRule.pays in
    let same : vec_items (with_items b.accounts c.settle_all.new.accounts) ≡ (closed_state rule pays s).accounts =
    with_items_is b.accounts c.settle_all.new.accounts (search rules) ∙ c.settle_all.ensures.accounts
    ∙ same_work (account_after pays) s rule c.year-year.ensures.value c.as_mut_slice.ensures.value c.share_class.ensures.after c.share_class-2.ensures.after in
    record {
      value = (
        search rules,
        ap (λ n. by_class n c.share_class-2.result) c.share_class.ensures.value ∙ ap (by_class (residue rule s Delivery)) c.share_class-2.ensures.value,
      );
      after = ap (λ xs. state xs none (b.closes + 1)) same;
      rows =
          c.settle_all.ensures.rows
          ∙ ap (λ front. front ++ drop (length c.as_mut_slice.result.now) c.args.rows.now) (same_work (row pays) s rule c.year-year.ensures.value c.as_mut_slice.ensures.value c.share_class.ensures.after c.share_class-2.ensures.after)
          ∙ ap (λ xs. map (row pays (year s)) (all_dues rule s) ++ drop (length xs) c.args.rows.now) c.as_mut_slice.ensures.value;
    }

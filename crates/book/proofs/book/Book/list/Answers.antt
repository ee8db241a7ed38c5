use Rattle.std.proofs.Common.{[], ◌∷◌, ◌++◌, vec_items, sym, ap, ◌∙◌, subst, rules}
use Rattle.book.specs.Kept.{Kept}
use Rattle.book.proofs.Sound.{kept_push}
use Rattle.book.proofs.book.Book.list.Goals as goal

pub invariant_of-self-clause-kept : goal.invariant_of-self-clause-kept
invariant_of-self-clause-kept g c =
    let b = c.args.self.now in
    let xs = vec_items b.accounts in
    subst (Kept g.row.N b.closes b.pools) (sym (c.push_reserved.ensures.items ∙ ap (λ x. xs ++ x ∷ []) c.opened.ensures.value))
    (kept_push g.row.N b.closes b.pools xs c.args.asset c.args.holder b.kept (search rules) (search rules) (search rules))

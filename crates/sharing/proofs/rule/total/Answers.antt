use Rattle.std.proofs.Common.{rules, ◌+◌, ◌≤◌, ℕ, List, [], ◌∷◌, min, Bor}
use Rattle.std.specs.List.{fold}
use Rattle.sharing.specs.Rule.{most_cents}
use Rattle.sharing.proofs.rule.total.Goals as goal

-- a claim that passes leaves the sum within the limit, so a sum cut off there at each claim is the same sum
capped : (claims : List (Bor ℕ)) (a : ℕ) → a ≤ most_cents → fold (λ sum claim. min (sum + claim.now) most_cents) a claims ≤ most_cents
capped [] a l = l
capped (x ∷ xs) a l = capped xs (min (a + x.now) most_cents) (search rules)

pub returns : goal.returns
returns c =
    let within = capped c.try_fold.ensures.runs.0.items 0 (search rules) in
    record { value = search rules }

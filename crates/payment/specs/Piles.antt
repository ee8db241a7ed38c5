-- What a layer over a payment rule owes, from what the two owe. Assumes nothing.
use Rattle.std.specs.Prelude.{List, ◌++◌, ℤ, pos, ◌≤ℤ◌}
use Rattle.std.proofs.Common.{arith}
use Rattle.std.proofs.ByRecursion.{All-append, All-weaker}
use Rattle.std.proofs.lemmas.Int.{by_lt_z, ints}
use Rattle.payment.specs.Rule.{AllKept, Between, Kept, Limit, Owed, capped, floored}
use Rattle.payment.specs.Stand.{InRange, Stand}

between_over : (t q p : ℤ) → Between t q → Between q p → Between t p
between_over t q p first second = record {
  to_holder = λ h. let a = first.to_holder h in let b = second.to_holder a.0 in (b.0, omega (arith, ints));
  from_holder = λ h. let a = first.from_holder h in let b = second.from_holder a.1 in (omega (arith, ints), b.1);
}

-- what lies between zero and a payment that keeps a limit keeps it too
kept_between : (s : Stand) (q p : ℤ) → InRange s → Between q p → (l : Limit) → Kept l s q → Kept l s p
kept_between s q p ranged between floored kept = λ award. (between.to_holder (kept award)).0
kept_between s q p ranged between capped kept = λ award.
    by_lt_z q (pos 0)
    (λ less. let a : (q ≤ℤ p) × (p ≤ℤ pos 0) = between.from_holder (omega (arith, ints)) in omega (arith, ints))
    (λ more. let a = between.to_holder more in let b = kept award in omega (arith, ints))

pub owed_over : (adds limits : List Limit) (s : Stand) (t q p : ℤ) → InRange s → Owed limits s t q → Between q p → AllKept adds s p → Owed (adds ++ limits) s t p
owed_over adds limits s t q p ranged below between added = record {
  between = between_over t q p below.between between;
  kept =
      All-append (λ l. Kept l s p) adds limits added
      (All-weaker (λ l. Kept l s q) (λ l. Kept l s p) (kept_between s q p ranged between) limits below.kept);
}

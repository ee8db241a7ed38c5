-- What a sharing rule takes.
--   most_cents   the most that a pool, or all claims together, may come to, in cents
--   Shareable    a rule that serves so many claims takes this pool and these claims, with a list of so many places for the shares
-- Assumes nothing.
use Rattle.std.specs.Prelude.{◌≡◌, ℕ, ◌≤◌, List, length, sum}

abbrev pub most_cents : ℕ
most_cents = 2000000000

pub record Shareable (serves pool : ℕ) (claims : List ℕ) (places : ℕ) : Type 0 where
  pub a_place_each : length claims ≡ places
  pub few : length claims ≤ serves
  pub pool_within : pool ≤ most_cents
  pub claims_within : sum claims ≤ most_cents

-- The transcript as it grows.
--   Added k bs a b   the bytes bs, at most k lines of them, were put behind those in a; no memory was asked for
-- Assumes nothing.
use Rattle.std.specs.Prelude.{◌≡◌, ℕ, ◌*◌, ◌≤◌, List, ◌++◌, length, vec_items, vec_capacity, Vec}
use Rattle.std.specs.declared.alloc.Global.{Global}

pub record Added (k : ℕ) (bs : List ℕ) (a b : Vec ℕ Global) : Type 0 where
  pub items : vec_items b ≡ vec_items a ++ bs
  pub few : length bs ≤ k * 300
  pub room : vec_capacity a ≤ vec_capacity b

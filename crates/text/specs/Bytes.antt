-- What a byte of a line is.
--   within          between two bytes, ends included
--   part            part of a run: a to z, 0 to 9 or a minus
--   sort            a bracket, a blank, part of a run, or of no token
--   sort_at         the same of the byte at a place
-- Assumes nothing.
use Rattle.std.specs.Prelude.{ℕ, Bool, cond, ◌&&◌, ◌||◌, List, ◌==◌, nat_le, slice_index}
use Rattle.text.specs.declared.byte.Sort.{Sort}
use Rattle.text.specs.declared.byte.Sort.TheVariants.{Blank, Close, Foreign, Open, Part}

abbrev pub within : ℕ → ℕ → ℕ → Bool
within least most b = nat_le least b && nat_le b most

abbrev pub part : ℕ → Bool
part b = within 97 122 b || (within 48 57 b || b == 45)

abbrev pub sort : ℕ → Sort
sort b = cond (b == 40) Open (cond (b == 41) Close (cond (b == 32) Blank (cond (part b) Part Foreign)))

abbrev pub sort_at : List ℕ → ℕ → Sort
sort_at bs i = sort (slice_index bs i)

-- What the names of a module mean: the ranges of its nets, and the numbers of their bits (IEEE 1364-2005, 4.3.1 and
-- 5.2.1).
use Rattle.std.specs.Prelude.{ℕ, ◌+◌, ◌-◌, max, min, Bool, false, ◌&&◌, nat_le, if◌then◌else◌, Option, Some, None}
use Rattle.eq_model.specs.Nets.{range_width}
use Rattle.eq_verilog.specs.Trees.{Name, Range}

-- of each name, the range that it is declared with, if any, and the number of the bit at its position 0
pub record Scope : Type 0 where
  pub range : Name → Option Range
  pub first : Name → ℕ

abbrev pub width : Scope → Name → ℕ
width s n = range_width (s.range n)

-- how many bits [l:r] selects, its ends included
abbrev pub span : ℕ → ℕ → ℕ
span l r = range_width (Some (l, r))

-- the range runs down from the left to the right
abbrev pub is_falling : Range → Bool
is_falling r = nat_le r.1 r.0

-- the position of the bit with the index i: position 0 has the right index
abbrev pub position : Option Range → ℕ → ℕ
position None i = 0
position (Some r) i = if is_falling r then i - r.1 else r.1 - i

-- the index of the bit at a position
abbrev pub index_at : Range → ℕ → ℕ
index_at r p = if is_falling r then r.1 + p else r.1 - p

-- the index lies in the range
abbrev pub is_inside : Range → ℕ → Bool
is_inside r i = nat_le (min r.0 r.1) i && nat_le i (max r.0 r.1)

-- [l:r] lies in the range, in its direction: the left index isn't at a lower position than the right one. A net without
-- a range has no selects
abbrev pub is_select : Option Range → ℕ → ℕ → Bool
is_select None l r = false
is_select (Some d) l r = is_inside d l && is_inside d r && nat_le (position (Some d) r) (position (Some d) l)

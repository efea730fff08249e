-- Nets: how the bits of a design are named, where they stand and how they were declared.
use Rattle.std.specs.Prelude.{◌≡◌, ℕ, zero, suc, ◌+◌, ◌-◌, max, min, nat_lt, if◌then◌else◌, Bool, List, [], ◌∷◌, Contains, Option, Some, None}

-- where a net stands: inside the design, or as an input or output port of the top
pub data Dir : Type 0 where
  inner : Dir
  is_input : Dir
  is_output : Dir

abbrev pub IsPort : Dir → Type 0
IsPort inner = ⊥
IsPort is_input = Unit {0}
IsPort is_output = Unit {0}

-- the bytes of a net's full name, which goes through the instances (IEEE 1364-2005, 12.5)
abbrev pub NetName : Type 0
NetName = List ℕ

-- what a bit is known by: its net's name, and its place in the net, where 0 is the least significant
abbrev pub Key : Type 0
Key = NetName × ℕ

-- a net: a wire or a variable, of one bit or more
pub record Net : Type 0 where
  pub name : NetName
  -- the range [left:right] that it is declared with, none for a scalar (IEEE 1364-2005, 4.3)
  pub range : Option (ℕ × ℕ)
  pub dir : Dir
  -- a tool made up the name, which so says nothing in another netlist
  pub automatic : Bool

-- how many bits a range has, its ends included (IEEE 1364-2005, 4.3.1). A scalar has one
abbrev pub range_width : Option (ℕ × ℕ) → ℕ
range_width None = 1
range_width (Some r) = (max r.0 r.1 - min r.0 r.1) + 1

abbrev pub net_width : Net → ℕ
net_width n = range_width n.range

-- The bits of all nets stand in one row: net by net, and each net's from place 0 up.

abbrev pub total_width : List Net → ℕ
total_width [] = 0
total_width (n ∷ ns) = net_width n + total_width ns

-- the number of the first bit of net k
abbrev pub first_bit : List Net → ℕ → ℕ
first_bit [] k = 0
first_bit (n ∷ ns) zero = 0
first_bit (n ∷ ns) (suc k) = net_width n + first_bit ns k

-- what f says of bit b's net and place, and otherwise where there is no such bit
abbrev pub at_bit : {A : Type 0} → A → (Net → ℕ → A) → List Net → ℕ → A
at_bit otherwise f [] b = otherwise
at_bit otherwise f (n ∷ ns) b =
    if nat_lt b (net_width n) then f n b else at_bit otherwise f ns (b - net_width n)

-- some net has this name, and P holds of it
abbrev pub HasNet : List Net → NetName → (Net → Type 0) → Type 0
HasNet nets name P = (n : Net) × Contains nets n × (n.name ≡ name) × P n

-- A counter of two bits: a register that adds 1 to itself, its clock, and whether the number is 2.
use Rattle.std.specs.Prelude.{ℕ, List, [], ◌∷◌, Bool, true, false, Some}
use Rattle.eq_net.specs.declared.types.NetInfo.{NetInfo}
use Rattle.eq_net.specs.declared.types.Dir.{Dir}
use Rattle.eq_net.specs.declared.types.Dir.TheVariants.{Input as InputPort, Output as OutputPort}
use Rattle.eq_net.specs.declared.types.WordOp.TheVariants as op
use Rattle.eq_net.specs.declared.types.Driver.{Driver}
use Rattle.eq_net.specs.declared.types.Driver.TheVariants.{Input, Expr, Reg}
use Rattle.eq_net.specs.Tree.{Tree, const, read, binary}
use Rattle.eq_net.specs.Net.{Parts}
use Rattle.test_netlists.specs.Operators.{places}

abbrev pub spanning : List ℕ → ℕ → ℕ → Bool → Dir → NetInfo
spanning name left right ranged dir = record { name = name; left = left; right = right; ranged = ranged; dir = dir; auto = false }

-- `clk`, `q[2:1]` and `y`
abbrev pub counter_nets : List NetInfo
counter_nets =
    spanning (99 ∷ 108 ∷ 107 ∷ []) 0 0 false InputPort ∷ spanning (113 ∷ []) 2 1 true OutputPort
    ∷ spanning (121 ∷ []) 0 0 false OutputPort ∷ []

abbrev pub next_count : Tree
next_count = binary op.Add (read (places 1 2)) (const (true ∷ false ∷ []))

abbrev pub is_two : Tree
is_two = binary op.Eq (read (places 1 2)) (const (false ∷ true ∷ []))

abbrev pub counter_drivers : List Driver
counter_drivers = Input ∷ Reg false 0 0 ∷ Reg false 0 1 ∷ Expr 1 0 ∷ []

abbrev pub counter : Parts
counter = record {
  nets = counter_nets;
  words = next_count ∷ is_two ∷ [];
  drivers = counter_drivers;
  ports = 0 ∷ 1 ∷ 2 ∷ [];
  clock = Some 0;
  cost = 22;
}

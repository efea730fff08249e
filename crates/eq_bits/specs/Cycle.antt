-- What the nodes of a list are given from outside a cycle: the inputs, and the registers from the cycle before.
use Rattle.std.specs.Prelude.{ℕ, List, Bool, false, take, count_by}
use Rattle.eq_model.specs.System.{Values}
use Rattle.eq_model.specs.Frames.{values}
use Rattle.eq_bits.specs.declared.node.Node.{Node}
use Rattle.eq_bits.specs.declared.node.Node.TheVariants.{Const, Input, Not, And, Xor, Mux, Buf, Reg}
use Rattle.eq_bits.specs.Node.{is_register, node_at}

-- how many nodes are registers
abbrev pub register_count : List Node → ℕ
register_count nodes = count_by is_register nodes

-- how many registers stand before node m
abbrev pub place : List Node → ℕ → ℕ
place nodes m = count_by is_register (take m nodes)

-- what a node is given: an Input the value of its input, a register the value that is said of its next node. Each other
-- node is computed, and its value here is read by nobody
abbrev pub held : (ℕ → Bool) → (ℕ → Bool) → Node → Bool
held inputs next_values (Const b) = false
held inputs next_values (Input i) = inputs i
held inputs next_values (Not a) = false
held inputs next_values (And a b) = false
held inputs next_values (Xor a b) = false
held inputs next_values (Mux s a b) = false
held inputs next_values (Buf a) = false
held inputs next_values (Reg next init) = next_values next

-- what nodes are given in a cycle in which the registers, in the order of the nodes, have the values `regs`
abbrev pub values_with : List Node → List Bool → List Bool → Values
values_with nodes regs inputs m = held (values inputs) (λ next. values regs (place nodes m)) (node_at nodes m)

-- what nodes are given in a cycle with these inputs, after one in which they had the values `before`
abbrev pub values_after : List Node → Values → List Bool → Values
values_after nodes before inputs m = held (values inputs) before (node_at nodes m)

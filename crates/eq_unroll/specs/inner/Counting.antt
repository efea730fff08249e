-- Mirrors src/count.rt; nothing here has to be believed.
use Rattle.std.specs.Prelude.{ℕ, zero, suc, ◌+◌, List, length}
use Rattle.eq_bits.specs.declared.node.Node.{Node}
use Rattle.eq_bits.specs.declared.node.Node.TheVariants.{Const, Input, Not, And, Xor, Mux, Buf, Reg}
use Rattle.eq_bits.specs.Node.{node_at}
use Rattle.eq_unroll.specs.declared.query.Query.{Query}
use Rattle.eq_unroll.specs.declared.query.Query.TheVariants.{Base, Step}

-- the sum of what a function gives below a number
abbrev pub total : (ℕ → ℕ) → ℕ → ℕ
total g zero = zero
total g (suc n) = total g n + g n

-- how many clauses a node has where a register has this many
abbrev pub node_clauses : ℕ → Node → ℕ
node_clauses register (Const b) = 1
node_clauses register (Input i) = 0
node_clauses register (Not a) = 2
node_clauses register (And a b) = 3
node_clauses register (Xor a b) = 4
node_clauses register (Mux s a b) = 4
node_clauses register (Buf a) = 2
node_clauses register (Reg next init) = register

-- and all nodes together
abbrev pub frame_clauses : ℕ → List Node → ℕ
frame_clauses register nodes = total (λ m. node_clauses register (node_at nodes m)) (length nodes)

-- how many clauses a register has in the first frame
abbrev pub first_clauses : Query → ℕ
first_clauses Base = 1
first_clauses Step = 0

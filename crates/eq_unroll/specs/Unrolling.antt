-- The formula of a query: the clauses that tie the nodes of each cycle to one another (G. S. Tseitin, "On the Complexity of
-- Derivation in Propositional Calculus", 1968), over the cycles one after another (A. Biere, A. Cimatti, E. Clarke, Y. Zhu,
-- "Symbolic Model Checking without BDDs", 1999), in DIMACS's terms.
use Rattle.std.specs.Prelude.{ℕ, zero, suc, ◌+◌, ◌*◌, ◌==◌, nat_lt, Bool, true, cond, List, [], ◌∷◌, ◌++◌, map, length}
use Rattle.eq_proof.specs.Literal.{Literal, code_of, negation}
use Rattle.eq_bits.specs.declared.node.Node.{Node}
use Rattle.eq_bits.specs.declared.node.Node.TheVariants.{Const, Input, Not, And, Xor, Mux, Buf, Reg}
use Rattle.eq_bits.specs.declared.part.Output.{Output}
use Rattle.eq_bits.specs.declared.part.Part.{Part}
use Rattle.eq_bits.specs.Node.{node_at}
use Rattle.eq_bits.specs.Replay.{output_at}
use Rattle.eq_unroll.specs.declared.query.Query.{Query}
use Rattle.eq_unroll.specs.declared.query.Query.TheVariants.{Base, Step}
use Rattle.eq_unroll.specs.Query.{agreeing, frame_count, last_frame}

-- Clauses

-- a list of literals in order, into which one more is put at its place, and only once
abbrev pub insert : Literal → List Literal → List Literal
insert l [] = l ∷ []
insert l (m ∷ ms) = cond (code_of l == code_of m) (m ∷ ms)
    (cond (nat_lt (code_of l) (code_of m)) (l ∷ m ∷ ms) (m ∷ insert l ms))

-- the clause of these literals: by variable, the positive one first, and each once
abbrev pub ordered : List Literal → List Literal
ordered [] = []
ordered (l ∷ ls) = insert l (ordered ls)

-- Rows of the table. `v` is the literal of the node, the others are those of its operands

abbrev pub Rows : Type 0
Rows = List (List Literal)

abbrev pub not_rows : Literal → Literal → Rows
not_rows v a = (v ∷ a ∷ []) ∷ (negation v ∷ negation a ∷ []) ∷ []

abbrev pub and_rows : Literal → Literal → Literal → Rows
and_rows v a b =
    (negation v ∷ a ∷ []) ∷ (negation v ∷ b ∷ []) ∷ (v ∷ negation a ∷ negation b ∷ []) ∷ []

abbrev pub xor_rows : Literal → Literal → Literal → Rows
xor_rows v a b =
    (negation v ∷ a ∷ b ∷ []) ∷ (negation v ∷ negation a ∷ negation b ∷ []) ∷
    (v ∷ negation a ∷ b ∷ []) ∷ (v ∷ a ∷ negation b ∷ []) ∷ []

abbrev pub mux_rows : Literal → Literal → Literal → Literal → Rows
mux_rows v s a b =
    (negation s ∷ negation a ∷ v ∷ []) ∷ (negation s ∷ a ∷ negation v ∷ []) ∷
    (s ∷ negation b ∷ v ∷ []) ∷ (s ∷ b ∷ negation v ∷ []) ∷ []

-- two literals are equal
abbrev pub same_rows : Literal → Literal → Rows
same_rows v a = (negation v ∷ a ∷ []) ∷ (v ∷ negation a ∷ []) ∷ []

-- where d is true, two literals differ
abbrev pub differ_rows : Literal → Literal → Literal → Rows
differ_rows d g h = (negation d ∷ g ∷ h ∷ []) ∷ (negation d ∷ negation g ∷ negation h ∷ []) ∷ []

-- Variables

-- the literal of the variable of number m, from 0, after `before` others
abbrev pub literal : ℕ → ℕ → Literal
literal before m = record { var = before + m + 1; positive = true }

-- the clauses of node m, but for a register, in a frame with `before` variables before it
abbrev pub gate_rows : ℕ → ℕ → Node → Rows
gate_rows before m (Const b) = ((record { var = before + m + 1; positive = b }) ∷ []) ∷ []
gate_rows before m (Input i) = []
gate_rows before m (Not a) = not_rows (literal before m) (literal before a)
gate_rows before m (And a b) = and_rows (literal before m) (literal before a) (literal before b)
gate_rows before m (Xor a b) = xor_rows (literal before m) (literal before a) (literal before b)
gate_rows before m (Mux s a b) =
    mux_rows (literal before m) (literal before s) (literal before a) (literal before b)
gate_rows before m (Buf a) = same_rows (literal before m) (literal before a)
gate_rows before m (Reg next init) = []

-- the clauses of the register m of n nodes in a frame: in the first frame of Base its initial value, in a later frame the
-- value of its next node one frame before
abbrev pub register_rows : ℕ → ℕ → Query → ℕ → ℕ → Bool → Rows
register_rows zero n Base m next init =
    ((record { var = zero * n + m + 1; positive = init }) ∷ []) ∷ []
register_rows zero n Step m next init = []
register_rows (suc f) n q m next init = same_rows (literal (suc f * n) m) (literal (f * n) next)

-- the clauses of node m of n nodes in a frame
abbrev pub rows_at : ℕ → ℕ → Query → ℕ → Node → Rows
rows_at f n q m (Reg next init) = register_rows f n q m next init
rows_at f n q m node = gate_rows (f * n) m node

-- Formulas

-- what a function gives at 0, 1 and so on below a number, one after another
abbrev pub joined : {X : Type 0} → (ℕ → List X) → ℕ → List X
joined g zero = []
joined g (suc n) = joined g n ++ g n

-- all nodes in frame f
abbrev pub nodes_rows : List Node → Query → ℕ → Rows
nodes_rows nodes q f = joined (λ m. rows_at f (length nodes) q m (node_at nodes m)) (length nodes)

-- all nodes in the first frames
abbrev pub frame_rows : List Node → Query → ℕ → Rows
frame_rows nodes q frames = joined (λ f. nodes_rows nodes q f) frames

-- the literals of an output's gold and gate node in a frame with `before` variables before it

abbrev pub gold_literal : ℕ → List Output → ℕ → Literal
gold_literal before outputs i = literal before (output_at outputs i).gold

abbrev pub gate_literal : ℕ → List Output → ℕ → Literal
gate_literal before outputs i = literal before (output_at outputs i).gate

-- each output's nodes are equal in a frame with `before` variables before it
abbrev pub equal_rows : ℕ → List Output → Rows
equal_rows before outputs =
    joined (λ i. same_rows (gold_literal before outputs i) (gate_literal before outputs i))
    (length outputs)

-- the same in the first frames, of n variables each
abbrev pub agreement_rows : ℕ → List Output → ℕ → Rows
agreement_rows n outputs frames = joined (λ f. equal_rows (f * n) outputs) frames

-- in the last frame: where the literal of an output is true, its nodes differ. These literals come after those of all frames
abbrev pub difference_rows : ℕ → List Output → ℕ → ℕ → Rows
difference_rows n outputs last frames = joined (λ i. differ_rows (literal (frames * n) i)
    (gold_literal (last * n) outputs i) (gate_literal (last * n) outputs i)) (length outputs)

-- the literals of all outputs
abbrev pub output_literals : ℕ → ℕ → List Literal
output_literals before outputs = joined (λ i. literal before i ∷ []) outputs

-- all clauses of a query's formula, before their literals are put in order
abbrev pub rows : List Node → List Output → Query → ℕ → Rows
rows nodes outputs q k =
    frame_rows nodes q (frame_count q k) ++
    (agreement_rows (length nodes) outputs (agreeing q k) ++
    (difference_rows (length nodes) outputs (last_frame q k) (frame_count q k) ++
    output_literals (frame_count q k * length nodes) (length outputs) ∷ []))

-- the clauses of a query's formula
abbrev pub unrolled : Part → Query → ℕ → List (List Literal)
unrolled part q k = map ordered (rows part.nodes part.outputs q k)

-- the greatest variable
abbrev pub variable_count : Part → Query → ℕ → ℕ
variable_count part q k = frame_count q k * length part.nodes + length part.outputs

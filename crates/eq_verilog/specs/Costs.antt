-- The cost of a design: a bound on the nodes that it takes as a graph of bits. This project's own. It is told by
-- modules, each as if it stood alone, so it can be looked at before a design is unfolded.
use Rattle.std.specs.Prelude.{ℕ, zero, suc, ◌+◌, ◌*◌, max, List, [], ◌∷◌, ◌++◌, Bool, ◌==◌, if◌then◌else◌, Option, length, sum_by}
use Rattle.std.specs.List.{list_any}
use Rattle.eq_net.specs.Meaning.{if_there}
use Rattle.eq_net.specs.Operators.{apply_cost, reduce_cost, choose_cost}
use Rattle.eq_verilog.specs.Trees.{Name, ExprTree, const, net, bit, part, empty, joined, repeated, unary, binary, choice, StmtTree, idle, set, sequence, branch, ItemTree, declared, assign, primitive, instance, always, initial, ModuleTree}
use Rattle.eq_verilog.specs.Scopes.{Scope, width}
use Rattle.eq_verilog.specs.Sizes.{UnaryForm, complement, opposite, reduction, unary_form, own, inner_size, left_size, right_size}
use Rattle.eq_verilog.specs.Expressions.{wire, word_op}
use Rattle.eq_verilog.specs.Declarations.{dir_of, comes_in, nets_in}
use Rattle.eq_verilog.specs.Hierarchy.{Instance, instances, Path, module_named, paths}
use Rattle.eq_verilog.specs.Nets.{module_scope}
use Rattle.eq_verilog.specs.Equations.{Connection, connections_of, gate_inputs, gate_outputs}

-- ---- expressions

abbrev pub unary_cost : UnaryForm → ℕ → ℕ
unary_cost complement n = n
unary_cost opposite n = 6 * n
unary_cost (reduction r) n = reduce_cost r n

-- the cost of an expression in a context of w bits. What a repeat repeats costs once
abbrev pub cost : Scope → ExprTree → ℕ → ℕ
cost s (const c) w = 0
cost s (net n) w = 0
cost s (bit n i) w = 0
cost s (part n l r) w = 0
cost s empty w = 0
cost s (joined a b) w = cost s a (own s a) + cost s b (own s b)
cost s (repeated n a) w = cost s a (own s a)
cost s (unary op a) w = unary_cost (unary_form op) (inner_size s op a w) + cost s a (inner_size s op a w)
cost s (binary op a b) w =
    apply_cost (word_op op) (left_size s op a b w) (right_size s op a b w)
    + (cost s a (left_size s op a b w) + cost s b (right_size s op a b w))
cost s (choice c a b) w = choose_cost (own s c) w + (cost s c (own s c) + (cost s a w + cost s b w))

-- an expression as the right side for a target of n bits
abbrev pub side_cost : Scope → ExprTree → ℕ → ℕ
side_cost s e n = cost s e (max n (own s e))

-- ---- statements

-- the bits at the positions of a target, the highest position first
abbrev pub bits_below : ℕ → (ℕ → Option ℕ) → List ℕ
bits_below zero f = []
bits_below (suc n) f = if_there (bits_below n f) (λ b. b ∷ bits_below n f) (f n)

abbrev pub bits_in : Scope → ExprTree → List ℕ
bits_in s t = bits_below (own s t) (wire s t)

abbrev pub has_bit : List ℕ → ℕ → Bool
has_bit bs b = list_any (λ c. c == b) bs

-- how many different numbers a list has
abbrev pub different : List ℕ → ℕ
different [] = 0
different (b ∷ bs) = if has_bit bs b then different bs else suc (different bs)

abbrev pub bits_set : Scope → StmtTree → List ℕ
bits_set s idle = []
bits_set s (set t e) = bits_in s t
bits_set s (sequence x y) = bits_set s x ++ bits_set s y
bits_set s (branch c x y) = bits_set s x ++ bits_set s y

-- of a statement in an always item that sets n different bits. An `if` costs its condition, four nodes for each bit of
-- the condition, and one for each bit that the item sets, also where the `if` sets none
abbrev pub stmt_cost : Scope → ℕ → StmtTree → ℕ
stmt_cost s n idle = 0
stmt_cost s n (set t e) = side_cost s e (own s t)
stmt_cost s n (sequence x y) = stmt_cost s n x + stmt_cost s n y
stmt_cost s n (branch c x y) = (cost s c (own s c) + (4 * own s c + n)) + (stmt_cost s n x + stmt_cost s n y)

-- ---- modules

-- what is connected to an input port of the module i is a right side. What is connected to an output port is a target,
-- and costs nothing
abbrev pub connection_cost : Scope → ModuleTree → Connection → ℕ
connection_cost s i c = if comes_in (dir_of i c.port) then side_cost s c.expr (width (module_scope i) c.port) else 0

-- a gate costs its terminals, and for each output four nodes an input and one more
abbrev pub item_cost : List ModuleTree → Scope → ItemTree → ℕ
item_cost all s (declared k r n) = 0
item_cost all s (assign t e) = side_cost s e (own s t)
item_cost all s (primitive k n terms) =
    length (gate_outputs k terms) * (4 * length (gate_inputs k terms) + 1) + sum_by (λ e. cost s e (own s e)) terms
item_cost all s (instance m n conns) =
    if_there 0 (λ inside. sum_by (connection_cost s inside) (connections_of inside conns)) (module_named all m)
item_cost all s (always event body) = stmt_cost s (different (bits_set s body)) body
item_cost all s (initial t c) = 0

-- one instance of a module, without the instances in it: a node for each bit, and its items
abbrev pub module_cost : List ModuleTree → ModuleTree → ℕ
module_cost all m = sum_by (width (module_scope m)) (nets_in m) + sum_by (item_cost all (module_scope m)) m.items

-- 2, the costs of all instances, and 1 for each instance below the top
abbrev pub design_cost : List ModuleTree → Name → ℕ
design_cost all top =
    let ps = paths all top in
    1 + (length ps + sum_by (λ (p : Path). module_cost all p.of) ps)

-- ---- by modules

-- an instance of a module with all in it, at most k in one another
abbrev pub cost_below : List ModuleTree → ℕ → ModuleTree → ℕ
cost_below all zero m = 0
cost_below all (suc k) m =
    suc (module_cost all m)
    + sum_by (λ (i : Instance). if_there 0 (cost_below all k) (module_named all i.module_name)) (instances m)

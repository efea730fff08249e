-- What is wrong with targets, and with connections and terminals. Each condition is the name that it tells, if it
-- holds.
use Rattle.std.specs.Prelude.{ℕ, List, [], ◌∷◌, ◌++◌, Bool, true, false, not, ◌&&◌, ◌==◌, nat_lt, if◌then◌else◌, Option, None, is_none, length, map}
use Rattle.std.specs.Option.{option_or}
use Rattle.std.specs.List.{list_any, list_all}
use Rattle.eq_net.specs.Meaning.{if_there}
use Rattle.eq_verilog.specs.Trees.{Name, ExprTree, net, bit, part, empty, joined, StmtTree, idle, set, sequence, branch, NamedConnection, ConnectionList, by_order, by_name, ItemTree, declared, assign, primitive, instance, always, initial, ModuleTree}
use Rattle.eq_verilog.specs.Sizes.{own}
use Rattle.eq_verilog.specs.Declarations.{has, is_variable, is_reg, dir_of, comes_in, goes_out, names_in}
use Rattle.eq_verilog.specs.Hierarchy.{module_named}
use Rattle.eq_verilog.specs.Nets.{module_scope}
use Rattle.eq_verilog.specs.Equations.{Connection, connections_of, gate_outputs}
use Rattle.eq_verilog.specs.Costs.{bits_in, has_bit}
use Rattle.eq_verilog.specs.Firsts.{first_found, unless, first_again}

-- ---- targets

-- a name, a select, or a concatenation of targets
abbrev pub is_target : ExprTree → Bool
is_target (net n) = true
is_target (bit n i) = true
is_target (part n l r) = true
is_target empty = true
is_target (joined a b) = is_target a && is_target b
is_target _ = false

-- the names and selects of a target, from the left
abbrev pub leaves : ExprTree → List ExprTree
leaves (net n) = net n ∷ []
leaves (bit n i) = bit n i ∷ []
leaves (part n l r) = part n l r ∷ []
leaves (joined a b) = leaves a ++ leaves b
leaves _ = []

-- some bit of a leaf is among these
abbrev pub overlaps : ModuleTree → List ℕ → ExprTree → Bool
overlaps m seen e = list_any (has_bit seen) (bits_in (module_scope m) e)

-- the net of the first leaf that is of a wrong net, or has a bit that is among those seen or of an earlier leaf
abbrev pub bad_leaf : ModuleTree → (Name → Bool) → List ℕ → List ExprTree → Option Name
bad_leaf m is_right seen [] = None
bad_leaf m is_right seen (e ∷ es) =
    option_or (first_found (λ n. unless (is_right n && not (overlaps m seen e)) n) (names_in e))
    (bad_leaf m is_right (bits_in (module_scope m) e ++ seen) es)

-- a target of an equation is neither a reg nor an input of its module
abbrev pub may_be_driven : ModuleTree → Name → Bool
may_be_driven m n = not (is_reg m n) && not (comes_in (dir_of m n))

abbrev pub bad_equation_target : ModuleTree → ExprTree → Option Name
bad_equation_target m t = bad_leaf m (may_be_driven m) [] (leaves t)

-- what is set, or has an initial value, is a reg
abbrev pub bad_register_target : ModuleTree → ExprTree → Option Name
bad_register_target m t = bad_leaf m (is_reg m) [] (leaves t)

-- what an output is connected to is no target, or a wrong one
abbrev pub bad_output : ModuleTree → ExprTree → Option Name
bad_output m e = option_or (unless (is_target e) m.name) (bad_equation_target m e)

abbrev pub bad_connected : ModuleTree → ModuleTree → Connection → Option Name
bad_connected m inside c = if goes_out (dir_of inside c.port) then bad_output m c.expr else None

abbrev pub bad_set : ModuleTree → StmtTree → Option Name
bad_set m idle = None
bad_set m (set t e) = bad_register_target m t
bad_set m (sequence a b) = option_or (bad_set m a) (bad_set m b)
bad_set m (branch c a b) = option_or (bad_set m a) (bad_set m b)

-- An input that is declared reg is told at the reg
abbrev pub bad_target_at : List ModuleTree → ModuleTree → ItemTree → Option Name
bad_target_at all m (declared k r n) = unless (not (is_variable k && comes_in (dir_of m n))) n
bad_target_at all m (assign t e) = bad_equation_target m t
bad_target_at all m (primitive k n terms) = first_found (bad_output m) (gate_outputs k terms)
bad_target_at all m (instance i n conns) =
    if_there None (λ inside. first_found (bad_connected m inside) (connections_of inside conns)) (module_named all i)
bad_target_at all m (always event body) = bad_set m body
bad_target_at all m (initial t c) = bad_register_target m t

abbrev pub bad_target : List ModuleTree → ModuleTree → Option Name
bad_target all m = first_found (bad_target_at all m) m.items

-- ---- connections and terminals

-- as many as the module has ports, by order; or each of a port of the module, none twice, by name
abbrev pub are_connected : ModuleTree → ConnectionList → Bool
are_connected inside (by_order es) = length es == length inside.ports
are_connected inside (by_name ns) =
    is_none (first_again (map (λ (n : NamedConnection). n.port) ns))
    && list_all (λ (n : NamedConnection). has inside.ports n.port) ns

-- two or more, each of one bit
abbrev pub are_terminals : ModuleTree → List ExprTree → Bool
are_terminals m es = nat_lt 1 (length es) && list_all (λ e. own (module_scope m) e == 1) es

-- the instance or the gate; the module for a gate without a name
abbrev pub bad_connection_at : List ModuleTree → ModuleTree → ItemTree → Option Name
bad_connection_at all m (instance i n conns) =
    if_there None (λ inside. unless (are_connected inside conns) n) (module_named all i)
bad_connection_at all m (primitive k n terms) = unless (are_terminals m terms) (if_there m.name (λ n. n) n)
bad_connection_at all m _ = None

abbrev pub bad_connection : List ModuleTree → ModuleTree → Option Name
bad_connection all m = first_found (bad_connection_at all m) m.items

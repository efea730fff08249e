-- What is wrong with modules, their names and their ranges. Each condition is the name that it tells, if it holds.
use Rattle.std.specs.Prelude.{ℕ, List, [], ◌∷◌, Bool, true, false, not, ◌&&◌, ◌||◌, ◌==◌, nat_lt, Option, Some, None, is_some, count_by, filter_map, bytes_eq}
use Rattle.std.specs.Option.{option_or}
use Rattle.std.specs.List.{list_any}
use Rattle.eq_model.specs.Nets.{range_width}
use Rattle.eq_vparse.specs.declared.tree.DeclKind.{DeclKind}
use Rattle.eq_net.specs.Meaning.{if_there}
use Rattle.eq_net.specs.Numbers.{differ}
use Rattle.eq_verilog.specs.Trees.{Name, Range, ExprTree, const, net, bit, part, empty, joined, repeated, unary, binary, choice, ItemTree, declared, primitive, instance, ModuleTree}
use Rattle.eq_verilog.specs.Scopes.{is_select}
use Rattle.eq_verilog.specs.Sizes.{own}
use Rattle.eq_verilog.specs.Declarations.{has, Declaration, declaration_in, is_direction, is_declared, has_direction, range_of, Whole, expression, target, wholes_of_item, names_of_item}
use Rattle.eq_verilog.specs.Hierarchy.{Instance, instances, module_names, module_named, reached_below}
use Rattle.eq_verilog.specs.Nets.{module_scope}
use Rattle.eq_verilog.specs.Firsts.{first_of, first_found, unless, first_again}

-- ---- modules

-- a module has an earlier one's name
abbrev pub duplicate_module : List ModuleTree → Option Name
duplicate_module all = first_again (module_names all)

abbrev pub no_top : List ModuleTree → Name → Option Name
no_top all top = unless (is_some (module_named all top)) top

-- the module of an instance isn't there
abbrev pub unknown_module : List ModuleTree → ModuleTree → Option Name
unknown_module all m =
    first_found (λ (i : Instance). unless (is_some (module_named all i.module_name)) i.module_name) (instances m)

-- the module instantiates itself, directly or through others
abbrev pub recursive : List ModuleTree → ModuleTree → Option Name
recursive all m = unless (not (has (module_names (reached_below all m)) m.name)) m.name

-- ---- names

-- both are directions, or both are wire or reg
abbrev pub is_alike : DeclKind → DeclKind → Bool
is_alike k l = not (differ (is_direction k) (is_direction l))

-- the name of an instance or of a gate
abbrev pub own_name : ItemTree → Option Name
own_name (instance m n conns) = Some n
own_name (primitive k n terms) = n
own_name _ = None

-- two instances or gates have the name, or a net has it
abbrev pub is_taken_twice : ModuleTree → Name → Bool
is_taken_twice m n =
    nat_lt 1 (count_by (bytes_eq n) (filter_map own_name m.items)) || (has m.ports n || is_declared m n)

-- an item declares what one of these declarations before it declares alike, or is an instance or a gate with the name
-- of anything else
abbrev pub duplicate_at : ModuleTree → List Declaration → ItemTree → Option Name
duplicate_at m before (declared k r n) =
    unless (not (list_any (λ (d : Declaration). bytes_eq n d.name && is_alike k d.kind) before)) n
duplicate_at m before i = if_there None (λ n. unless (not (is_taken_twice m n)) n) (own_name i)

abbrev pub duplicate_from : ModuleTree → List Declaration → List ItemTree → Option Name
duplicate_from m before [] = None
duplicate_from m before (i ∷ is) =
    option_or (duplicate_at m before i) (duplicate_from m (if_there before (λ d. d ∷ before) (declaration_in i)) is)

-- a port stands twice in the header, or an item has a name that is taken
abbrev pub duplicate_name : ModuleTree → Option Name
duplicate_name m = option_or (first_again m.ports) (duplicate_from m [] m.items)

-- a direction of what isn't in the header, or a use of what isn't declared, before or behind
abbrev pub unknown_at : ModuleTree → ItemTree → Option Name
unknown_at m (declared k r n) = unless (not (is_direction k) || has m.ports n) n
unknown_at m i = first_found (λ n. unless (is_declared m n) n) (names_of_item i)

-- a port without direction, or an item with an unknown name
abbrev pub unknown_name : ModuleTree → Option Name
unknown_name m =
    option_or (first_found (λ n. unless (has_direction m n) n) m.ports) (first_found (unknown_at m) m.items)

-- ---- ranges

abbrev pub is_same_range : Option Range → Option Range → Bool
is_same_range None None = true
is_same_range None (Some r) = false
is_same_range (Some r) None = false
is_same_range (Some r) (Some s) = (r.0 == s.0) && (r.1 == s.1)

-- the most bits of a net
abbrev pub most_bits : ℕ
most_bits = 1024

-- the most bits of an expression by itself
abbrev pub most_size : ℕ
most_size = 65536

-- the module, where an expression is too large. Of a target the size isn't looked at
abbrev pub bad_size : ModuleTree → Bool → ExprTree → Option Name
bad_size m is_target e = unless (is_target || not (nat_lt most_size (own (module_scope m) e))) m.name

-- in an expression or a target, each before its parts: too many bits, a repeat of nothing, or a select that doesn't lie
-- in its net's range
abbrev pub bad_range_in : ModuleTree → Bool → ExprTree → Option Name
bad_range_in m is_target (const c) = None
bad_range_in m is_target (net n) = bad_size m is_target (net n)
bad_range_in m is_target (bit n i) = unless (is_select (range_of m n) i i) n
bad_range_in m is_target (part n l r) =
    option_or (unless (is_select (range_of m n) l r) n) (bad_size m is_target (part n l r))
bad_range_in m is_target empty = None
bad_range_in m is_target (joined a b) =
    first_of (bad_size m is_target (joined a b) ∷ bad_range_in m is_target a ∷ bad_range_in m is_target b ∷ [])
bad_range_in m is_target (repeated n a) =
    first_of (bad_size m is_target (repeated n a) ∷ unless (nat_lt 0 n) m.name ∷ bad_range_in m is_target a ∷ [])
bad_range_in m is_target (unary op a) = first_of (bad_size m is_target (unary op a) ∷ bad_range_in m is_target a ∷ [])
bad_range_in m is_target (binary op a b) =
    first_of (bad_size m is_target (binary op a b) ∷ bad_range_in m is_target a ∷ bad_range_in m is_target b ∷ [])
bad_range_in m is_target (choice c a b) =
    first_of (bad_size m is_target (choice c a b)
    ∷ bad_range_in m is_target c ∷ bad_range_in m is_target a ∷ bad_range_in m is_target b ∷ [])

abbrev pub bad_range_in_whole : ModuleTree → Whole → Option Name
bad_range_in_whole m (expression e) = bad_range_in m false e
bad_range_in_whole m (target t) = bad_range_in m true t

-- a declaration with another range than the first of its name, or with too many bits; or what an item has in it
abbrev pub bad_range_at : ModuleTree → ItemTree → Option Name
bad_range_at m (declared k r n) = unless (is_same_range (range_of m n) r && not (nat_lt most_bits (range_width r))) n
bad_range_at m i = first_found (bad_range_in_whole m) (wholes_of_item i)

abbrev pub bad_range : ModuleTree → Option Name
bad_range m = first_found (bad_range_at m) m.items

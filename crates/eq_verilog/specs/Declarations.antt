-- What a module declares and mentions (IEEE 1364-2005, 4.2, 6.1 and 12.3).
use Rattle.std.specs.Prelude.{List, [], ◌∷◌, ◌++◌, Bool, true, false, ◌&&◌, Option, Some, None, find, filter, filter_map, flat_map, fold, map, bytes_eq}
use Rattle.std.specs.List.{list_any}
use Rattle.eq_model.specs.Nets.{Dir, inner, is_input, is_output}
use Rattle.eq_names.specs.Tables.{with_name}
use Rattle.eq_vparse.specs.declared.tree.DeclKind.{DeclKind}
use Rattle.eq_vparse.specs.declared.tree.DeclKind.TheVariants as kind
use Rattle.eq_net.specs.Meaning.{if_there}
use Rattle.eq_verilog.specs.Trees.{Name, Range, ExprTree, const, net, bit, part, empty, joined, repeated, unary, binary, choice, StmtTree, idle, set, sequence, branch, NamedConnection, ConnectionList, by_order, by_name, ItemTree, declared, assign, primitive, instance, always, initial, ModuleTree}

abbrev pub has : List Name → Name → Bool
has ns n = list_any (bytes_eq n) ns

-- ---- declarations

pub record Declaration : Type 0 where
  pub kind : DeclKind
  pub range : Option Range
  pub name : Name

abbrev pub declaration_in : ItemTree → Option Declaration
declaration_in (declared k r n) = Some (record { kind = k; range = r; name = n })
declaration_in _ = None

abbrev pub declarations : ModuleTree → List Declaration
declarations m = filter_map declaration_in m.items

abbrev pub is_direction : DeclKind → Bool
is_direction kind.Input = true
is_direction kind.Output = true
is_direction kind.Wire = false
is_direction kind.Reg = false

abbrev pub is_variable : DeclKind → Bool
is_variable kind.Reg = true
is_variable _ = false

-- the name has a declaration of such a kind
abbrev pub is_declared_as : (DeclKind → Bool) → ModuleTree → Name → Bool
is_declared_as test m n = list_any (λ (d : Declaration). bytes_eq n d.name && test d.kind) (declarations m)

abbrev pub is_declared : ModuleTree → Name → Bool
is_declared = is_declared_as (λ k. true)

abbrev pub has_direction : ModuleTree → Name → Bool
has_direction = is_declared_as is_direction

abbrev pub is_reg : ModuleTree → Name → Bool
is_reg = is_declared_as is_variable

abbrev pub is_port : ModuleTree → Name → Bool
is_port m n = has m.ports n

-- the range of a net: that of its first declaration. All others have the same
abbrev pub range_of : ModuleTree → Name → Option Range
range_of m n =
    if_there None (λ (d : Declaration). d.range) (find (λ (d : Declaration). bytes_eq n d.name) (declarations m))

abbrev pub side_of : DeclKind → Dir
side_of kind.Input = is_input
side_of kind.Output = is_output
side_of _ = inner

-- the direction of a net in its module
abbrev pub dir_of : ModuleTree → Name → Dir
dir_of m n =
    if_there inner (λ (d : Declaration). side_of d.kind)
    (find (λ (d : Declaration). bytes_eq n d.name && is_direction d.kind) (declarations m))

abbrev pub comes_in : Dir → Bool
comes_in inner = false
comes_in is_input = true
comes_in is_output = false

abbrev pub goes_out : Dir → Bool
goes_out inner = false
goes_out is_input = false
goes_out is_output = true

-- ---- what is mentioned, in the order of the text

-- the names of an expression
abbrev pub names_in : ExprTree → List Name
names_in (const c) = []
names_in (net n) = n ∷ []
names_in (bit n i) = n ∷ []
names_in (part n l r) = n ∷ []
names_in empty = []
names_in (joined a b) = names_in a ++ names_in b
names_in (repeated n a) = names_in a
names_in (unary op a) = names_in a
names_in (binary op a b) = names_in a ++ names_in b
names_in (choice c a b) = names_in c ++ names_in a ++ names_in b

-- an expression or a target that is no part of another
pub data Whole : Type 0 where
  expression : ExprTree → Whole
  target : ExprTree → Whole

abbrev pub names_of_whole : Whole → List Name
names_of_whole (expression e) = names_in e
names_of_whole (target t) = names_in t

abbrev pub wholes_of_stmt : StmtTree → List Whole
wholes_of_stmt idle = []
wholes_of_stmt (set t e) = target t ∷ expression e ∷ []
wholes_of_stmt (sequence a b) = wholes_of_stmt a ++ wholes_of_stmt b
wholes_of_stmt (branch c a b) = expression c ∷ (wholes_of_stmt a ++ wholes_of_stmt b)

abbrev pub connected_exprs : ConnectionList → List ExprTree
connected_exprs (by_order es) = filter_map (λ e. e) es
connected_exprs (by_name ns) = filter_map (λ (n : NamedConnection). n.expr) ns

abbrev pub wholes_of_item : ItemTree → List Whole
wholes_of_item (declared k r n) = []
wholes_of_item (assign t e) = target t ∷ expression e ∷ []
wholes_of_item (primitive k n terms) = map expression terms
wholes_of_item (instance m n conns) = map expression (connected_exprs conns)
wholes_of_item (always event body) = target event ∷ wholes_of_stmt body
wholes_of_item (initial t c) = target t ∷ []

abbrev pub names_of_item : ItemTree → List Name
names_of_item (declared k r n) = n ∷ []
names_of_item i = flat_map names_of_whole (wholes_of_item i)

-- each name once, where it comes first
abbrev pub each_once : List Name → List Name
each_once ns = fold with_name [] ns

-- the nets of a module in the order of first mention, those of the header first. A use is a mention too
abbrev pub nets_in : ModuleTree → List Name
nets_in m = each_once (m.ports ++ flat_map names_of_item m.items)

abbrev pub regs_in : ModuleTree → List Name
regs_in m = filter (is_reg m) (nets_in m)

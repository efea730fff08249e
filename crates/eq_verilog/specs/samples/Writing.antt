-- Short words in which samples are written. The top of each sample is called t.
use Rattle.std.specs.Prelude.{ℕ, List, [], ◌∷◌, Option, Some, None, codes}
use Rattle.eq_vparse.specs.declared.tree.BinOp.TheVariants as bin
use Rattle.eq_vparse.specs.declared.tree.DeclKind.TheVariants as kind
use Rattle.eq_verilog.specs.Trees.{Name, Range, ExprTree, const, net, binary, NamedConnection, by_order, by_name, ItemTree, declared, assign, instance, initial, ModuleTree}

-- ---- names

abbrev pub a : Name
a = codes "a"

abbrev pub b : Name
b = codes "b"

abbrev pub c : Name
c = codes "c"

abbrev pub y : Name
y = codes "y"

abbrev pub z : Name
z = codes "z"

abbrev pub q : Name
q = codes "q"

abbrev pub t : Name
t = codes "t"

abbrev pub u : Name
u = codes "u"

abbrev pub v : Name
v = codes "v"

abbrev pub m : Name
m = codes "m"

abbrev pub clk : Name
clk = codes "clk"

-- ---- expressions

-- `[left:right]`
abbrev pub range : ℕ → ℕ → Option Range
range left right = Some (left, right)

-- `size'dvalue`
abbrev pub sized : ℕ → ℕ → ExprTree
sized size value = const (record { size = size; value = value })

abbrev pub and : ExprTree → ExprTree → ExprTree
and e f = binary bin.And e f

abbrev pub or : ExprTree → ExprTree → ExprTree
or e f = binary bin.Or e f

abbrev pub xor : ExprTree → ExprTree → ExprTree
xor e f = binary bin.Xor e f

abbrev pub add : ExprTree → ExprTree → ExprTree
add e f = binary bin.Add e f

abbrev pub less : ExprTree → ExprTree → ExprTree
less e f = binary bin.Lt e f

abbrev pub down : ExprTree → ExprTree → ExprTree
down e f = binary bin.Shr e f

-- ---- items

abbrev pub ins : Name → ItemTree
ins n = declared kind.Input None n

abbrev pub outs : Name → ItemTree
outs n = declared kind.Output None n

abbrev pub wired : Name → ItemTree
wired n = declared kind.Wire None n

abbrev pub reg : Name → ItemTree
reg n = declared kind.Reg None n

-- `assign n = e;`
abbrev pub gets : Name → ExprTree → ItemTree
gets n e = assign (net n) e

-- the initial value `size'dvalue` of n
abbrev pub begun : Name → ℕ → ℕ → ItemTree
begun n size value = initial (net n) (record { size = size; value = value })

-- `.n(e)`
abbrev pub connect : Name → ExprTree → NamedConnection
connect n e = record { port = n; expr = Some e }

-- `m u(e, f);`
abbrev pub of_two : Name → ExprTree → ExprTree → ItemTree
of_two name e f = instance m name (by_order (Some e ∷ Some f ∷ []))

-- `m u();`
abbrev pub unconnected : Name → Name → ItemTree
unconnected of_module name = instance of_module name (by_name [])

-- ---- modules

abbrev pub module_of : Name → List Name → List ItemTree → ModuleTree
module_of n ports items = record { name = n; ports = ports; items = items }

-- t with these ports is the only module
abbrev pub alone : List Name → List ItemTree → List ModuleTree
alone ports items = module_of t ports items ∷ []

-- t has one input a and one output y
abbrev pub simple : List ItemTree → List ModuleTree
simple body = alone (a ∷ y ∷ []) (ins a ∷ outs y ∷ body)

-- t has inputs `[3:0] a` and `[3:0] b`, and one output `[4:0] y`, which is assigned
abbrev pub five : ExprTree → List ModuleTree
five e = alone (a ∷ b ∷ y ∷ [])
    (declared kind.Input (range 3 0) a ∷ declared kind.Input (range 3 0) b ∷ declared kind.Output (range 4 0) y
    ∷ gets y e ∷ [])

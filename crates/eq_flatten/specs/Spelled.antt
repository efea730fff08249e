-- What the grammar gives of the expressions and targets of a module, whatever they mean.
use Rattle.std.specs.Prelude.{◌≡◌, ◌≤◌, List, [], ◌∷◌, map, true}
use Rattle.eq_verilog.specs.Trees.{ExprTree, const, net, bit, part, empty, joined, repeated, unary, binary, choice, ItemTree, declared, assign, primitive, instance, always, initial, ModuleTree}
use Rattle.eq_verilog.specs.Declarations.{Whole, connected_exprs, expression, target, wholes_of_stmt}
use Rattle.eq_verilog.specs.ModuleRefusals.{most_size}
use Rattle.eq_verilog.specs.TargetRefusals.{is_target}

-- its constants aren't too large
abbrev pub HasSizes : ExprTree → Type 0
HasSizes (const c) = c.size ≤ most_size
HasSizes (net n) = Unit {0}
HasSizes (bit n i) = Unit {0}
HasSizes (part n l r) = Unit {0}
HasSizes empty = Unit {0}
HasSizes (joined a b) = HasSizes a × HasSizes b
HasSizes (repeated n a) = HasSizes a
HasSizes (unary op a) = HasSizes a
HasSizes (binary op a b) = HasSizes a × HasSizes b
HasSizes (choice c a b) = HasSizes c × (HasSizes a × HasSizes b)

-- expressions and targets as a text has them: constants aren't too large, and targets are names, selects or joined
abbrev pub IsWholeSpelled : Whole → Type 0
IsWholeSpelled (expression e) = HasSizes e
IsWholeSpelled (target t) = is_target t ≡ true

abbrev pub IsSpelled : List Whole → Type 0
IsSpelled [] = Unit {0}
IsSpelled (x ∷ xs) = IsWholeSpelled x × IsSpelled xs

abbrev pub IsItemSpelled : ItemTree → Type 0
IsItemSpelled (declared k r n) = Unit {0}
IsItemSpelled (assign t e) = (is_target t ≡ true) × HasSizes e
IsItemSpelled (primitive k n terms) = IsSpelled (map expression terms)
IsItemSpelled (instance m n conns) = IsSpelled (map expression (connected_exprs conns))
IsItemSpelled (always event body) = IsSpelled (target event ∷ wholes_of_stmt body)
IsItemSpelled (initial t c) = is_target t ≡ true

abbrev pub AreItemsSpelled : List ItemTree → Type 0
AreItemsSpelled [] = Unit {0}
AreItemsSpelled (i ∷ is) = IsItemSpelled i × AreItemsSpelled is

abbrev pub IsModuleSpelled : ModuleTree → Type 0
IsModuleSpelled m = AreItemsSpelled m.items

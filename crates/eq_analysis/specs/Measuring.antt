-- What is asked of an expression before it becomes a word: its names have nets, its selects lie in their nets' ranges, and
-- no part of it has more bits than an expression may have.
use Rattle.std.specs.Prelude.{◌≡◌, ℕ, ◌<◌, ◌≤◌, List, [], ◌∷◌, length, true}
use Rattle.eq_net.specs.declared.types.NetInfo.{NetInfo}
use Rattle.eq_verilog.specs.Trees.{Name, ExprTree, const, net, bit, part, empty, joined, repeated, unary, binary, choice}
use Rattle.eq_verilog.specs.Scopes.{Scope, is_select, span, width}
use Rattle.eq_verilog.specs.Sizes.{Sizing as Rule, in_context, shifting, comparing, judging, own}
use Rattle.eq_verilog.specs.ModuleRefusals.{most_size}
use Rattle.eq_analysis.specs.Finding.{net_in, scope_of}
use Rattle.eq_analysis.specs.declared.sizes.Sizing.{Sizing}
use Rattle.eq_analysis.specs.declared.sizes.Sizing.TheVariants.{InContext, Shifting, Comparing, Judging}

-- the rule of sizes that a value of the code stands for
abbrev pub rule_of : Sizing → Rule
rule_of InContext = in_context
rule_of Shifting = shifting
rule_of Comparing = comparing
rule_of Judging = judging

-- no part has too many bits
abbrev pub IsSmall : Scope → ExprTree → Type 0
IsSmall s (const c) = c.size ≤ most_size
IsSmall s (net n) = width s n ≤ most_size
IsSmall s (bit n i) = Unit {0}
IsSmall s (part n l r) = (span l r ≤ most_size) × (width s n ≤ most_size)
IsSmall s empty = Unit {0}
IsSmall s (joined a b) = (own s (joined a b) ≤ most_size) × IsSmall s a × IsSmall s b
IsSmall s (repeated n a) = (own s (repeated n a) ≤ most_size) × IsSmall s a
IsSmall s (unary op a) = IsSmall s a
IsSmall s (binary op a b) = IsSmall s a × IsSmall s b
IsSmall s (choice c a b) = IsSmall s c × IsSmall s a × IsSmall s b

-- no part of any of these has too many bits
abbrev pub AllSmall : Scope → List ExprTree → Type 0
AllSmall s [] = Unit {0}
AllSmall s (e ∷ es) = IsSmall s e × AllSmall s es

-- the net that each name stands for here is there, and each select lies in its range
abbrev pub IsFit : List NetInfo → List Name → ℕ → ExprTree → Type 0
IsFit nets names from (const c) = Unit {0}
IsFit nets names from (net n) = net_in names from n < length nets
IsFit nets names from (bit n i) =
    (net_in names from n < length nets) × (is_select ((scope_of nets names from).range n) i i ≡ true)
IsFit nets names from (part n l r) =
    (net_in names from n < length nets) × (is_select ((scope_of nets names from).range n) l r ≡ true)
IsFit nets names from empty = Unit {0}
IsFit nets names from (joined a b) = IsFit nets names from a × IsFit nets names from b
IsFit nets names from (repeated n a) = IsFit nets names from a
IsFit nets names from (unary op a) = IsFit nets names from a
IsFit nets names from (binary op a b) = IsFit nets names from a × IsFit nets names from b
IsFit nets names from (choice c a b) =
    IsFit nets names from c × IsFit nets names from a × IsFit nets names from b

-- Mirrors src/targets.rt; nothing here has to be believed.
-- The leaves of a target, one after the other, with marks on the bits of those before.
use Rattle.std.specs.Prelude.{◌≡◌, ℕ, ◌++◌, Bool, List, [], ◌∷◌, Option, None}
use Rattle.eq_verilog.specs.Trees.{Name, ExprTree, ModuleTree}
use Rattle.eq_verilog.specs.Declarations.{is_reg}
use Rattle.eq_verilog.specs.Nets.{module_scope}
use Rattle.eq_verilog.specs.Costs.{bits_in}
use Rattle.eq_verilog.specs.TargetRefusals.{bad_leaf, may_be_driven}
use Rattle.eq_analysis.specs.declared.targets.Right.{Right}
use Rattle.eq_analysis.specs.declared.targets.Right.TheVariants.{Driven, Register}
use Rattle.eq_analysis.specs.Marking.{Marks, AreMarked}

abbrev pub is_right : Right → ModuleTree → Name → Bool
is_right Driven m n = may_be_driven m n
is_right Register m n = is_reg m n

-- the bits that were seen behind these leaves
abbrev pub seen_after : ModuleTree → List ℕ → List ExprTree → List ℕ
seen_after m seen [] = seen
seen_after m seen (e ∷ es) = seen_after m (bits_in (module_scope m) e ++ seen) es

-- these leaves were gone through: the first that is wrong is found, or all their bits are marked
pub record AreThrough (m : ModuleTree) (right : Right) (es : List ExprTree) (old new : Marks) (found : Option Name) :
    Type 0 where
  pub first : (seen : List ℕ) → AreMarked old seen → found ≡ bad_leaf m (is_right right m) seen es
  pub marked : found ≡ None → (seen : List ℕ) → AreMarked old seen → AreMarked new (seen_after m seen es)

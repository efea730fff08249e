-- Of each name the first declaration of a class.
use Rattle.std.specs.Prelude.{◌≡◌, ◌&&◌, Bool, true, List, [], ◌∷◌, Option, Some, None, length, if◌then◌else◌, bytes_eq}
use Rattle.eq_vparse.specs.declared.tree.DeclKind.{DeclKind}
use Rattle.eq_verilog.specs.Trees.{Name, ItemTree, declared}
use Rattle.eq_verilog.specs.Declarations.{is_direction, is_variable}
use Rattle.eq_verilog.specs.Firsts.{first_found}
use Rattle.eq_analysis.specs.declared.declaring.Class.{Class}
use Rattle.eq_analysis.specs.declared.declaring.Class.TheVariants.{All, Direction, Variable}
use Rattle.eq_analysis.specs.declared.declaring.Declared.{Declared}

abbrev pub is_of : Class → DeclKind → Bool
is_of All k = true
is_of Direction k = is_direction k
is_of Variable k = is_variable k

-- what stands beside the first of these names that is n
abbrev pub beside : {A : Type 0} → List Name → List A → Name → Option A
beside [] xs n = None
beside (m ∷ ms) [] n = None
beside (m ∷ ms) (x ∷ xs) n = if bytes_eq n m then Some x else beside ms xs n

-- what an item declares of a name
abbrev pub declared_in : Class → Name → ItemTree → Option Declared
declared_in c n (declared k r m) = if is_of c k && bytes_eq n m then Some (record { kind = k; range = r }) else None
declared_in c n _ = None

-- beside each name stands its first declaration of the class
pub record AreFirsts (c : Class) (is : List ItemTree) (names : List Name) (found : List Declared) : Type 0 where
  pub same : length names ≡ length found
  pub firsts : (n : Name) → beside names found n ≡ first_found (declared_in c n) is

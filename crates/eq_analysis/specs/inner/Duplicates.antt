-- Mirrors src/duplicates.rt; nothing here has to be believed.
-- Which names were declared, and which instances and gates have.
use Rattle.std.specs.Prelude.{◌≡◌, List, nat_lt, ◌&&◌, count_by, if◌then◌else◌, bytes_eq}
use Rattle.std.specs.List.{list_any}
use Rattle.eq_vparse.specs.declared.tree.DeclKind.{DeclKind}
use Rattle.eq_verilog.specs.Trees.{Name}
use Rattle.eq_verilog.specs.Declarations.{Declaration, has, is_direction}
use Rattle.eq_verilog.specs.ModuleRefusals.{is_alike}

-- one table has these names, the other those of them that come again
pub record AreCounted (names once twice : List Name) : Type 0 where
  pub first : (n : Name) → has once n ≡ nat_lt 0 (count_by (bytes_eq n) names)
  pub second : (n : Name) → has twice n ≡ nat_lt 1 (count_by (bytes_eq n) names)

-- one table has the names of the directions among these declarations, the other those of the others
abbrev pub AreSeen : List Declaration → List Name → List Name → Type 0
AreSeen before directions others = (k : DeclKind) (n : Name) →
    list_any (λ (d : Declaration). bytes_eq n d.name && is_alike k d.kind) before
    ≡ has (if is_direction k then directions else others) n

-- What is answered by the call that lays a design out.
use Rattle.std.specs.Prelude.{◌≡◌, List}
use Rattle.eq_verilog.specs.Trees.{Name, ModuleTree}
use Rattle.eq_layout.specs.declared.layout.Layout.{Layout}
use Rattle.eq_layout.specs.Layout.{trees_of, IsLaidOut}

-- the design with this top among these modules
pub record LaysOut (all : List ModuleTree) (top : Name) (l : Layout) : Type 0 where
  pub trees : trees_of l ≡ all
  pub is : IsLaidOut top l

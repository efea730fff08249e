-- Mirrors src/hierarchy.rt; nothing here has to be believed.
-- The graph of modules by their places, and numbers that don't fall along its edges.
use Rattle.std.specs.Prelude.{◌≡◌, ℕ, ◌+◌, nat_le, List, Bool, true, Option, Some, option_map, slice_get, slice_index}
use Rattle.std.specs.List.{list_all}
use Rattle.eq_names.specs.Tables.{number_of}
use Rattle.eq_net.specs.Meaning.{if_there}
use Rattle.eq_reads.specs.declared.graph.Edge.{Edge}
use Rattle.eq_reads.specs.Graph.{Joins}
use Rattle.eq_verilog.specs.Trees.{Name, ItemTree, ModuleTree}
use Rattle.eq_verilog.specs.Hierarchy.{Instance, instance_in}

abbrev pub Keeps : List Edge → List Edge → Type 0
Keeps edges after = (a b : ℕ) → Joins edges a b → Joins after a b

-- the name of the module that an item instantiates
abbrev pub module_of : ItemTree → Option Name
module_of i = option_map (λ (x : Instance). x.module_name) (instance_in i)

-- an edge leads from module k to the one that an item instantiates
abbrev pub IsJoined : List Edge → List Name → ℕ → ItemTree → Type 0
IsJoined edges names k i = (n : Name) (c : ℕ) → module_of i ≡ Some n → number_of names n ≡ Some c → Joins edges k c

abbrev pub AreJoined : List Edge → List Name → ℕ → List ItemTree → Type 0
AreJoined edges names k items = (j : ℕ) (i : ItemTree) → slice_get items j ≡ Some i → IsJoined edges names k i

abbrev pub HasEdges : List Edge → List Name → List ModuleTree → Type 0
HasEdges edges names all = (k : ℕ) (m : ModuleTree) → slice_get all k ≡ Some m → AreJoined edges names k m.items

-- the module of a name, if it is there, has at least this number
abbrev pub name_climbs : List ℕ → List Name → ℕ → Name → Bool
name_climbs numbers names least n = if_there true (λ c. nat_le least (slice_index numbers c)) (number_of names n)

abbrev pub item_climbs : List ℕ → List Name → ℕ → ItemTree → Bool
item_climbs numbers names least i = if_there true (name_climbs numbers names least) (module_of i)

-- the modules of a module's instances don't have smaller numbers than its own
abbrev pub NumbersClimb : List ℕ → List Name → List ModuleTree → Type 0
NumbersClimb numbers names all = (k : ℕ) (m : ModuleTree) → slice_get all k ≡ Some m →
    list_all (item_climbs numbers names (slice_index numbers k)) m.items ≡ true

-- a module is there, and those of its instances have greater numbers
pub record IsApart (numbers : List ℕ) (names : List Name) (m : ModuleTree) : Type 0 where
  pub place : ℕ
  pub there : number_of names m.name ≡ Some place
  pub greater : list_all (item_climbs numbers names (slice_index numbers place + 1)) m.items ≡ true

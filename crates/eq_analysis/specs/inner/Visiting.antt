-- Mirrors src/visiting.rt; nothing here has to be believed.
-- A walk through the modules by a stack of the visits that are still to be made.
use Rattle.std.specs.Prelude.{◌≡◌, ◌<◌, ◌++◌, ℕ, List, [], ◌∷◌, fold, false, Some}
use Rattle.eq_net.specs.Meaning.{if_there}
use Rattle.eq_verilog.specs.Trees.{Name, ItemTree, ModuleTree}
use Rattle.eq_verilog.specs.Declarations.{has}
use Rattle.eq_verilog.specs.Hierarchy.{Instance, instance_in, instances, module_names, module_named, visit}
use Rattle.eq_analysis.specs.declared.visiting.Visit.{Visit}

-- what was seen once the visits on the stack are made, the last of them first
abbrev pub after : List ModuleTree → List ModuleTree → List Visit → List ModuleTree
after all seen [] = seen
after all seen (v ∷ vs) = visit all v.left (after all seen vs) v.name.now

-- what was seen once the module of an item is visited, if it is an instance
abbrev pub with_item : List ModuleTree → ℕ → List ModuleTree → ItemTree → List ModuleTree
with_item all left seen i = if_there seen (λ (x : Instance). visit all left seen x.module_name) (instance_in i)

-- what was seen once the modules of these instances are visited
abbrev pub with_all : List ModuleTree → ℕ → List ModuleTree → List Instance → List ModuleTree
with_all all left seen is = fold (λ more (x : Instance). visit all left more x.module_name) seen is

-- a visit comes to this module for the first time
pub record IsFirst (all : List ModuleTree) (seen : List Name) (v : Visit) (m : ModuleTree) : Type 0 where
  pub room : 0 < v.left
  pub unseen : has seen v.name.now ≡ false
  pub there : module_named all v.name.now ≡ Some m

-- nothing new is seen by a visit
abbrev pub IsIdle : List ModuleTree → List Name → Visit → Type 0
IsIdle all seen v = (order : List ModuleTree) → seen ≡ module_names order → visit all v.left order v.name.now ≡ order

-- the stack comes to module m first, which is new, and so many modules may stand in one another in it
pub record Enters (all : List ModuleTree) (seen : List Name) (old new : List Visit)
    (m : ModuleTree) (left : ℕ) : Type 0 where
  pub unseen : has seen m.name ≡ false
  pub there : module_named all m.name ≡ Some m
  pub goes_on : (order : List ModuleTree) → seen ≡ module_names order →
      after all order old ≡ after all (with_all all left (order ++ m ∷ []) (instances m)) new

-- a walk that began with a stack: these modules were seen, and these visits are still to be made
pub record IsWalk (all : List ModuleTree) (start : List Visit) (seen : List Name) (order : List ModuleTree)
    (stack : List Visit) : Type 0 where
  pub names : seen ≡ module_names order
  pub goes_on : after all [] start ≡ after all order stack

-- Mirrors src/unknown.rt; nothing here has to be believed.
-- The module of an item's instance, where it isn't there.
use Rattle.std.specs.Prelude.{List, Option, None, is_some}
use Rattle.eq_net.specs.Meaning.{if_there}
use Rattle.eq_verilog.specs.Trees.{Name, ItemTree, ModuleTree}
use Rattle.eq_verilog.specs.Hierarchy.{Instance, instance_in, module_named}
use Rattle.eq_verilog.specs.Firsts.{unless}

abbrev pub unknown_item : List ModuleTree → ItemTree → Option Name
unknown_item all i = if_there None (λ (x : Instance). unless (is_some (module_named all x.module_name)) x.module_name)
    (instance_in i)

-- The parts of a netlist that is put together.
use Rattle.std.specs.Prelude.{◌≡◌, ℕ, List, [], Option, map, option_map}
use Rattle.eq_net.specs.declared.net.Net.{Net}
use Rattle.eq_net.specs.declared.types.Driver.{Driver}
use Rattle.eq_net.specs.Meaning.{if_there}
use Rattle.eq_net.specs.Net.{name_at}
use Rattle.eq_net.specs.Tree.{Tree, trees_of as words_of}
use Rattle.eq_verilog.specs.Trees.{Name}
use Rattle.eq_verilog.specs.Designs.{name_at as name_of_bit}
use Rattle.eq_verilog.specs.Hierarchy.{module_named}
use Rattle.eq_layout.specs.declared.layout.Layout.{Layout}
use Rattle.eq_layout.specs.Layout.{design_in, trees_of}

-- the netlist has the nets of the layout, these words, drivers and cost, the ports of the top in the order of its header,
-- and the net of this bit as its clock
pub record AreParts (l : Layout) (top : Name) (ts : List Tree) (ds : List Driver) (c : Option ℕ) (n : ℕ) (net : Net) : Type 0
  where
    pub nets : net.nets ≡ l.flat.nets.items
    pub words : words_of net.words ≡ ts
    pub drivers : net.drivers ≡ ds
    pub ports : map (name_at net.nets) net.ports ≡ if_there [] (λ m. m.ports) (module_named (trees_of l) top)
    pub clock : option_map (name_at net.nets) net.clock ≡ option_map (name_of_bit (design_in l top)) c
    pub cost : net.cost ≡ n

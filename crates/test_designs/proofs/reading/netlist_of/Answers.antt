use Rattle.std.proofs.Common.{List, subst, sym}
use Rattle.std.specs.Prelude.{All}
use Rattle.eq_vparse.specs.declared.tree.Source.{Source}
use Rattle.eq_verilog.specs.Trees.{modules_of}
use Rattle.eq_flatten.specs.Spelled.{IsModuleSpelled}
use Rattle.test_designs.proofs.reading.netlist_of.Goals as goal

pub elaborate-requires : goal.elaborate-requires
elaborate-requires c = record {
  spelled = subst (λ (ss : List Source). All IsModuleSpelled (modules_of ss)) (sym c.deref.ensures.value)
      (c.sources_are_spelled.ensures c.in_ok-sources.sources.items c.in_ok-sources.ensures);
}

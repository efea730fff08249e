use Rattle.std.proofs.Common.{sym, ap, List, map}
use Rattle.eq_vparse.specs.declared.tree.Module.{Module}
use Rattle.eq_verilog.specs.Trees.{module_tree}
use Rattle.eq_analysis.proofs.Sources.{sources_more}
use Rattle.eq_analysis.proofs.modules.all_modules.Goals as goal

pub loop-source-preserved : goal.loop-source-preserved
loop-source-preserved c =
    sources_more c.args.sources.now c.loop-source.source-index c.source-item.result c.source-item.result
    (map (λ m. module_tree m.now) c.loop-source.all.items) (map (λ m. module_tree m.now) c.add_modules.new.all.items)
    (map module_tree c.as_slice.result.now) c.loop-source-test.true (sym c.source-item.is) c.loop-source.invariant
    (ap (λ (ms : List Module). map module_tree ms) c.as_slice.ensures) c.in_ok-add_modules.ensures

use Rattle.std.proofs.Common.{◌≡◌, map, take}
use Rattle.eq_verilog.specs.Trees.{module_tree, modules_of}
use Rattle.eq_analysis.proofs.modules.all_modules.Given as goal

abbrev pub invariant-loop-source : goal.invariant-loop-source
invariant-loop-source l = map (λ m. module_tree m.now) l.all.items ≡ modules_of (take l.source-index l.sources)

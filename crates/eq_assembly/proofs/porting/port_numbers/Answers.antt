use Rattle.std.proofs.Common.{◌≡◌, List, All, true, sym, subst}
use Rattle.eq_verilog.specs.Trees.{Name, module_tree}
use Rattle.eq_verilog.specs.Declarations.{has, nets_in}
use Rattle.eq_assembly.proofs.TopNames.{ports_there}
use Rattle.eq_assembly.proofs.porting.port_numbers.Goals as goal

pub numbers_of-requires : goal.numbers_of-requires
numbers_of-requires c = record {
  there =
      let m = module_tree c.top_module-module.result.now in
      let P : List Name → List Name → Type 0 = λ ns ps. All (λ n. has ns n ≡ true) ps in
      subst (λ (ns : List Name). P ns c.as_slice.result.now) (sym (c.top_names.ensures m c.top_module-module.ensures))
      (subst (λ (ps : List Name). P (nets_in m) ps) (sym c.as_slice.ensures) (ports_there m));
}

use Rattle.std.proofs.Common.{◌++◌, List, map, ap, ap₂, ◌∙◌}
use Rattle.eq_model.specs.Nets.{Net}
use Rattle.eq_net.specs.Nets.{net_of}
use Rattle.eq_verilog.specs.Trees.{module_tree}
use Rattle.eq_verilog.specs.Declarations.{nets_in}
use Rattle.eq_flatten.specs.Flat.{within}
use Rattle.eq_flatten.proofs.Assigned.{on_ok}
use Rattle.eq_flatten.proofs.FlatLemmas.{never_none, nets_within, owned_is}
use Rattle.eq_flatten.proofs.flat.add_path.Goals as goal

pub returns-in-Some : goal.returns-in-Some
returns-in-Some c =
    let path = c.args.path.now in
    let m = module_tree path.of.module.now in
    on_ok c.add_nets.result (λ h all is same. h
    ∙ ap (λ (xs : List Net). map net_of c.args.nets.now.items ++ xs)
    (ap₂ (λ p (xs : List Net). map (within p) xs) c.as_slice.ensures.value
    (ap (λ xs. map net_of xs) c.as_slice-in-Some.ensures.value
    ∙ owned_is all c.args.owned.now path.of.place m same is.0 (map net_of c.in-Some.of.now.nets.items) c.in-Some.ensures.nets)
    ∙ nets_within path.prefix.items m (nets_in m))) c.add_nets.ensures

pub returns-in-None : goal.returns-in-None
returns-in-None c =
    let path = c.args.path.now in
    λ all is same. absurd (never_none all c.args.owned.now path.of.place (module_tree path.of.module.now) same is.0
    c.in-None.ensures.nets)

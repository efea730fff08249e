use Rattle.std.proofs.Common.{List, ap, arith, slice_index_or, ◌∙◌}
use Rattle.std.proofs.lemmas.List.{get_or_default}
use Rattle.eq_net.specs.declared.types.Driver.{Driver}
use Rattle.eq_net.specs.declared.types.Driver.TheVariants.{Undriven, Input}
use Rattle.eq_part.proofs.visits.driver_at.Goals as goal

pub returns : goal.returns
returns c =
    let drivers = c.args.gold.now.drivers in
    let count = c.args.gold.now.is_net.one_driver in
    let b = c.args.b in
    let lt = c.requires in
    ap (λ (ds : List Driver). slice_index_or ds b Input) c.as_slice.ensures ∙ get_or_default drivers b Input Undriven
    (omega arith)

use Rattle.std.proofs.lemmas.Result.{on_ok_weaker}
use Rattle.eq_part.proofs.Gained.{one_pair}
use Rattle.eq_part.proofs.visits.push_pair.Goals as goal

pub returns : goal.returns
returns c =
    on_ok_weaker c.push_edge.result
    (λ h. one_pair c.args.part c.args.bit c.args.driver c.args.places.now c.args.row.now.items c.args.edges.now.items
    c.push_driven.new.edges.items c.push_edge.new.edges.items
    c.args.input c.if-input.false c.in_ok-push_driven.ensures h)
    c.push_edge.ensures

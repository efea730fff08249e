use Rattle.std.proofs.Common.{arith, subst}
use Rattle.std.proofs.lemmas.List.{get_or_default}
use Rattle.eq_net.specs.declared.types.Driver.{Driver}
use Rattle.eq_net.specs.declared.types.Driver.TheVariants.{Input, Undriven}
use Rattle.eq_reads.specs.Graph.{Adds}
use Rattle.eq_reads.specs.inner.Drawing.{IsNowBit}
use Rattle.eq_reads.proofs.Gained.{drawn_next}
use Rattle.eq_reads.proofs.graph.push_reads.Goals as goal

pub loop-b-preserved : goal.loop-b-preserved
loop-b-preserved c =
    let drivers = c.args.drivers.now in
    let places = c.args.places.now in
    let row = c.args.row.now.items in
    let b = c.loop-b.b in
    let test = c.loop-b-test.true in
    let e1 = c.loop-b.edges.items in
    let e2 = c.push_now.new.edges.items in
    let is = get_or_default drivers b Input Undriven (omega arith) in
    drawn_next drivers places row b c.args.edges.now.items e1 e2 c.loop-b.invariant
    (subst (λ (d : Driver). Adds e1 e2 b (IsNowBit places row d)) is c.in_ok-push_now.ensures)

use Rattle.std.proofs.Common.{◌+◌, Vec, Global, subst, sym}
use Rattle.eq_model.specs.Frames.{values}
use Rattle.eq_net.specs.declared.types.Driver.{Driver}
use Rattle.eq_net.specs.Whole.{parts_of}
use Rattle.eq_reads.specs.declared.graph.Edge.{Edge}
use Rattle.eq_reads.specs.Graph.{Adds}
use Rattle.eq_part.specs.inner.Visits.{FreeVisits, IsWordBit}
use Rattle.eq_reads.specs.inner.Drawing.{Gains}
use Rattle.eq_part.proofs.Gained.{free_next, free_other}
use Rattle.eq_part.proofs.visits.push_free.Goals as goal
use Rattle.eq_part.proofs.visits.push_free.Goals.{then-not-paired-b+in_ok-push_driven, else-not-paired-b}

pub loop-b-preserved : goal.loop-b-preserved
loop-b-preserved c =
    let gold = parts_of c.args.gold.now in
    let paired = values c.args.paired.now in
    let places = c.args.places.now in
    let row = c.args.row.now.items in
    let b = c.loop-b.b in
    let e0 = c.args.edges.now.items in
    let P : Vec Edge Global → Type 0 = λ es. Gains e0 es.items (FreeVisits gold paired places row (b + 1)) in
    elim c.if-not-paired-b.branch [
      | then-not-paired-b+in_ok-push_driven w ↦ subst P (sym w.edges-is) (free_next gold paired places row b e0
          c.loop-b.edges.items w.push_driven.new.edges.items
          w.if-not-paired-b.true c.loop-b.invariant
          (subst (λ (d : Driver). Adds c.loop-b.edges.items w.push_driven.new.edges.items b (IsWordBit places row d))
          w.driver_at.ensures w.in_ok-push_driven.ensures))
      | else-not-paired-b w ↦ subst P (sym w.edges-is) (free_other gold paired places row b e0 c.loop-b.edges.items
          w.if-not-paired-b.false c.loop-b.invariant)
    ]

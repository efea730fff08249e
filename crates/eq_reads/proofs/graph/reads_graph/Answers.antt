use Rattle.std.proofs.Common.{ℕ, List, length, slice_index_or, arith, subst, sym}
use Rattle.eq_net.specs.declared.types.Driver.TheVariants.{Undriven}
use Rattle.eq_net.specs.Tree.{trees_of}
use Rattle.eq_reads.specs.inner.Drawing.{Gains, IsPlacedDriver, NowDrawn}
use Rattle.eq_reads.proofs.Drawn.{all_reads}
use Rattle.eq_reads.proofs.Placed.{placed_driver}
use Rattle.eq_reads.proofs.graph.reads_graph.Goals as goal

pub push_reads-requires : goal.push_reads-requires
push_reads-requires c =
    let drivers = c.args.drivers.now in
    let all = c.in_ok-all.all in
    let row = all.row.items in
    let count = c.in_ok-all.ensures.count in
    subst (λ (ps : List ℕ). (b : ℕ) → IsPlacedDriver ps row (slice_index_or drivers b Undriven))
    (sym c.deref-2.ensures.value)
    (placed_driver c.args.nets.now (trees_of c.args.words.now) all.places.items all.nodes row c.in_ok-all.ensures.ready
    (omega arith) drivers c.requires.drivers)

pub returns : goal.returns
returns c =
    let nets = c.args.nets.now in
    let drivers = c.args.drivers.now in
    let all = c.in_ok-all.all in
    let s = all.nodes in
    let places = all.places.items in
    let row = all.row.items in
    let edges = c.push_reads.new.edges.items in
    let size = c.requires.size in
    let none = c.in_ok-all.ensures.none in
    let gains = subst (λ (ps : List ℕ). Gains s.edges.items edges (NowDrawn drivers ps row (length drivers)))
    c.deref-2.ensures.value c.in_ok-push_reads.ensures in
    record {
      ok = all_reads nets (trees_of c.args.words.now) drivers c.requires.drivers places s row c.in_ok-all.ensures.ready
          c.in_ok-all.ensures.count size (omega arith) edges gains;
    }

use Rattle.std.proofs.Common.{◌≡◌, ℕ, Option, None, IfSome, Vec, Global, length}
use Rattle.std.proofs.lemmas.Result.{IfOk-weaker}
use Rattle.std.proofs.lemmas.Option.{IfSome_then}
use Rattle.eq_model.specs.System.{IsLoopFree}
use Rattle.eq_net.specs.Net.{design_of}
use Rattle.eq_net.specs.Tree.{trees_of}
use Rattle.eq_reads.specs.Graph.{bare}
use Rattle.eq_loops.specs.Cycle.{IsCycle}
use Rattle.eq_loops.specs.inner.Back.{AreClear, IsFirstRound}
use Rattle.eq_loops.proofs.Looped.{cycle_at, loop_free_at}
use Rattle.eq_loops.proofs.loops.first_loop.Goals as goal

pub returns-clause-none : goal.returns-clause-none
returns-clause-none c =
    let s = (design_of (bare c.args.nets.now (trees_of c.args.words.now) c.args.drivers.now)).system in
    let g = c.in_ok-graph.graph in
    let es = c.as_slice-edges.result.now in
    let k = length c.args.drivers.now in
    let P = λ (f : Option (Vec ℕ Global)). f ≡ None → AreClear es k in
    let Q = λ (f : Option (Vec ℕ Global)). f ≡ None → IsLoopFree s in
    IfOk-weaker c.first_round.result P Q (λ f clear is.
    loop_free_at c.args.nets.now (trees_of c.args.words.now) c.args.drivers.now g.edges.items g.next c.in_ok-graph.ensures.ok
    es k c.as_slice-edges.ensures.value c.requires.size (clear is)) c.first_round.ensures.none

pub returns-clause-found : goal.returns-clause-found
returns-clause-found c =
    let s = (design_of (bare c.args.nets.now (trees_of c.args.words.now) c.args.drivers.now)).system in
    let g = c.in_ok-graph.graph in
    let es = c.as_slice-edges.result.now in
    let k = length c.args.drivers.now in
    let P = λ (f : Option (Vec ℕ Global)). IfSome f (λ bits. IsFirstRound es k bits.items) in
    let Q = λ (f : Option (Vec ℕ Global)). IfSome f (λ bits. IsCycle s bits.items) in
    IfOk-weaker c.first_round.result P Q (λ f round. IfSome_then f round (λ bits first.
    cycle_at c.args.nets.now (trees_of c.args.words.now) c.args.drivers.now g.edges.items g.next c.in_ok-graph.ensures.ok
    es k c.as_slice-edges.ensures.value c.requires.size bits.items first)) c.first_round.ensures.found

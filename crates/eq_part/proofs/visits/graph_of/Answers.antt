use Rattle.std.proofs.Common.{◌≡◌, ℕ, List, Bool, length, arith, ap, subst, sym}
use Rattle.eq_model.specs.Frames.{values}
use Rattle.eq_net.specs.declared.types.NetInfo.{NetInfo}
use Rattle.eq_net.specs.declared.types.Word.{Word}
use Rattle.eq_net.specs.Net.{driver_at}
use Rattle.eq_net.specs.Tree.{trees_of}
use Rattle.eq_net.specs.Whole.{parts_of}
use Rattle.eq_reads.specs.Words.{IsReady}
use Rattle.eq_reads.specs.inner.Drawing.{Gains, IsPlacedDriver}
use Rattle.eq_reads.proofs.Placed.{placed_driver}
use Rattle.eq_part.specs.inner.Visits.{DrawnVisits, outer}
use Rattle.eq_part.proofs.Drawn.{all_visits}
use Rattle.eq_part.proofs.visits.graph_of.Goals as goal

pub draw-requires-clause-placed : goal.draw-requires-clause-placed
draw-requires-clause-placed c =
    let net = c.args.gold.now in
    let gold = parts_of net in
    let all = c.in_ok-nodes.field-0 in
    let places = all.places.items in
    let row = all.row.items in
    let ready = subst (λ (ns : List NetInfo). IsReady ns gold.words places all.nodes row) c.as_slice-2.ensures
    (subst (λ (ws : List Word). IsReady c.as_slice-2.result.now (trees_of ws) places all.nodes row)
    c.as_slice-words.ensures c.in_ok-nodes.ensures.ready) in
    let size = ap (λ (ws : List Word). length (trees_of ws)) c.as_slice-words.ensures in
    let count = c.in_ok-nodes.ensures.count in
    subst (λ (ps : List ℕ). (b : ℕ) → IsPlacedDriver ps row (driver_at gold b)) (sym c.deref-4.ensures.value)
    (placed_driver gold.nets gold.words places all.nodes row ready (omega arith) gold.drivers net.is_net.drivers_named)

pub returns : goal.returns
returns c =
    let net = c.args.gold.now in
    let gold = parts_of net in
    let pairs = c.args.pairs.now in
    let leaders = c.args.leaders.now in
    let all = c.in_ok-nodes.field-0 in
    let s = all.nodes in
    let places = all.places.items in
    let row = all.row.items in
    let paired = c.in_ok-paired.paired.items in
    let edges = c.draw.new.edges.items in
    let drivers = c.len.ensures in
    let one = net.is_net.one_driver in
    let first = c.in_ok-first.ensures in
    let none = c.in_ok-nodes.ensures.none in
    let none_is : s.none ≡ outer gold pairs = omega arith in
    let ready = subst (λ (ns : List NetInfo). IsReady ns gold.words places s row) c.as_slice-2.ensures
    (subst (λ (ws : List Word). IsReady c.as_slice-2.result.now (trees_of ws) places s row)
    c.as_slice-words.ensures c.in_ok-nodes.ensures.ready) in
    let size = ap (λ (ws : List Word). length (trees_of ws)) c.as_slice-words.ensures in
    let count = c.in_ok-nodes.ensures.count in
    let G : List ℕ → List Bool → Type 0 = λ ps ms. Gains s.edges.items edges
    (DrawnVisits gold pairs leaders (values ms) ps row) in
    let gains = subst (G places) c.deref-5.ensures.value
    (subst (λ (ps : List ℕ). G ps c.deref-5.result.now) c.deref-4.ensures.value c.in_ok-draw.ensures) in
    all_visits gold net.is_net pairs leaders c.requires places s row ready (omega arith) none_is paired
    c.in_ok-paired.ensures.ok edges gains

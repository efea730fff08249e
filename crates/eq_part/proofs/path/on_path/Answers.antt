use Rattle.std.proofs.Common.{◌≡◌, ℕ, ◌<◌, ◌↔◌, List, Bool, true, length, arith, ap, subst, sym}
use Rattle.eq_model.specs.Frames.{values}
use Rattle.eq_net.specs.Whole.{parts_of}
use Rattle.eq_reads.specs.declared.graph.Edge.{Edge}
use Rattle.eq_reads.specs.Graph.{AreBetween, Joins}
use Rattle.eq_part.specs.inner.Visits.{IsPassed, IsWalked}
use Rattle.eq_part.proofs.Between.{marked_between, turned_within}
use Rattle.eq_part.proofs.path.on_path.Goals as goal

pub walk-requires-clause-nodes : goal.walk-requires-clause-nodes
walk-requires-clause-nodes c = c.in_ok-graph.ensures.room

pub walk-requires-clause-edges : goal.walk-requires-clause-edges
walk-requires-clause-edges c =
    let net = c.args.gold.now in
    let gold = parts_of net in
    let g = c.in_ok-graph.graph in
    let along = c.in_ok-along.along.items in
    let turn = subst (λ (es : List Edge). (a b : ℕ) → Joins along a b ↔ Joins es b a) c.deref.ensures.value
    c.in_ok-along.ensures.ok in
    let sys = c.words_make_a_system.ensures gold net.is_net.words_read in
    let f = turned_within gold net.is_net sys c.args.pairs.now c.args.leaders.now c.requires.led g.edges.items g.next
    c.in_ok-graph.ensures along turn in
    subst (AreBetween g.next) (sym c.deref-2.ensures.value) f

pub walk-requires-2-clause-nodes : goal.walk-requires-2-clause-nodes
walk-requires-2-clause-nodes c = c.in_ok-graph.ensures.room

pub walk-requires-2-clause-edges : goal.walk-requires-2-clause-edges
walk-requires-2-clause-edges c =
    let g = c.in_ok-graph.graph in
    subst (AreBetween g.next) (sym c.deref-3.ensures.value) c.in_ok-graph.ensures.between

pub passed-requires-clause-before : goal.passed-requires-clause-before
passed-requires-clause-before c =
    let room = c.in_ok-graph.ensures.room in
    let long = ap (λ (bs : List Bool). length bs) c.as_slice.ensures in
    let marks = c.in_ok-before.ensures.size in
    omega arith

pub passed-requires-clause-behind : goal.passed-requires-clause-behind
passed-requires-clause-behind c =
    let room = c.in_ok-graph.ensures.room in
    let long = ap (λ (bs : List Bool). length bs) c.as_slice-2.ensures in
    let marks = c.in_ok-behind.ensures.size in
    omega arith

pub returns-clause-ok : goal.returns-clause-ok
returns-clause-ok c =
    let net = c.args.gold.now in
    let gold = parts_of net in
    let pairs = c.args.pairs.now in
    let leaders = c.args.leaders.now in
    let starts = values c.args.starts.now in
    let ends = values c.args.ends.now in
    let g = c.in_ok-graph.graph in
    let along = c.in_ok-along.along.items in
    let before = c.in_ok-before.before in
    let behind = c.in_ok-behind.behind in
    let bits = c.in_ok-bits.bits in
    let sys = c.words_make_a_system.ensures gold net.is_net.words_read in
    let turn = subst (λ (es : List Edge). (a b : ℕ) → Joins along a b ↔ Joins es b a) c.deref.ensures.value
    c.in_ok-along.ensures.ok in
    let before_ok = subst (λ (es : List Edge). (x : ℕ) → (values before x ≡ true) ↔ IsWalked gold pairs leaders starts
    es x) c.deref-2.ensures.value c.in_ok-before.ensures.ok in
    let behind_ok = subst (λ (es : List Edge). (x : ℕ) → (values behind x ≡ true) ↔ IsWalked gold pairs leaders ends
    es x) c.deref-3.ensures.value c.in_ok-behind.ensures.ok in
    let P : List Bool → List Bool → Type 0 = λ f h. (i : ℕ) → i < length pairs → (values bits i ≡ true) ↔ IsPassed
    gold pairs leaders f h i in
    let bits_ok = subst (λ (h : List Bool). P before h) c.as_slice-2.ensures
    (subst (λ (f : List Bool). P f c.as_slice-2.result.now) c.as_slice.ensures c.in_ok-bits.ensures.ok) in
    marked_between gold net.is_net sys pairs leaders c.requires.led g.edges.items g.next c.in_ok-graph.ensures along
    turn starts ends before behind bits before_ok behind_ok bits_ok

use Rattle.std.proofs.Common.{◌≡◌, ℕ, ◌+◌, ◌-◌, length, refl, arith, subst, ◌∙◌, inl}
use Rattle.eq_reads.specs.inner.Leading.{DownLeads, LeadsToBoth}
use Rattle.eq_reads.specs.Words.{number_at}
use Rattle.eq_reads.proofs.Swept.{DescendLeads, Gathered, Swept, down_leads, gather_down, gather_none, sweep_down, sweep_none, swept_row}
use Rattle.eq_reads.proofs.nodes.descend.Goals as goal

pub loop-turn-init : goal.loop-turn-init
loop-turn-init c =
    let s = c.args.nodes.now in
    let row = c.args.row.now.items in
    let at : length row ≡ length row - 0 = omega arith in
    let P = DescendLeads s row c.args.start (length row) in
    record {
      all = subst (λ (b : ℕ). Gathered s row s c.args.start c.args.start b (length row)) at
          (gather_none s row c.args.start (length row) c.requires.are c.requires.start);
      row = subst (λ (b : ℕ). Swept s row s row b (length row) P) at (sweep_none s row (length row) P c.requires.are);
    }

pub both-requires-clause-are : goal.both-requires-clause-are
both-requires-clause-are c = c.loop-turn.invariant.all.nodes.are

pub both-requires-clause-left : goal.both-requires-clause-left
both-requires-clause-left c = c.loop-turn.invariant.all.there

pub both-requires-clause-right : goal.both-requires-clause-right
both-requires-clause-right c =
    let test = c.loop-turn-test.true in
    let is = c.node_at.ensures in
    let len = c.len-end.ensures in
    let k = c.len-end.result - 1 - c.loop-turn.turn in
    let same = c.loop-turn.invariant.row.rest k (inl (omega arith)) in
    let l = c.requires.there k (omega arith) in
    let later = c.loop-turn.invariant.all.nodes.later in
    omega arith

pub loop-turn-preserved : goal.loop-turn-preserved
loop-turn-preserved c =
    let s = c.args.nodes.now in
    let row = c.args.row.now.items in
    let t = c.loop-turn.nodes in
    let before = c.loop-turn.row.items in
    let now = c.both.new.nodes in
    let after = c.put.new.row.items in
    let all = c.loop-turn.all in
    let next = c.in_ok-all.all in
    let end = length row in
    let len = c.len-end.ensures in
    let turn = c.loop-turn.turn in
    let k = c.len-end.result - 1 - turn in
    let test = c.loop-turn-test.true in
    let is : c.node_at.result ≡ number_at row k = c.node_at.ensures ∙ c.loop-turn.invariant.row.rest k
    (inl (omega arith)) in
    let grew = c.in_ok-all.ensures.grew in
    let a = gather_down s row t now c.args.start all next k c.requires.are (c.requires.there k (omega arith)) grew
    (subst (λ (y : ℕ). LeadsToBoth t now all y next) is c.in_ok-all.ensures.ok) (end - turn) (end - (turn + 1)) end
    (omega arith) (omega arith) (omega arith)
    c.loop-turn.invariant.all in
    let P = DescendLeads s row c.args.start end in
    let low : end - (turn + 1) ≡ k = omega arith in
    record {
      all = a;
      row = sweep_down s row t before now after k next P c.put.ensures.size c.put.ensures.there c.put.ensures.below
          c.put.ensures.above
          grew a.there (subst (λ (b : ℕ). Gathered s row now c.args.start next b end) low a).leads (end - turn)
          (end - (turn + 1)) end (omega arith) low (omega arith)
          c.loop-turn.invariant.row;
    }

pub returns : goal.returns
returns c =
    let s = c.args.nodes.now in
    let row = c.args.row.now.items in
    let after = c.loop-turn.row.items in
    let start = c.args.start in
    let from = c.args.from in
    let within = c.requires.from in
    let test = c.loop-turn-test.false in
    let len = c.len-end.ensures in
    let end = c.loop-turn.auto.turn-end in
    let size = c.loop-turn.invariant.row.size in
    let P = DescendLeads s row start (length row) in
    let at : length row - c.loop-turn.turn ≡ from = omega arith in
    swept_row s row c.loop-turn.nodes after after from (length row) (length row - from) P (DownLeads s row from start)
    c.requires.there within (omega arith) refl size (λ p lt. refl) (λ j x lt. down_leads s row start from j x)
    (subst (λ (b : ℕ). Swept s row c.loop-turn.nodes after b (length row) P) at c.loop-turn.invariant.row)

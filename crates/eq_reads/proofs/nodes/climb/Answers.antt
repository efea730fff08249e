use Rattle.std.proofs.Common.{◌≡◌, ℕ, ◌+◌, ◌-◌, length, refl, arith, subst, ◌∙◌, inr}
use Rattle.eq_reads.specs.inner.Leading.{LeadsToBoth, UpLeads}
use Rattle.eq_reads.specs.Words.{number_at}
use Rattle.eq_reads.proofs.Swept.{ClimbLeads, gather_none, gather_up, sweep_none, sweep_up, swept_row, up_leads}
use Rattle.eq_reads.proofs.nodes.climb.Goals as goal

pub loop-place-init : goal.loop-place-init
loop-place-init c =
    let s = c.args.nodes.now in
    let row = c.args.row.now.items in
    record {
      all = gather_none s row c.args.start c.args.from c.requires.are c.requires.start;
      row = sweep_none s row c.args.from (ClimbLeads s row c.args.start c.args.from) c.requires.are;
    }

pub both-requires-clause-are : goal.both-requires-clause-are
both-requires-clause-are c = c.loop-place.invariant.all.nodes.are

pub both-requires-clause-left : goal.both-requires-clause-left
both-requires-clause-left c = c.loop-place.invariant.all.there

pub both-requires-clause-right : goal.both-requires-clause-right
both-requires-clause-right c =
    let test = c.loop-place-test.true in
    let is = c.node_at.ensures in
    let same = c.loop-place.invariant.row.rest c.loop-place.place (inr (omega arith)) in
    let l = c.requires.there c.loop-place.place (omega arith) in
    let later = c.loop-place.invariant.all.nodes.later in
    omega arith

pub loop-place-preserved : goal.loop-place-preserved
loop-place-preserved c =
    let s = c.args.nodes.now in
    let row = c.args.row.now.items in
    let t = c.loop-place.nodes in
    let before = c.loop-place.row.items in
    let now = c.both.new.nodes in
    let after = c.put.new.row.items in
    let all = c.loop-place.all in
    let next = c.in_ok-all.all in
    let k = c.loop-place.place in
    let test = c.loop-place-test.true in
    let from = c.loop-place.auto.place in
    let is : c.node_at.result ≡ number_at row k = c.node_at.ensures ∙ c.loop-place.invariant.row.rest k
    (inr (omega arith)) in
    let grew = c.in_ok-all.ensures.grew in
    let a = gather_up s row t now c.args.start all next k c.requires.are (c.requires.there k (omega arith)) grew
    (subst (λ (y : ℕ). LeadsToBoth t now all y next) is c.in_ok-all.ensures.ok) c.args.from from
    c.loop-place.invariant.all in
    record {
      all = a;
      row = sweep_up s row t before now after k next (ClimbLeads s row c.args.start c.args.from) c.put.ensures.size
          c.put.ensures.there c.put.ensures.below c.put.ensures.above
          grew a.there a.leads c.args.from k (k + 1) from refl refl c.loop-place.invariant.row;
    }

pub returns : goal.returns
returns c =
    let s = c.args.nodes.now in
    let row = c.args.row.now.items in
    let after = c.loop-place.row.items in
    let start = c.args.start in
    let from = c.args.from in
    let test = c.loop-place-test.false in
    let len = c.len-place-end.ensures in
    let within = c.requires.from in
    let end = c.loop-place.auto.place-end (omega arith) in
    let size = c.loop-place.invariant.row.size in
    swept_row s row c.loop-place.nodes after after from c.loop-place.place (length row - from)
    (ClimbLeads s row start from) (UpLeads s row from start)
    c.requires.there c.loop-place.auto.place (omega arith) (omega arith) (omega arith) (λ p lt. refl)
    (λ j x lt. up_leads s row start from j x) c.loop-place.invariant.row

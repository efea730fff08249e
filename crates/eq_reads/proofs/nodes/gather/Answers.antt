use Rattle.std.proofs.Common.{ℕ, arith, subst, inl, inr}
use Rattle.eq_reads.specs.inner.Leading.{LeadsToBoth}
use Rattle.eq_reads.proofs.Grown.{none_leads}
use Rattle.eq_reads.proofs.Swept.{gather_none, gather_up}
use Rattle.eq_reads.proofs.nodes.gather.Goals as goal

pub loop-place-init : goal.loop-place-init
loop-place-init c =
    gather_none c.args.nodes.now c.args.row.now.items c.args.nodes.now.none c.args.from c.requires.are
    c.requires.are.room

pub both-requires-clause-are : goal.both-requires-clause-are
both-requires-clause-are c = c.loop-place.invariant.nodes.are

pub both-requires-clause-left : goal.both-requires-clause-left
both-requires-clause-left c = c.loop-place.invariant.there

pub both-requires-clause-right : goal.both-requires-clause-right
both-requires-clause-right c =
    let test = c.loop-place-test.true in
    let is = c.node_at.ensures in
    let l = c.requires.there c.loop-place.place (omega arith) in
    let later = c.loop-place.invariant.nodes.later in
    omega arith

pub loop-place-preserved : goal.loop-place-preserved
loop-place-preserved c =
    let s = c.args.nodes.now in
    let t = c.loop-place.nodes in
    let now = c.both.new.nodes in
    let all = c.loop-place.all in
    let next = c.in_ok-all.all in
    let test = c.loop-place-test.true in
    gather_up s c.args.row.now.items t now s.none all next c.loop-place.place c.requires.are
    (c.requires.there c.loop-place.place (omega arith))
    c.in_ok-all.ensures.grew (subst (λ (y : ℕ). LeadsToBoth t now all y next) c.node_at.ensures c.in_ok-all.ensures.ok)
    c.args.from c.loop-place.auto.place c.loop-place.invariant

pub returns-clause-grew : goal.returns-clause-grew
returns-clause-grew c = c.loop-place.invariant.nodes

pub returns-clause-there : goal.returns-clause-there
returns-clause-there c = c.loop-place.invariant.there

pub returns-clause-ok : goal.returns-clause-ok
returns-clause-ok c = λ x. (
    let s = c.args.nodes.now in
    let test = c.loop-place-test.false in
    let len = c.len-place-end.ensures in
    let within = c.requires.from in
    let end = c.loop-place.auto.place-end (omega arith) in
    let e = c.loop-place.invariant.leads x in (
      λ l. elim (e.0 l) [
        | inl n ↦ absurd (none_leads s c.requires.are x n)
        | inr i ↦ (let y = i.to_high in record {
          place = i.place;
          from_low = i.from_low;
          to_high = omega arith;
          leads = i.leads;
        })
      ],
      λ i. e.1 (inr (let y = i.to_high in record {
        place = i.place;
        from_low = i.from_low;
        to_high = omega arith;
        leads = i.leads;
      })),
    ))

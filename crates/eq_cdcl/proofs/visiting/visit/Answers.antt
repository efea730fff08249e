use Rattle.std.proofs.Common.{◌≡◌, Some, refl, arith, sym, ap, ◌∙◌}
use Rattle.eq_proof.specs.Literal.{negation}
use Rattle.eq_proof.proofs.Negations.{negation_twice}
use Rattle.eq_cdcl.proofs.Visited.{visiting_start, visiting_end}
use Rattle.eq_cdcl.proofs.visiting.visit.Goals as goal

pub loop-i-init : goal.loop-i-init
loop-i-init c =
    let a = c.args.trail.now in
    let w = c.args.watches.now in
    let x = c.lit.result in
    let l = c.negation-l.result in
    let twice : x ≡ negation l = sym (negation_twice x) ∙ ap negation (sym c.negation-l.ensures) in
    record {
      visiting = visiting_start c.args.known.now a w.head w.pairs.items w.lists.items l c.requires.sound c.requires.watching (c.lit.ensures ∙ ap Some twice);
      size = refl;
      longer = omega arith;
      head = refl;
    }

pub returns-clause-visited : goal.returns-clause-visited
returns-clause-visited c =
    let w = c.loop-i.watches in
    let past = c.loop-i-test.false in
    let count = c.entries.ensures in
    visiting_end c.args.known.now c.loop-i.trail w.head w.pairs.items w.lists.items c.negation-l.result c.loop-i.i c.loop-i.invariant.visiting (omega arith)

use Rattle.std.proofs.Common.{◌+◌, List, sym, subst, drop, arith}
use Rattle.eq_names.specs.declared.part.Part.{Part}
use Rattle.eq_names.specs.Reading.{IsFront}
use Rattle.eq_names.specs.Templates.{part_at}
use Rattle.eq_names.proofs.PartLemmas.{front_more}
use Rattle.eq_names.proofs.template.read_parts.Goals as goal

pub loop-at-preserved : goal.loop-at-preserved
loop-at-preserved c =
    let text = c.args.text.now in
    let wilds = c.args.wilds in
    let at = c.loop-at.at in
    let p = c.in-Ok.found.0 in
    let len = c.in-Ok.found.1 in
    let more = front_more wilds c.loop-at.parts p len at text c.loop-at-test.true c.loop-at.invariant.front
    (sym c.in-Ok.ensures.part) in
    record {
      front = subst (λ (ps : List Part). IsFront (part_at wilds) ps text (drop (at + len) text))
          (sym c.in_ok-push.ensures.ok) more;
      within = grind (arith, c.in-Ok.ensures.within);
    }

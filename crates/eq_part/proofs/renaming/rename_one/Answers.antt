use Rattle.std.proofs.Common.{◌≡◌, ℕ, ◌<◌, ◌&&◌, List, Bool, false, not, length, get_or, arith, sym, ap, subst, ◌∙◌}
use Rattle.std.proofs.lemmas.Bool.{and_parts, not-true}
use Rattle.std.proofs.lemmas.List.{get_or_default, get_or_read}
use Rattle.eq_model.specs.Frames.{values}
use Rattle.eq_net.specs.Net.{name_at}
use Rattle.eq_match.specs.declared.types.Pair.{Pair}
use Rattle.eq_match.specs.NetPairs.{IsFilling}
use Rattle.eq_match.specs.Pairs.{no_pair}
use Rattle.eq_part.specs.inner.States.{is_chosen}
use Rattle.eq_part.proofs.Renamed.{due, not_due}
use Rattle.eq_part.proofs.renaming.rename_one.Goals as goal

due_test : (pairs : List Pair) (hits done : List Bool) (p l : ℕ) (d : Pair) (x r : Bool) → p < length pairs → l < length done →
    x ≡ get_or done l x → r ≡ (not (get_or pairs p d).input && values hits p && not x) →
    (is_chosen pairs (values hits) p && not (values done l)) ≡ r
due_test pairs hits done p l d x r h k read e =
    ap (λ (q : Pair). not q.input && values hits p && not (values done l)) (get_or_default pairs p no_pair d h) ∙
    ap (λ b. not (get_or pairs p d).input && values hits p && not b) (sym (get_or_read done l x k read false)) ∙ sym e

pub returns-in_ok-rename_at : goal.returns-in_ok-rename_at
returns-in_ok-rename_at c before is =
    let p = c.args.position in let pairs = c.args.pairs.now in let leaders = c.args.leaders.now in
    let lead = c.requires.lead.before p (let n = c.requires.leader_count in let w = c.requires.within in omega arith) in
    let l = get_or c.args.leaders.now c.args.position 0 in
    let inside : l < length c.args.done.now.items = (let m = c.requires.marks in let n = c.requires.name_count in
    let w = c.requires.within in omega arith) in
    let test = due_test c.args.pairs.now c.args.hits.now c.args.done.now.items c.args.position l _ c.index.result.now _
    c.requires.within inside c.index.ensures c.is_due.ensures ∙ c.if-is_due.true in
    let parts = and_parts (is_chosen c.args.pairs.now (values c.args.hits.now) c.args.position) _ test in
    due _ c.args.pairs.now c.args.pattern.now c.args.template.now c.args.leaders.now _ p before c.args.names.now c.args.done.now.items is
    c.in_ok-rename_at.ensures.0 c.rename_at.new.names parts.0 (not-true _ parts.1)
    (let n = c.requires.name_count in let w = c.requires.within in omega arith)
    (subst (λ (q : Pair). IsFilling c.args.pattern.now c.args.template.now (name_at c.args.gold.now.nets q.gold.net)
    c.in_ok-rename_at.ensures.0) (get_or_default c.args.pairs.now p _ no_pair c.requires.within) c.in_ok-rename_at.ensures.1)
    c.in_ok-rename_at.ensures.2

pub returns-else-is_due : goal.returns-else-is_due
returns-else-is_due c before is =
    let p = c.args.position in
    let lead = c.requires.lead.before p (let n = c.requires.leader_count in let w = c.requires.within in omega arith) in
    let l = get_or c.args.leaders.now c.args.position 0 in
    let inside : l < length c.args.done.now.items = (let m = c.requires.marks in let n = c.requires.name_count in
    let w = c.requires.within in omega arith) in
    not_due _ c.args.pairs.now c.args.pattern.now c.args.template.now c.args.leaders.now _ p before c.args.names.now
    c.args.done.now.items is
    (due_test c.args.pairs.now c.args.hits.now c.args.done.now.items c.args.position l _ c.index.result.now _
    c.requires.within inside c.index.ensures c.is_due.ensures ∙ c.if-is_due.false)

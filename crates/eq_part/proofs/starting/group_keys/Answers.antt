use Rattle.std.proofs.Common.{◌≡◌, ℕ, ◌<◌, List, [], length, get_or, sym, subst, ◌∙◌}
use Rattle.std.specs.List.{All}
use Rattle.std.proofs.lemmas.List.{get_or_default}
use Rattle.eq_match.specs.Divided.{list_at}
use Rattle.eq_part.specs.inner.Starting.{ArePut}
use Rattle.eq_part.proofs.GroupStart.{group_inside, one_group_more}
use Rattle.eq_part.proofs.starting.group_keys.Goals as goal

group_at : (groups : List (List ℕ)) (g : ℕ) (group slice : List ℕ) → g < length groups → group ≡ get_or groups g group →
    slice ≡ group → list_at groups g ≡ slice
group_at groups g group slice h is e = get_or_default groups g [] group h ∙ sym is ∙ sym e

pub put_group-requires : goal.put_group-requires
put_group-requires c =
    subst (λ (xs : List ℕ). All (λ i. i < length c.loop-group.keys.items) xs)
    (group_at c.args.groups.now c.loop-group.group-index c.group-item.result c.as_slice.result.now c.loop-group-test.true
    c.group-item.is c.as_slice.ensures)
    (group_inside c.args.pairs.now c.args.groups.now c.requires.apart c.loop-group.group-index _ c.loop-group.invariant.count)

pub loop-group-preserved : goal.loop-group-preserved
loop-group-preserved c =
    one_group_more c.args.pairs.now c.args.groups.now c.requires.apart c.loop-group.group-index c.loop-group.keys.items _
    c.loop-group.invariant
    (subst (λ xs. ArePut c.loop-group.keys.items xs (get_or xs 0 0) c.put_group.new.keys.items)
    (sym (group_at c.args.groups.now c.loop-group.group-index c.group-item.result c.as_slice.result.now c.loop-group-test.true
    c.group-item.is c.as_slice.ensures)) c.put_group.ensures)

use Rattle.std.proofs.Common.{◌≡◌, ◌<◌, ◌∙◌, arith, ℕ, List, Bool, ap, length, subst, sym}
use Rattle.std.proofs.lemmas.Result.{IfOk-weaker}
use Rattle.eq_model.specs.Frames.{values}
use Rattle.eq_net.specs.Whole.{parts_of}
use Rattle.eq_match.specs.Classes.{touches}
use Rattle.eq_match.specs.Groups.{TellsHits, is_held}
use Rattle.eq_match.specs.Leaders.{one_leader}
use Rattle.eq_match.specs.declared.types.Pair.{Pair}
use Rattle.eq_part.specs.Partitions.{union}
use Rattle.eq_part.specs.inner.States.{division_of}
use Rattle.eq_part.proofs.Merged.{same_division, same_union, touched_filled}
use Rattle.eq_part.proofs.merging.merge.Goals as goal

told : (pairs : List Pair) (classes : List ℕ) (hit marks slice : List Bool) → length classes ≡ length pairs → slice ≡ marks →
    ((i : ℕ) → i < length classes → values marks i ≡
    touches (length classes) (is_held pairs) (values hit) (one_leader classes) i) → (i : ℕ) → i < length pairs →
    values slice i ≡ touches (length pairs) (is_held pairs) (values hit) (one_leader classes) i
told pairs classes hit marks slice count same bits i h =
    ap (λ (m : List Bool). values m i) same ∙ bits i (omega arith) ∙
    ap (λ n. touches n (is_held pairs) (values hit) (one_leader classes) i) count

pub unite-requires-clause-marks : goal.unite-requires-clause-marks
unite-requires-clause-marks c = touched_filled c.args.pairs.now c.args.state c.requires.state (values c.as_slice.result.now) _
    (told c.args.pairs.now c.args.state.classes c.as_slice.result.now _ _ c.requires.state.count c.as_slice-2.ensures
    c.in_ok-marks.ensures.bits)

pub returns-clause-line : goal.returns-clause-line
returns-clause-line c =
    let pairs = c.args.pairs.now in let hit = values c.as_slice.result.now in
    let d = division_of c.args.state in
    let bits = told c.args.pairs.now c.args.state.classes c.as_slice.result.now c.in_ok-marks.marks c.as_slice-2.result.now
    c.requires.state.count c.as_slice-2.ensures c.in_ok-marks.ensures.bits in
    IfOk-weaker c.unite.result _ _ (λ after united. (
      hit,
      subst (λ (h : List Bool). TellsHits (parts_of c.args.gold.now) c.args.pairs.now c.args.pattern.now (values h))
          (sym c.as_slice.ensures) c.in_ok-hits.ensures.hits,
      same_division (length pairs) (division_of after) (union pairs (values c.as_slice-2.result.now) d)
          (union pairs (touches (length pairs) (is_held pairs) hit d.together) d) united
          (same_union pairs (values c.as_slice-2.result.now) (touches (length pairs) (is_held pairs) hit d.together) d bits),
    ))
    c.unite.ensures.united

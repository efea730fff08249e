use Rattle.std.proofs.Common.{◌≡◌, ℕ, ◌<◌, ◌+◌, ◌||◌, ◌∙◌, List, Bool, not, eqb, length, set, get_or, ap, sym, subst}
use Rattle.std.proofs.Math.ListN.{length-set}
use Rattle.std.proofs.lemmas.List.{get_or_default}
use Rattle.eq_model.specs.Frames.{values}
use Rattle.eq_match.specs.declared.types.Pair.{Pair}
use Rattle.eq_match.specs.Leaders.{leader_at}
use Rattle.eq_match.specs.Pairs.{gold_net, no_pair}
use Rattle.eq_part.specs.inner.Wholes.{AreSplit}
use Rattle.eq_part.proofs.NetsHeld.{one_split}
use Rattle.eq_part.proofs.wholes.split_by.Goals as goal

stepped : (pairs : List Pair) (leaders kept : List ℕ) (p : ℕ) (split now : List Bool) (d : Pair) (on : Bool) → p < length pairs →
    gold_net pairs p < length kept → length split ≡ length kept → AreSplit pairs leaders kept (length kept) p split →
    on ≡ not (eqb (leader_at leaders p) (get_or kept (get_or pairs p d).gold.net 0)) →
    now ≡ set split (get_or pairs p d).gold.net (on || values split (get_or pairs p d).gold.net) →
    AreSplit pairs leaders kept (length kept) (p + 1) now
stepped pairs leaders kept p split now d on h there count is on_is now_is =
    let same = ap (λ (q : Pair). q.gold.net) (get_or_default pairs p no_pair d h) in
    subst (AreSplit pairs leaders kept (length kept) (p + 1))
    (ap (λ k. set split k (on || values split k)) same ∙ sym now_is)
    (one_split pairs leaders kept (length kept) p split count there is on
    (on_is ∙ ap (λ k. not (eqb (leader_at leaders p) (get_or kept k 0))) (sym same)))

pub loop-position-preserved : goal.loop-position-preserved
loop-position-preserved c = record {
  count = ap length c.mark.ensures ∙ length-set c.loop-position.split.items _ _ ∙ c.loop-position.invariant.count;
  split = stepped c.args.pairs.now c.args.leaders.now c.args.kept.now c.loop-position.position c.loop-position.split.items _ _ _
      c.loop-position-test.true (c.requires.there c.loop-position.position no_pair c.loop-position-test.true)
      c.loop-position.invariant.count c.loop-position.invariant.split c.differ-on.ensures c.mark.ensures;
}

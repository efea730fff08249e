use Rattle.std.proofs.Common.{◌≡◌, ◌∙◌, ℕ, List, [], ◌∷◌, ◌++◌, take, map, get_or, sym, ap, subst}
use Rattle.std.specs.List.{All}
use Rattle.std.proofs.lemmas.List.{get_or_default, map_push, take_more}
use Rattle.std.proofs.lemmas.List.Elements.{All-push}
use Rattle.eq_net.specs.Whole.{parts_of}
use Rattle.eq_part.specs.declared.types.Partition.{Partition}
use Rattle.eq_part.specs.inner.Named.{IsNamed}
use Rattle.eq_part.specs.inner.States.{division_of}
use Rattle.eq_part.proofs.finishing.parts_with.Goals as goal

pub loop-list-preserved : goal.loop-list-preserved
loop-list-preserved c =
    let parts = c.loop-list.parts in let p = c.in_ok-part_of.field-0 in let i = c.loop-list.list-index in
    let lists = c.args.lists.now in
    let outputs : List Partition → List (List ℕ) = map (λ (q : Partition). q.outputs) in
    let here : get_or c.args.lists.now i [] ≡ c.in_ok-part_of.field-0.outputs =
    get_or_default c.args.lists.now i [] c.list-item.result c.loop-list-test.true ∙ sym c.list-item.is ∙
    sym c.as_slice.ensures ∙ sym c.in_ok-part_of.ensures.outputs in
    record {
      outputs = ap outputs c.in_ok-push.ensures.ok ∙ map_push (λ (q : Partition). q.outputs) parts p ∙
          ap (λ (ls : List (List ℕ)). ls ++ p.outputs ∷ []) c.loop-list.invariant.outputs ∙
          ap (λ (l : List ℕ). take i c.args.lists.now ++ l ∷ []) (sym here) ∙ sym (take_more c.args.lists.now i [] c.loop-list-test.true);
      names = subst (All (IsNamed (parts_of c.args.gold.now) c.args.pairs.now (division_of c.args.state.now))) (sym c.in_ok-push.ensures.ok)
          (All-push (IsNamed (parts_of c.args.gold.now) c.args.pairs.now (division_of c.args.state.now)) parts p
          c.loop-list.invariant.names c.in_ok-part_of.ensures.name);
    }

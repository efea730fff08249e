use Rattle.std.proofs.Common.{◌≡◌, ℕ, List, sym, subst, ◌∙◌, length}
use Rattle.std.proofs.lemmas.Result.{IfOk-weaker}
use Rattle.eq_net.specs.Net.{Parts}
use Rattle.eq_config.specs.declared.config.CollectSection.{CollectSection}
use Rattle.eq_config.specs.declared.config.Config.{Config}
use Rattle.eq_match.specs.declared.types.Pair.{Pair}
use Rattle.eq_match.specs.Classes.{SameClasses, classes}
use Rattle.eq_match.specs.Divided.{AreApart, AreDivided}
use Rattle.eq_match.specs.Groups.{AreGroups, SectionsCollect, by_net, is_held}
use Rattle.eq_match.specs.Leaders.{one_leader}
use Rattle.eq_match.proofs.GroupLines.{same_sym, sections_from}
use Rattle.eq_match.proofs.grouping.groups.Goals as goal

made : (gold : Parts) (p pairs : List Pair) (c : Config) (list : List CollectSection) (start division : List ℕ)
    (groups : List (List ℕ)) → pairs ≡ p → list ≡ c.collects →
    SameClasses (length pairs) (one_leader start) (by_net pairs) →
    SectionsCollect gold pairs c.gold.top list (one_leader start) (one_leader division) →
    groups ≡ classes (length pairs) (is_held pairs) (one_leader division) → AreGroups gold p c groups
made gold p pairs c list start division groups pairs_are list_is first lines groups_are =
    subst (λ ps. AreGroups gold ps c groups) pairs_are (record {
      together = one_leader division;
      lines = sections_from gold pairs c.gold.top c.collects (by_net pairs) (one_leader start) (one_leader division)
          (same_sym gold pairs (one_leader start) (by_net pairs) first)
          (subst (λ cs. SectionsCollect gold pairs c.gold.top cs (one_leader start) (one_leader division)) list_is lines);
      groups_are = groups_are;
    })

stand_apart : (p pairs : List Pair) (division : List ℕ) (groups : List (List ℕ)) → pairs ≡ p →
    groups ≡ classes (length pairs) (is_held pairs) (one_leader division) →
    AreDivided (length pairs) (is_held pairs) (one_leader division) (classes (length pairs) (is_held pairs) (one_leader division)) →
    AreApart p groups
stand_apart p pairs division groups pairs_are groups_are divided =
    subst (λ ps. AreApart ps groups) pairs_are (subst (AreApart pairs) (sym groups_are) (record {
      held = divided.inside;
      once = λ g h i e f. let in_pairs = divided.inside g i e in let one = divided.in_one i in_pairs.0 in_pairs.1 in
          one.3 g e ∙ sym (one.3 h f);
    }))

pub returns : goal.returns
returns c = record {
  apart = IfOk-weaker c.classes_of.result _ _ (λ groups e. stand_apart _ _ _ groups c.as_slice-pairs.ensures e (c.classes_divide.ensures _ _ _))
      c.classes_of.ensures;
  ok = IfOk-weaker c.classes_of.result _ _ (λ groups e. made _ _ _ _ _ _ _ groups c.as_slice-pairs.ensures c.as_slice.ensures
      c.in_ok-start.ensures.classes c.in_ok-classes.ensures.sections e) c.classes_of.ensures;
}

use Rattle.std.proofs.Common.{◌≡◌, inl, inr, ℕ, List, Option, None, Result, Ok, Err, arith, ap, length, map, replicate, subst, sym, ◌∙◌}
use Rattle.std.specs.Prelude.{IfOk}
use Rattle.std.specs.List.{All}
use Rattle.std.proofs.lemmas.Bool.{cases_lt, eq-eqb}
use Rattle.std.proofs.lemmas.List.{get_or-replicate, get_or_past, length-replicate}
use Rattle.std.proofs.lemmas.Option.{get_or_from_slice_get, slice_get_within}
use Rattle.std.proofs.lemmas.Result.{IfOk-weaker}
use Rattle.eq_config.specs.declared.config.Config.{Config}
use Rattle.eq_config.specs.declared.config.PartSection.{PartSection}
use Rattle.eq_net.specs.Net.{Parts}
use Rattle.eq_net.specs.Whole.{parts_of}
use Rattle.eq_match.specs.declared.types.Pair.{Pair}
use Rattle.eq_match.specs.Classes.{SameClasses, classes}
use Rattle.eq_match.specs.Divided.{AreApart}
use Rattle.eq_match.specs.Groups.{is_held}
use Rattle.eq_match.specs.Leaders.{AreLeaders, leader_at, one_leader}
use Rattle.eq_part.specs.declared.state.State.{State}
use Rattle.eq_part.specs.declared.types.Partition.{Partition}
use Rattle.eq_part.specs.Partitions.{ArePartitions, IsNameOf, SameDivision, SectionsMake, from_groups}
use Rattle.eq_part.specs.inner.Named.{IsNamed}
use Rattle.eq_part.specs.inner.States.{IsState, division_of, name_at}
use Rattle.eq_part.proofs.GroupStart.{start_alike}
use Rattle.eq_part.proofs.dividing.divide.Goals as goal

both : {X E : Type 0} (r : Result X E) (P Q : X → Type 0) → IfOk r P → IfOk r Q → IfOk r (λ x. P x × Q x)
both (Ok x) P Q p q = (p, q)
both (Err e) P Q p q = p

no_name : (n i : ℕ) → name_at (replicate n None) i ≡ None
no_name n i = elim (cases_lt i n) [
  | inl less ↦ get_or-replicate n i None None less
  | inr more ↦ get_or_past (replicate n None) i None (let e = length-replicate {A = Option (List ℕ)} n None in omega arith)
]

module _ (pairs : List Pair) (list groups : List (List ℕ)) (s : State) (apart : AreApart pairs groups) (list_is : list ≡ groups)
    (count : length s.classes ≡ length pairs) (names : s.names ≡ replicate (length pairs) None)
    (same : SameClasses (length pairs) (one_leader s.classes) (from_groups list).together) where
  first_state : AreLeaders s.classes → IsState pairs s
  first_state lead = record {
    count = count;
    names = ap length names ∙ length-replicate (length pairs) None;
    lead = lead;
    alike = λ i j h k e. start_alike pairs groups apart i j (ap (λ gs. (from_groups gs).together i j) (sym list_is) ∙
        sym (same i j h k) ∙ eq-eqb (leader_at s.classes i) (leader_at s.classes j) e);
  }

  first_division : SameDivision (length pairs) (division_of s) (from_groups groups)
  first_division = record {
    together = λ i j h k. same i j h k ∙ ap (λ gs. (from_groups gs).together i j) list_is;
    called = λ i h. ap (λ ns. name_at ns (leader_at s.classes i)) names ∙ no_name (length pairs) (leader_at s.classes i);
  }

made : (gold : Parts) (p pairs : List Pair) (groups : List (List ℕ)) (c : Config) (list : List PartSection) (s after : State)
    (parts : List Partition) → pairs ≡ p → list ≡ c.partitions → SameDivision (length pairs) (division_of s) (from_groups groups) →
    SectionsMake gold pairs c.gold.top list (division_of s) (division_of after) →
    map (λ (q : Partition). q.outputs) parts ≡ classes (length pairs) (is_held pairs) (division_of after).together →
    All (IsNamed gold pairs (division_of after)) parts → ArePartitions gold p groups c parts
made gold p pairs groups c list s after parts pairs_are list_is begins lines outputs named =
    subst (λ ps. ArePartitions gold ps groups c parts) pairs_are (record {
      first = division_of s;
      begins = begins;
      division = division_of after;
      lines = subst (λ cs. SectionsMake gold pairs c.gold.top cs (division_of s) (division_of after)) list_is lines;
      outputs_are = outputs;
      names_are = λ q i p more at e.
          let one = get_or_from_slice_get parts q p p at in
          subst (λ (x : Partition). IsNameOf gold pairs (division_of after) i x.name) one
          (named q p (slice_get_within parts q p at) i more (ap (λ (x : Partition). x.outputs) one ∙ e));
    })

pub sections-requires-clause-state : goal.sections-requires-clause-state
sections-requires-clause-state c =
    let state : State = record { classes = c.in_ok-classes.classes; names = c.in_ok-names.names } in
    let apart = subst (λ (ps : List Pair). AreApart ps c.args.g.now) (sym c.as_slice-pairs.ensures) c.requires.apart in
    first_state c.as_slice-pairs.result.now c.as_slice.result.now c.args.g.now state apart c.as_slice.ensures
    c.in_ok-classes.ensures.count c.in_ok-names.ensures c.in_ok-classes.ensures.groups c.in_ok-classes.ensures.leaders

pub returns-clause-ok : goal.returns-clause-ok
returns-clause-ok c =
    let state : State = record { classes = c.in_ok-classes.classes; names = c.in_ok-names.names } in
    let apart = subst (λ (ps : List Pair). AreApart ps c.args.g.now) (sym c.as_slice-pairs.ensures) c.requires.apart in
    let begins = first_division c.as_slice-pairs.result.now c.as_slice.result.now c.args.g.now state apart c.as_slice.ensures
    c.in_ok-classes.ensures.count c.in_ok-names.ensures c.in_ok-classes.ensures.groups in
    IfOk-weaker c.finish.result _ _ (λ parts found. made (parts_of c.args.gold.now) c.args.p.now c.as_slice-pairs.result.now c.args.g.now
    c.args.c.now c.as_slice-2.result.now state c.in_ok-state.state parts c.as_slice-pairs.ensures c.as_slice-2.ensures begins
    c.in_ok-state.ensures.sections found.0 found.1)
    (both c.finish.result _ _ c.finish.ensures.outputs c.finish.ensures.names)

use Rattle.std.proofs.Common.{◌≡◌, ℕ, ◌<◌, List, Option, length, map, ap, subst, sym, ◌∙◌, arith}
use Rattle.std.specs.List.{All}
use Rattle.std.proofs.lemmas.List.{length-map}
use Rattle.eq_names.specs.declared.BitName.{BitName}
use Rattle.eq_net.specs.Net.{HasBit, bits_of, number_of}
use Rattle.eq_net.specs.Whole.{parts_of}
use Rattle.eq_match.specs.Classes.{Together}
use Rattle.eq_match.specs.Divided.{AreDivided}
use Rattle.eq_match.specs.Groups.{is_held}
use Rattle.eq_match.specs.Leaders.{one_leader}
use Rattle.eq_match.specs.declared.types.Pair.{Pair}
use Rattle.eq_part.specs.declared.plan.Plan.{Plan}
use Rattle.eq_part.specs.declared.types.Partition.{Partition}
use Rattle.eq_part.specs.Tables.{AreOwners}
use Rattle.eq_part.specs.inner.Tabling.{AreOnceBelow}
use Rattle.eq_part.proofs.Planned.{few_names, names_there, numbers_are, once_below}
use Rattle.eq_part.proofs.planning.plan.Goals as goal

-- the divided lists of partitions that are classes
divided : (pairs lent : List Pair) (parts given : List Partition) (together : Together) →
    lent ≡ pairs → given ≡ parts →
    AreDivided (length pairs) (is_held pairs) together (map (λ (p : Partition). p.outputs) parts) →
    AreDivided (length lent) (is_held lent) together (map (λ (p : Partition). p.outputs) given)
divided pairs lent parts given together same equal are =
    let P : List Pair → Type 0 = λ ps. AreDivided (length ps) (is_held ps) together
    (map (λ (p : Partition). p.outputs) given) in
    let Q : List Partition → Type 0 = λ qs. AreDivided (length pairs) (is_held pairs) together
    (map (λ (p : Partition). p.outputs) qs) in
    subst P (sym same) (subst Q (sym equal) are)

pub side-requires-clause-names : goal.side-requires-clause-names
side-requires-clause-names c =
    let nets = c.args.gold.now.nets in
    let P : List BitName → Type 0 = All (HasBit nets) in
    subst P (sym (c.as_slice-3.ensures ∙ c.in_ok-in_gold.ensures ∙
    ap (λ (ps : List Pair). map (λ p. p.gold) ps) c.as_slice.ensures))
    (names_there nets c.args.pairs (λ p. p.gold) c.requires.matched.gold_there)

pub side-requires-clause-once : goal.side-requires-clause-once
side-requires-clause-once c =
    let nets = c.args.gold.now.nets in
    let P : List BitName → Type 0 = λ ns. AreOnceBelow (bits_of nets) (map (number_of nets) ns) in
    subst P (sym (c.as_slice-3.ensures ∙ c.in_ok-in_gold.ensures ∙
    ap (λ (ps : List Pair). map (λ p. p.gold) ps) c.as_slice.ensures))
    (once_below nets c.args.pairs (λ p. p.gold) (bits_of nets) c.requires.matched.gold_bits c.requires.matched.gold_once)

pub side-requires-clause-few : goal.side-requires-clause-few
side-requires-clause-few c =
    let few = (c.matched_pairs_are_few.ensures (parts_of c.args.gold.now) (parts_of c.args.gate.now) c.args.pairs
    c.args.gold.now.is_net c.requires.matched).few in
    let P : List BitName → Type 0 = λ ns. length ns < 2147483648 in
    subst P (sym (c.as_slice-3.ensures ∙ c.in_ok-in_gold.ensures ∙
    ap (λ (ps : List Pair). map (λ p. p.gold) ps) c.as_slice.ensures))
    (few_names c.args.gold.now.nets c.args.pairs (λ p. p.gold) 2147483648 few)

pub side-requires-2-clause-names : goal.side-requires-2-clause-names
side-requires-2-clause-names c =
    let nets = c.args.gate.now.nets in
    let P : List BitName → Type 0 = All (HasBit nets) in
    subst P (sym (c.as_slice-4.ensures ∙ c.in_ok-in_gate.ensures ∙
    ap (λ (ps : List Pair). map (λ p. p.gate) ps) c.as_slice-2.ensures))
    (names_there nets c.args.pairs (λ p. p.gate) c.requires.matched.gate_there)

pub side-requires-2-clause-once : goal.side-requires-2-clause-once
side-requires-2-clause-once c =
    let nets = c.args.gate.now.nets in
    let P : List BitName → Type 0 = λ ns. AreOnceBelow (bits_of nets) (map (number_of nets) ns) in
    subst P (sym (c.as_slice-4.ensures ∙ c.in_ok-in_gate.ensures ∙
    ap (λ (ps : List Pair). map (λ p. p.gate) ps) c.as_slice-2.ensures))
    (once_below nets c.args.pairs (λ p. p.gate) (bits_of nets) c.requires.matched.gate_bits c.requires.matched.gate_once)

pub side-requires-2-clause-few : goal.side-requires-2-clause-few
side-requires-2-clause-few c =
    let few = (c.matched_pairs_are_few.ensures (parts_of c.args.gold.now) (parts_of c.args.gate.now) c.args.pairs
    c.args.gold.now.is_net c.requires.matched).few in
    let P : List BitName → Type 0 = λ ns. length ns < 2147483648 in
    subst P (sym (c.as_slice-4.ensures ∙ c.in_ok-in_gate.ensures ∙
    ap (λ (ps : List Pair). map (λ p. p.gate) ps) c.as_slice-2.ensures))
    (few_names c.args.gate.now.nets c.args.pairs (λ p. p.gate) 2147483648 few)

pub owners-requires-clause-divided : goal.owners-requires-clause-divided
owners-requires-clause-divided c =
    let pairs = c.args.pairs in
    let parts = c.args.parts in
    let leaders = c.requires.classes.0 in
    let Q : List (List ℕ) → Type 0 = AreDivided (length pairs) (is_held pairs) (one_leader leaders) in (
      one_leader leaders,
      divided pairs c.as_slice-5.result.now parts c.as_slice-6.result.now (one_leader leaders)
          c.as_slice-5.ensures c.as_slice-6.ensures
          (subst Q (sym c.requires.classes.1) (c.classes_divide.ensures (length pairs) (is_held pairs) leaders)),
    )

owned : (pairs lent : List Pair) (parts given : List Partition) (owners : List (Option ℕ)) →
    lent ≡ pairs → given ≡ parts → AreOwners lent given owners → AreOwners pairs parts owners
owned pairs lent parts given owners same equal are =
    subst (λ (ps : List Pair). AreOwners ps parts owners) same
    (subst (λ (qs : List Partition). AreOwners lent qs owners) equal are)

pub returns-clause-plan : goal.returns-clause-plan
returns-clause-plan c =
    let pairs = c.args.pairs in
    let parts = c.args.parts in
    let leaders = c.requires.classes.0 in
    let gold = parts_of c.args.gold.now in
    let gate = parts_of c.args.gate.now in
    let Q : List (List ℕ) → Type 0 = AreDivided (length pairs) (is_held pairs) (one_leader leaders) in
    let in_gold : c.in_ok-gold.gold.bits ≡ map (λ (p : Pair). number_of gold.nets p.gold) pairs =
    c.in_ok-gold.ensures.bits ∙ ap (λ (ns : List BitName). map (number_of gold.nets) ns)
    (c.as_slice-3.ensures ∙ c.in_ok-in_gold.ensures ∙
    ap (λ (ps : List Pair). map (λ p. p.gold) ps) c.as_slice.ensures) ∙
    numbers_are gold.nets pairs (λ p. p.gold) in
    let in_gate : c.in_ok-gate.gate.bits ≡ map (λ (p : Pair). number_of gate.nets p.gate) pairs =
    c.in_ok-gate.ensures.bits ∙ ap (λ (ns : List BitName). map (number_of gate.nets) ns)
    (c.as_slice-4.ensures ∙ c.in_ok-in_gate.ensures ∙
    ap (λ (ps : List Pair). map (λ p. p.gate) ps) c.as_slice-2.ensures) ∙
    numbers_are gate.nets pairs (λ p. p.gate) in
    let plan : Plan = record {
      pairs = pairs;
      parts = parts;
      gold = c.in_ok-gold.gold;
      gate = c.in_ok-gate.gate;
      owners = c.in_ok-owners.owners;
      gold_count = ap (λ (ns : List ℕ). length ns) in_gold ∙
          length-map pairs (λ (p : Pair). number_of gold.nets p.gold);
      gate_count = ap (λ (ns : List ℕ). length ns) in_gate ∙
          length-map pairs (λ (p : Pair). number_of gate.nets p.gate);
      owned = owned pairs c.as_slice-5.result.now parts c.as_slice-6.result.now c.in_ok-owners.owners
          c.as_slice-5.ensures c.as_slice-6.ensures c.in_ok-owners.ensures;
    } in
    record {
      gold_there = c.requires.matched.gold_there;
      outputs_once = λ q i j d less within. λ same. omega (
        arith,
        same,
        c.outputs_stand_in_order.ensures.outputs (length pairs) (is_held pairs) (one_leader leaders) parts
            c.requires.classes.1 q i j d less within,
      );
      gold_numbers = in_gold;
      gate_numbers = in_gate;
      gold_table = c.in_ok-gold.ensures.table;
      gate_table = c.in_ok-gate.ensures.table;
      covers = c.plans_cover.ensures gold gate plan (one_leader leaders) c.requires.matched
          (subst Q (sym c.requires.classes.1) (c.classes_divide.ensures (length pairs) (is_held pairs) leaders));
    }

use Rattle.std.proofs.Common.{◌≡◌, ℕ, ◌<◌, List, Option, Some, IfSome, length, slice_index_or, arith, ap, subst, sym, ◌∙◌}
use Rattle.std.specs.List.{All}
use Rattle.std.proofs.lemmas.List.{get_or_default}
use Rattle.eq_match.specs.declared.types.Pair.{Pair}
use Rattle.eq_part.specs.declared.types.Partition.{Partition}
use Rattle.eq_part.specs.Clashes.{AreFirstOfOneName}
use Rattle.eq_part.specs.Tables.{no_part}
use Rattle.eq_part.proofs.Checked.{few_parts, outputs_below, some_output}
use Rattle.eq_part.proofs.planning.check.Goals as goal

pub overflow_cast-result : goal.overflow_cast-result
overflow_cast-result c =
    let few = few_parts c.args.pairs.now c.args.parts.now c.requires.classes in
    let size = c.len-count.ensures in
    let least = c.requires.few in
    omega arith

-- the two partitions that were found
first_two : (parts lent : List Partition) (found : Option (ℕ × ℕ)) (p q : ℕ) → lent ≡ parts →
    IfSome found (λ two. AreFirstOfOneName lent two.0 two.1) → found ≡ Some (p, q) → AreFirstOfOneName parts p q
first_two parts lent found p q same are is =
    let P : Option (ℕ × ℕ) → Type 0 = λ o. IfSome o (λ two. AreFirstOfOneName lent two.0 two.1) in
    subst (λ (ps : List Partition). AreFirstOfOneName ps p q) same (subst P is are)

-- the partition at a place, whatever stands beyond the last
at_place : (parts lent : List Partition) (p : ℕ) (found : Partition) → lent ≡ parts → p < length parts →
    found ≡ slice_index_or lent p found → slice_index_or parts p no_part ≡ found
at_place parts lent p found same lt is =
    sym (is ∙ ap (λ (ps : List Partition). slice_index_or ps p found) same ∙ get_or_default parts p found no_part lt)

pub first_bit-requires-clause-some : goal.first_bit-requires-clause-some
first_bit-requires-clause-some c =
    let parts = c.args.parts.now in
    let lent = c.as_slice-parts.result.now in
    let two = first_two parts lent c.in_ok-p.field-0 c.in-Some.p c.in-Some.q c.as_slice-parts.ensures
    c.in_ok-p.ensures.some c.in-Some.is in
    let before = two.clash.before in
    let there = two.clash.there in
    let lt : c.in-Some.p < length parts = omega arith in
    subst (λ (p : Partition). 0 < length p.outputs)
    (at_place parts lent c.in-Some.p c.index-parts-p.result c.as_slice-parts.ensures lt c.index-parts-p.is)
    (some_output c.args.pairs.now parts (c.classes_divide.ensures _ _) c.requires.classes c.in-Some.p lt)

pub first_bit-requires-clause-there : goal.first_bit-requires-clause-there
first_bit-requires-clause-there c =
    let parts = c.args.parts.now in
    let pairs = c.args.pairs.now in
    let lent = c.as_slice-parts.result.now in
    let two = first_two parts lent c.in_ok-p.field-0 c.in-Some.p c.in-Some.q c.as_slice-parts.ensures
    c.in_ok-p.ensures.some c.in-Some.is in
    let before = two.clash.before in
    let there = two.clash.there in
    let lt : c.in-Some.p < length parts = omega arith in
    subst (λ (ps : List Pair). All (λ i. i < length ps) c.index-parts-p.result.outputs) (sym c.as_slice.ensures)
    (subst (λ (p : Partition). All (λ i. i < length pairs) p.outputs)
    (at_place parts lent c.in-Some.p c.index-parts-p.result c.as_slice-parts.ensures lt c.index-parts-p.is)
    (outputs_below pairs parts c.requires.classes c.in-Some.p lt))

pub first_bit-requires-in-Some-clause-some : goal.first_bit-requires-in-Some-clause-some
first_bit-requires-in-Some-clause-some c =
    let parts = c.args.parts.now in
    let lent = c.as_slice-parts.result.now in
    let two = first_two parts lent c.in_ok-p.field-0 c.in-Some.p c.in-Some.q c.as_slice-parts.ensures
    c.in_ok-p.ensures.some c.in-Some.is in
    subst (λ (p : Partition). 0 < length p.outputs)
    (at_place parts lent c.in-Some.q c.index-parts-q.result c.as_slice-parts.ensures two.clash.there c.index-parts-q.is)
    (some_output c.args.pairs.now parts (c.classes_divide.ensures _ _) c.requires.classes c.in-Some.q two.clash.there)

pub first_bit-requires-in-Some-clause-there : goal.first_bit-requires-in-Some-clause-there
first_bit-requires-in-Some-clause-there c =
    let parts = c.args.parts.now in
    let pairs = c.args.pairs.now in
    let lent = c.as_slice-parts.result.now in
    let two = first_two parts lent c.in_ok-p.field-0 c.in-Some.p c.in-Some.q c.as_slice-parts.ensures
    c.in_ok-p.ensures.some c.in-Some.is in
    subst (λ (ps : List Pair). All (λ i. i < length ps) c.index-parts-q.result.outputs) (sym c.as_slice-in-Some.ensures)
    (subst (λ (p : Partition). All (λ i. i < length pairs) p.outputs)
    (at_place parts lent c.in-Some.q c.index-parts-q.result c.as_slice-parts.ensures two.clash.there c.index-parts-q.is)
    (outputs_below pairs parts c.requires.classes c.in-Some.q two.clash.there))

-- Places are written into a table, none over another, and then those of both sides.
use Rattle.std.proofs.Common.{◌≡◌, ℕ, zero, suc, ◌<◌, ◌≤◌, ◌+◌, List, Option, Some, None, set, length, replicate, slice_index_or, slice_get, refl, arith, sym, ap, subst, ◌∙◌, inl, inr, get_or-set_other, get_or-set_same}
use Rattle.std.proofs.Math.ListN.{length-set}
use Rattle.std.proofs.lemmas.Bool.{cases_lt}
use Rattle.std.proofs.lemmas.Bool.Decides.{eqb_tells}
use Rattle.std.proofs.lemmas.Option.{same_Some, slice_get-get_or, slice_get_within}
use Rattle.eq_bits.specs.declared.node.Graph.{Graph}
use Rattle.eq_part.specs.declared.plan.Plan.{Plan}
use Rattle.eq_part.specs.Tables.{AreInverse}
use Rattle.eq_cone.specs.Paired.{ArePaired, HaveOwnNodes, own_in_gold, pair_of}
use Rattle.eq_cone.specs.inner.Marks.{AreMarks, Marked, mark_of}

pub mark_begins : (from : ℕ) (own bits : List ℕ) (old : List (Option ℕ)) → Marked from own bits 0 old old
mark_begins from own bits old = record {
  count = refl;
  is = λ i lt. absurd (omega arith);
  kept = λ m apart. refl;
  only = λ m i e. inr e;
}

module _ (from : ℕ) (own bits : List ℕ) (old now : List (Option ℕ)) (n : ℕ)
    (marks : AreMarks (length old) from own bits)
    (marked : Marked from own bits n old now) (lt : n < length bits) where
  here : pair_of (set now (mark_of from own bits n) (Some n)) (mark_of from own bits n) ≡ Some n
  here = get_or-set_same now (mark_of from own bits n) (Some n) None
      (let e = marked.count in let f = marks.there n lt in omega arith)

  other : (m : ℕ) → (m ≡ mark_of from own bits n → ⊥) →
      pair_of (set now (mark_of from own bits n) (Some n)) m ≡ pair_of now m
  other m apart = get_or-set_other now (mark_of from own bits n) m (Some n) None apart

  pub mark_on : Marked from own bits (n + 1) old (set now (mark_of from own bits n) (Some n))
  mark_on = record {
    count = length-set now (mark_of from own bits n) (Some n) ∙ marked.count;
    is = λ i less. elim (cases_lt i n) [
      | inl before ↦ other (mark_of from own bits i) (λ same. (
          let e = marks.once i n (omega arith) lt same in omega arith)) ∙ marked.is i before
      | inr last ↦ (
          let e : n ≡ i = omega arith in
          let P : ℕ → Type 0 = λ x. pair_of (set now (mark_of from own bits n) (Some n)) (mark_of from own bits x) ≡
          Some x in
          subst P e here)
    ];
    kept = λ m apart. other m (λ same. apart n (omega arith) (sym same))
        ∙ marked.kept m (λ i less same. apart i (omega arith) same);
    only = λ m i e. elim (eqb_tells m (mark_of from own bits n)) [
      | inl same ↦ (
          let P : ℕ → Type 0 = λ x. pair_of (set now (mark_of from own bits n) (Some n)) x ≡ Some i in
          let f : n ≡ i = same_Some n i (sym here ∙ subst P same.1 e) in
          inl ((omega arith), ap (mark_of from own bits) (sym f) ∙ sym same.1))
      | inr apart ↦ (elim (marked.only m i (sym (other m apart.1) ∙ e)) [
        | inl before ↦ (let less = before.0 in inl ((omega arith), before.1))
        | inr old_one ↦ inr old_one
      ])
    ];
  }

none_there : (size m : ℕ) → pair_of (replicate size None) m ≡ None
none_there zero m = refl
none_there (suc size) zero = refl
none_there (suc size) (suc m) = none_there size m

-- where each place has its bit and each bit its place, the bits are bits of the table, no two the same
module _ (bits : List ℕ) (pairs : List (Option ℕ)) (inverse : AreInverse bits pairs) where
  at_bit : (i : ℕ) → i < length bits → slice_get pairs (slice_index_or bits i 0) ≡ Some (Some i)
  at_bit i lt = inverse.there i (slice_index_or bits i 0) (slice_get-get_or bits i 0 lt)

  pub bit_there : (i : ℕ) → i < length bits → slice_index_or bits i 0 < length pairs
  bit_there i lt = slice_get_within pairs (slice_index_or bits i 0) (Some i) (at_bit i lt)

  pub bits_once : (i j : ℕ) → i < length bits → j < length bits → slice_index_or bits i 0 ≡
      slice_index_or bits j 0 → i ≡ j
  bits_once i j li lj same =
      let P : ℕ → Type 0 = λ x. slice_get pairs x ≡ Some (Some i) in
      same_Some i j (same_Some (Some i) (Some j) (sym (subst P same (at_bit i li)) ∙ at_bit j lj))

  pub marks_of : (g : Graph) (size from : ℕ) → HaveOwnNodes g → length pairs ≡ length g.bits →
      from + length g.nodes ≤ size → AreMarks size from g.bits bits
  marks_of g size from own count fits = record {
    bits_there = λ i lt. (let e = bit_there i lt in omega arith);
    there = λ i lt. (let e = bit_there i lt in
        let f = own.there (slice_index_or bits i 0) (omega arith) in omega arith);
    once = λ i j li lj same. (
        let a = bit_there i li in
        let b = bit_there j lj in
        bits_once i j li lj (own.once (slice_index_or bits i 0) (slice_index_or bits j 0) (omega arith) (omega arith)
        (omega arith)));
  }

-- the marks of both sides
module _ (gold gate : Graph) (plan : Plan) (gold_own : HaveOwnNodes gold) (gate_own : HaveOwnNodes gate)
    (gold_count : length plan.gold.pairs ≡ length gold.bits) (gate_count : length plan.gate.pairs ≡ length gate.bits)
    (first second : List (Option ℕ))
    (one : Marked 0 gold.bits plan.gold.bits (length plan.gold.bits)
    (replicate (length gold.nodes + length gate.nodes) None) first)
    (two : Marked (length gold.nodes) gate.bits plan.gate.bits (length plan.gate.bits) first second) where
  in_gold : (i : ℕ) → i < length plan.pairs → own_in_gold gold plan i < length gold.nodes
  in_gold i lt =
      let n = plan.gold_count in
      let e = bit_there plan.gold.bits plan.gold.pairs plan.gold.inverse i (omega arith) in
      gold_own.there (slice_index_or plan.gold.bits i 0) (omega arith)

  plain : (i : ℕ) → own_in_gold gold plan i ≡ mark_of 0 gold.bits plan.gold.bits i
  plain i = omega arith

  pub both_marked : length (replicate {A = Option ℕ} (length gold.nodes + length gate.nodes) None) ≡
      length gold.nodes + length gate.nodes → ArePaired gold gate plan second
  both_marked size =
      let n = plan.gold_count in
      let m = plan.gate_count in
      record {
        count = two.count ∙ one.count ∙ size;
        gold_own = λ i lt. two.kept (own_in_gold gold plan i) (λ j less same. (
            let e = in_gold i lt in
            omega arith)) ∙ ap (pair_of first) (plain i) ∙ one.is i (omega arith);
        gate_own = λ i lt. two.is i (omega arith);
        only = λ k i e. elim (two.only k i e) [
          | inl is ↦ (let less = is.0 in ((omega arith), inr (sym is.1)))
          | inr before ↦ (elim (one.only k i before) [
            | inl is ↦ (let less = is.0 in ((omega arith), inl (sym is.1 ∙ sym (plain i))))
            | inr nothing ↦ (
                let f : None ≡ Some i = sym (none_there (length gold.nodes + length gate.nodes) k) ∙ nothing in
                absurd (cc))
          ])
        ];
      }

-- What stands on a stack of truth values after the operands of a word and after its operator.
use Rattle.std.proofs.Common.{◌≡◌, ℕ, suc, ◌+◌, ◌-◌, ◌<◌, ◌≤◌, List, Bool, false, not, ◌&&◌, length, slice_index_or, refl, arith, sym, ap, ◌∙◌, inl, inr}
use Rattle.std.proofs.lemmas.Bool.{cases_lt, lt-ltb, lt-leb}
use Rattle.eq_net.specs.declared.types.WordOp.{WordOp}
use Rattle.eq_net.specs.declared.types.RedOp.{RedOp}
use Rattle.eq_net.specs.Numbers.{Digits}
use Rattle.eq_net.specs.Meaning.{result_size}
use Rattle.eq_net.specs.Operators.{one_bit, extended, apply, negative, reduce, choose, has_free_sizes}
use Rattle.eq_net.specs.inner.Stack.{part, Replaces, Grows}
use Rattle.eq_net.proofs.Sums.{SameBelow}
use Rattle.eq_net.proofs.Below.{apply_below, reduce_below, negative_below, extended_below, choose_below}

-- the same digits, said in another way
pub replaced_same : (from : ℕ) (f g : Digits) (v w : ℕ) (old old' new : List Bool) → v ≡ w → ((j : ℕ) → j < w → f j ≡ g j) →
    ((k : ℕ) → k < from → slice_index_or old k false ≡ slice_index_or old' k false) → Replaces from f v old new → Replaces from g w old' new
replaced_same from f g v w old old' new e same below r = record {
  size = (let s = r.size in omega arith);
  kept = λ k lt. r.kept k lt ∙ below k lt;
  put = λ j lt. r.put j (omega arith) ∙ same j lt;
}

-- zeros that were put above
pub extended_by : (from count : ℕ) (old new : List Bool) → from ≤ length old → length old - from ≤ count → length new ≡ from + count →
    ((k : ℕ) → k < length old → slice_index_or new k false ≡ slice_index_or old k false) → ((k : ℕ) → length old ≤ k → slice_index_or new k false ≡ false) →
    Replaces from (extended (length old - from) (part old from)) count old new
extended_by from count old new there room size kept zeros = record {
  size = size;
  kept = λ k lt. kept k (omega arith);
  put = λ j lt. elim (cases_lt j (length old - from)) [
    | inl less ↦ kept (from + j) (omega arith) ∙ sym (ap (λ b. b && part old from j) (lt-ltb j (length old - from) less))
    | inr more ↦ zeros (from + j) (omega arith) ∙ sym (ap (λ b. b && part old from j) (lt-leb (suc j) (length old - from) (omega arith)))
  ];
}

-- how much a growth added
added : (f : Digits) (w : ℕ) (old new : List Bool) → Grows f w old new → length new - length old ≡ w
added f w old new g = (let s = g.size in omega arith)

module _ (f g : Digits) (v w : ℕ) (s0 s1 s2 : List Bool) (ga : Grows f v s0 s1) (gb : Grows g w s1 s2) where
  -- the first of two operands is where it was
  first_same : SameBelow v (part s2 (length s0)) f
  first_same j lt = gb.kept (length s0 + j) (let s = ga.size in omega arith) ∙ ga.put j lt

  second_same : SameBelow w (part s2 (length s1)) g
  second_same j lt = gb.put j lt

  below_both : (k : ℕ) → k < length s0 → slice_index_or s2 k false ≡ slice_index_or s0 k false
  below_both k lt = gb.kept k (let s = ga.size in omega arith) ∙ ga.kept k lt

  pub operated : (o : WordOp) (s3 : List Bool) → (has_free_sizes o ≡ false → v ≡ w) →
      Replaces (length s0) (apply o (length s1 - length s0) (length s2 - length s1) (part s2 (length s0)) (part s2 (length s1))) (result_size o (length s1 - length s0)) s2 s3 →
      Grows (apply o v w f g) (result_size o v) s0 s3
  operated o s3 sizes r =
      let x = added f v s0 s1 ga in
      let y = added g w s1 s2 gb in
      replaced_same (length s0) (apply o (length s1 - length s0) (length s2 - length s1) (part s2 (length s0)) (part s2 (length s1))) (apply o v w f g)
      (result_size o (length s1 - length s0)) (result_size o v) s2 s0 s3 (ap (result_size o) x)
      (λ j lt. ap (λ n. apply o n (length s2 - length s1) (part s2 (length s0)) (part s2 (length s1)) j) x ∙ ap (λ n. apply o v n (part s2 (length s0)) (part s2 (length s1)) j) y
      ∙ apply_below v w (part s2 (length s0)) (part s2 (length s1)) f g first_same second_same o j sizes lt)
      below_both r

  -- one word on top of another, with the higher bits
  pub stacked : (h : Digits) → ((j : ℕ) → j < v → h j ≡ f j) → ((j : ℕ) → j < w → h (v + j) ≡ g j) → Grows h (v + w) s0 s2
  stacked h low high = record {
    size = (let s = ga.size in let t = gb.size in omega arith);
    kept = below_both;
    put = λ j lt. elim (cases_lt j v) [
      | inl less ↦ first_same j less ∙ sym (low j less)
      | inr more ↦ (
          let at : length s0 + j ≡ length s1 + (j - v) = (let s = ga.size in omega arith) in
          let up : v + (j - v) ≡ j = omega arith in
          ap (λ k. slice_index_or s2 k false) at ∙ second_same (j - v) (omega arith) ∙ sym (high (j - v) (omega arith)) ∙ ap h up)
    ];
  }

module _ (f : Digits) (w : ℕ) (s0 s1 : List Bool) (g : Grows f w s0 s1) where
  below_one : (k : ℕ) → k < length s0 → slice_index_or s1 k false ≡ slice_index_or s0 k false
  below_one = g.kept

  pub flipped : (s2 : List Bool) → Replaces (length s0) (λ j. not (part s1 (length s0) j)) (length s1 - length s0) s1 s2 → Grows (λ j. not (f j)) w s0 s2
  flipped s2 r =
      replaced_same (length s0) (λ j. not (part s1 (length s0) j)) (λ j. not (f j)) (length s1 - length s0) w s1 s0 s2 (added f w s0 s1 g)
      (λ j lt. ap not (g.put j lt)) below_one r

  pub opposed : (s2 : List Bool) → Replaces (length s0) (negative (length s1 - length s0) (part s1 (length s0))) (length s1 - length s0) s1 s2 → Grows (negative w f) w s0 s2
  opposed s2 r =
      let x = added f w s0 s1 g in
      replaced_same (length s0) (negative (length s1 - length s0) (part s1 (length s0))) (negative w f) (length s1 - length s0) w s1 s0 s2 x
      (λ j lt. ap (λ n. negative n (part s1 (length s0)) j) x ∙ negative_below w j (part s1 (length s0)) f g.put) below_one r

  pub reduced_to : (o : RedOp) (s2 : List Bool) → Replaces (length s0) (one_bit (reduce o (length s1 - length s0) (part s1 (length s0)))) 1 s1 s2 → Grows (one_bit (reduce o w f)) 1 s0 s2
  reduced_to o s2 r =
      let x = added f w s0 s1 g in
      replaced_same (length s0) (one_bit (reduce o (length s1 - length s0) (part s1 (length s0)))) (one_bit (reduce o w f)) 1 1 s1 s0 s2 refl
      (λ j lt. ap (λ n. one_bit (reduce o n (part s1 (length s0))) j) x ∙ ap (λ b. one_bit b j) (reduce_below o w (part s1 (length s0)) f g.put)) below_one r

  pub lengthened : (n : ℕ) (s2 : List Bool) → Replaces (length s0) (extended (length s1 - length s0) (part s1 (length s0))) n s1 s2 → Grows (extended w f) n s0 s2
  lengthened n s2 r =
      let x = added f w s0 s1 g in
      replaced_same (length s0) (extended (length s1 - length s0) (part s1 (length s0))) (extended w f) n n s1 s0 s2 refl
      (λ j lt. ap (λ k. extended k (part s1 (length s0)) j) x ∙ extended_below w j (part s1 (length s0)) f g.put) below_one r

module _ (c f g : Digits) (u w : ℕ) (s0 s1 s2 s3 : List Bool) (gc : Grows c u s0 s1) (ga : Grows f w s1 s2) (gb : Grows g w s2 s3) where
  pub chosen : (s4 : List Bool) →
      Replaces (length s0) (choose (length s1 - length s0) (part s3 (length s0)) (part s3 (length s1)) (part s3 (length s2))) (length s2 - length s1) s3 s4 →
      Grows (choose u c f g) w s0 s4
  chosen s4 r =
      let x = added c u s0 s1 gc in
      let y = added f w s1 s2 ga in
      let a = ga.size in
      let b = gc.size in
      replaced_same (length s0) (choose (length s1 - length s0) (part s3 (length s0)) (part s3 (length s1)) (part s3 (length s2))) (choose u c f g)
      (length s2 - length s1) w s3 s0 s4 y
      (λ j lt. ap (λ n. choose n (part s3 (length s0)) (part s3 (length s1)) (part s3 (length s2)) j) x
      ∙ choose_below u w j (part s3 (length s0)) c (part s3 (length s1)) (part s3 (length s2)) f g
      (λ i li. gb.kept (length s0 + i) (omega arith) ∙ ga.kept (length s0 + i) (omega arith) ∙ gc.put i li)
      (λ i li. gb.kept (length s1 + i) (omega arith) ∙ ga.put i li) gb.put lt)
      (λ k lt. gb.kept k (omega arith) ∙ ga.kept k (omega arith) ∙ gc.kept k lt) r

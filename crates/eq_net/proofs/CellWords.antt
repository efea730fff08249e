-- Words as cells: each operator over what its operands have put on the stack.
use Rattle.std.proofs.Common.{◌≡◌, ℕ, zero, suc, ◌+◌, ◌-◌, ◌<◌, ◌≤◌, List, [], ◌∷◌, Bool, true, false, not, ◌&&◌, cond, nat_lt, drop, length, slice_get, slice_index_or, Option, Some, None, inl, inr, refl, arith, sym, ap, subst, ◌∙◌}
use Rattle.std.proofs.lemmas.Bool.{cases_lt, lt-leb, lt-ltb}
use Rattle.eq_net.specs.declared.cells.gates.Cell.{Cell}
use Rattle.eq_net.specs.declared.types.NetInfo.{NetInfo}
use Rattle.eq_net.specs.declared.types.WordOp.{WordOp}
use Rattle.eq_net.specs.declared.types.RedOp.{RedOp}
use Rattle.eq_net.specs.Meaning.{if_there, result_size, width}
use Rattle.eq_net.specs.Net.{word_at}
use Rattle.eq_net.specs.Numbers.{Digits}
use Rattle.eq_net.specs.Operators.{apply, choose, extended, has_free_sizes, negative, one_bit, reduce}
use Rattle.eq_net.specs.Tree.{Tree, join_all}
use Rattle.eq_net.specs.inner.Cells.{Valuation, Computes, Gives, Grown, Performs, Written, seen}
use Rattle.eq_net.specs.inner.Circuits.{Puts, bits_in, constant_number}
use Rattle.eq_net.proofs.Cellular.{grown_none, grown_twice, performs_same}
use Rattle.eq_net.proofs.Below.{apply_below, choose_below, negative_below, reduce_below}
use Rattle.eq_net.proofs.Trees.{rest_from}

pub none_number : (xs : List ℕ) (j : ℕ) → None ≡ slice_get xs j → 0 ≡ slice_index_or xs j 0
none_number [] j e = refl
none_number (x ∷ xs) zero e = absurd (cc)
none_number (x ∷ xs) (suc j) e = none_number xs j e

pub get_is : {X : Type 0} (xs : List X) (j : ℕ) (x : X) → j < length xs → x ≡ slice_index_or xs j x → slice_get xs j ≡ Some x
get_is [] j x lt e = absurd (omega arith)
get_is (y ∷ ys) zero x lt e = ap Some (sym e)
get_is (y ∷ ys) (suc j) x lt e = get_is ys j x (omega arith) e

-- one operation after another, the second from where the first began
pub performs_after : (w u from : ℕ) (f h : Valuation → Digits) (c0 c1 c2 : List Cell) (s0 s1 s2 : List ℕ) → Performs w (length s0) f c0 c1 s0 s1 →
    from ≡ length s0 → Performs u from h c1 c2 s1 s2 → Performs u (length s0) h c0 c2 s0 s2
performs_after w u from f h c0 c1 c2 s0 s1 s2 p e q =
    let P : ℕ → Type 0 = λ n. Performs u n h c1 c2 s1 s2 in
    let r = subst P e q in
    record {
      grown = grown_twice c0 c1 c2 p.grown r.grown;
      written = record { size = r.written.size; kept = λ j lt. r.written.kept j lt ∙ p.written.kept j lt };
      spells = r.spells;
    }

-- ---- one operand

module _ (w : ℕ) (f : Valuation → Digits) (c0 c1 : List Cell) (s0 s1 : List ℕ) (p : Performs w (length s0) f c0 c1 s0 s1) where
  only : (c2 : List Cell) → Grown c1 c2 → (v : Valuation) → Computes c2 v → (i : ℕ) → i < w → seen v s1 (length s0) i ≡ f v i
  only c2 g v h i lt = (p.spells i lt).value v (g.before v h)

  width_is : length s1 - length s0 ≡ w
  width_is = (let s = p.written.size in omega arith)

  pub negated_word : (from : ℕ) (c2 : List Cell) (s2 : List ℕ) → from ≡ length s0 →
      Performs (length s1 - from) from (λ v j. not (seen v s1 from j)) c1 c2 s1 s2 → Performs w (length s0) (λ v j. not (f v j)) c0 c2 s0 s2
  negated_word from c2 s2 e q =
      let P : ℕ → Type 0 = λ n. Performs (length s1 - n) n (λ v j. not (seen v s1 n j)) c1 c2 s1 s2 in
      let Q : ℕ → Type 0 = λ n. Performs n (length s0) (λ v j. not (seen v s1 (length s0) j)) c1 c2 s1 s2 in
      let r = subst Q width_is (subst P e q) in
      performs_after w w (length s0) f (λ v j. not (f v j)) c0 c1 c2 s0 s1 s2 p refl
      (performs_same w w (length s0) (λ v j. not (seen v s1 (length s0) j)) (λ v j. not (f v j)) c1 c2 s1 s2 refl (λ v h j lt. ap not (only c2 r.grown v h j lt)) r)

  pub opposed_word : (from : ℕ) (c2 : List Cell) (s2 : List ℕ) → from ≡ length s0 →
      Performs (length s1 - from) from (λ v. negative (length s1 - from) (seen v s1 from)) c1 c2 s1 s2 → Performs w (length s0) (λ v. negative w (f v)) c0 c2 s0 s2
  opposed_word from c2 s2 e q =
      let P : ℕ → Type 0 = λ n. Performs (length s1 - n) n (λ v. negative (length s1 - n) (seen v s1 n)) c1 c2 s1 s2 in
      let Q : ℕ → Type 0 = λ n. Performs n (length s0) (λ v. negative n (seen v s1 (length s0))) c1 c2 s1 s2 in
      let r = subst Q width_is (subst P e q) in
      performs_after w w (length s0) f (λ v. negative w (f v)) c0 c1 c2 s0 s1 s2 p refl
      (performs_same w w (length s0) (λ v. negative w (seen v s1 (length s0))) (λ v. negative w (f v)) c1 c2 s1 s2 refl
      (λ v h j lt. negative_below w j (seen v s1 (length s0)) (f v) (only c2 r.grown v h)) r)

  pub reduced_word : (o : RedOp) (from : ℕ) (c2 : List Cell) (s2 : List ℕ) → from ≡ length s0 →
      Performs 1 from (λ v. one_bit (reduce o (length s1 - from) (seen v s1 from))) c1 c2 s1 s2 → Performs 1 (length s0) (λ v. one_bit (reduce o w (f v))) c0 c2 s0 s2
  reduced_word o from c2 s2 e q =
      let P : ℕ → Type 0 = λ n. Performs 1 n (λ v. one_bit (reduce o (length s1 - n) (seen v s1 n))) c1 c2 s1 s2 in
      let Q : ℕ → Type 0 = λ n. Performs 1 (length s0) (λ v. one_bit (reduce o n (seen v s1 (length s0)))) c1 c2 s1 s2 in
      let r = subst Q width_is (subst P e q) in
      performs_after w 1 (length s0) f (λ v. one_bit (reduce o w (f v))) c0 c1 c2 s0 s1 s2 p refl
      (performs_same 1 1 (length s0) (λ v. one_bit (reduce o w (seen v s1 (length s0)))) (λ v. one_bit (reduce o w (f v))) c1 c2 s1 s2 refl
      (λ v h j lt. ap (λ t. one_bit t j) (reduce_below o w (seen v s1 (length s0)) (f v) (only c2 r.grown v h))) r)

  pub extended_word : (n more : ℕ) (s2 : List ℕ) → w ≤ n → more ≡ n - w → Written (length s1) more s1 s2 →
      ((j : ℕ) → length s1 ≤ j → j < length s2 → slice_index_or s2 j 0 ≡ 0) → Performs n (length s0) (λ v. extended w (f v)) c0 c1 s0 s2
  extended_word n more s2 le e more_written zeros = record {
    grown = p.grown;
    written = record {
      size = (let s = p.written.size in let t = more_written.size in omega arith);
      kept = λ j lt. more_written.kept j (let s = p.written.size in omega arith) ∙ p.written.kept j lt;
    };
    spells = λ j lt. elim (cases_lt j w) [
      | inl less ↦ (
          let at : slice_index_or s2 (length s0 + j) 0 ≡ slice_index_or s1 (length s0 + j) 0 = more_written.kept (length s0 + j) (let s = p.written.size in omega arith) in
          let t : nat_lt j w ≡ true = lt-ltb j w less in
          let P : ℕ → Type 0 = λ m. Gives c1 m (λ v. extended w (f v) j) in
          subst P (sym at) (record { value = λ v h. (p.spells j less).value v h ∙ sym (ap (λ b. b && f v j) t) }))
      | inr high ↦ (
          let at : slice_index_or s2 (length s0 + j) 0 ≡ 0 = zeros (length s0 + j) (let s = p.written.size in omega arith) (let s = p.written.size in let u = more_written.size in omega arith) in
          let t : nat_lt j w ≡ false = lt-leb (suc j) w (omega arith) in
          let P : ℕ → Type 0 = λ m. Gives c1 m (λ v. extended w (f v) j) in
          subst P (sym at) (record { value = λ v h. h.false_first ∙ sym (ap (λ b. b && f v j) t) }))
    ];
  }

-- ---- two operands

module _ (u w : ℕ) (f g : Valuation → Digits) (c0 c1 c2 : List Cell) (s0 s1 s2 : List ℕ) (p : Performs u (length s0) f c0 c1 s0 s1) (q : Performs w (length s1) g c1 c2 s1 s2) where
  first : (c3 : List Cell) → Grown c2 c3 → (v : Valuation) → Computes c3 v → (j : ℕ) → j < u → seen v s2 (length s0) j ≡ f v j
  first c3 o v h j lt = ap v.cells (q.written.kept (length s0 + j) (let s = p.written.size in omega arith)) ∙ (p.spells j lt).value v (q.grown.before v (o.before v h))

  second : (c3 : List Cell) → Grown c2 c3 → (v : Valuation) → Computes c3 v → (j : ℕ) → j < w → seen v s2 (length s1) j ≡ g v j
  second c3 o v h j lt = (q.spells j lt).value v (o.before v h)

  pub operated_word : (o : WordOp) (left right : ℕ) (c3 : List Cell) (s3 : List ℕ) → (has_free_sizes o ≡ false → u ≡ w) → left ≡ length s0 → right ≡ length s1 →
      Performs (result_size o (right - left)) left (λ v. apply o (right - left) (length s2 - right) (seen v s2 left) (seen v s2 right)) c2 c3 s2 s3 →
      Performs (result_size o u) (length s0) (λ v. apply o u w (f v) (g v)) c0 c3 s0 s3
  operated_word o left right c3 s3 sizes el er r =
      let su : length s1 - length s0 ≡ u = (let s = p.written.size in omega arith) in
      let sw : length s2 - length s1 ≡ w = (let s = q.written.size in omega arith) in
      let P : ℕ → ℕ → ℕ → ℕ → Type 0 = λ a b m n. Performs (result_size o m) a (λ v. apply o m n (seen v s2 a) (seen v s2 b)) c2 c3 s2 s3 in
      let A : ℕ → Type 0 = λ a. P a right (right - a) (length s2 - right) in
      let B : ℕ → Type 0 = λ b. P (length s0) b (b - length s0) (length s2 - b) in
      let C : ℕ → Type 0 = λ m. P (length s0) (length s1) m (length s2 - length s1) in
      let D : ℕ → Type 0 = λ n. P (length s0) (length s1) u n in
      let t = subst D sw (subst C su (subst B er (subst A el r))) in
      let x = performs_same (result_size o u) (result_size o u) (length s0) (λ v. apply o u w (seen v s2 (length s0)) (seen v s2 (length s1))) (λ v. apply o u w (f v) (g v)) c2 c3 s2 s3 refl
      (λ v h j lt. apply_below u w (seen v s2 (length s0)) (seen v s2 (length s1)) (f v) (g v) (first c3 t.grown v h) (second c3 t.grown v h) o j sizes lt) t in
      record {
        grown = grown_twice c0 c2 c3 (grown_twice c0 c1 c2 p.grown q.grown) x.grown;
        written = record { size = x.written.size; kept = λ j lt. x.written.kept j lt ∙ q.written.kept j (let s = p.written.size in omega arith) ∙ p.written.kept j lt };
        spells = x.spells;
      }

  -- one word on top of another, with the higher bits
  pub joined_word : Performs (w + u) (length s0) (λ v j. cond {A = Bool} (nat_lt j u) (f v j) (g v (j - u))) c0 c2 s0 s2
  joined_word = record {
    grown = grown_twice c0 c1 c2 p.grown q.grown;
    written = record { size = (let s = p.written.size in let t = q.written.size in omega arith); kept = λ j lt. q.written.kept j (let s = p.written.size in omega arith) ∙ p.written.kept j lt };
    spells = λ j lt. elim (cases_lt j u) [
      | inl less ↦ (
          let t : nat_lt j u ≡ true = lt-ltb j u less in
          let at : slice_index_or s2 (length s0 + j) 0 ≡ slice_index_or s1 (length s0 + j) 0 = q.written.kept (length s0 + j) (let s = p.written.size in omega arith) in
          let P : ℕ → Type 0 = λ m. Gives c2 m (λ v. cond {A = Bool} (nat_lt j u) (f v j) (g v (j - u))) in
          subst P (sym at) (record { value = λ v h. (p.spells j less).value v (q.grown.before v h) ∙ sym (ap (λ b. cond {A = Bool} b (f v j) (g v (j - u))) t) }))
      | inr more ↦ (
          let t : nat_lt j u ≡ false = lt-leb (suc j) u (omega arith) in
          let at : length s1 + (j - u) ≡ length s0 + j = (let s = p.written.size in omega arith) in
          let P : ℕ → Type 0 = λ m. Gives c2 (slice_index_or s2 m 0) (λ v. cond {A = Bool} (nat_lt j u) (f v j) (g v (j - u))) in
          subst P at (record { value = λ v h. (q.spells (j - u) (omega arith)).value v h ∙ sym (ap (λ b. cond {A = Bool} b (f v j) (g v (j - u))) t) }))
    ];
  }

-- ---- a choice

module _ (t u : ℕ) (k f g : Valuation → Digits) (c0 c1 c2 c3 : List Cell) (s0 s1 s2 s3 : List ℕ)
    (o : Performs t (length s0) k c0 c1 s0 s1) (p : Performs u (length s1) f c1 c2 s1 s2) (q : Performs u (length s2) g c2 c3 s2 s3) where
  pub chosen_word : (from left right : ℕ) (c4 : List Cell) (s4 : List ℕ) → from ≡ length s0 → left ≡ length s1 → right ≡ length s2 →
      Performs (right - left) from (λ v. choose (left - from) (seen v s3 from) (seen v s3 left) (seen v s3 right)) c3 c4 s3 s4 →
      Performs u (length s0) (λ v. choose t (k v) (f v) (g v)) c0 c4 s0 s4
  chosen_word from left right c4 s4 ef el er r =
      let a = o.written.size in
      let b = p.written.size in
      let st : length s1 - length s0 ≡ t = omega arith in
      let su : length s2 - length s1 ≡ u = omega arith in
      let P : ℕ → ℕ → ℕ → ℕ → ℕ → Type 0 = λ x y z m n. Performs n x (λ v. choose m (seen v s3 x) (seen v s3 y) (seen v s3 z)) c3 c4 s3 s4 in
      let A : ℕ → Type 0 = λ x. P x left right (left - x) (right - left) in
      let B : ℕ → Type 0 = λ y. P (length s0) y right (y - length s0) (right - y) in
      let C : ℕ → Type 0 = λ z. P (length s0) (length s1) z (length s1 - length s0) (z - length s1) in
      let D : ℕ → Type 0 = λ m. P (length s0) (length s1) (length s2) m (length s2 - length s1) in
      let E : ℕ → Type 0 = λ n. P (length s0) (length s1) (length s2) t n in
      let x = subst E su (subst D st (subst C er (subst B el (subst A ef r)))) in
      let y = performs_same u u (length s0) (λ v. choose t (seen v s3 (length s0)) (seen v s3 (length s1)) (seen v s3 (length s2))) (λ v. choose t (k v) (f v) (g v)) c3 c4 s3 s4 refl
      (λ v h j lt. choose_below t u j (seen v s3 (length s0)) (k v) (seen v s3 (length s1)) (seen v s3 (length s2)) (f v) (g v)
      (λ i li. ap v.cells (q.written.kept (length s0 + i) (omega arith) ∙ p.written.kept (length s0 + i) (omega arith)) ∙ (o.spells i li).value v (p.grown.before v (q.grown.before v (x.grown.before v h))))
      (λ i li. ap v.cells (q.written.kept (length s1 + i) (omega arith)) ∙ (p.spells i li).value v (q.grown.before v (x.grown.before v h)))
      (λ i li. (q.spells i li).value v (x.grown.before v h)) lt) x in
      record {
        grown = grown_twice c0 c3 c4 (grown_twice c0 c2 c3 (grown_twice c0 c1 c2 o.grown p.grown) q.grown) y.grown;
        written = record { size = y.written.size; kept = λ j lt. y.written.kept j lt ∙ q.written.kept j (omega arith) ∙ p.written.kept j (omega arith) ∙ o.written.kept j lt };
        spells = y.spells;
      }

-- ---- cells that are there already

none_there : {X : Type 0} (xs : List X) (j : ℕ) → j < length xs → slice_get xs j ≡ None → ⊥
none_there [] j lt e = absurd (omega arith)
none_there (x ∷ xs) zero lt e = absurd (cc)
none_there (x ∷ xs) (suc j) lt e = none_there xs j (omega arith) e

pub pointed : {X : Type 0} (xs : List X) (number : X → ℕ) (c : List Cell) (s0 s1 : List ℕ) → Written (length s0) (length xs) s0 s1 →
    ((j : ℕ) → j < length xs → slice_index_or s1 (length s0 + j) 0 ≡ if_there 0 number (slice_get xs j)) →
    Performs (length xs) (length s0) (λ v j. if_there false (λ a. v.cells (number a)) (slice_get xs j)) c c s0 s1
pointed {X} xs number c s0 s1 written put = record {
  grown = grown_none c;
  written = written;
  spells = λ j lt. (
      let P : ℕ → Type 0 = λ m. Gives c m (λ v. if_there false (λ a. v.cells (number a)) (slice_get xs j)) in
      subst P (sym (put j lt)) (here (slice_get xs j) (none_there xs j lt)));
}
  where
    here : (o : Option X) → (o ≡ None → ⊥) → Gives c (if_there 0 number o) (λ v. if_there false (λ a. v.cells (number a)) o)
    here None there = absurd (there refl)
    here (Some a) there = record { value = λ v h. refl }

-- constants
pub constant_value : (c : List Cell) (x : Bool) (v : Valuation) → Computes c v → v.cells (constant_number x) ≡ x
constant_value c true v h = h.then_true
constant_value c false v h = h.false_first

pub constant_word : (bits : List Bool) (c : List Cell) (s0 s1 : List ℕ) → Written (length s0) (length bits) s0 s1 →
    ((j : ℕ) → j < length bits → slice_index_or s1 (length s0 + j) 0 ≡ constant_number (slice_index_or bits j false)) →
    Performs (length bits) (length s0) (λ v j. slice_index_or bits j false) c c s0 s1
constant_word bits c s0 s1 written put = record {
  grown = grown_none c;
  written = written;
  spells = λ j lt. record { value = λ v h. ap v.cells (put j lt) ∙ constant_value c (slice_index_or bits j false) v h };
}

-- one part more of a concatenation, the one before those that stand
pub part_before : (nets : List NetInfo) (rows : List (List ℕ)) (ts : List Tree) (k : ℕ) (c0 c1 c2 : List Cell) (s0 s1 s2 : List ℕ) → k < length ts →
    Puts nets rows (join_all (drop (suc k) ts)) c0 c1 s0 s1 → Puts nets rows (word_at ts k) c1 c2 s1 s2 → Puts nets rows (join_all (drop k ts)) c0 c2 s0 s2
part_before nets rows ts k c0 c1 c2 s0 s1 s2 lt p q =
    let P : List Tree → Type 0 = λ us. Puts nets rows (join_all us) c0 c2 s0 s2 in
    subst P (sym (rest_from ts k lt))
    (joined_word (width (join_all (drop (suc k) ts))) (width (word_at ts k)) (bits_in nets rows (join_all (drop (suc k) ts))) (bits_in nets rows (word_at ts k)) c0 c1 c2 s0 s1 s2 p q)

-- before the first part
pub no_parts : (nets : List NetInfo) (rows : List (List ℕ)) (ts : List Tree) (k : ℕ) (c : List Cell) (s : List ℕ) → length ts ≤ k → Puts nets rows (join_all (drop k ts)) c c s s
no_parts nets rows [] zero c s le = record { grown = grown_none c; written = record { size = omega arith; kept = λ k lt. refl }; spells = λ j lt. absurd (omega arith) }
no_parts nets rows [] (suc k) c s le = record { grown = grown_none c; written = record { size = omega arith; kept = λ k lt. refl }; spells = λ j lt. absurd (omega arith) }
no_parts nets rows (t ∷ ts) zero c s le = absurd (omega arith)
no_parts nets rows (t ∷ ts) (suc k) c s le = no_parts nets rows ts k c s (omega arith)

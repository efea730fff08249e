-- What stands on the stack after the operands of a word and after its operator.
use Rattle.std.proofs.Common.{◌≡◌, ℕ, zero, suc, ◌+◌, ◌-◌, ◌*◌, ◌<◌, ◌≤◌, List, [], ◌∷◌, Bool, true, false, not, ◌&&◌, ◌==◌, cond, nat_lt, drop, length, slice_get, slice_index_or, Option, Some, None, IfSome, All, inl, inr, refl, arith, sym, ap, subst, ◌∙◌}
use Rattle.std.proofs.lemmas.Bool.{cases_lt, lt-ltb, lt-leb}
use Rattle.std.proofs.lemmas.List.Elements.{All-head, All-tail}
use Rattle.eq_model.specs.System.{Values}
use Rattle.eq_bits.specs.declared.node.Node.{Node}
use Rattle.eq_net.specs.declared.types.NetInfo.{NetInfo}
use Rattle.eq_net.specs.declared.types.WordOp.{WordOp}
use Rattle.eq_net.specs.declared.types.WordOp.TheVariants as op
use Rattle.eq_net.specs.declared.types.RedOp.{RedOp}
use Rattle.eq_net.specs.Numbers.{Digits, all_ones}
use Rattle.eq_net.specs.Meaning.{cost_of, if_there, result_size, width}
use Rattle.eq_net.specs.Net.{word_at}
use Rattle.eq_net.specs.Tree.{Tree, join_all}
use Rattle.eq_net.specs.Operators.{apply, apply_cost, extended, has_free_sizes, negative, one_bit, reduce, reduce_cost}
use Rattle.eq_blast.specs.inner.Wiring.{Computes, IsClosed}
use Rattle.eq_blast.specs.inner.Growing.{Gives, Grown, HasConstants}
use Rattle.eq_blast.specs.inner.Needs.{needs, one_needs}
use Rattle.eq_blast.specs.inner.Stack.{Performs, Written, seen}
use Rattle.eq_blast.specs.inner.Words.{Puts, Ready, RowsThere, asks_in, bits_in, row}
use Rattle.eq_blast.proofs.Layers.{rest_from}
use Rattle.eq_blast.proofs.Growth.{both_of, closed_before, computed_before, constants_still, gives_still, grown_more, grown_none, itself, grown_twice, left_of, right_of}
use Rattle.eq_blast.proofs.Performed.{all_same, performs_same, there_from, zero_has, zero_value}
use Rattle.eq_blast.proofs.Tested.{one_weaker}

-- true where the other is, below n
abbrev pub Within : ℕ → Digits → Digits → Type 0
Within n a b = (i : ℕ) → i < n → a i ≡ true → b i ≡ true

both_within : (x y x' y' : Bool) → (x ≡ true → x' ≡ true) → (y ≡ true → y' ≡ true) → (x && y) ≡ true → (x' && y') ≡ true
both_within x y x' y' f g h = both_of x' y' (f (left_of x y h)) (g (right_of x y h))

module _ (m n : ℕ) (a b a' b' : Digits) (fa : Within m a a') (fb : Within n b b') where
  both_all : (all_ones m a && all_ones n b) ≡ true → (all_ones m a' && all_ones n b') ≡ true
  both_all = both_within (all_ones m a) (all_ones n b) (all_ones m a') (all_ones n b') (all_same m a a' fa) (all_same n b b' fb)

  both_at : (j : ℕ) → j < m → m ≡ n → (a j && b j) ≡ true → (a' j && b' j) ≡ true
  both_at j lt e = both_within (a j) (b j) (a' j) (b' j) (fa j lt) (fb j (omega arith))

  both_to : (j : ℕ) → j < m → m ≡ n → (all_ones (suc j) a && all_ones (suc j) b) ≡ true → (all_ones (suc j) a' && all_ones (suc j) b') ≡ true
  both_to j lt e = both_within (all_ones (suc j) a) (all_ones (suc j) b) (all_ones (suc j) a') (all_ones (suc j) b')
      (all_same (suc j) a a' (λ i li. fa i (omega arith))) (all_same (suc j) b b' (λ i li. fb i (omega arith)))

  one_all : (j : ℕ) → one_needs (all_ones m a && all_ones n b) j ≡ true → one_needs (all_ones m a' && all_ones n b') j ≡ true
  one_all j = one_weaker (all_ones m a && all_ones n b) (all_ones m a' && all_ones n b') (j == 0) both_all

  pub needs_within : (o : WordOp) (j : ℕ) → (has_free_sizes o ≡ false → m ≡ n) → j < result_size o m → needs o m n a b j ≡ true → needs o m n a' b' j ≡ true
  needs_within op.And j sizes lt = both_at j lt (sizes refl)
  needs_within op.Or j sizes lt = both_at j lt (sizes refl)
  needs_within op.Xor j sizes lt = both_at j lt (sizes refl)
  needs_within op.Xnor j sizes lt = both_at j lt (sizes refl)
  needs_within op.Add j sizes lt = both_to j lt (sizes refl)
  needs_within op.Sub j sizes lt = both_to j lt (sizes refl)
  needs_within op.Shl j sizes lt = both_within (all_ones (suc j) a) (all_ones n b) (all_ones (suc j) a') (all_ones n b')
      (all_same (suc j) a a' (λ i li. fa i (omega arith))) (all_same n b b' fb)
  needs_within op.Shr j sizes lt = both_within (all_ones (m - j) (λ i. a (j + i))) (all_ones n b) (all_ones (m - j) (λ i. a' (j + i))) (all_ones n b')
      (all_same (m - j) (λ i. a (j + i)) (λ i. a' (j + i)) (λ i li. fa (j + i) (omega arith))) (all_same n b b' fb)
  needs_within op.Eq j sizes lt = one_all j
  needs_within op.Ne j sizes lt = one_all j
  needs_within op.Lt j sizes lt = one_all j
  needs_within op.Le j sizes lt = one_all j
  needs_within op.Gt j sizes lt = one_all j
  needs_within op.Ge j sizes lt = one_all j
  needs_within op.LogAnd j sizes lt = one_all j
  needs_within op.LogOr j sizes lt = one_all j

-- one operation after another, the second from where the first began
pub performs_after : (k l w v from : ℕ) (f g h i : Values → Digits) (b0 b1 b2 : List Node) (s0 s1 s2 : List ℕ) → Performs k w (length s0) f g b0 b1 s0 s1 →
    from ≡ length s0 → Performs l v from h i b1 b2 s1 s2 → Performs (k + l) v (length s0) h i b0 b2 s0 s2
performs_after k l w v from f g h i b0 b1 b2 s0 s1 s2 p e q =
    let P : ℕ → Type 0 = λ n. Performs l v n h i b1 b2 s1 s2 in
    let r = subst P e q in
    record {
      grown = grown_twice k l b0 b1 b2 p.grown r.grown;
      written = record { size = r.written.size; kept = λ j lt. r.written.kept j lt ∙ p.written.kept j lt };
      spells = r.spells;
    }

-- what a word finds is there after another one
pub ready_after : (nets : List NetInfo) (earlier : List (List ℕ)) (k w : ℕ) (f g : Values → Digits) (b0 b1 : List Node) (s0 s1 : List ℕ) →
    Ready nets earlier b0 s0 → Performs k w (length s0) f g b0 b1 s0 s1 → Ready nets earlier b1 s1
ready_after nets earlier k w f g b0 b1 s0 s1 r p = record {
  constants = constants_still k b0 b1 p.grown r.constants;
  bits = (let s = p.grown.size in let b = r.bits in omega arith);
  rows = λ i lt j lj. (let h = r.rows i lt j lj in let s = p.grown.size in omega arith);
  there = there_from k w (length s0) b0 b1 s0 s1 f g (omega arith) r.there p;
}

-- ---- one operand

module _ (v k : ℕ) (f h : Values → Digits) (b0 b1 : List Node) (s0 s1 : List ℕ) (p : Performs k v (length s0) f h b0 b1 s0 s1) where
  module _ (l : ℕ) (b2 : List Node) (g : Grown l b1 b2) where
    only_value : (x : Values) → Computes b2 x → (i : ℕ) → i < v → seen x s1 (length s0) i ≡ f x i
    only_value x c i lt = (p.spells i lt).value x (computed_before l b1 b2 g x c)

    only_has : (d : Values) → IsClosed b2 d → Within v (h d) (seen d s1 (length s0))
    only_has d c i lt e = (p.spells i lt).has d (closed_before l b1 b2 g d c) e

  width_is : length s1 - length s0 ≡ v
  width_is = (let s = p.written.size in omega arith)

  pub negated_word : (from : ℕ) (b2 : List Node) (s2 : List ℕ) → from ≡ length s0 →
      Performs (length s1 - from) (length s1 - from) from (λ x j. not (seen x s1 from j)) (λ d j. seen d s1 from j) b1 b2 s1 s2 →
      Performs (k + v) v (length s0) (λ x j. not (f x j)) h b0 b2 s0 s2
  negated_word from b2 s2 e q =
      let P : ℕ → Type 0 = λ n. Performs (length s1 - n) (length s1 - n) n (λ x j. not (seen x s1 n j)) (λ d j. seen d s1 n j) b1 b2 s1 s2 in
      let Q : ℕ → Type 0 = λ n. Performs n n (length s0) (λ x j. not (seen x s1 (length s0) j)) (λ d j. seen d s1 (length s0) j) b1 b2 s1 s2 in
      let r = subst Q width_is (subst P e q) in
      performs_after k v v v (length s0) f h (λ x j. not (f x j)) h b0 b1 b2 s0 s1 s2 p refl
      (performs_same v v v v (length s0) (λ x j. not (seen x s1 (length s0) j)) (λ d j. seen d s1 (length s0) j) (λ x j. not (f x j)) h b1 b2 s1 s2 (omega arith) refl
      (λ x c j lt. ap not (only_value v b2 r.grown x c j lt)) (λ d c j lt. only_has v b2 r.grown d c j lt) r)

  pub opposed_word : ((n j : ℕ) (a b : Digits) → ((i : ℕ) → i < n → a i ≡ b i) → negative n a j ≡ negative n b j) → (from : ℕ) (b2 : List Node) (s2 : List ℕ) → from ≡ length s0 →
      Performs (6 * (length s1 - from)) (length s1 - from) from (λ x. negative (length s1 - from) (seen x s1 from)) (λ d j. all_ones (suc j) (seen d s1 from)) b1 b2 s1 s2 →
      Performs (k + 6 * v) v (length s0) (λ x. negative v (f x)) (λ d j. all_ones (suc j) (h d)) b0 b2 s0 s2
  opposed_word law from b2 s2 e q =
      let P : ℕ → Type 0 = λ n. Performs (6 * (length s1 - n)) (length s1 - n) n (λ x. negative (length s1 - n) (seen x s1 n)) (λ d j. all_ones (suc j) (seen d s1 n)) b1 b2 s1 s2 in
      let Q : ℕ → Type 0 = λ n. Performs (6 * n) n (length s0) (λ x. negative n (seen x s1 (length s0))) (λ d j. all_ones (suc j) (seen d s1 (length s0))) b1 b2 s1 s2 in
      let r = subst Q width_is (subst P e q) in
      performs_after k (6 * v) v v (length s0) f h (λ x. negative v (f x)) (λ d j. all_ones (suc j) (h d)) b0 b1 b2 s0 s1 s2 p refl
      (performs_same (6 * v) (6 * v) v v (length s0) (λ x. negative v (seen x s1 (length s0))) (λ d j. all_ones (suc j) (seen d s1 (length s0)))
      (λ x. negative v (f x)) (λ d j. all_ones (suc j) (h d)) b1 b2 s1 s2 (omega arith) refl
      (λ x c j lt. law v j (seen x s1 (length s0)) (f x) (only_value (6 * v) b2 r.grown x c))
      (λ d c j lt e2. all_same (suc j) (h d) (seen d s1 (length s0)) (λ i li. only_has (6 * v) b2 r.grown d c i (omega arith)) e2) r)

  pub reduced_word : ((o : RedOp) (n : ℕ) (a b : Digits) → ((i : ℕ) → i < n → a i ≡ b i) → reduce o n a ≡ reduce o n b) → (o : RedOp) (from : ℕ) (b2 : List Node) (s2 : List ℕ) → from ≡ length s0 →
      Performs (reduce_cost o (length s1 - from)) 1 from (λ x. one_bit (reduce o (length s1 - from) (seen x s1 from))) (λ d. one_needs (all_ones (length s1 - from) (seen d s1 from))) b1 b2 s1 s2 →
      Performs (k + reduce_cost o v) 1 (length s0) (λ x. one_bit (reduce o v (f x))) (λ d. one_needs (all_ones v (h d))) b0 b2 s0 s2
  reduced_word law o from b2 s2 e q =
      let P : ℕ → Type 0 = λ n. Performs (reduce_cost o (length s1 - n)) 1 n (λ x. one_bit (reduce o (length s1 - n) (seen x s1 n))) (λ d. one_needs (all_ones (length s1 - n) (seen d s1 n))) b1 b2 s1 s2 in
      let Q : ℕ → Type 0 = λ n. Performs (reduce_cost o n) 1 (length s0) (λ x. one_bit (reduce o n (seen x s1 (length s0)))) (λ d. one_needs (all_ones n (seen d s1 (length s0)))) b1 b2 s1 s2 in
      let r = subst Q width_is (subst P e q) in
      performs_after k (reduce_cost o v) v 1 (length s0) f h (λ x. one_bit (reduce o v (f x))) (λ d. one_needs (all_ones v (h d))) b0 b1 b2 s0 s1 s2 p refl
      (performs_same (reduce_cost o v) (reduce_cost o v) 1 1 (length s0) (λ x. one_bit (reduce o v (seen x s1 (length s0)))) (λ d. one_needs (all_ones v (seen d s1 (length s0))))
      (λ x. one_bit (reduce o v (f x))) (λ d. one_needs (all_ones v (h d))) b1 b2 s1 s2 (omega arith) refl
      (λ x c j lt. ap (λ t. one_bit t j) (law o v (seen x s1 (length s0)) (f x) (only_value (reduce_cost o v) b2 r.grown x c)))
      (λ d c j lt. one_weaker (all_ones v (h d)) (all_ones v (seen d s1 (length s0))) (j == 0) (all_same v (h d) (seen d s1 (length s0)) (only_has (reduce_cost o v) b2 r.grown d c))) r)

  pub extended_word : (n more : ℕ) (s2 : List ℕ) → HasConstants b1 → v ≤ n → more ≡ n - v → Written (length s1) more s1 s2 →
      ((j : ℕ) → length s1 ≤ j → j < length s2 → slice_index_or s2 j 0 ≡ 0) →
      Performs k n (length s0) (λ x. extended v (f x)) (λ d j. cond {A = Bool} (nat_lt j v) (h d j) true) b0 b1 s0 s2
  extended_word n more s2 base le e w zeros = record {
    grown = p.grown;
    written = record {
      size = (let s = p.written.size in let t = w.size in omega arith);
      kept = λ j lt. w.kept j (let s = p.written.size in omega arith) ∙ p.written.kept j lt;
    };
    spells = λ j lt. elim (cases_lt j v) [
      | inl less ↦ (
          let at : slice_index_or s2 (length s0 + j) 0 ≡ slice_index_or s1 (length s0 + j) 0 = w.kept (length s0 + j) (let s = p.written.size in omega arith) in
          let t : nat_lt j v ≡ true = lt-ltb j v less in
          let i = p.spells j less in
          let P : ℕ → Type 0 = λ m. Gives b1 m (λ x. extended v (f x) j) (λ d. cond {A = Bool} (nat_lt j v) (h d j) true) in
          subst P (sym at) (record {
            there = i.there;
            value = λ x c. i.value x c ∙ sym (ap (λ b. b && f x j) t);
            has = λ d c o. i.has d c (sym (ap (λ b. cond {A = Bool} b (h d j) true) t) ∙ o);
          }))
      | inr more2 ↦ (
          let at : slice_index_or s2 (length s0 + j) 0 ≡ 0 = zeros (length s0 + j) (let s = p.written.size in omega arith) (let s = p.written.size in let u = w.size in omega arith) in
          let t : nat_lt j v ≡ false = lt-leb (suc j) v (omega arith) in
          let P : ℕ → Type 0 = λ m. Gives b1 m (λ x. extended v (f x) j) (λ d. cond {A = Bool} (nat_lt j v) (h d j) true) in
          subst P (sym at) (record {
            there = (let r = base.room in omega arith);
            value = λ x c. zero_value b1 base x c ∙ sym (ap (λ b. b && f x j) t);
            has = λ d c o. zero_has b1 base d c;
          }))
    ];
  }

-- ---- two operands

module _ (v w k l : ℕ) (f h g i : Values → Digits) (b0 b1 b2 : List Node) (s0 s1 s2 : List ℕ) (p : Performs k v (length s0) f h b0 b1 s0 s1) (q : Performs l w (length s1) g i b1 b2 s1 s2) where
  module _ (m : ℕ) (b3 : List Node) (o : Grown m b2 b3) where
    first_value : (x : Values) → Computes b3 x → (j : ℕ) → j < v → seen x s2 (length s0) j ≡ f x j
    first_value x c j lt = ap x (q.written.kept (length s0 + j) (let s = p.written.size in omega arith)) ∙ (p.spells j lt).value x (computed_before l b1 b2 q.grown x (computed_before m b2 b3 o x c))

    first_has : (d : Values) → IsClosed b3 d → Within v (h d) (seen d s2 (length s0))
    first_has d c j lt e = ap d (q.written.kept (length s0 + j) (let s = p.written.size in omega arith)) ∙ (p.spells j lt).has d (closed_before l b1 b2 q.grown d (closed_before m b2 b3 o d c)) e

    second_value : (x : Values) → Computes b3 x → (j : ℕ) → j < w → seen x s2 (length s1) j ≡ g x j
    second_value x c j lt = (q.spells j lt).value x (computed_before m b2 b3 o x c)

    second_has : (d : Values) → IsClosed b3 d → Within w (i d) (seen d s2 (length s1))
    second_has d c j lt e = (q.spells j lt).has d (closed_before m b2 b3 o d c) e

  pub operated_word : ((m n : ℕ) (a b c d : Digits) → ((i : ℕ) → i < m → a i ≡ c i) → ((i : ℕ) → i < n → b i ≡ d i) →
      (o : WordOp) (j : ℕ) → (has_free_sizes o ≡ false → m ≡ n) → j < result_size o m → apply o m n a b j ≡ apply o m n c d j) →
      (o : WordOp) (left right : ℕ) (b3 : List Node) (s3 : List ℕ) → (has_free_sizes o ≡ false → v ≡ w) → left ≡ length s0 → right ≡ length s1 →
      Performs (apply_cost o (right - left) (length s2 - right)) (result_size o (right - left)) left
      (λ x. apply o (right - left) (length s2 - right) (seen x s2 left) (seen x s2 right)) (λ d. needs o (right - left) (length s2 - right) (seen d s2 left) (seen d s2 right)) b2 b3 s2 s3 →
      Performs ((k + l) + apply_cost o v w) (result_size o v) (length s0) (λ x. apply o v w (f x) (g x)) (λ d. needs o v w (h d) (i d)) b0 b3 s0 s3
  operated_word law o left right b3 s3 sizes el er r =
      let sv : length s1 - length s0 ≡ v = (let s = p.written.size in omega arith) in
      let sw : length s2 - length s1 ≡ w = (let s = q.written.size in omega arith) in
      let P : ℕ → ℕ → ℕ → ℕ → Type 0 = λ a b m n. Performs (apply_cost o m n) (result_size o m) a (λ x. apply o m n (seen x s2 a) (seen x s2 b)) (λ d. needs o m n (seen d s2 a) (seen d s2 b)) b2 b3 s2 s3 in
      let A : ℕ → Type 0 = λ a. P a right (right - a) (length s2 - right) in
      let B : ℕ → Type 0 = λ b. P (length s0) b (b - length s0) (length s2 - b) in
      let C : ℕ → Type 0 = λ m. P (length s0) (length s1) m (length s2 - length s1) in
      let D : ℕ → Type 0 = λ n. P (length s0) (length s1) v n in
      let t = subst D sw (subst C sv (subst B er (subst A el r))) in
      let u = performs_same (apply_cost o v w) (apply_cost o v w) (result_size o v) (result_size o v) (length s0)
      (λ x. apply o v w (seen x s2 (length s0)) (seen x s2 (length s1))) (λ d. needs o v w (seen d s2 (length s0)) (seen d s2 (length s1)))
      (λ x. apply o v w (f x) (g x)) (λ d. needs o v w (h d) (i d)) b2 b3 s2 s3 (omega arith) refl
      (λ x co j lt. law v w (seen x s2 (length s0)) (seen x s2 (length s1)) (f x) (g x) (first_value (apply_cost o v w) b3 t.grown x co) (second_value (apply_cost o v w) b3 t.grown x co) o j sizes lt)
      (λ d cl j lt. needs_within v w (h d) (i d) (seen d s2 (length s0)) (seen d s2 (length s1)) (first_has (apply_cost o v w) b3 t.grown d cl) (second_has (apply_cost o v w) b3 t.grown d cl) o j sizes lt) t in
      record {
        grown = grown_twice (k + l) (apply_cost o v w) b0 b2 b3 (grown_twice k l b0 b1 b2 p.grown q.grown) u.grown;
        written = record { size = u.written.size; kept = λ j lt. u.written.kept j lt ∙ q.written.kept j (let s = p.written.size in omega arith) ∙ p.written.kept j lt };
        spells = u.spells;
      }

  -- one word on top of another, with the higher bits
  pub joined_word : Performs (l + k) (w + v) (length s0) (λ x j. cond {A = Bool} (nat_lt j v) (f x j) (g x (j - v))) (λ d j. cond {A = Bool} (nat_lt j v) (h d j) (i d (j - v))) b0 b2 s0 s2
  joined_word = record {
    grown = grown_more (k + l) (l + k) b0 b2 (omega arith) (grown_twice k l b0 b1 b2 p.grown q.grown);
    written = record { size = (let s = p.written.size in let t = q.written.size in omega arith); kept = λ j lt. q.written.kept j (let s = p.written.size in omega arith) ∙ p.written.kept j lt };
    spells = λ j lt. elim (cases_lt j v) [
      | inl less ↦ (
          let t : nat_lt j v ≡ true = lt-ltb j v less in
          let at : slice_index_or s2 (length s0 + j) 0 ≡ slice_index_or s1 (length s0 + j) 0 = q.written.kept (length s0 + j) (let s = p.written.size in omega arith) in
          let P : ℕ → Type 0 = λ m. Gives b2 m (λ x. cond {A = Bool} (nat_lt j v) (f x j) (g x (j - v))) (λ d. cond {A = Bool} (nat_lt j v) (h d j) (i d (j - v))) in
          let n = gives_still l b1 b2 q.grown (slice_index_or s1 (length s0 + j) 0) (λ x. f x j) (λ d. h d j) (p.spells j less) in
          subst P (sym at) (record {
            there = n.there;
            value = λ x c. n.value x c ∙ sym (ap (λ b. cond {A = Bool} b (f x j) (g x (j - v))) t);
            has = λ d c e. n.has d c (sym (ap (λ b. cond {A = Bool} b (h d j) (i d (j - v))) t) ∙ e);
          }))
      | inr more ↦ (
          let t : nat_lt j v ≡ false = lt-leb (suc j) v (omega arith) in
          let at : length s1 + (j - v) ≡ length s0 + j = (let s = p.written.size in omega arith) in
          let P : ℕ → Type 0 = λ m. Gives b2 (slice_index_or s2 m 0) (λ x. cond {A = Bool} (nat_lt j v) (f x j) (g x (j - v))) (λ d. cond {A = Bool} (nat_lt j v) (h d j) (i d (j - v))) in
          let n = q.spells (j - v) (omega arith) in
          subst P at (record {
            there = n.there;
            value = λ x c. n.value x c ∙ sym (ap (λ b. cond {A = Bool} b (f x j) (g x (j - v))) t);
            has = λ d c e. n.has d c (sym (ap (λ b. cond {A = Bool} b (h d j) (i d (j - v))) t) ∙ e);
          }))
    ];
  }

-- ---- nodes that are there already

none_there : {X : Type 0} (xs : List X) (j : ℕ) → j < length xs → slice_get xs j ≡ None → ⊥
none_there [] j lt e = absurd (omega arith)
none_there (x ∷ xs) zero lt e = absurd (cc)
none_there (x ∷ xs) (suc j) lt e = none_there xs j (omega arith) e

pub pointed : {X : Type 0} (xs : List X) (node : X → ℕ) (b : List Node) (s0 s1 : List ℕ) → Written (length s0) (length xs) s0 s1 →
    ((j : ℕ) → j < length xs → slice_index_or s1 (length s0 + j) 0 ≡ if_there 0 node (slice_get xs j)) → ((j : ℕ) → IfSome (slice_get xs j) (λ x. node x < length b)) →
    Performs 0 (length xs) (length s0) (λ x j. if_there false (λ a. x (node a)) (slice_get xs j)) (λ d j. if_there true (λ a. d (node a)) (slice_get xs j)) b b s0 s1
pointed {X} xs node b s0 s1 written put inside = record {
  grown = grown_none b;
  written = written;
  spells = λ j lt. (
      let P : ℕ → Type 0 = λ m. Gives b m (λ x. if_there false (λ a. x (node a)) (slice_get xs j)) (λ d. if_there true (λ a. d (node a)) (slice_get xs j)) in
      subst P (sym (put j lt)) (here (slice_get xs j) (none_there xs j lt) (inside j)));
}
  where
    here : (o : Option X) → (o ≡ None → ⊥) → IfSome o (λ x. node x < length b) → Gives b (if_there 0 node o) (λ x. if_there false (λ a. x (node a)) o) (λ d. if_there true (λ a. d (node a)) o)
    here None there lt = absurd (there refl)
    here (Some a) there lt = itself b (node a) lt

pub if_all : {X : Type 0} (P : X → Type 0) (Q : X → Type 0) → ((x : X) → P x → Q x) → (xs : List X) → All P xs → (j : ℕ) → IfSome (slice_get xs j) Q
if_all P Q f [] h j = tt
if_all P Q f (x ∷ xs) h zero = f x (All-head P x xs h)
if_all P Q f (x ∷ xs) h (suc j) = if_all P Q f xs (All-tail P x xs h) j

pub if_any : {X : Type 0} (Q : X → Type 0) → ((x : X) → Q x) → (xs : List X) (j : ℕ) → IfSome (slice_get xs j) Q
if_any Q f [] j = tt
if_any Q f (x ∷ xs) zero = f x
if_any Q f (x ∷ xs) (suc j) = if_any Q f xs j

no_row : (rows : List (List ℕ)) (w : ℕ) → length rows ≤ w → slice_index_or rows w [] ≡ []
no_row [] w le = refl
no_row (r ∷ rs) zero le = absurd (omega arith)
no_row (r ∷ rs) (suc w) le = no_row rs w (omega arith)

no_node : (nodes : List ℕ) (j : ℕ) → length nodes ≤ j → slice_index_or nodes j 0 ≡ 0
no_node [] j le = refl
no_node (n ∷ ns) zero le = absurd (omega arith)
no_node (n ∷ ns) (suc j) le = no_node ns j (omega arith)

-- the node of a bit of an earlier word is there
pub row_there : (b : List Node) (earlier : List (List ℕ)) → 0 < length b → RowsThere b earlier → (w j : ℕ) → row earlier w j < length b
row_there b earlier some rows w j = elim (cases_lt w (length earlier)) [
  | inl less ↦ elim (cases_lt j (length (slice_index_or earlier w []))) [
    | inl low ↦ rows w less j low
    | inr high ↦ (let e : slice_index_or (slice_index_or earlier w []) j 0 ≡ 0 = no_node (slice_index_or earlier w []) j high in omega arith)
  ]
  | inr more ↦ (let e : slice_index_or (slice_index_or earlier w []) j 0 ≡ 0 = ap (λ (ns : List ℕ). slice_index_or ns j 0) (no_row earlier w more) in omega arith)
]

-- beyond a list there is the node 0
pub none_node : (xs : List ℕ) (j : ℕ) → None ≡ slice_get xs j → 0 ≡ slice_index_or xs j 0
none_node [] j e = refl
none_node (x ∷ xs) zero e = absurd (cc)
none_node (x ∷ xs) (suc j) e = none_node xs j e

-- one part more of a concatenation, the one before those that stand
pub part_before : (nets : List NetInfo) (earlier : List (List ℕ)) (ts : List Tree) (k : ℕ) (b0 b1 b2 : List Node) (s0 s1 s2 : List ℕ) → k < length ts →
    Puts nets earlier (join_all (drop (suc k) ts)) b0 b1 s0 s1 → Puts nets earlier (word_at ts k) b1 b2 s1 s2 → Puts nets earlier (join_all (drop k ts)) b0 b2 s0 s2
part_before nets earlier ts k b0 b1 b2 s0 s1 s2 lt p q =
    let P : List Tree → Type 0 = λ us. Puts nets earlier (join_all us) b0 b2 s0 s2 in
    subst P (sym (rest_from ts k lt))
    (joined_word (width (join_all (drop (suc k) ts))) (width (word_at ts k)) (cost_of (join_all (drop (suc k) ts))) (cost_of (word_at ts k))
    (bits_in nets earlier (join_all (drop (suc k) ts))) (asks_in nets earlier (join_all (drop (suc k) ts))) (bits_in nets earlier (word_at ts k)) (asks_in nets earlier (word_at ts k))
    b0 b1 b2 s0 s1 s2 p q)

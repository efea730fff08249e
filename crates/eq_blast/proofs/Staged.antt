-- Shifts by the stages of their amount.
use Rattle.std.proofs.Common.{◌≡◌, ℕ, suc, ◌+◌, ◌-◌, ◌*◌, ◌^◌, ◌<◌, ◌≤◌, List, Bool, true, false, ◌&&◌, cond, min, nat_le, nat_lt, length, slice_index_or, inl, inr, refl, add-one, arith, sym, ap, subst, ◌∙◌}
use Rattle.std.proofs.Math.Nat.{mul-add, mul-suc, mul_comm, pow-suc}
use Rattle.std.proofs.lemmas.Bool.{cases_lt, le-leb, lt-ltb, ltb-true}
use Rattle.eq_model.specs.System.{Values}
use Rattle.eq_bits.specs.declared.node.Node.{Node}
use Rattle.eq_net.specs.Numbers.{Digits, all_ones, number}
use Rattle.eq_net.specs.Ripples.{lowered, raised}
use Rattle.eq_blast.specs.inner.Growing.{Gives, Grown}
use Rattle.eq_blast.specs.inner.Shifts.{moved, own, place, staged, staged_has, takes}
use Rattle.eq_blast.specs.inner.Stack.{AreThere, Performs, Written, seen}
use Rattle.eq_blast.proofs.Growth.{both_of, closed_before, computed_before, grown_none, left_of, right_of}
use Rattle.eq_blast.proofs.Performed.{all_each, all_from, all_same, performs_moved, performs_same}
use Rattle.eq_blast.proofs.Along.{grown_next}

-- zeros or nodes of the stack on top
pub there_moved : (w : ℕ) (b : List Node) (s1 s2 : List ℕ) (t : ℕ → Bool) (p : ℕ → ℕ) → 0 < length b → AreThere b s1 → Written (length s1) w s1 s2 →
    ((j : ℕ) → j < w → t j ≡ true → p j < length s1) →
    ((j : ℕ) → j < w → slice_index_or s2 (length s1 + j) 0 ≡ cond {A = ℕ} (t j) (slice_index_or s1 (p j) 0) 0) → AreThere b s2
there_moved w b s1 s2 t p some there written inside put i lt = elim (cases_lt i (length s1)) [
  | inl less ↦ (let e = written.kept i less in let h = there i less in omega arith)
  | inr more ↦ (
      let at : length s1 + (i - length s1) ≡ i = omega arith in
      let low : i - length s1 < w = (let s = written.size in omega arith) in
      let P : ℕ → Type 0 = λ n. slice_index_or s2 n 0 < length b in
      let Q : ℕ → Type 0 = λ n. n < length b in
      subst P at (subst Q (sym (put (i - length s1) low)) (either_there (t (i - length s1)) (slice_index_or s1 (p (i - length s1)) 0) (length b) some
      (λ e. there (p (i - length s1)) (inside (i - length s1) low e)))))
]
  where
    either_there : (t : Bool) (x n : ℕ) → 0 < n → (t ≡ true → x < n) → cond {A = ℕ} t x 0 < n
    either_there true x n some h = h refl
    either_there false x n some h = some

pub place_in : (up : Bool) (m k i : ℕ) → i < m → takes up m k i ≡ true → place up k i < m
place_in true m k i lt e = omega arith
place_in false m k i lt e = (let h = ltb-true i (m - k) e in omega arith)

own_moves : (up : Bool) (m k i : ℕ) (a : Digits) → i < m → takes up m k i ≡ true → own up m a i ≡ true → own up m a (place up k i) ≡ true
own_moves true m k i a lt e h = all_from (suc (i - k)) a (λ t lt2. all_each (suc i) a h t (omega arith))
own_moves false m k i a lt e h =
    all_from (m - (k + i)) (λ t. a ((k + i) + t)) (λ t lt2. (
    let at : i + (k + t) ≡ (k + i) + t = omega arith in
    let P : ℕ → Type 0 = λ n. a n ≡ true in
    subst P at (all_each (m - i) (λ n. a (i + n)) h (k + t) (omega arith))))

pub own_here : (up : Bool) (m i : ℕ) (a : Digits) → i < m → own up m a i ≡ true → a i ≡ true
own_here true m i a lt h = all_each (suc i) a h i (omega arith)
own_here false m i a lt h =
    let at : i + 0 ≡ i = omega arith in
    let P : ℕ → Type 0 = λ n. a n ≡ true in
    subst P at (all_each (m - i) (λ n. a (i + n)) h 0 (omega arith))

pub own_same : (up : Bool) (m i : ℕ) (a b : Digits) → i < m → ((j : ℕ) → j < m → a j ≡ true → b j ≡ true) → own up m a i ≡ true → own up m b i ≡ true
own_same true m i a b lt f h = all_same (suc i) a b (λ j lj. f j (omega arith)) h
own_same false m i a b lt f h = all_same (m - i) (λ j. a (i + j)) (λ j. b (i + j)) (λ j lj. f (i + j) (omega arith)) h

where_taken : (t x : Bool) → (t ≡ true → x ≡ true) → cond {A = Bool} t x true ≡ true
where_taken true x h = h refl
where_taken false x h = refl

guarded : (t x y : Bool) → (t ≡ true → x ≡ y) → (t && x) ≡ (t && y)
guarded true x y h = h refl
guarded false x y h = refl

pub moved_same : (up : Bool) (m k i : ℕ) (a b : Digits) → i < m → ((j : ℕ) → j < m → a j ≡ b j) → moved up m k a i ≡ moved up m k b i
moved_same up m k i a b lt f = guarded (takes up m k i) (a (place up k i)) (b (place up k i)) (λ e. f (place up k i) (place_in up m k i lt e))

abbrev pub UpLaw : Type 0
UpLaw = (m k d j : ℕ) (a : Digits) → j < m → raised (min m d) (raised (min m k) a) j ≡ raised (min m (k + d)) a j

abbrev pub DownLaw : Type 0
DownLaw = (m k d j : ℕ) (a : Digits) → lowered m (min m d) (lowered m (min m k) a) j ≡ lowered m (min m (k + d)) a j

module _ (ups : UpLaw) (downs : DownLaw) where
  moved_twice : (up : Bool) (m k d j : ℕ) (a : Digits) → j < m → moved up m (min m d) (moved up m (min m k) a) j ≡ moved up m (min m (k + d)) a j
  moved_twice true m k d j a lt = ups m k d j a lt
  moved_twice false m k d j a lt = downs m k d j a

  one_stage : (up : Bool) (m k d j : ℕ) (t : Bool) (a : Digits) → j < m →
      cond {A = Bool} t (moved up m (min m d) (moved up m (min m k) a) j) (moved up m (min m k) a j) ≡ moved up m (min m (k + cond {A = ℕ} t d 0)) a j
  one_stage up m k d j true a lt = moved_twice up m k d j a lt
  one_stage up m k d j false a lt = (let e : k ≡ k + 0 = omega arith in ap (λ n. moved up m (min m n) a j) e)

  -- one stage more
  pub stage_next : (up : Bool) (w right top j by bit : ℕ) (b0 b1 b2 : List Node) (s0 s1 s2 : List ℕ) → right + j < top → by ≡ min w (2 ^ j) → bit ≡ slice_index_or s1 (right + j) 0 →
      Performs (j * w) w top (λ x. moved up w (min w (number j (seen x s0 right))) (seen x s0 top)) (λ d i. own up w (seen d s0 top) i && all_ones j (seen d s0 right)) b0 b1 s0 s1 →
      Performs w w top (λ x. staged up w by (x bit) (seen x s1 top)) (λ d. staged_has up w by (d bit) (seen d s1 top)) b1 b2 s1 s2 →
      Performs ((j + 1) * w) w top (λ x. moved up w (min w (number (j + 1) (seen x s0 right))) (seen x s0 top)) (λ d i. own up w (seen d s0 top) i && all_ones (j + 1) (seen d s0 right)) b0 b2 s0 s2
  stage_next up w right top j by bit b0 b1 b2 s0 s1 s2 low far at p q = record {
    grown = grown_next j w b0 b1 b2 p.grown q.grown;
    written = record { size = q.written.size; kept = λ k lt. q.written.kept k lt ∙ p.written.kept k lt };
    spells = λ i lt. (
        let r = q.spells i lt in
        let here : bit ≡ slice_index_or s0 (right + j) 0 = at ∙ p.written.kept (right + j) low in
        let P : ℕ → Type 0 = λ n. Gives b2 (slice_index_or s2 (top + i) 0) (λ x. moved up w (min w (number n (seen x s0 right))) (seen x s0 top) i) (λ d. own up w (seen d s0 top) i && all_ones n (seen d s0 right)) in
        subst P (sym (add-one j)) (record {
          there = r.there;
          value = λ x c. (
              let old : (k : ℕ) → k < w → seen x s1 top k ≡ moved up w (min w (number j (seen x s0 right))) (seen x s0 top) k = λ k lk. (p.spells k lk).value x (computed_before w b1 b2 q.grown x c) in
              r.value x c
              ∙ ap (λ n. cond {A = Bool} (x bit) (moved up w n (seen x s1 top) i) (seen x s1 top i)) far
              ∙ ap (λ t. cond {A = Bool} (x bit) t (seen x s1 top i)) (moved_same up w (min w (2 ^ j)) i (seen x s1 top) (moved up w (min w (number j (seen x s0 right))) (seen x s0 top)) lt old)
              ∙ ap (λ t. cond {A = Bool} (x bit) (moved up w (min w (2 ^ j)) (moved up w (min w (number j (seen x s0 right))) (seen x s0 top)) i) t) (old i lt)
              ∙ one_stage up w (number j (seen x s0 right)) (2 ^ j) i (x bit) (seen x s0 top) lt
              ∙ ap (λ n. moved up w (min w (number j (seen x s0 right) + cond {A = ℕ} (x n) (2 ^ j) 0)) (seen x s0 top) i) here);
          has = λ d c h. (
              let cl = closed_before w b1 b2 q.grown d c in
              let mine = left_of (own up w (seen d s0 top) i) (all_ones (suc j) (seen d s0 right)) h in
              let all = right_of (own up w (seen d s0 top) i) (all_ones (suc j) (seen d s0 right)) h in
              let before = left_of (all_ones j (seen d s0 right)) (seen d s0 right j) all in
              let this : d bit ≡ true = ap d here ∙ right_of (all_ones j (seen d s0 right)) (seen d s0 right j) all in
              let old : (k : ℕ) → k < w → own up w (seen d s0 top) k ≡ true → seen d s1 top k ≡ true = λ k lk o. (p.spells k lk).has d cl (both_of (own up w (seen d s0 top) k) (all_ones j (seen d s0 right)) o before) in
              r.has d c (both_of (d bit) (cond {A = Bool} (takes up w by i) (seen d s1 top (place up by i)) true && seen d s1 top i) this
              (both_of (cond {A = Bool} (takes up w by i) (seen d s1 top (place up by i)) true) (seen d s1 top i)
              (where_taken (takes up w by i) (seen d s1 top (place up by i)) (λ e. old (place up by i) (place_in up w by i lt e) (own_moves up w by i (seen d s0 top) lt e mine)))
              (old i lt mine))));
        }));
  }

no_stage : (up : Bool) (m i : ℕ) (a : Digits) → i < m → moved up m (min m 0) a i ≡ a i
no_stage true m i a lt = (let z : min m 0 ≡ 0 = omega arith in let e : i - 0 ≡ i = omega arith in ap (λ n. nat_le n i && a (i - n)) z ∙ ap (λ t. t && a (i - 0)) (le-leb 0 i (omega arith)) ∙ ap a e)
no_stage false m i a lt =
    let z : min m 0 ≡ 0 = omega arith in
    let e : m - 0 ≡ m = omega arith in
    let f : 0 + i ≡ i = omega arith in
    ap (λ n. nat_lt i (m - n) && a (n + i)) z ∙ ap (λ n. nat_lt i n && a (0 + i)) e ∙ ap (λ t. t && a (0 + i)) (lt-ltb i m lt) ∙ ap a f

-- before the first stage
pub stages_none : (up : Bool) (w right top : ℕ) (b0 : List Node) (s0 : List ℕ) → length s0 ≡ top + w → AreThere b0 s0 →
    Performs (0 * w) w top (λ x. moved up w (min w (number 0 (seen x s0 right))) (seen x s0 top)) (λ d i. own up w (seen d s0 top) i && all_ones 0 (seen d s0 right)) b0 b0 s0 s0
stages_none up w right top b0 s0 size there = record {
  grown = (let e : 0 ≡ 0 * w = omega arith in let P : ℕ → Type 0 = λ n. Grown n b0 b0 in subst P e (grown_none b0));
  written = record { size = size; kept = λ k lt. refl };
  spells = λ i lt. record {
    there = there (top + i) (omega arith);
    value = λ x c. sym (no_stage up w i (seen x s0 top) lt);
    has = λ d c h. own_here up w i (seen d s0 top) lt (left_of (own up w (seen d s0 top) i) true h);
  };
}

-- in each stage there is room
pub stage_room : (l b j w n : ℕ) → j < n → l ≤ b + j * w → b + w * n ≤ 2 ^ 21 → l + 4 * w < 2 ^ 32
stage_room l b j w n lt grown room =
    let e : n ≡ suc j + (n - suc j) = omega arith in
    let f : w * n ≡ w * (suc j + (n - suc j)) = ap (λ k. w * k) e in
    let g : w * (suc j + (n - suc j)) ≡ w * suc j + w * (n - suc j) = mul-add w (suc j) (n - suc j) in
    let h : w * suc j ≡ w * j + w = mul-suc w j in
    let t : j * w ≡ w * j = mul_comm j w in
    omega arith

-- a stage moves twice as far as the one before
pub doubled : (w by next j : ℕ) → by ≡ min w (2 ^ j) → next ≡ min w (by + by) → next ≡ min w (2 ^ (j + 1))
doubled w by next j e f =
    let P : ℕ → Type 0 = λ n. next ≡ min w (2 ^ n) in
    let p : 2 ^ suc j ≡ 2 ^ j * 2 = pow-suc 2 j in
    subst P (sym (add-one j)) (omega arith)

-- what was copied and moved stands in the place of both operands
pub shift_performed : ((n : ℕ) (f g : Digits) → ((i : ℕ) → i < n → f i ≡ g i) → number n f ≡ number n g) →
    (up : Bool) (m n left right : ℕ) (b0 b1 : List Node) (s0 s1 s2 s3 : List ℕ) → length s0 ≡ right + n → left + m ≡ right → Written (length s0) m s0 s1 →
    ((j : ℕ) → j < m → slice_index_or s1 (length s0 + j) 0 ≡ cond {A = ℕ} (nat_le 0 j) (slice_index_or s0 (left + (j - 0)) 0) 0) →
    Performs (n * m) m (length s0) (λ x. moved up m (min m (number n (seen x s1 right))) (seen x s1 (length s0))) (λ d i. own up m (seen d s1 (length s0)) i && all_ones n (seen d s1 right)) b0 b1 s1 s2 →
    Written left m s2 s3 → ((j : ℕ) → j < m → slice_index_or s3 (left + j) 0 ≡ slice_index_or s2 (length s0 + j) 0) →
    Performs (m * n) m left (λ x. moved up m (min m (number n (seen x s0 right))) (seen x s0 left)) (λ d i. own up m (seen d s0 left) i && all_ones n (seen d s0 right)) b0 b1 s0 s3
shift_performed numbers up m n left right b0 b1 s0 s1 s2 s3 size order copied put p down moved_down =
    let f : Values → Digits = λ x. moved up m (min m (number n (seen x s1 right))) (seen x s1 (length s0)) in
    let g : Values → Digits = λ d i. own up m (seen d s1 (length s0)) i && all_ones n (seen d s1 right) in
    let q = performs_moved (n * m) m (length s0) left f g b0 b1 s1 s2 s3 (omega arith) p.grown p.written p.spells down moved_down in
    let r : Performs (n * m) m left f g b0 b1 s0 s3 = record {
      grown = q.grown;
      written = record { size = q.written.size; kept = λ k lt. q.written.kept k lt ∙ copied.kept k (omega arith) };
      spells = q.spells;
    } in
    let turn : n * m ≡ m * n = mul_comm n m in
    let copy : (x : Values) (j : ℕ) → j < m → seen x s1 (length s0) j ≡ seen x s0 left j = λ x j lt. ap x (put j lt ∙ straight (nat_le 0 j) (slice_index_or s0 (left + (j - 0)) 0) (le-leb 0 j (omega arith))
    ∙ ap (λ n. slice_index_or s0 (left + n) 0) (let e : j - 0 ≡ j = omega arith in e)) in
    let amount : (x : Values) (i : ℕ) → i < n → seen x s1 right i ≡ seen x s0 right i = λ x i lt. ap x (copied.kept (right + i) (omega arith)) in
    performs_same (n * m) (m * n) m m left f g (λ x. moved up m (min m (number n (seen x s0 right))) (seen x s0 left)) (λ d i. own up m (seen d s0 left) i && all_ones n (seen d s0 right)) b0 b1 s0 s3
    (omega arith) refl
    (λ x c j lt. ap (λ k. moved up m (min m k) (seen x s1 (length s0)) j) (numbers n (seen x s1 right) (seen x s0 right) (amount x))
    ∙ moved_same up m (min m (number n (seen x s0 right))) j (seen x s1 (length s0)) (seen x s0 left) lt (copy x))
    (λ d c j lt h. both_of (own up m (seen d s1 (length s0)) j) (all_ones n (seen d s1 right))
    (own_same up m j (seen d s0 left) (seen d s1 (length s0)) lt (λ i li e. copy d i li ∙ e) (left_of (own up m (seen d s0 left) j) (all_ones n (seen d s0 right)) h))
    (all_same n (seen d s0 right) (seen d s1 right) (λ i li e. amount d i li ∙ e) (right_of (own up m (seen d s0 left) j) (all_ones n (seen d s0 right)) h)))
    r
  where
    straight : (t : Bool) (x : ℕ) → t ≡ true → cond {A = ℕ} t x 0 ≡ x
    straight true x e = refl
    straight false x e = absurd (cc)

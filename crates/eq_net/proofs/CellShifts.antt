-- Shifts as rows of cells, by the stages of their amount.
use Rattle.std.proofs.Common.{◌≡◌, ℕ, suc, ◌+◌, ◌-◌, ◌*◌, ◌^◌, ◌<◌, List, Bool, true, false, ◌&&◌, cond, min, nat_le, nat_lt, length, slice_index_or, refl, add-one, arith, sym, ap, subst, ◌∙◌}
use Rattle.std.proofs.Math.Nat.{pow-suc}
use Rattle.std.proofs.lemmas.Bool.{le-leb, lt-ltb, ltb-true}
use Rattle.eq_net.specs.declared.cells.gates.Cell.{Cell}
use Rattle.eq_net.specs.Numbers.{Digits, number}
use Rattle.eq_net.specs.Ripples.{lowered, raised}
use Rattle.eq_net.specs.inner.Cells.{Valuation, Performs, Written, seen}
use Rattle.eq_net.specs.inner.CellSteps.{moved, place, staged, takes}
use Rattle.eq_net.proofs.Cellular.{grown_none, grown_twice, performs_moved, performs_same}

place_in : (up : Bool) (m k i : ℕ) → i < m → takes up m k i ≡ true → place up k i < m
place_in true m k i lt e = omega arith
place_in false m k i lt e = (let h = ltb-true i (m - k) e in omega arith)

guarded : (t x y : Bool) → (t ≡ true → x ≡ y) → (t && x) ≡ (t && y)
guarded true x y h = h refl
guarded false x y h = refl

moved_same : (up : Bool) (m k i : ℕ) (a b : Digits) → i < m → ((j : ℕ) → j < m → a j ≡ b j) → moved up m k a i ≡ moved up m k b i
moved_same up m k i a b lt f = guarded (takes up m k i) (a (place up k i)) (b (place up k i)) (λ e. f (place up k i) (place_in up m k i lt e))

straight : (t : Bool) (x : ℕ) → t ≡ true → cond {A = ℕ} t x 0 ≡ x
straight true x e = refl
straight false x e = absurd (cc)

-- a bit that is moved, or the constant 0
carried : (v : Valuation) (t : Bool) (n : ℕ) → v.cells 0 ≡ false → v.cells (cond {A = ℕ} t n 0) ≡ (t && v.cells n)
carried v true n none = refl
carried v false n none = none

-- one stage on top, moved down
pub stage_performed : (up : Bool) (w from by bit : ℕ) (c0 c1 : List Cell) (s0 s1 s2 s3 : List ℕ) → length s0 ≡ from + w → Written (length s0) w s0 s1 →
    ((j : ℕ) → j < w → slice_index_or s1 (length s0 + j) 0 ≡ cond {A = ℕ} (takes up w by j) (slice_index_or s0 (from + place up by j) 0) 0) →
    Performs w (length s1) (λ v j. cond {A = Bool} (v.cells bit) (seen v s1 (length s0) j) (seen v s1 from j)) c0 c1 s1 s2 → Written from w s2 s3 →
    ((j : ℕ) → j < w → slice_index_or s3 (from + j) 0 ≡ slice_index_or s2 (length s1 + j) 0) →
    Performs w from (λ v. staged up w by (v.cells bit) (seen v s0 from)) c0 c1 s0 s3
stage_performed up w from by bit c0 c1 s0 s1 s2 s3 size pushed put p down moved_down =
    let top = pushed.size in
    let f : Valuation → Digits = λ v j. cond {A = Bool} (v.cells bit) (seen v s1 (length s0) j) (seen v s1 from j) in
    let q = performs_moved w (length s1) from f c0 c1 s1 s2 s3 (omega arith) p.grown p.written p.spells down moved_down in
    let r : Performs w from f c0 c1 s0 s3 = record {
      grown = q.grown;
      written = record { size = q.written.size; kept = λ k lt. q.written.kept k lt ∙ pushed.kept k (omega arith) };
      spells = q.spells;
    } in
    performs_same w w from f (λ v. staged up w by (v.cells bit) (seen v s0 from)) c0 c1 s0 s3 refl
    (λ v c j lt.
    ap (λ t. cond {A = Bool} (v.cells bit) t (seen v s1 from j)) (ap v.cells (put j lt) ∙ carried v (takes up w by j) (slice_index_or s0 (from + place up by j) 0) c.false_first)
    ∙ ap (λ t. cond {A = Bool} (v.cells bit) (moved up w by (seen v s0 from) j) t) (ap v.cells (pushed.kept (from + j) (omega arith)))) r

abbrev pub UpLaw : Type 0
UpLaw = (m k d j : ℕ) (a : Digits) → j < m → raised (min m d) (raised (min m k) a) j ≡ raised (min m (k + d)) a j

abbrev pub DownLaw : Type 0
DownLaw = (m k d j : ℕ) (a : Digits) → lowered m (min m d) (lowered m (min m k) a) j ≡ lowered m (min m (k + d)) a j

module _ (ups : UpLaw) (downs : DownLaw) where
  moved_twice : (up : Bool) (m k d j : ℕ) (a : Digits) → j < m → moved up m (min m d) (moved up m (min m k) a) j ≡ moved up m (min m (k + d)) a j
  moved_twice true m k d j a lt = ups m k d j a lt
  moved_twice false m k d j a lt = downs m k d j a

  one_stage : (up : Bool) (m k d j : ℕ) (t : Bool) (a : Digits) → j < m →
      cond {A = Bool} t (moved up m (min m d) (moved up m (min m k) a) j) (moved up m (min m k) a j) ≡ moved up m (min m (k + cond {A = ℕ} t d 0)) a j
  one_stage up m k d j true a lt = moved_twice up m k d j a lt
  one_stage up m k d j false a lt = (let e : k ≡ k + 0 = omega arith in ap (λ n. moved up m (min m n) a j) e)

  -- one stage more
  pub stage_next : (up : Bool) (w right top j by bit : ℕ) (c0 c1 c2 : List Cell) (s0 s1 s2 : List ℕ) → right + j < top → by ≡ min w (2 ^ j) → bit ≡ slice_index_or s1 (right + j) 0 →
      Performs w top (λ v. moved up w (min w (number j (seen v s0 right))) (seen v s0 top)) c0 c1 s0 s1 →
      Performs w top (λ v. staged up w by (v.cells bit) (seen v s1 top)) c1 c2 s1 s2 →
      Performs w top (λ v. moved up w (min w (number (j + 1) (seen v s0 right))) (seen v s0 top)) c0 c2 s0 s2
  stage_next up w right top j by bit c0 c1 c2 s0 s1 s2 low far at p q =
      let here : bit ≡ slice_index_or s0 (right + j) 0 = at ∙ p.written.kept (right + j) low in
      let P : ℕ → Type 0 = λ n. Performs w top (λ v. moved up w (min w (number n (seen v s0 right))) (seen v s0 top)) c0 c2 s0 s2 in
      subst P (sym (add-one j)) (record {
        grown = grown_twice c0 c1 c2 p.grown q.grown;
        written = record { size = q.written.size; kept = λ k lt. q.written.kept k lt ∙ p.written.kept k lt };
        spells = λ i lt. record {
          value = λ v c. (
              let old : (k : ℕ) → k < w → seen v s1 top k ≡ moved up w (min w (number j (seen v s0 right))) (seen v s0 top) k = λ k lk. (p.spells k lk).value v (q.grown.before v c) in
              (q.spells i lt).value v c
              ∙ ap (λ n. cond {A = Bool} (v.cells bit) (moved up w n (seen v s1 top) i) (seen v s1 top i)) far
              ∙ ap (λ t. cond {A = Bool} (v.cells bit) t (seen v s1 top i)) (moved_same up w (min w (2 ^ j)) i (seen v s1 top) (moved up w (min w (number j (seen v s0 right))) (seen v s0 top)) lt old)
              ∙ ap (λ t. cond {A = Bool} (v.cells bit) (moved up w (min w (2 ^ j)) (moved up w (min w (number j (seen v s0 right))) (seen v s0 top)) i) t) (old i lt)
              ∙ one_stage up w (number j (seen v s0 right)) (2 ^ j) i (v.cells bit) (seen v s0 top) lt
              ∙ ap (λ n. moved up w (min w (number j (seen v s0 right) + cond {A = ℕ} (v.cells n) (2 ^ j) 0)) (seen v s0 top) i) here);
        };
      })

no_stage : (up : Bool) (m i : ℕ) (a : Digits) → i < m → moved up m (min m 0) a i ≡ a i
no_stage true m i a lt = (let z : min m 0 ≡ 0 = omega arith in let e : i - 0 ≡ i = omega arith in ap (λ n. nat_le n i && a (i - n)) z ∙ ap (λ t. t && a (i - 0)) (le-leb 0 i (omega arith)) ∙ ap a e)
no_stage false m i a lt =
    let z : min m 0 ≡ 0 = omega arith in
    let e : m - 0 ≡ m = omega arith in
    let f : 0 + i ≡ i = omega arith in
    ap (λ n. nat_lt i (m - n) && a (n + i)) z ∙ ap (λ n. nat_lt i n && a (0 + i)) e ∙ ap (λ t. t && a (0 + i)) (lt-ltb i m lt) ∙ ap a f

-- before the first stage
pub stages_none : (up : Bool) (w right top : ℕ) (c0 : List Cell) (s0 : List ℕ) → length s0 ≡ top + w →
    Performs w top (λ v. moved up w (min w (number 0 (seen v s0 right))) (seen v s0 top)) c0 c0 s0 s0
stages_none up w right top c0 s0 size = record {
  grown = grown_none c0;
  written = record { size = size; kept = λ k lt. refl };
  spells = λ i lt. record { value = λ v c. sym (no_stage up w i (seen v s0 top) lt) };
}

-- a stage moves twice as far as the one before
pub doubled : (w by next j : ℕ) → by ≡ min w (2 ^ j) → next ≡ min w (by + by) → next ≡ min w (2 ^ (j + 1))
doubled w by next j e f =
    let P : ℕ → Type 0 = λ n. next ≡ min w (2 ^ n) in
    let p : 2 ^ suc j ≡ 2 ^ j * 2 = pow-suc 2 j in
    subst P (sym (add-one j)) (omega arith)

-- what was copied and moved stands in the place of both operands
pub shift_performed : ((n : ℕ) (f g : Digits) → ((i : ℕ) → i < n → f i ≡ g i) → number n f ≡ number n g) →
    (up : Bool) (m n left right : ℕ) (c0 c1 : List Cell) (s0 s1 s2 s3 : List ℕ) → length s0 ≡ right + n → left + m ≡ right → Written (length s0) m s0 s1 →
    ((j : ℕ) → j < m → slice_index_or s1 (length s0 + j) 0 ≡ cond {A = ℕ} (nat_le 0 j) (slice_index_or s0 (left + (j - 0)) 0) 0) →
    Performs m (length s0) (λ v. moved up m (min m (number n (seen v s1 right))) (seen v s1 (length s0))) c0 c1 s1 s2 →
    Written left m s2 s3 → ((j : ℕ) → j < m → slice_index_or s3 (left + j) 0 ≡ slice_index_or s2 (length s0 + j) 0) →
    Performs m left (λ v. moved up m (min m (number n (seen v s0 right))) (seen v s0 left)) c0 c1 s0 s3
shift_performed numbers up m n left right c0 c1 s0 s1 s2 s3 size order copied put p down moved_down =
    let f : Valuation → Digits = λ v. moved up m (min m (number n (seen v s1 right))) (seen v s1 (length s0)) in
    let q = performs_moved m (length s0) left f c0 c1 s1 s2 s3 (omega arith) p.grown p.written p.spells down moved_down in
    let r : Performs m left f c0 c1 s0 s3 = record {
      grown = q.grown;
      written = record { size = q.written.size; kept = λ k lt. q.written.kept k lt ∙ copied.kept k (omega arith) };
      spells = q.spells;
    } in
    let copy : (v : Valuation) (j : ℕ) → j < m → seen v s1 (length s0) j ≡ seen v s0 left j = λ v j lt. ap v.cells (put j lt ∙ straight (nat_le 0 j) (slice_index_or s0 (left + (j - 0)) 0) (le-leb 0 j (omega arith))
    ∙ ap (λ n. slice_index_or s0 (left + n) 0) (let e : j - 0 ≡ j = omega arith in e)) in
    let amount : (v : Valuation) (i : ℕ) → i < n → seen v s1 right i ≡ seen v s0 right i = λ v i lt. ap v.cells (copied.kept (right + i) (omega arith)) in
    performs_same m m left f (λ v. moved up m (min m (number n (seen v s0 right))) (seen v s0 left)) c0 c1 s0 s3 refl
    (λ v c j lt. ap (λ k. moved up m (min m k) (seen v s1 (length s0)) j) (numbers n (seen v s1 right) (seen v s0 right) (amount v))
    ∙ moved_same up m (min m (number n (seen v s0 right))) j (seen v s1 (length s0)) (seen v s0 left) lt (copy v))
    r

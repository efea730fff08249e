-- What an operation computes depends on the bits that it reads alone.
use Rattle.std.proofs.Common.{◌≡◌, ℕ, zero, suc, ◌+◌, ◌-◌, ◌*◌, ◌/◌, ◌^◌, ◌<◌, Bool, true, false, not, nat_lt, nat_le, ◌&&◌, ◌||◌, ◌==◌, cond, List, [], ◌∷◌, ◌++◌, refl, arith, sym, ap, subst, ◌∙◌, inl, inr}
use Rattle.std.proofs.lemmas.Bool.{cases_lt, ltb-true}
use Rattle.std.proofs.lemmas.List.Elements.{Contains-append_left, Contains-append_right}
use Rattle.eq_model.specs.System.{Values}
use Rattle.eq_net.specs.declared.types.WordOp.{WordOp}
use Rattle.eq_net.specs.declared.types.WordOp.TheVariants.{And, Or, Xor, Xnor, Add, Sub, Shl, Shr, Eq, Ne, Lt, Le, Gt, Ge, LogAnd, LogOr}
use Rattle.eq_net.specs.declared.types.RedOp.{RedOp}
use Rattle.eq_net.specs.declared.types.RedOp.TheVariants as red
use Rattle.eq_net.specs.Numbers.{Digits, differ, number, digit, some_one}
use Rattle.eq_net.specs.Operators.{one_bit, extended, apply, negative, reduce, choose, Reads, all_reads, reads_from, one_read, extended_reads, apply_reads, negative_reads, choose_reads, has_free_sizes}
use Rattle.eq_net.specs.Following.{AgreeOn, Follow}
use Rattle.eq_net.proofs.Sums.{SameBelow, number_same, all_ones_same, some_one_same, parity_same, sum_same, minus_same, negative_same}
use Rattle.eq_net.proofs.Shifted.{shifted_up, shifted_down}

pub agree_left : (v u : Values) (rs qs : List ℕ) → AgreeOn v u (rs ++ qs) → AgreeOn v u rs
agree_left v u rs qs h b c = h b (Contains-append_left rs qs b c)

pub agree_right : (v u : Values) (rs qs : List ℕ) → AgreeOn v u (rs ++ qs) → AgreeOn v u qs
agree_right v u rs qs h b c = h b (Contains-append_right rs qs b c)

pub agree_one : (v u : Values) (n : ℕ) → AgreeOn v u (n ∷ []) → v n ≡ u n
agree_one v u n h = h n (0, omega arith, refl)

pub agree_all : (v u : Values) (n i : ℕ) (r : Reads) → i < n → AgreeOn v u (all_reads n r) → AgreeOn v u (r i)
agree_all v u zero i r lt h = absurd (omega arith)
agree_all v u (suc n) i r lt h =
    elim (cases_lt i n) [
      | inl less ↦ agree_all v u n i r less (agree_left v u (all_reads n r) (r n) h)
      | inr more ↦ (
          let e : n ≡ i = omega arith in
          let P : ℕ → Type 0 = λ k. AgreeOn v u (r k) in
          subst P e (agree_right v u (all_reads n r) (r n) h))
    ]

-- bits that follow reads are the same below n, where all that they read is
pub follow_all : (v u : Values) (r : Reads) (f h : Digits) → Follow v u r f h → (n : ℕ) → AgreeOn v u (all_reads n r) → SameBelow n f h
follow_all v u r f h follow n agree i lt = follow i (agree_all v u n i r lt agree)

pub one_same : (v u : Values) (rs : List ℕ) (x y t : Bool) → (AgreeOn v u rs → x ≡ y) → AgreeOn v u (cond t rs []) → (t && x) ≡ (t && y)
one_same v u rs x y true h a = h a
one_same v u rs x y false h a = refl

guarded_same : (v u : Values) (rs : List ℕ) (x y t : Bool) → (t ≡ true → AgreeOn v u rs → x ≡ y) → AgreeOn v u rs → (t && x) ≡ (t && y)
guarded_same v u rs x y true h a = h refl a
guarded_same v u rs x y false h a = refl

chosen_same : (v u : Values) (x y p q s t : Bool) → p ≡ q → x ≡ y → s ≡ t → cond p x s ≡ cond q y t
chosen_same v u x y p q s t e f g = rw (e, f, g) refl

module _ (v u : Values) (fr gr : Reads) (f g h k : Digits) (ff : Follow v u fr f h) (gg : Follow v u gr g k) where
  -- two numbers that are compared
  numbers_same : (m n : ℕ) (F : ℕ → ℕ → Bool) → AgreeOn v u (all_reads m fr ++ all_reads n gr) → F (number m f) (number n g) ≡ F (number m h) (number n k)
  numbers_same m n F a =
      let e = number_same m f h (follow_all v u fr f h ff m (agree_left v u (all_reads m fr) (all_reads n gr) a)) in
      let d = number_same n g k (follow_all v u gr g k gg n (agree_right v u (all_reads m fr) (all_reads n gr) a)) in
      ap (λ x. F x (number n g)) e ∙ ap (λ x. F (number m h) x) d

  truths_same : (m n : ℕ) (F : Bool → Bool → Bool) → AgreeOn v u (all_reads m fr ++ all_reads n gr) → F (some_one m f) (some_one n g) ≡ F (some_one m h) (some_one n k)
  truths_same m n F a =
      let e = some_one_same m f h (follow_all v u fr f h ff m (agree_left v u (all_reads m fr) (all_reads n gr) a)) in
      let d = some_one_same n g k (follow_all v u gr g k gg n (agree_right v u (all_reads m fr) (all_reads n gr) a)) in
      ap (λ x. F x (some_one n g)) e ∙ ap (λ x. F (some_one m h) x) d

  bits_same : (j : ℕ) (F : Bool → Bool → Bool) → AgreeOn v u (fr j ++ gr j) → F (f j) (g j) ≡ F (h j) (k j)
  bits_same j F a =
      let e = ff j (agree_left v u (fr j) (gr j) a) in
      let d = gg j (agree_right v u (fr j) (gr j) a) in
      ap (λ x. F x (g j)) e ∙ ap (λ x. F (h j) x) d

  pub apply_same : (o : WordOp) (m n j : ℕ) → (has_free_sizes o ≡ false → m ≡ n) → AgreeOn v u (apply_reads o m n fr gr j) → apply o m n f g j ≡ apply o m n h k j
  apply_same And m n j sizes a = bits_same j (λ x y. x && y) a
  apply_same Or m n j sizes a = bits_same j (λ x y. x || y) a
  apply_same Xor m n j sizes a = bits_same j (λ x y. differ x y) a
  apply_same Xnor m n j sizes a = bits_same j (λ x y. not (differ x y)) a
  apply_same Add m n j sizes a =
      sum_same m n j f g h k (follow_all v u fr f h ff (suc j) (agree_left v u (all_reads (suc j) fr) (all_reads (suc j) gr) a))
      (follow_all v u gr g k gg (suc j) (agree_right v u (all_reads (suc j) fr) (all_reads (suc j) gr) a))
  apply_same Sub m n j sizes a =
      let e : m ≡ n = sizes refl in
      let P : ℕ → Type 0 = λ p. digit ((2 ^ m + number m f) - number p g) j ≡ digit ((2 ^ m + number m h) - number p k) j in
      subst P e (minus_same m j f g h k (follow_all v u fr f h ff (suc j) (agree_left v u (all_reads (suc j) fr) (all_reads (suc j) gr) a))
      (follow_all v u gr g k gg (suc j) (agree_right v u (all_reads (suc j) fr) (all_reads (suc j) gr) a)))
  apply_same Shl m n j sizes a =
      let amount = number_same n g k (follow_all v u gr g k gg n (agree_right v u (all_reads (suc j) fr) (all_reads n gr) a)) in
      let left = follow_all v u fr f h ff (suc j) (agree_left v u (all_reads (suc j) fr) (all_reads n gr) a) in
      ap (λ x. digit (number m f * 2 ^ x) j) amount ∙ shifted_up m (number n k) j f
      ∙ ap (λ x. nat_lt j (number n k + m) && (nat_le (number n k) j && x)) (left (j - number n k) (omega arith)) ∙ sym (shifted_up m (number n k) j h)
  apply_same Shr m n j sizes a =
      let amount = number_same n g k (follow_all v u gr g k gg n (agree_right v u (reads_from j (m - j) fr) (all_reads n gr) a)) in
      let right = agree_left v u (reads_from j (m - j) fr) (all_reads n gr) a in
      ap (λ x. digit (number m f / 2 ^ x) j) amount ∙ shifted_down m (number n k) j f
      ∙ guarded_same v u (reads_from j (m - j) fr) (f (number n k + j)) (h (number n k + j)) (nat_lt j (m - number n k))
      (λ test agree. (
      let lt : j < m - number n k = ltb-true j (m - number n k) test in
      let at : j + number n k ≡ number n k + j = omega arith in
      let P : ℕ → Type 0 = λ i. f i ≡ h i in
      subst P at (ff (j + number n k) (agree_all v u (m - j) (number n k) (λ i. fr (j + i)) (omega arith) agree))))
      right
      ∙ sym (shifted_down m (number n k) j h)
  apply_same Eq m n j sizes a = one_same v u (all_reads m fr ++ all_reads n gr) (number m f == number n g) (number m h == number n k) (j == 0) (numbers_same m n (λ x y. x == y)) a
  apply_same Ne m n j sizes a = one_same v u (all_reads m fr ++ all_reads n gr) (not (number m f == number n g)) (not (number m h == number n k)) (j == 0) (numbers_same m n (λ x y. not (x == y))) a
  apply_same Lt m n j sizes a = one_same v u (all_reads m fr ++ all_reads n gr) (nat_lt (number m f) (number n g)) (nat_lt (number m h) (number n k)) (j == 0) (numbers_same m n (λ x y. nat_lt x y)) a
  apply_same Le m n j sizes a = one_same v u (all_reads m fr ++ all_reads n gr) (nat_le (number m f) (number n g)) (nat_le (number m h) (number n k)) (j == 0) (numbers_same m n (λ x y. nat_le x y)) a
  apply_same Gt m n j sizes a = one_same v u (all_reads m fr ++ all_reads n gr) (nat_lt (number n g) (number m f)) (nat_lt (number n k) (number m h)) (j == 0) (numbers_same m n (λ x y. nat_lt y x)) a
  apply_same Ge m n j sizes a = one_same v u (all_reads m fr ++ all_reads n gr) (nat_le (number n g) (number m f)) (nat_le (number n k) (number m h)) (j == 0) (numbers_same m n (λ x y. nat_le y x)) a
  apply_same LogAnd m n j sizes a = one_same v u (all_reads m fr ++ all_reads n gr) (some_one m f && some_one n g) (some_one m h && some_one n k) (j == 0) (truths_same m n (λ x y. x && y)) a
  apply_same LogOr m n j sizes a = one_same v u (all_reads m fr ++ all_reads n gr) (some_one m f || some_one n g) (some_one m h || some_one n k) (j == 0) (truths_same m n (λ x y. x || y)) a

module _ (v u : Values) (fr : Reads) (f h : Digits) (ff : Follow v u fr f h) where
  reduce_all : (o : RedOp) (n : ℕ) → AgreeOn v u (all_reads n fr) → reduce o n f ≡ reduce o n h
  reduce_all red.And n a = all_ones_same n f h (follow_all v u fr f h ff n a)
  reduce_all red.Or n a = some_one_same n f h (follow_all v u fr f h ff n a)
  reduce_all red.Xor n a = parity_same n f h (follow_all v u fr f h ff n a)
  reduce_all red.Nand n a = ap not (all_ones_same n f h (follow_all v u fr f h ff n a))
  reduce_all red.Nor n a = ap not (some_one_same n f h (follow_all v u fr f h ff n a))
  reduce_all red.Xnor n a = ap not (parity_same n f h (follow_all v u fr f h ff n a))
  reduce_all red.Zero n a = ap not (some_one_same n f h (follow_all v u fr f h ff n a))

  pub reduce_same : (o : RedOp) (n j : ℕ) → AgreeOn v u (one_read (all_reads n fr) j) → one_bit (reduce o n f) j ≡ one_bit (reduce o n h) j
  reduce_same o n j a = one_same v u (all_reads n fr) (reduce o n f) (reduce o n h) (j == 0) (reduce_all o n) a

  pub opposite_same : (n j : ℕ) → AgreeOn v u (negative_reads fr j) → negative n f j ≡ negative n h j
  opposite_same n j a = negative_same n j f h (follow_all v u fr f h ff (suc j) a)

  pub extended_same : (n j : ℕ) → AgreeOn v u (extended_reads n fr j) → extended n f j ≡ extended n h j
  extended_same n j a = one_same v u (fr j) (f j) (h j) (nat_lt j n) (ff j) a

pub choose_same : (v u : Values) (cr fr gr : Reads) (c d f g h k : Digits) → Follow v u cr c d → Follow v u fr f h → Follow v u gr g k →
    (n j : ℕ) → AgreeOn v u (choose_reads n cr fr gr j) → choose n c f g j ≡ choose n d h k j
choose_same v u cr fr gr c d f g h k cc ff gg n j a =
    let rest = agree_right v u (all_reads n cr) (fr j ++ gr j) a in
    chosen_same v u (f j) (h j) (some_one n c) (some_one n d) (g j) (k j)
    (some_one_same n c d (follow_all v u cr c d cc n (agree_left v u (all_reads n cr) (fr j ++ gr j) a)))
    (ff j (agree_left v u (fr j) (gr j) rest)) (gg j (agree_right v u (fr j) (gr j) rest))

-- a choice of reads with a choice of values
pub branch_same : (v u : Values) (rs qs : List ℕ) (x y s t b : Bool) → (AgreeOn v u rs → x ≡ y) → (AgreeOn v u qs → s ≡ t) → AgreeOn v u (cond b rs qs) → cond b x s ≡ cond b y t
branch_same v u rs qs x y s t true h k a = h a
branch_same v u rs qs x y s t false h k a = k a

-- The test of bits says yes of the carries, whatever the width. A bit's rank is its number.
use Rattle.std.proofs.Common.{◌≡◌, ℕ, ◌+◌, ◌-◌, ◌*◌, ◌<◌, ◌≤◌, List, [], ◌∷◌, ◌++◌, Bool, true, false, ◌&&◌, ◌||◌, ◌==◌, cond, nat_lt, length, slice_get, Option, Some, refl, arith, ap, sym, subst, ◌∙◌, inl, inr, eq-eqb}
use Rattle.std.specs.List.{sum_by}
use Rattle.std.proofs.lemmas.Bool.{cases_lt, le-leb, le-ltb, lt-ltb}
use Rattle.std.proofs.lemmas.Option.{slice_get-get_or}
use Rattle.std.proofs.lemmas.List.Sums.{sum_by-cons}
use Rattle.eq_model.specs.Nets.{at_bit, inner, is_output}
use Rattle.eq_model.specs.System.{reads_now}
use Rattle.eq_names.specs.declared.BitName.{BitName}
use Rattle.eq_net.specs.declared.types.Driver.{Driver}
use Rattle.eq_net.specs.declared.types.Driver.TheVariants.{Input, Undriven, Expr}
use Rattle.eq_net.specs.declared.types.WordOp.{WordOp}
use Rattle.eq_net.specs.declared.types.WordOp.TheVariants as op
use Rattle.eq_net.specs.Operators.{has_free_sizes}
use Rattle.eq_net.specs.Meaning.{cost_of, if_there, reads_of, width}
use Rattle.eq_net.specs.Net.{bits_of, driver_at, nets_of, number_of, source_of}
use Rattle.eq_net.specs.Decided.{every, has_bit, is_input_side, is_net_by_bits, is_outside, is_word, names_word, reads_below, same_truth}
use Rattle.test_series.specs.Lists.{listed}
use Rattle.test_series.specs.Carries.{carries, driver, name, nets, pair, passed, ripple, row}
use Rattle.test_series.proofs.Added.{agree}
use Rattle.test_series.proofs.Listed.{all_below, both, every_listed, guarded, listed_at, listed_length}

-- ---- the bits

bits_there : (w : ℕ) → 0 < w → bits_of (nets w) ≡ 3 * w + 1
bits_there w some = omega (arith, some)

under : {A : Type 0} (x y : A) (m b : ℕ) → b < m → cond {A = A} (nat_lt b m) x y ≡ x
under {A} x y m b lt = ap (λ (t : Bool). cond {A = A} t x y) (lt-ltb b m lt)

over : {A : Type 0} (x y : A) (m b : ℕ) → m ≤ b → cond {A = A} (nat_lt b m) x y ≡ y
over {A} x y m b le = ap (λ (t : Bool). cond {A = A} t x y) (le-ltb b m le)

has_name : (w b : ℕ) → b < 3 * w + 1 → has_bit (nets w) (name w b) ≡ true
has_name w b lt =
    let P : BitName → Type 0 = λ n. has_bit (nets w) n ≡ true in
    elim (cases_lt b (2 * w + 1)) [
      | inl less ↦ subst P (sym (under _ _ (2 * w + 1) b less)) (lt-ltb _ _ (omega arith))
      | inr more ↦ subst P (sym (over _ _ (2 * w + 1) b more)) (lt-ltb _ _ (omega arith))
    ]

number_name : (w b : ℕ) → number_of (nets w) (name w b) ≡ b
number_name w b = elim (cases_lt b (2 * w + 1)) [
  | inl less ↦ ap (number_of (nets w)) (under _ _ (2 * w + 1) b less) ∙ omega arith
  | inr more ↦ ap (number_of (nets w)) (over _ _ (2 * w + 1) b more) ∙ omega arith
]

-- ---- the word

row_length : (w from : ℕ) → length (listed (λ i. name w (from + i)) w) ≡ w
row_length w from = listed_length (λ i. name w (from + i)) w

same_length : (w from other : ℕ) → (width (row w from) == width (row w other)) ≡ true
same_length w from other = eq-eqb _ _ (row_length w from ∙ sym (row_length w other))

or_right : (x y : Bool) → y ≡ true → (x || y) ≡ true
or_right true y e = refl
or_right false y e = e

row_word : (w from : ℕ) → from ≤ 2 * w → is_word (nets w) (ripple w).words 0 (row w from) ≡ true
row_word w from le = every_listed (has_bit (nets w)) (λ i. name w (from + i)) w (λ i lt. has_name w (from + i) (omega arith))

pair_word : (o : WordOp) (w : ℕ) → is_word (nets w) (ripple w).words 0 (pair o w) ≡ true
pair_word o w =
    both (row_word w 0 (omega arith)) (both (row_word w w (omega arith)) (or_right (has_free_sizes o) _ (same_length w 0 w)))

a_word : (w : ℕ) → is_word (nets w) (ripple w).words 0 (carries w) ≡ true
a_word w =
    both (pair_word op.And w)
    (both (both (row_word w (2 * w) (omega arith)) (both (pair_word op.Xor w) (same_length w (2 * w) 0)))
    (same_length w 0 (2 * w)))

-- ---- the drivers

low_driver : (w b : ℕ) → b < 2 * w + 1 → driver w b ≡ Input
low_driver w b lt = under _ _ (2 * w + 1) b lt

high_driver : (w b : ℕ) → 2 * w + 1 ≤ b → driver w b ≡ Expr 0 (b - (2 * w + 1))
high_driver w b le = over _ _ (2 * w + 1) b le

has_driver : (w b : ℕ) → b < 3 * w + 1 → driver_at (ripple w) b ≡ driver w b
has_driver w b lt = listed_at (driver w) (3 * w + 1) b Undriven lt

a_driver : (w b : ℕ) → b < 3 * w + 1 → names_word (ripple w).words (driver w b) ≡ true
a_driver w b lt =
    let P : Driver → Type 0 = λ d. names_word (ripple w).words d ≡ true in
    elim (cases_lt b (2 * w + 1)) [
      | inl less ↦ subst P (sym (low_driver w b less)) refl
      | inr more ↦ subst P (sym (high_driver w b more)) (both refl (lt-ltb _ _ (omega (arith, row_length w 0, lt, more))))
    ]

an_input : (w b : ℕ) → b < 3 * w + 1 →
    same_truth (is_outside (driver_at (ripple w) b)) (is_input_side (at_bit inner (λ m p. m.dir) (nets_of (nets w)) b)) ≡ true
an_input w b lt = elim (cases_lt b (2 * w + 1)) [
  | inl less ↦ agree _ _ true (ap is_outside (has_driver w b lt ∙ low_driver w b less))
      (ap is_input_side (under _ _ _ b (omega arith)))
  | inr more ↦ agree _ _ false (ap is_outside (has_driver w b lt ∙ high_driver w b more))
      (ap is_input_side (over _ _ _ b (omega arith) ∙ ap (λ (t : Bool). cond t is_output inner) (lt-ltb _ _ (omega arith))))
]

-- ---- the order of reading

every_both : (p : ℕ → Bool) (xs ys : List ℕ) → every p xs ≡ true → every p ys ≡ true → every p (xs ++ ys) ≡ true
every_both p [] ys e f = f
every_both p (x ∷ xs) ys e f = guarded (p x) (every p xs) (every p (xs ++ ys)) (λ g. every_both p xs ys g f) e

module _ (w j b : ℕ) (r : ℕ → ℕ → List ℕ) (lt : j < w) where
  row_reads : (from : ℕ) → from + j < b → every (λ i. nat_lt i b) (reads_of (number_of (nets w)) r (row w from) j) ≡ true
  row_reads from less =
      let f : ℕ → BitName = λ i. name w (from + i) in
      let there : slice_get (listed f w) j ≡ Some (f j) =
      slice_get-get_or (listed f w) j (f j) (omega (arith, listed_length f w, lt)) ∙ ap Some (listed_at f w j (f j) lt) in
      let P : Option BitName → Type 0 = λ o. every (λ i. nat_lt i b) (if_there [] (λ n. number_of (nets w) n ∷ []) o) ≡ true in
      subst P (sym there) (both (ap (λ (x : ℕ). nat_lt x b) (number_name w (from + j)) ∙ lt-ltb (from + j) b less) refl)

  word_reads : 2 * w + j < b → every (λ i. nat_lt i b) (reads_of (number_of (nets w)) r (carries w) j) ≡ true
  word_reads less =
      let p : ℕ → Bool = λ i. nat_lt i b in
      let a = row_reads 0 (omega arith) in
      let c = row_reads w (omega arith) in
      let k = row_reads (2 * w) less in
      every_both p _ _ (every_both p _ _ a c) (every_both p _ _ k (every_both p _ _ a c))

a_read : (w b : ℕ) → b < 3 * w + 1 → reads_below (λ i. i) (ripple w) b ≡ true
a_read w b lt =
    let P : Driver → Type 0 = λ d. every (λ i. nat_lt i b) (reads_now (source_of (nets w) (ripple w).words d)) ≡ true in
    elim (cases_lt b (2 * w + 1)) [
      | inl less ↦ subst P (sym (has_driver w b lt ∙ low_driver w b less)) refl
      | inr more ↦ subst P (sym (has_driver w b lt ∙ high_driver w b more))
          (word_reads w (b - (2 * w + 1)) b (λ u i. []) (omega arith) (omega arith))
    ]

costs : (w : ℕ) → sum_by cost_of (carries w ∷ []) ≡ 7 * w
costs w = sum_by-cons cost_of (carries w) [] ∙ omega (arith, row_length w 0, row_length w (2 * w))

pub is_good : (w : ℕ) → 0 < w → w < 10000 → is_net_by_bits (λ b. b) (ripple w) ≡ true
is_good w some small =
    let bits = bits_there w some in
    both refl
    (both (eq-eqb _ _ (listed_length (driver w) (3 * w + 1) ∙ sym bits))
    (both (both refl (a_word w))
    (both (every_listed (names_word (ripple w).words) (driver w) (3 * w + 1) (λ b lt. a_driver w b lt))
    (both (all_below _ (bits_of (nets w)) (λ b lt. an_input w b (omega (arith, bits, lt))))
    (both refl
    (both refl
    (both refl
    (both refl
    (both refl
    (both (all_below _ (bits_of (nets w)) (λ b lt. a_read w b (omega (arith, bits, lt))))
    (both (le-leb _ _ (omega (arith, bits, costs w, small))) refl)))))))))))

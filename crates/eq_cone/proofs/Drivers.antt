-- A copied node's driver is a copy of the node's.
use Rattle.std.proofs.Common.{◌≡◌, ℕ, ◌+◌, [], ◌∷◌, Bool, true, not, ◌&&◌, if◌then◌else◌, min, max, Contains, refl, sym, ap, subst, ◌∙◌, inl, inr, arith}
use Rattle.std.proofs.lemmas.Bool.{cases_lt}
use Rattle.eq_model.specs.System.{Values, IsInput, is_register as is_held, reads_ever}
use Rattle.eq_model.specs.Copying.{CopiesDriver}
use Rattle.eq_bits.specs.declared.node.Node.{Node}
use Rattle.eq_bits.specs.declared.node.Node.TheVariants.{Const, Input, Not, And, Xor, Mux, Buf, Reg}
use Rattle.eq_bits.specs.Node.{driver_of, is_register, xor}
use Rattle.eq_bits.specs.Shared.{normal_form}
use Rattle.eq_cone.specs.inner.Copying.{renamed}
use Rattle.eq_cone.specs.inner.Sides.{shifted}
use Rattle.eq_cone.proofs.Advanced.{first, second, third}
use Rattle.eq_cone.proofs.Reaching.{contains_nothing, contains_one}
use Rattle.eq_cone.proofs.Walked.{each_of_three, each_of_two}

and_either : (x : Values) (a b : ℕ) → x (min a b) && x (max a b) ≡ x a && x b
and_either x a b = grind arith

xor_either : (x : Values) (a b : ℕ) → xor (x (min a b)) (x (max a b)) ≡ xor (x a) (x b)
xor_either x a b = grind arith

not_same : (a b : Bool) → a ≡ b → not a ≡ not b
not_same a b e = ap not e

and_same : (a b c d : Bool) → a ≡ c → b ≡ d → (a && b) ≡ (c && d)
and_same a b c d e f = ap (λ (x : Bool). x && b) e ∙ ap (λ (x : Bool). c && x) f

xor_same : (a b c d : Bool) → a ≡ c → b ≡ d → xor a b ≡ xor c d
xor_same a b c d e f = ap (λ (x : Bool). xor x b) e ∙ ap (λ (x : Bool). xor c x) f

mux_same : (s a b t c d : Bool) → s ≡ t → a ≡ c → b ≡ d →
    (if s then a else b) ≡ (if t then c else d)
mux_same s a b t c d e f g = ap (λ (x : Bool). if x then a else b) e ∙ ap (λ (x : Bool). if t then x else b) f
    ∙ ap (λ (x : Bool). if t then c else x) g

pub copies_driver : (reached : ℕ → Bool) (node : ℕ → ℕ) (x : Node) → ¬ IsInput (driver_of x) →
    ((r : ℕ) → Contains (reads_ever (driver_of x)) r → reached r ≡ true) →
    CopiesDriver reached node (driver_of x) (driver_of (normal_form (renamed node x)))
copies_driver reached node (Const b) plain all = record { reads = all; value = λ v x same. refl }
copies_driver reached node (Input i) plain all = absurd (plain tt)
copies_driver reached node (Not a) plain all = record {
  reads = all;
  value = λ v x same. not_same (v a) (x (node a)) (same a (first a []));
}
copies_driver reached node (And a b) plain all = record {
  reads = all;
  value = λ v x same. and_same (v a) (v b) (x (node a)) (x (node b)) (same a (first a (b ∷ [])))
      (same b (second a b []))
      ∙ sym (and_either x (node a) (node b));
}
copies_driver reached node (Xor a b) plain all = record {
  reads = all;
  value = λ v x same. xor_same (v a) (v b) (x (node a)) (x (node b)) (same a (first a (b ∷ [])))
      (same b (second a b []))
      ∙ sym (xor_either x (node a) (node b));
}
copies_driver reached node (Mux s a b) plain all = record {
  reads = all;
  value = λ v x same. mux_same (v s) (v a) (v b) (x (node s)) (x (node a)) (x (node b))
      (same s (first s (a ∷ b ∷ []))) (same a (second s a (b ∷ []))) (same b (third s a b));
}
copies_driver reached node (Buf a) plain all = record { reads = all; value = λ v x same. same a (first a []) }
copies_driver reached node (Reg next init) plain all =
    (refl, record { reads = all; value = λ v x same. same next (first next []) })

left : (a b : ℕ) → Contains (min a b ∷ max a b ∷ []) a
left a b =
    elim (cases_lt a b) [
      | inl less ↦ (let e : min a b ≡ a = grind arith in
          subst (λ (k : ℕ). Contains (min a b ∷ max a b ∷ []) k) e (first (min a b) (max a b ∷ [])))
      | inr more ↦ (let e : max a b ≡ a = grind arith in
          subst (λ (k : ℕ). Contains (min a b ∷ max a b ∷ []) k) e (second (min a b) (max a b) []))
    ]

right : (a b : ℕ) → Contains (min a b ∷ max a b ∷ []) b
right a b =
    elim (cases_lt a b) [
      | inl less ↦ (let e : max a b ≡ b = grind arith in
          subst (λ (k : ℕ). Contains (min a b ∷ max a b ∷ []) k) e (second (min a b) (max a b) []))
      | inr more ↦ (let e : min a b ≡ b = grind arith in
          subst (λ (k : ℕ). Contains (min a b ∷ max a b ∷ []) k) e (first (min a b) (max a b ∷ [])))
    ]

-- what a copy reads are the copies of what the node reads
pub reads_renamed : (f : ℕ → ℕ) (x : Node) (r : ℕ) → Contains (reads_ever (driver_of x)) r →
    Contains (reads_ever (driver_of (normal_form (renamed f x)))) (f r)
reads_renamed f (Const b) r c = absurd (contains_nothing r c)
reads_renamed f (Input i) r c = absurd (contains_nothing r c)
reads_renamed f (Not a) r c = (let e = contains_one a r c in
    subst (λ (k : ℕ). Contains (f a ∷ []) (f k)) e (first (f a) []))
reads_renamed f (And a b) r c = each_of_two (λ k. Contains (min (f a) (f b) ∷ max (f a) (f b) ∷ []) (f k)) a b r
    (left (f a) (f b)) (right (f a) (f b)) c
reads_renamed f (Xor a b) r c = each_of_two (λ k. Contains (min (f a) (f b) ∷ max (f a) (f b) ∷ []) (f k)) a b r
    (left (f a) (f b)) (right (f a) (f b)) c
reads_renamed f (Mux s a b) r c = each_of_three (λ k. Contains (f s ∷ f a ∷ f b ∷ []) (f k)) s a b r
    (first (f s) (f a ∷ f b ∷ [])) (second (f s) (f a) (f b ∷ [])) (third (f s) (f a) (f b)) c
reads_renamed f (Buf a) r c = (let e = contains_one a r c in
    subst (λ (k : ℕ). Contains (f a ∷ []) (f k)) e (first (f a) []))
reads_renamed f (Reg next init) r c = (let e = contains_one next r c in
    subst (λ (k : ℕ). Contains (f next ∷ []) (f k)) e (first (f next) []))

-- the model's word of registers
pub same_held : (x : Node) → is_held (driver_of x) ≡ is_register x
same_held (Const b) = refl
same_held (Input i) = refl
same_held (Not a) = refl
same_held (And a b) = refl
same_held (Xor a b) = refl
same_held (Mux s a b) = refl
same_held (Buf a) = refl
same_held (Reg next init) = refl

-- ---- nodes further on

pub shifted_renamed : (f : ℕ → ℕ) (d : ℕ) (x : Node) → renamed f (shifted d x) ≡ renamed (λ r. f (d + r)) x
shifted_renamed f d (Const b) = refl
shifted_renamed f d (Input i) = refl
shifted_renamed f d (Not a) = refl
shifted_renamed f d (And a b) = refl
shifted_renamed f d (Xor a b) = refl
shifted_renamed f d (Mux s a b) = refl
shifted_renamed f d (Buf a) = refl
shifted_renamed f d (Reg next init) = refl

pub shifted_reads : (d : ℕ) (x : Node) (r : ℕ) → Contains (reads_ever (driver_of x)) r →
    Contains (reads_ever (driver_of (shifted d x))) (d + r)
shifted_reads d (Const b) r c = absurd (contains_nothing r c)
shifted_reads d (Input i) r c = absurd (contains_nothing r c)
shifted_reads d (Not a) r c = (let e = contains_one a r c in
    subst (λ (k : ℕ). Contains ((d + a) ∷ []) (d + k)) e (first (d + a) []))
shifted_reads d (And a b) r c = each_of_two (λ k. Contains ((d + a) ∷ (d + b) ∷ []) (d + k)) a b r
    (first (d + a) ((d + b) ∷ [])) (second (d + a) (d + b) []) c
shifted_reads d (Xor a b) r c = each_of_two (λ k. Contains ((d + a) ∷ (d + b) ∷ []) (d + k)) a b r
    (first (d + a) ((d + b) ∷ [])) (second (d + a) (d + b) []) c
shifted_reads d (Mux s a b) r c = each_of_three (λ k. Contains ((d + s) ∷ (d + a) ∷ (d + b) ∷ []) (d + k)) s a b r
    (first (d + s) ((d + a) ∷ (d + b) ∷ [])) (second (d + s) (d + a) ((d + b) ∷ [])) (third (d + s) (d + a) (d + b)) c
shifted_reads d (Buf a) r c = (let e = contains_one a r c in
    subst (λ (k : ℕ). Contains ((d + a) ∷ []) (d + k)) e (first (d + a) []))
shifted_reads d (Reg next init) r c = (let e = contains_one next r c in
    subst (λ (k : ℕ). Contains ((d + next) ∷ []) (d + k)) e (first (d + next) []))

pub shifted_input : (d : ℕ) (x : Node) → IsInput (driver_of x) → IsInput (driver_of (shifted d x))
shifted_input d (Const b) h = h
shifted_input d (Input i) h = h
shifted_input d (Not a) h = h
shifted_input d (And a b) h = h
shifted_input d (Xor a b) h = h
shifted_input d (Mux s a b) h = h
shifted_input d (Buf a) h = h
shifted_input d (Reg next init) h = h

-- What a function makes of the first numbers, as a list.
use Rattle.std.proofs.Common.{◌≡◌, ℕ, zero, suc, ◌+◌, ◌/◌, ◌%◌, ◌^◌, ◌==◌, ◌<◌, ◌≤◌, Bool, true, false, nat_lt, cond, List, [], ◌∷◌, ◌++◌, length, length-append, slice_get, slice_index_or, All, Some, None, refl, arith, add-one, subst, sym, ap, ◌∙◌, inl, inr}
use Rattle.std.proofs.Math.ListN.{get_or-append}
use Rattle.std.proofs.Math.Seq.{get_or-append_seam}
use Rattle.std.proofs.Math.Nat.{div-div-eq-div-mul, pow-suc}
use Rattle.std.proofs.lemmas.Bool.{cases_lt, cases_Bool, ltb-true, lt-ltb}
use Rattle.std.proofs.lemmas.List.Elements.{All-append, All-cons, All-nil}
use Rattle.std.proofs.lemmas.Option.{slice_get-get_or}
use Rattle.eq_net.specs.Meaning.{if_there}
use Rattle.eq_net.specs.Numbers.{digit}
use Rattle.eq_flatten.specs.Forms.{numbered}

pub first_true : (a b : ℕ) → a < b → nat_lt a b ≡ true
first_true a b lt = lt-ltb a b lt

pub first_false : (a b : ℕ) → b ≤ a → nat_lt a b ≡ false
first_false a b le = elim (cases_Bool (nat_lt a b)) [
  | inl t ↦ absurd (let lt : a < b = ltb-true a b t in omega arith)
  | inr f ↦ f
]

-- the element of a list of one
pub only : {A : Type 0} (x y : A) (k : ℕ) → k < 1 → slice_index_or (x ∷ []) k y ≡ y → x ≡ y
only x y zero lt is = is
only x y (suc k) lt is = absurd (omega (arith, lt))

pub numbered_length : {A : Type 0} (f : ℕ → A) (n : ℕ) → length (numbered f n) ≡ n
numbered_length f zero = refl
numbered_length f (suc n) =
    let both = length-append (numbered f n) (f n ∷ []) in
    let before = numbered_length f n in
    omega arith

pub numbered_or : {A : Type 0} (f : ℕ → A) (d : A) (n j : ℕ) → j < n → slice_index_or (numbered f n) j d ≡ f j
numbered_or f d zero j lt = absurd (omega arith)
numbered_or f d (suc n) j lt = elim (cases_lt j n) [
  | inl less ↦ get_or-append (numbered f n) (f n ∷ []) d j (let e = numbered_length f n in omega arith)
      ∙ numbered_or f d n j less
  | inr more ↦ (
      let e = numbered_length f n in
      let same : j ≡ length (numbered f n) = omega arith in
      let here : n ≡ j = omega arith in
      ap (λ k. slice_index_or (numbered f n ++ f n ∷ []) k d) same ∙ get_or-append_seam (numbered f n) (f n) [] d
      ∙ ap f here)
]

-- at a place it has what the function makes of the place
pub numbered_at : {A : Type 0} (f : ℕ → A) (n j : ℕ) → j < n → slice_get (numbered f n) j ≡ Some (f j)
numbered_at f n j lt =
    slice_get-get_or (numbered f n) j (f 0) (let e = numbered_length f n in omega arith)
    ∙ ap (λ x. Some x) (numbered_or f (f 0) n j lt)

pub numbered_all : {A : Type 0} (P : A → Type 0) (f : ℕ → A) (n : ℕ) → ((j : ℕ) → j < n → P (f j)) →
    All P (numbered f n)
numbered_all P f zero h = All-nil P
numbered_all P f (suc n) h =
    All-append P (numbered f n) (f n ∷ []) (numbered_all P f n (λ j lt. h j (omega arith)))
    (All-cons P (f n) [] (h n (omega arith)) (All-nil P))

-- what is taken of a list at a place below its length, and d above
pub taken_at : {A B : Type 0} (d : B) (g : A → B) (f : ℕ → A) (n j : ℕ) →
    cond (nat_lt j (length (numbered f n))) (if_there d g (slice_get (numbered f n) j)) d ≡ cond (nat_lt j n) (g (f
    j)) d
taken_at d g f n j =
    ap (λ m. cond (nat_lt j m) (if_there d g (slice_get (numbered f n) j)) d) (numbered_length f n)
    ∙ inside (nat_lt j n) (λ e. ap (if_there d g) (numbered_at f n j (ltb-true j n e)))
  where
    inside : (b : Bool) → (b ≡ true → if_there d g (slice_get (numbered f n) j) ≡ g (f j)) →
        cond b (if_there d g (slice_get (numbered f n) j)) d ≡ cond b (g (f j)) d
    inside true h = h refl
    inside false h = refl

-- a number of a bit, where there is one
pub there_at : {B : Type 0} (d : B) (g : ℕ → B) (b : Bool) (m : ℕ) → cond b (g m) d ≡ if_there d g (cond b (Some m)
    None)
there_at d g true m = refl
there_at d g false m = refl

-- ---- digits by halving

next_suc : (v k rest : ℕ) (bits new : List Bool) → bits ≡ numbered (digit v) k → rest ≡ v / 2 ^ k →
    new ≡ bits ++ (rest % 2 == 1) ∷ [] → (new ≡ numbered (digit v) (suc k)) × (rest / 2 ≡ v / 2 ^ suc k)
next_suc v k rest bits new is left grown = (
  grown ∙ ap (λ (xs : List Bool). xs ++ (rest % 2 == 1) ∷ []) is
      ∙ ap (λ r. numbered (digit v) k ++ (r % 2 == 1) ∷ []) left,
  ap (λ r. r / 2) left ∙ div-div-eq-div-mul v (2 ^ k) 2 ∙ ap (λ m. v / m) (sym (pow-suc 2 k)),
)

-- one digit more, and the number halved once more
pub next_digit : (v k rest : ℕ) (bits new : List Bool) → bits ≡ numbered (digit v) k → rest ≡ v / 2 ^ k →
    new ≡ bits ++ (rest % 2 == 1) ∷ [] → (new ≡ numbered (digit v) (k + 1)) × (rest / 2 ≡ v / 2 ^ (k + 1))
next_digit v k rest bits new is left grown =
    subst (λ m. (new ≡ numbered (digit v) m) × (rest / 2 ≡ v / 2 ^ m)) (sym (add-one k)) (next_suc v k rest bits new
    is left grown)

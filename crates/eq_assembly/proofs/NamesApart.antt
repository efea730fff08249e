-- Names none of which comes again are apart.
use Rattle.std.proofs.Common.{◌≡◌, ◌≢◌, ℕ, zero, suc, ◌<◌, Bool, true, false, ◌||◌, cond, List, [], ◌∷◌, ◌++◌, length, map, slice_index_or, AllPairs, Option, Some, None, bytes_eq, refl, arith, sym, ap, ◌∙◌, inl, inr}
use Rattle.std.proofs.lemmas.Bool.{cases_Bool, cases_lt}
use Rattle.std.proofs.lemmas.List.Folds.{list_any-append}
use Rattle.std.proofs.lemmas.List.Kept.{AllPairs-cons}
use Rattle.std.proofs.lemmas.Slice.Eq.{bytes_eq-Decides}
use Rattle.eq_verilog.specs.Trees.{Name}
use Rattle.eq_verilog.specs.Declarations.{has}
use Rattle.eq_verilog.specs.Firsts.{again_after}
use Rattle.eq_flatten.proofs.Truths.{or_false, or_left, or_right, true_false}

passed : (t : Bool) (n : Name) (o : Option Name) → cond t (Some n) o ≡ None → (t ≡ false) × (o ≡ None)
passed true n o e = absurd (cc)
passed false n o e = (refl, e)

-- a name that was seen doesn't come
none_seen : (n : Name) (ns seen : List Name) → again_after seen ns ≡ None → has seen n ≡ true → has ns n ≡ false
none_seen n [] seen e h = refl
none_seen n (x ∷ xs) seen e h =
    let step = passed (has seen x) x (again_after (x ∷ seen) xs) e in
    let rest = none_seen n xs (x ∷ seen) step.1 (or_right (bytes_eq n x) (has seen n) h) in
    elim (cases_Bool (bytes_eq n x)) [
      | inl here ↦
          let same : n ≡ x = (bytes_eq-Decides n x).0 here in
          absurd (true_false (has seen x) (ap (λ (k : Name). has seen k) (sym same) ∙ h) step.0)
      | inr other ↦ ap (λ (b : Bool). b || has xs n) other ∙ rest
    ]

-- a name of a list doesn't come behind it
pub not_behind : (n : Name) (xs ys seen : List Name) → again_after seen (xs ++ ys) ≡ None → has xs n ≡ true →
    has ys n ≡ false
not_behind n [] ys seen e h = absurd (cc)
not_behind n (x ∷ xs) ys seen e h =
    let step = passed (has seen x) x (again_after (x ∷ seen) (xs ++ ys)) e in
    elim (cases_Bool (bytes_eq n x)) [
      | inl here ↦
          let none = none_seen n (xs ++ ys) (x ∷ seen) step.1 (or_left (bytes_eq n x) (has seen n) here) in
          (or_false (has xs n) (has ys n) (sym (list_any-append (bytes_eq n) xs ys) ∙ none)).1
      | inr other ↦ not_behind n xs ys (x ∷ seen) step.1 (sym (ap (λ (b : Bool). b || has xs n) other) ∙ h)
    ]

-- a name is among others that begin with it
pub has_first : (n : Name) (ns : List Name) → has (n ∷ ns) n ≡ true
has_first n ns = or_left (bytes_eq n n) (has ns n) ((bytes_eq-Decides n n).1 refl)

pub has_at : (ns : List Name) (k : ℕ) (d : Name) → k < length ns → has ns (slice_index_or ns k d) ≡ true
has_at [] k d lt = absurd (omega (arith, lt))
has_at (n ∷ ns) zero d lt = has_first n ns
has_at (n ∷ ns) (suc k) d lt =
    or_right (bytes_eq (slice_index_or ns k d) n) (has ns (slice_index_or ns k d)) (has_at ns k d (omega (arith, lt)))

module _ {A : Type 0} (f : A → Name) where
  has_mapped : (xs : List A) (k : ℕ) (d : A) → k < length xs → has (map f xs) (f (slice_index_or xs k d)) ≡ true
  has_mapped [] k d lt = absurd (omega (arith, lt))
  has_mapped (x ∷ xs) zero d lt = has_first (f x) (map f xs)
  has_mapped (x ∷ xs) (suc k) d lt =
      or_right (bytes_eq (f (slice_index_or xs k d)) (f x)) (has (map f xs) (f (slice_index_or xs k d)))
      (has_mapped xs k d (omega (arith, lt)))

  -- what has these names is apart by them
  pub apart_by : (xs : List A) (seen : List Name) → again_after seen (map f xs) ≡ None → AllPairs (λ a b. f a ≢ f b) xs
  apart_by [] seen e = λ i j d lt within. absurd (omega (arith, within))
  apart_by (x ∷ xs) seen e =
      let step = passed (has seen (f x)) (f x) (again_after (f x ∷ seen) (map f xs)) e in
      let none = none_seen (f x) (map f xs) (f x ∷ seen) step.1 (has_first (f x) seen) in
      AllPairs-cons (λ a b. f a ≢ f b) x xs
      (λ k d lt same.
      true_false (has (map f xs) (f x)) (ap (λ (n : Name). has (map f xs) n) same ∙ has_mapped xs k d lt) none)
      (apart_by xs (f x ∷ seen) step.1)

  -- so one name stands at one place
  pub one_place : (xs : List A) → AllPairs (λ a b. f a ≢ f b) xs → (i k : ℕ) (d : A) → i < length xs → k < length xs →
      f (slice_index_or xs i d) ≡ f (slice_index_or xs k d) → i ≡ k
  one_place xs apart i k d li lk e = elim (cases_lt i k) [
    | inl less ↦ absurd (apart i k d less lk e)
    | inr ge ↦ (elim (cases_lt k i) [
      | inl less ↦ absurd (apart k i d less li (sym e))
      | inr le ↦ omega arith
    ])
  ]

-- A sum that is counted up to the most that is told, over a list from a place on.
use Rattle.std.proofs.Common.{◌≡◌, ℕ, ◌+◌, ◌<◌, ◌≤◌, List, length, drop, slice_index_or, sym, ap, ◌∙◌, arith}
use Rattle.std.specs.Prelude.{sum_by}
use Rattle.std.proofs.lemmas.List.{drop_all}
use Rattle.std.proofs.lemmas.List.Sums.{sum_by-drop_more}
use Rattle.eq_cost.specs.Counts.{told}

-- what was counted, with what is left, is the whole sum
abbrev pub IsRunning : {A : Type 0} → (A → ℕ) → List A → ℕ → ℕ → Type 0
IsRunning f xs k total = told (total + sum_by f (drop k xs)) ≡ told (sum_by f xs)

stepped : (t p r left whole more : ℕ) → told (t + left) ≡ told whole → left ≡ p + r → told more ≡ told (t + p) →
    told (more + r) ≡ told whole
stepped t p r left whole more h e k = omega arith

ended : (t left whole : ℕ) → told (t + left) ≡ told whole → left ≡ 0 → told t ≡ told whole
ended t left whole h e = omega arith

module _ {A : Type 0} (f : A → ℕ) (xs : List A) where
  -- one more
  pub running_next : (k : ℕ) (x : A) (t more : ℕ) → k < length xs → x ≡ slice_index_or xs k x → IsRunning f xs k t →
      told more ≡ told (t + f x) → IsRunning f xs (k + 1) more
  running_next k x t more lt is h e =
      stepped t (f x) (sum_by f (drop (k + 1) xs)) (sum_by f (drop k xs)) (sum_by f xs) more h
      (sum_by-drop_more f xs k x lt ∙ ap (λ (y : A). f y + sum_by f (drop (k + 1) xs)) (sym is)) e

  -- all of them
  pub running_all : (k t : ℕ) → length xs ≤ k → IsRunning f xs k t → told t ≡ told (sum_by f xs)
  running_all k t end h =
      ended t (sum_by f (drop k xs)) (sum_by f xs) h (ap (λ (ys : List A). sum_by f ys) (drop_all k xs end))

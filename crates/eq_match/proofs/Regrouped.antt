-- Keys and marks position by position, and the classes that they make.
use Rattle.std.proofs.Common.{◌≡◌, ℕ, ◌<◌, ◌+◌, ◌⊎◌, inl, inr, List, [], ◌∷◌, ◌++◌, Bool, true, false, ◌&&◌, ◌||◌, eqb, length, replicate, set, get_or, refl, arith, sym, ap, subst, ◌∙◌, add-one, get_or-set_same, get_or-set_other}
use Rattle.std.proofs.lemmas.Bool.{cases_eq, cases_lt, and_right, eq-eqb, ne_eqb}
use Rattle.std.proofs.lemmas.List.{get_or_append_left, get_or_push, get_or-replicate}
use Rattle.eq_model.specs.Cut.{any_below}
use Rattle.eq_model.specs.Frames.{values}
use Rattle.eq_match.specs.Leaders.{leader_at}
use Rattle.eq_match.specs.inner.Keys.{AreLed}

below : (j i : ℕ) → j < i + 1 → (j < i) ⊎ (j ≡ i)
below j i h = elim (cases_lt j i) [ inl less ↦ inl less | inr more ↦ inr (omega arith) ]

-- what holds of each element holds with one more
pub each_more : {X : Type 0} (xs : List X) (n : ℕ) (d : X) (f : ℕ → X) (x : X) → length xs ≡ n →
    ((i : ℕ) → i < n → get_or xs i d ≡ f i) → x ≡ f n → (i : ℕ) → i < n + 1 → get_or (xs ++ x ∷ []) i d ≡ f i
each_more xs n d f x count each e i h = elim (below i n h) [
  | inl less ↦ get_or_append_left xs (x ∷ []) d i (omega arith) ∙ each i less
  | inr same ↦ subst (λ m. get_or (xs ++ x ∷ []) m d ≡ f m) (sym same) (get_or_push xs x d n count ∙ e)
]

and_true : (x : Bool) → (x && true) ≡ x
and_true true = refl
and_true false = refl

-- at first no leader is marked
pub none_led : (leaders : List ℕ) (test : ℕ → Bool) → AreLed leaders test 0 (replicate (length leaders) false)
none_led leaders test l h = get_or-replicate (length leaders) l false false h

-- the leader of one position more is marked
pub led_more : (leaders : List ℕ) (test : ℕ → Bool) (n : ℕ) (marks : List Bool) → length marks ≡ length leaders →
    AreLed leaders test n marks → (on : Bool) → on ≡ test n →
    AreLed leaders test (n + 1) (set marks (leader_at leaders n) (on || values marks (leader_at leaders n)))
led_more leaders test n marks count led on is_on l h = elim (cases_eq l (leader_at leaders n)) [
  | inl same ↦ ap (values (set marks (leader_at leaders n) (on || values marks (leader_at leaders n)))) same ∙
      get_or-set_same marks (leader_at leaders n) _ false (omega arith) ∙
      ap (λ k. on || values marks k) (sym same) ∙ ap (λ b. on || b) (led l h) ∙
      ap (λ b. b || any_below n (λ j. test j && eqb l (leader_at leaders j)))
      (is_on ∙ sym (and_true (test n)) ∙ ap (λ b. test n && b) (sym (eq-eqb l (leader_at leaders n) same))) ∙
      ap (λ m. any_below m (λ j. test j && eqb l (leader_at leaders j))) (sym (add-one n))
  | inr apart ↦ get_or-set_other marks (leader_at leaders n) l _ false apart ∙ led l h ∙
      ap (λ b. b || any_below n (λ j. test j && eqb l (leader_at leaders j)))
      (sym (and_right (test n) _ (ne_eqb l (leader_at leaders n) apart))) ∙
      ap (λ m. any_below m (λ j. test j && eqb l (leader_at leaders j))) (sym (add-one n))
]

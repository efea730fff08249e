-- What was written, and one line, field or try more.
use Rattle.std.proofs.Common.{◌≡◌, ℕ, ◌+◌, ◌<◌, zero, suc, List, [], ◌∷◌, ◌++◌, length, get_or, take, Some, slice_get, arith, refl, sym, ap, ◌∙◌, append_assoc}
use Rattle.std.specs.Prelude.{map}
use Rattle.std.specs.List.{flat_map}
use Rattle.std.proofs.lemmas.List.{append-nil, take_more, map-append}
use Rattle.std.proofs.lemmas.Grind.{flat_map-append}
use Rattle.eq_bits.specs.declared.part.Part.{Part}
use Rattle.eq_config.specs.declared.config.Strategy.{Strategy}
use Rattle.eq_induct.specs.declared.types.Try.{Try}
use Rattle.eq_proof.specs.Inference.{Inference}
use Rattle.eq_wit.specs.Line.{Line, line_text, lines_text}
use Rattle.eq_wit.specs.Texts.{log_lines, step_fields, tries_lines}
use Rattle.eq_wit.specs.Tried.{heads_of}
use Rattle.eq_wit.specs.inner.Tries.{lines_of_try}

-- what was written behind what was written before
pub behind : (start out new a b : List ℕ) → out ≡ start ++ a → new ≡ out ++ b → new ≡ start ++ (a ++ b)
behind start out new a b first second = second ∙ ap (λ (o : List ℕ). o ++ b) first ∙ append_assoc start a b

module _ {A B : Type 0} where
  -- one piece more
  pub one_more : (g : B → List ℕ) (f : A → B) (xs : List A) (i : ℕ) (d x : A) (start out new : List ℕ) → i < length xs
      → get_or xs i d ≡ x → out ≡ start ++ flat_map g (map f (take i xs)) → new ≡ out ++ g (f x)
      → new ≡ start ++ flat_map g (map f (take (i + 1) xs))
  one_more g f xs i d x start out new within is so_far more =
      let front : take (i + 1) xs ≡ take i xs ++ x ∷ [] = take_more xs i d within
      ∙ ap (λ (y : A). take i xs ++ y ∷ []) is in
      behind start out new (flat_map g (map f (take i xs))) (g (f x)) so_far more
      ∙ ap (λ (o : List ℕ). start ++ o)
      (ap (λ (o : List ℕ). flat_map g (map f (take i xs)) ++ o) (sym (append-nil (g (f x))))
      ∙ sym (flat_map-append g (map f (take i xs)) (f x ∷ []))
      ∙ ap (flat_map g) (sym (map-append f (take i xs) (x ∷ [])) ∙ ap (map f) (sym front)))

  -- some pieces more
  pub some_more : (g : B → List ℕ) (f : A → List B) (xs : List A) (i : ℕ) (d x : A) (start out new : List ℕ)
      → i < length xs → get_or xs i d ≡ x
      → out ≡ start ++ flat_map g (flat_map f (take i xs)) → new ≡ out ++ flat_map g (f x)
      → new ≡ start ++ flat_map g (flat_map f (take (i + 1) xs))
  some_more g f xs i d x start out new within is so_far more =
      let front : take (i + 1) xs ≡ take i xs ++ x ∷ [] = take_more xs i d within
      ∙ ap (λ (y : A). take i xs ++ y ∷ []) is in
      behind start out new (flat_map g (flat_map f (take i xs))) (flat_map g (f x)) so_far more
      ∙ ap (λ (o : List ℕ). start ++ o)
      (sym (flat_map-append g (flat_map f (take i xs)) (f x))
      ∙ ap (λ (ls : List B). flat_map g (flat_map f (take i xs) ++ ls)) (sym (append-nil (f x)))
      ∙ ap (flat_map g) (sym (flat_map-append f (take i xs) (x ∷ [])) ∙ ap (flat_map f) (sym front)))

-- a step more
pub step_more : (n : ℕ) (log : List Inference) (i : ℕ) (step : Inference) → slice_get log i ≡ Some step →
    lines_text (log_lines n (take (suc i) log)) ≡ lines_text (log_lines n (take i log)) ++ line_text (step_fields (n + i) step)
step_more n [] i step e = absurd (cc e)
step_more n (s ∷ log) zero step e =
    let is : s ≡ step = cc e in
    let first : n + 0 ≡ n = omega arith in
    append-nil (line_text (step_fields n s)) ∙ ap (λ (t : Inference). line_text (step_fields n t)) is
    ∙ ap (λ (m : ℕ). line_text (step_fields m step)) (sym first)
step_more n (s ∷ log) (suc i) step e =
    let number : suc n + i ≡ n + suc i = omega arith in
    ap (λ (o : List ℕ). line_text (step_fields n s) ++ o)
    (step_more (suc n) log i step e ∙ ap (λ (m : ℕ). lines_text (log_lines (suc n) (take i log)) ++ line_text (step_fields m step)) number)
    ∙ sym (append_assoc (line_text (step_fields n s)) (lines_text (log_lines (suc n) (take i log)))
    (line_text (step_fields (n + suc i) step)))

-- tries with the heads of their strategies are written one after the other
pub tries_one_by_one : (part : Part) (strategies : List Strategy) (tries : List Try) →
    tries_lines part (heads_of strategies tries) tries ≡ flat_map (lines_of_try part strategies) tries
tries_one_by_one part strategies [] = refl
tries_one_by_one part strategies (t ∷ tries) =
    ap (λ (ls : List Line). lines_of_try part strategies t ++ ls) (tries_one_by_one part strategies tries)

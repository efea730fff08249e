-- Lists whose last element changes, and what one line more says.
use Rattle.std.proofs.Common.{◌≡◌, List, [], ◌∷◌, ◌++◌, refl, ap, ◌∙◌}
use Rattle.eq_config.specs.Sections.{on_last}

on_last_push : {A : Type 0} (change : A → A) (xs : List A) (x : A) → on_last change (xs ++ x ∷ []) ≡ xs ++ change x ∷ []
on_last_push change [] x = refl
on_last_push change (a ∷ []) x = refl
on_last_push change (a ∷ b ∷ xs) x = ap (λ ys. a ∷ ys) (on_last_push change (b ∷ xs) x)

pub on_last_is : {A : Type 0} (change : A → A) (xs ys : List A) (x : A) → ys ≡ xs ++ x ∷ [] → on_last change ys ≡ xs ++ change x ∷ []
on_last_is change xs ys x is = ap (on_last change) is ∙ on_last_push change xs x

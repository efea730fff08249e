-- Elements of a list at their places, with one element more.
use Rattle.std.proofs.Common.{◌≡◌, ℕ, zero, suc, List, [], ◌∷◌, ◌++◌, length, slice_get, Some, subst}
use Rattle.std.proofs.lemmas.Option.{none-some, same_Some}

-- what holds of each old element at its place, and of the new one at its own, holds of all
pub each_pushed : {X : Type 0} (P : ℕ → X → Type 0) (xs : List X) (y : X) →
    ((i : ℕ) (x : X) → slice_get xs i ≡ Some x → P i x) → P (length xs) y →
    (i : ℕ) (x : X) → slice_get (xs ++ y ∷ []) i ≡ Some x → P i x
each_pushed P [] y old new zero x e = subst (P 0) (same_Some y x e) new
each_pushed P [] y old new (suc i) x e = absurd (none-some x e)
each_pushed P (z ∷ xs) y old new zero x e = old 0 x e
each_pushed P (z ∷ xs) y old new (suc i) x e =
    each_pushed (λ j v. P (suc j) v) xs y (λ j v h. old (suc j) v h) new i x e

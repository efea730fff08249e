-- A round, with one partition more.
use Rattle.std.proofs.Common.{◌≡◌, ℕ, zero, suc, ◌+◌, List, [], ◌∷◌, ◌++◌, length, length-append, slice_get, Some, ap, refl, subst, sym, ◌∙◌}
use Rattle.std.proofs.lemmas.Option.{none-some, same_Some}
use Rattle.eq_round.specs.Done.{AreDone, IsPartitionDone}
use Rattle.eq_round.specs.declared.deciding.Done.{Done}
use Rattle.eq_round.specs.declared.work.Work.{Work}

-- what holds of each old element at its place, and of the new one at its own, holds of all
each_pushed : {X : Type 0} (P : ℕ → X → Type 0) (xs : List X) (y : X) →
    ((i : ℕ) (x : X) → slice_get xs i ≡ Some x → P i x) → P (length xs) y →
    (i : ℕ) (x : X) → slice_get (xs ++ y ∷ []) i ≡ Some x → P i x
each_pushed P [] y old new zero x e = subst (P 0) (same_Some y x e) new
each_pushed P [] y old new (suc i) x e = absurd (none-some x e)
each_pushed P (z ∷ xs) y old new zero x e = old 0 x e
each_pushed P (z ∷ xs) y old new (suc i) x e =
    each_pushed (λ j v. P (suc j) v) xs y (λ j v h. old (suc j) v h) new i x e

pub none_done : (w : Work) (first : ℕ) → AreDone w first 0 []
none_done w first = record { as_many = refl; each = λ j d at. absurd (none-some d at) }

pub one_done_more : (w : Work) (first count : ℕ) (round after : List Done) (d : Done) → AreDone w first count round →
    IsPartitionDone w (first + count) d → after ≡ round ++ d ∷ [] → AreDone w first (count + 1) after
one_done_more w first count round after d so_far done is =
    let P : ℕ → Done → Type 0 = λ j v. IsPartitionDone w (first + j) v in
    subst (AreDone w first (count + 1)) (sym is) (record {
      as_many = length-append round (d ∷ []) ∙ ap (λ (m : ℕ). m + 1) so_far.as_many;
      each = each_pushed P round d so_far.each
          (subst (λ (m : ℕ). IsPartitionDone w (first + m) d) (sym so_far.as_many) done);
    })

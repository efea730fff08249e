-- The module of a name stands at the place of the name.
use Rattle.std.proofs.Common.{◌≡◌, ℕ, suc, ◌+◌, ◌-◌, ◌≤◌, List, [], ◌∷◌, Bool, true, false, cond, Option, Some, None, refl, sym, ap, subst, ◌∙◌, arith}
use Rattle.std.specs.Prelude.{slice_get}
use Rattle.std.specs.List.{position_from}
use Rattle.std.specs.Str.{bytes_eq}
use Rattle.std.proofs.lemmas.Iterator.Adapters.{position_from-zero}
use Rattle.eq_names.specs.Tables.{number_of}
use Rattle.eq_verilog.specs.Trees.{Name, ModuleTree}
use Rattle.eq_verilog.specs.Hierarchy.{module_names, module_named}

-- what was found is at this place, counted from i
abbrev IsFoundAt : List ModuleTree → ℕ → Option ModuleTree → Option ℕ → Type 0
IsFoundAt ms i found None = found ≡ None
IsFoundAt ms i found (Some k) = (i ≤ k) × (found ≡ slice_get ms (k - i))

behind : (m : ModuleTree) (ms : List ModuleTree) (i : ℕ) (found : Option ModuleTree) (o : Option ℕ) →
    IsFoundAt ms (i + 1) found o → IsFoundAt (m ∷ ms) i found o
behind m ms i found None h = h
behind m ms i found (Some k) h =
    let low = h.0 in
    let next : k - i ≡ suc (k - (i + 1)) = omega (arith, low) in
    (omega (arith, low), h.1 ∙ ap (λ (j : ℕ). slice_get (m ∷ ms) j) (sym next))

here_or_behind : (m : ModuleTree) (ms : List ModuleTree) (i : ℕ) (found : Option ModuleTree) (o : Option ℕ) (b : Bool) →
    IsFoundAt ms (i + 1) found o → IsFoundAt (m ∷ ms) i (cond b (Some m) found) (cond b (Some i) o)
here_or_behind m ms i found o true h =
    let none : i - i ≡ 0 = omega arith in
    (omega arith, ap (λ (j : ℕ). slice_get (m ∷ ms) j) (sym none))
here_or_behind m ms i found o false h = behind m ms i found o h

found_at : (ms : List ModuleTree) (n : Name) (i : ℕ) →
    IsFoundAt ms i (module_named ms n) (position_from (bytes_eq n) i (module_names ms))
found_at [] n i = refl
found_at (m ∷ ms) n i =
    here_or_behind m ms i (module_named ms n) (position_from (bytes_eq n) (i + 1) (module_names ms)) (bytes_eq n m.name)
    (found_at ms n (i + 1))

found : (ms : List ModuleTree) (n : Name) → IsFoundAt ms 0 (module_named ms n) (number_of (module_names ms) n)
found ms n = subst (λ (o : Option ℕ). IsFoundAt ms 0 (module_named ms n) o)
    (sym (position_from-zero (bytes_eq n) (module_names ms))) (found_at ms n 0)

pub found_there : (ms : List ModuleTree) (n : Name) (k : ℕ) → number_of (module_names ms) n ≡ Some k →
    module_named ms n ≡ slice_get ms k
found_there ms n k is =
    let h = subst (λ (o : Option ℕ). IsFoundAt ms 0 (module_named ms n) o) is (found ms n) in
    let all : k - 0 ≡ k = omega arith in
    h.1 ∙ ap (λ (j : ℕ). slice_get ms j) all

pub found_nowhere : (ms : List ModuleTree) (n : Name) → number_of (module_names ms) n ≡ None → module_named ms n ≡ None
found_nowhere ms n is = subst (λ (o : Option ℕ). IsFoundAt ms 0 (module_named ms n) o) is (found ms n)

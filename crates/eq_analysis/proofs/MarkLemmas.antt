-- One bit more in a row of bits that are marked.
use Rattle.std.proofs.Common.{◌≡◌, ℕ, suc, ◌+◌, List, ◌∷◌, ◌++◌, Bool, true, false, cond, ◌||◌, nat_eq, Option, Some, refl, sym, ap, ap₂, subst, ◌∙◌, arith}
use Rattle.std.specs.Prelude.{is_some}
use Rattle.std.specs.List.{list_any}
use Rattle.eq_verilog.specs.Costs.{has_bit}
use Rattle.eq_analysis.specs.Marking.{Marks, mark_of, is_marked, AreMarked, run}

is_some_cond : (t : Bool) (o : Option Bool) → is_some (cond t (Some true) o) ≡ (t || is_some o)
is_some_cond true o = refl
is_some_cond false o = refl

run_more : (low j : ℕ) → run low (j + 1) ≡ (low + j) ∷ run low j
run_more low j = let e : j + 1 ≡ suc j = omega arith in ap (run low) e

pub marked_more : (old new : Marks) (low j bit : ℕ) (seen : List ℕ) → bit ≡ low + j →
    ((b : ℕ) → mark_of new b ≡ cond (nat_eq bit b) (Some true) (mark_of old b)) →
    AreMarked old (run low j ++ seen) → AreMarked new (run low (j + 1) ++ seen)
marked_more old new low j bit seen e step are =
    subst (λ (ns : List ℕ). AreMarked new (ns ++ seen)) (sym (run_more low j))
    (λ b. ap (λ (o : Option Bool). is_some o) (step b)
    ∙ is_some_cond (nat_eq bit b) (mark_of old b)
    ∙ ap₂ (λ (x : ℕ) (y : Bool). nat_eq x b || y) e (are b))

pub found_more : (marks : Marks) (low j bit : ℕ) (seen : List ℕ) (found more : Bool) → bit ≡ low + j →
    more ≡ (is_marked marks bit || found) → AreMarked marks seen → found ≡ list_any (has_bit seen) (run low j) →
    more ≡ list_any (has_bit seen) (run low (j + 1))
found_more marks low j bit seen found more e step are so_far =
    step
    ∙ ap₂ (λ (x y : Bool). x || y) (ap (λ (n : ℕ). is_marked marks n) e ∙ are (low + j)) so_far
    ∙ ap (λ (ns : List ℕ). list_any (has_bit seen) ns) (sym (run_more low j))

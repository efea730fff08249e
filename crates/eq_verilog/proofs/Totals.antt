-- The cost of a design, module by module: what an instance costs with all in it doesn't depend on where it stands. So
-- one number for each module is enough.
use Rattle.std.proofs.Common.{◌≡◌, ℕ, zero, suc, ◌+◌, List, [], ◌∷◌, ◌++◌, length, flat_map, sum_by, Option, Some, None, refl, arith, ap, sym, ◌∙◌}
use Rattle.std.proofs.lemmas.List.Sums.{sum_by-cons}
use Rattle.eq_net.specs.Meaning.{if_there}
use Rattle.eq_verilog.specs.Trees.{Name, ModuleTree}
use Rattle.eq_verilog.specs.Hierarchy.{Instance, instances, module_named, Path, inner_prefix, paths_from, paths}
use Rattle.eq_verilog.specs.Costs.{module_cost, cost_below, design_cost}

-- what paths cost, each with 1 for itself
abbrev pub total : List ModuleTree → List Path → ℕ
total all [] = 0
total all (p ∷ ps) = suc (module_cost all p.of) + total all ps

-- what all paths have, counted apart
abbrev pub apart : List ModuleTree → List Path → ℕ
apart all ps = sum_by (λ (p : Path). module_cost all p.of) ps

added : (n s c r t : ℕ) → n + r ≡ t → s ≡ c + r → suc n + s ≡ suc c + t
added n s c r t h e = omega arith

moved : (c x y z : ℕ) → x ≡ y + z → suc c + x ≡ (suc c + y) + z
moved c x y z e = omega arith

total_is : (all : List ModuleTree) (ps : List Path) → length ps + apart all ps ≡ total all ps
total_is all [] = refl
total_is all (p ∷ ps) =
    added (length ps) (apart all (p ∷ ps)) (module_cost all p.of) (apart all ps) (total all ps)
    (total_is all ps) (sum_by-cons (λ (p : Path). module_cost all p.of) p ps)

total_joined : (all : List ModuleTree) (ps qs : List Path) → total all (ps ++ qs) ≡ total all ps + total all qs
total_joined all [] qs = (let e : total all qs ≡ 0 + total all qs = omega arith in e)
total_joined all (p ∷ ps) qs =
    moved (module_cost all p.of) (total all (ps ++ qs)) (total all ps) (total all qs) (total_joined all ps qs)

-- the paths of an instance in a path with this prefix, and what it costs
abbrev pub inside : List ModuleTree → ℕ → Name → Instance → List Path
inside all k prefix i = if_there [] (paths_from all k (inner_prefix prefix i.name)) (module_named all i.module_name)

abbrev pub inside_cost : List ModuleTree → ℕ → Instance → ℕ
inside_cost all k i = if_there 0 (cost_below all k) (module_named all i.module_name)

-- that paths k deep cost what the module costs, whatever their prefix
abbrev pub Settled : List ModuleTree → ℕ → Type 0
Settled all k = (prefix : Name) (m : ModuleTree) → total all (paths_from all k prefix m) ≡ cost_below all k m

one : (all : List ModuleTree) (k : ℕ) → Settled all k → (prefix : Name) (o : Option ModuleTree) →
    total all (if_there [] (paths_from all k prefix) o) ≡ if_there 0 (cost_below all k) o
one all k each prefix None = refl
one all k each prefix (Some m) = each prefix m

many : (all : List ModuleTree) (k : ℕ) → Settled all k → (prefix : Name) (is : List Instance) →
    total all (flat_map (inside all k prefix) is) ≡ sum_by (inside_cost all k) is
many all k each prefix [] = refl
many all k each prefix (i ∷ is) =
    total_joined all (inside all k prefix i) (flat_map (inside all k prefix) is)
    ∙ ap (λ x. x + total all (flat_map (inside all k prefix) is))
    (one all k each (inner_prefix prefix i.name) (module_named all i.module_name))
    ∙ ap (λ x. inside_cost all k i + x) (many all k each prefix is)
    ∙ sym (sum_by-cons (inside_cost all k) i is)

-- what an instance costs with all in it
pub total_below : (all : List ModuleTree) (k : ℕ) → Settled all k
total_below all zero prefix m = refl
total_below all (suc k) prefix m =
    ap (λ x. suc (module_cost all m) + x) (many all k (total_below all k) prefix (instances m))

-- the cost of a design by the cost of its top
pub design_total : (all : List ModuleTree) (top : Name) →
    design_cost all top ≡ 1 + if_there 0 (cost_below all (length all)) (module_named all top)
design_total all top = ap (λ x. 1 + x) (total_is all (paths all top) ∙ at_top (module_named all top))
  where
    at_top : (o : Option ModuleTree) →
        total all (if_there [] (paths_from all (length all) []) o) ≡ if_there 0 (cost_below all (length all)) o
    at_top None = refl
    at_top (Some m) = total_below all (length all) [] m

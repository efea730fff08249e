-- The outputs of gates among their terminals.
use Rattle.std.proofs.Common.{◌≡◌, ℕ, suc, ◌-◌, min, List, [], ◌∷◌, length, map, take, refl, sym, ap, ◌∙◌, arith}
use Rattle.std.proofs.lemmas.List.{length-map, take-map}
use Rattle.eq_vparse.specs.declared.tree.Expr.{Expr}
use Rattle.eq_vparse.specs.declared.tree.GateKind.{GateKind}
use Rattle.eq_vparse.specs.declared.tree.GateKind.TheVariants as kind
use Rattle.eq_verilog.specs.Trees.{expr_tree}
use Rattle.eq_verilog.specs.Equations.{gate_outputs}
use Rattle.eq_analysis.specs.inner.Outgoing.{outputs}

one_least : (n : ℕ) → min (suc n) 1 ≡ 1
one_least n = omega arith

first_one : (ts : List Expr) → map expr_tree (take (min (length ts) 1) ts) ≡ take 1 (map expr_tree ts)
first_one [] = refl
first_one (t ∷ ts) = ap (λ (n : ℕ). map expr_tree (take n (t ∷ ts))) (one_least (length ts))

all_but_one : (ts : List Expr) →
    map expr_tree (take (length ts - 1) ts) ≡ take (length (map expr_tree ts) - 1) (map expr_tree ts)
all_but_one ts =
    sym (take-map expr_tree (length ts - 1) ts)
    ∙ ap (λ (n : ℕ). take (n - 1) (map expr_tree ts)) (sym (length-map ts expr_tree))

-- they come first
pub outputs_taken : (k : GateKind) (ts : List Expr) →
    map expr_tree (take (outputs k (length ts)) ts) ≡ gate_outputs k (map expr_tree ts)
outputs_taken kind.Buf ts = all_but_one ts
outputs_taken kind.Not ts = all_but_one ts
outputs_taken kind.And ts = first_one ts
outputs_taken kind.Nand ts = first_one ts
outputs_taken kind.Or ts = first_one ts
outputs_taken kind.Nor ts = first_one ts
outputs_taken kind.Xor ts = first_one ts
outputs_taken kind.Xnor ts = first_one ts

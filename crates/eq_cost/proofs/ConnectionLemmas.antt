-- Connections one after the other, by name and in the order of the ports.
use Rattle.std.proofs.Common.{◌≡◌, ℕ, zero, suc, ◌+◌, ◌<◌, ◌≤◌, min, List, [], ◌∷◌, Option, Some, None, length, drop, map, slice_index_or, refl, sym, ap, ap₂, ◌∙◌, arith}
use Rattle.std.specs.Prelude.{if◌then◌else◌, option_map, sum_by, filter_map, zip}
use Rattle.std.specs.List.{cons_option}
use Rattle.std.proofs.lemmas.List.Sums.{sum_by-cons}
use Rattle.std.proofs.lemmas.List.{drop_more}
use Rattle.eq_vparse.specs.declared.tree.Expr.{Expr}
use Rattle.eq_net.specs.Meaning.{if_there}
use Rattle.eq_verilog.specs.Trees.{Name, ExprTree, ModuleTree, NamedConnection, by_order, by_name, expr_tree}
use Rattle.eq_verilog.specs.Scopes.{Scope}
use Rattle.eq_verilog.specs.Declarations.{has}
use Rattle.eq_verilog.specs.Equations.{connected, connections_of}
use Rattle.eq_verilog.specs.Costs.{connection_cost}
use Rattle.eq_cost.specs.Counts.{told}
use Rattle.eq_cost.specs.inner.Connecting.{maybe_cost, ordered_cost, named_cost}

-- a sum over those that there are
pub sum_there : {A B : Type 0} (g : B → ℕ) (f : A → Option B) (xs : List A) →
    sum_by (λ x. if_there 0 g (f x)) xs ≡ sum_by g (filter_map f xs)
sum_there g f [] = refl
sum_there g f (x ∷ xs) =
    sum_by-cons (λ y. if_there 0 g (f y)) x xs
    ∙ ap (λ n. if_there 0 g (f x) + n) (sum_there g f xs)
    ∙ one (f x) (filter_map f xs)
  where
    none : (n : ℕ) → 0 + n ≡ n
    none n = omega arith

    one : (o : Option _) (ys : List _) → if_there 0 g o + sum_by g ys ≡ sum_by g (cons_option o ys)
    one None ys = none (sum_by g ys)
    one (Some y) ys = sym (sum_by-cons g y ys)

module _ (s : Scope) (i : ModuleTree) where
  ordered_pairs : (ps : List Name) (es : List (Option ExprTree)) → ordered_cost s i ps es
      ≡ sum_by (λ (p : Name × Option ExprTree). maybe_cost s i (connected p.0 p.1)) (zip ps es)
  ordered_pairs [] es = refl
  ordered_pairs (p ∷ ps) [] = refl
  ordered_pairs (p ∷ ps) (e ∷ es) =
      ap (λ n. maybe_cost s i (connected p e) + n) (ordered_pairs ps es)
      ∙ sym (sum_by-cons (λ (q : Name × Option ExprTree). maybe_cost s i (connected q.0 q.1)) (p, e) (zip ps es))

  pub ordered_sum : (es : List (Option ExprTree)) →
      ordered_cost s i i.ports es ≡ sum_by (connection_cost s i) (connections_of i (by_order es))
  ordered_sum es =
      ordered_pairs i.ports es
      ∙ sum_there (connection_cost s i) (λ (p : Name × Option ExprTree). connected p.0 p.1) (zip i.ports es)

  pub named_sum : (ns : List NamedConnection) →
      sum_by (named_cost s i) ns ≡ sum_by (connection_cost s i) (connections_of i (by_name ns))
  named_sum ns =
      sum_there (connection_cost s i)
      (λ (n : NamedConnection). if has i.ports n.port then connected n.port n.expr else None) ns

  stepped : (t p r left whole more : ℕ) → told (t + left) ≡ told whole → left ≡ p + r → told more ≡ told (t + p) →
      told (more + r) ≡ told whole
  stepped t p r left whole more h e k = omega arith

  ended : (t left whole : ℕ) → told (t + left) ≡ told whole → left ≡ 0 → told t ≡ told whole
  ended t left whole h e = omega arith

  -- those from a place on
  abbrev pub from : List Name → List (Option Expr) → ℕ → ℕ
  from ps es k = ordered_cost s i (drop k ps) (map (λ x. option_map expr_tree x) (drop k es))

  -- one place more
  pub ordered_next : (ps : List Name) (es : List (Option Expr)) (k : ℕ) (p : Name) (e : Option Expr) (t more : ℕ) →
      k < length ps → k < length es → p ≡ slice_index_or ps k p → e ≡ slice_index_or es k e →
      told (t + from ps es k) ≡ told (from ps es 0) →
      told more ≡ told (t + maybe_cost s i (connected p (option_map expr_tree e))) →
      told (more + from ps es (k + 1)) ≡ told (from ps es 0)
  ordered_next ps es k p e t more a b is here h d =
      stepped t (maybe_cost s i (connected p (option_map expr_tree e))) (from ps es (k + 1)) (from ps es k)
      (from ps es 0) more h
      (ap₂ (λ (ns : List Name) (xs : List (Option Expr)). ordered_cost s i ns (map (λ x. option_map expr_tree x) xs))
      (drop_more ps k p a) (drop_more es k e b)
      ∙ ap₂ (λ (n : Name) (x : Option Expr). maybe_cost s i (connected n (option_map expr_tree x)) + from ps es (k + 1))
      (sym is) (sym here)) d

  none_left : (ps : List Name) (es : List (Option Expr)) (k : ℕ) → min (length ps) (length es) ≤ k → from ps es k ≡ 0
  none_left [] [] zero h = refl
  none_left [] [] (suc k) h = refl
  none_left [] (e ∷ es) zero h = refl
  none_left [] (e ∷ es) (suc k) h = refl
  none_left (p ∷ ps) [] zero h = refl
  none_left (p ∷ ps) [] (suc k) h = shorter (drop k ps)
    where
      shorter : (ns : List Name) → ordered_cost s i ns [] ≡ 0
      shorter [] = refl
      shorter (n ∷ ns) = refl
  none_left (p ∷ ps) (e ∷ es) zero h = absurd (omega arith)
  none_left (p ∷ ps) (e ∷ es) (suc k) h = none_left ps es k (omega arith)

  -- all places
  pub ordered_all : (ps : List Name) (es : List (Option Expr)) (k t : ℕ) → min (length ps) (length es) ≤ k →
      told (t + from ps es k) ≡ told (from ps es 0) → told t ≡ told (from ps es 0)
  ordered_all ps es k t end h = ended t (from ps es k) (from ps es 0) h (none_left ps es k end)

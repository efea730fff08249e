-- What is wrong with connections one after the other, by name and in the order of the ports.
use Rattle.std.proofs.Common.{◌≡◌, ℕ, zero, suc, ◌+◌, ◌<◌, ◌≤◌, min, List, [], ◌∷◌, Option, Some, None, length, drop, map, slice_index_or, refl, sym, ap, ap₂, ◌∙◌, arith}
use Rattle.std.specs.Prelude.{if◌then◌else◌, option_map, zip}
use Rattle.std.specs.Option.{option_or}
use Rattle.std.proofs.lemmas.List.{drop_more}
use Rattle.eq_vparse.specs.declared.tree.Expr.{Expr}
use Rattle.eq_verilog.specs.Trees.{Name, ExprTree, ModuleTree, NamedConnection, by_order, by_name, expr_tree}
use Rattle.eq_verilog.specs.Declarations.{has}
use Rattle.eq_verilog.specs.Equations.{connected, connections_of}
use Rattle.eq_verilog.specs.Firsts.{first_found}
use Rattle.eq_verilog.specs.TargetRefusals.{bad_connected}
use Rattle.eq_analysis.specs.inner.Assigning.{maybe_bad, ordered_bad, named_bad}
use Rattle.eq_analysis.proofs.FirstLemmas.{found_there}

module _ (m i : ModuleTree) where
  ordered_pairs : (ps : List Name) (es : List (Option ExprTree)) → ordered_bad m i ps es
      ≡ first_found (λ (p : Name × Option ExprTree). maybe_bad m i (connected p.0 p.1)) (zip ps es)
  ordered_pairs [] es = refl
  ordered_pairs (p ∷ ps) [] = refl
  ordered_pairs (p ∷ ps) (e ∷ es) =
      ap (λ (o : Option Name). option_or (maybe_bad m i (connected p e)) o) (ordered_pairs ps es)

  -- by order
  pub ordered_found : (es : List (Option ExprTree)) →
      ordered_bad m i i.ports es ≡ first_found (bad_connected m i) (connections_of i (by_order es))
  ordered_found es =
      ordered_pairs i.ports es
      ∙ found_there (bad_connected m i) (λ (p : Name × Option ExprTree). connected p.0 p.1) (zip i.ports es)

  -- by name
  pub named_found : (ns : List NamedConnection) →
      first_found (named_bad m i) ns ≡ first_found (bad_connected m i) (connections_of i (by_name ns))
  named_found ns =
      found_there (bad_connected m i)
      (λ (n : NamedConnection). if has i.ports n.port then connected n.port n.expr else None) ns

  -- those from a place on
  abbrev pub from : List Name → List (Option Expr) → ℕ → Option Name
  from ps es k = ordered_bad m i (drop k ps) (map (λ x. option_map expr_tree x) (drop k es))

  -- one place, and those behind it
  one_more : (ps : List Name) (es : List (Option Expr)) (k : ℕ) (p : Name) (e : Option Expr) →
      k < length ps → k < length es → p ≡ slice_index_or ps k p → e ≡ slice_index_or es k e →
      from ps es k ≡ option_or (maybe_bad m i (connected p (option_map expr_tree e))) (from ps es (k + 1))
  one_more ps es k p e a b is here =
      ap₂ (λ (ns : List Name) (xs : List (Option Expr)). ordered_bad m i ns (map (λ x. option_map expr_tree x) xs))
      (drop_more ps k p a) (drop_more es k e b)
      ∙ ap₂ (λ (n : Name) (x : Option Expr).
      option_or (maybe_bad m i (connected n (option_map expr_tree x))) (from ps es (k + 1))) (sym is) (sym here)

  -- nothing is wrong at a place
  pub ordered_next : (ps : List Name) (es : List (Option Expr)) (k : ℕ) (p : Name) (e : Option Expr) →
      k < length ps → k < length es → p ≡ slice_index_or ps k p → e ≡ slice_index_or es k e →
      from ps es 0 ≡ from ps es k → None ≡ maybe_bad m i (connected p (option_map expr_tree e)) →
      from ps es 0 ≡ from ps es (k + 1)
  ordered_next ps es k p e a b is here h none =
      h ∙ one_more ps es k p e a b is here ∙ ap (λ (o : Option Name). option_or o (from ps es (k + 1))) (sym none)

  -- something is wrong at a place
  pub ordered_stop : (ps : List Name) (es : List (Option Expr)) (k : ℕ) (p : Name) (e : Option Expr) (n : Name) →
      k < length ps → k < length es → p ≡ slice_index_or ps k p → e ≡ slice_index_or es k e →
      from ps es 0 ≡ from ps es k → Some n ≡ maybe_bad m i (connected p (option_map expr_tree e)) →
      Some n ≡ from ps es 0
  ordered_stop ps es k p e n a b is here h found =
      sym (h ∙ one_more ps es k p e a b is here ∙ ap (λ (o : Option Name). option_or o (from ps es (k + 1))) (sym found))

  none_left : (ps : List Name) (es : List (Option Expr)) (k : ℕ) → min (length ps) (length es) ≤ k →
      from ps es k ≡ None
  none_left [] [] zero h = refl
  none_left [] [] (suc k) h = refl
  none_left [] (e ∷ es) zero h = refl
  none_left [] (e ∷ es) (suc k) h = refl
  none_left (p ∷ ps) [] zero h = refl
  none_left (p ∷ ps) [] (suc k) h = shorter (drop k ps)
    where
      shorter : (ns : List Name) → ordered_bad m i ns [] ≡ None
      shorter [] = refl
      shorter (n ∷ ns) = refl
  none_left (p ∷ ps) (e ∷ es) zero h = absurd (omega arith)
  none_left (p ∷ ps) (e ∷ es) (suc k) h = none_left ps es k (omega arith)

  -- at no place
  pub ordered_all : (ps : List Name) (es : List (Option Expr)) (k : ℕ) → min (length ps) (length es) ≤ k →
      from ps es 0 ≡ from ps es k → None ≡ from ps es 0
  ordered_all ps es k end h = sym (h ∙ none_left ps es k end)

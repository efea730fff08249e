-- Connections one after the other, by name and in the order of the ports.
use Rattle.std.proofs.Common.{◌≡◌, ℕ, zero, suc, ◌+◌, ◌<◌, ◌≤◌, min, List, [], ◌∷◌, ◌++◌, length, map, take, slice_index_or, Option, arith, sym, ap, subst, ◌∙◌}
use Rattle.std.specs.Prelude.{option_map}
use Rattle.std.proofs.lemmas.List.{length-map, take_all}
use Rattle.eq_vparse.specs.declared.tree.Expr.{Expr}
use Rattle.eq_vparse.specs.declared.tree.Named.{Named}
use Rattle.eq_net.specs.declared.types.NetInfo.{NetInfo}
use Rattle.eq_verilog.specs.Trees.{Name, ExprTree, ModuleTree, expr_tree, named_tree}
use Rattle.eq_verilog.specs.Equations.{connected}
use Rattle.eq_flatten.specs.Linking.{named_connection, ordered, AreJoined, IsMaybeJoined}

taken_suc : (m : ModuleTree) (ns : List Named) (k : ℕ) (n : Named) → k < length ns → n ≡ slice_index_or ns k n →
    map (named_connection m) (map named_tree (take (suc k) ns))
    ≡ map (named_connection m) (map named_tree (take k ns)) ++ named_connection m (named_tree n) ∷ []
taken_suc m [] k n inside is = absurd (omega (arith, inside))
taken_suc m (x ∷ xs) zero n inside is = ap (λ y. named_connection m (named_tree y) ∷ []) (sym is)
taken_suc m (x ∷ xs) (suc k) n inside is =
    ap (λ ts. named_connection m (named_tree x) ∷ ts) (taken_suc m xs k n (omega (arith, inside)) is)

-- connections by name up to one more
pub taken_named : (m : ModuleTree) (ns : List Named) (k : ℕ) (n : Named) → k < length ns → n ≡ slice_index_or ns k n →
    map (named_connection m) (map named_tree (take (k + 1) ns))
    ≡ map (named_connection m) (map named_tree (take k ns)) ++ named_connection m (named_tree n) ∷ []
taken_named m ns k n inside is =
    let next : suc k ≡ k + 1 = omega arith in
    subst (λ j. map (named_connection m) (map named_tree (take j ns))
    ≡ map (named_connection m) (map named_tree (take k ns)) ++ named_connection m (named_tree n) ∷ []) next
    (taken_suc m ns k n inside is)

ordered_suc : (ports : List Name) (es : List (Option Expr)) (k : ℕ) (p : Name) (e : Option Expr) → k < length ports →
    k < length es → p ≡ slice_index_or ports k p → e ≡ slice_index_or es k e →
    take (suc k) (ordered ports (map (λ x. option_map expr_tree x) es))
    ≡ take k (ordered ports (map (λ x. option_map expr_tree x) es)) ++ connected p (option_map expr_tree e) ∷ []
ordered_suc [] es k p e inside within is here = absurd (omega (arith, inside))
ordered_suc (q ∷ qs) [] k p e inside within is here = absurd (omega (arith, within))
ordered_suc (q ∷ qs) (x ∷ xs) zero p e inside within is here =
    ap (λ y. connected y (option_map expr_tree x) ∷ []) (sym is)
    ∙ ap (λ y. connected p (option_map expr_tree y) ∷ []) (sym here)
ordered_suc (q ∷ qs) (x ∷ xs) (suc k) p e inside within is here =
    ap (λ ts. connected q (option_map expr_tree x) ∷ ts)
    (ordered_suc qs xs k p e (omega (arith, inside)) (omega (arith, within)) is here)

-- connections in order up to one more
pub ordered_next : (ports : List Name) (es : List (Option Expr)) (k : ℕ) (p : Name) (e : Option Expr) → k < length ports →
    k < length es → p ≡ slice_index_or ports k p → e ≡ slice_index_or es k e →
    take (k + 1) (ordered ports (map (λ x. option_map expr_tree x) es))
    ≡ take k (ordered ports (map (λ x. option_map expr_tree x) es)) ++ connected p (option_map expr_tree e) ∷ []
ordered_next ports es k p e inside within is here =
    let next : suc k ≡ k + 1 = omega arith in
    subst (λ j. take j (ordered ports (map (λ x. option_map expr_tree x) es))
    ≡ take k (ordered ports (map (λ x. option_map expr_tree x) es)) ++ connected p (option_map expr_tree e) ∷ []) next
    (ordered_suc ports es k p e inside within is here)

ordered_short : (ports : List Name) (es : List (Option ExprTree)) → (length (ordered ports es) ≤ length ports)
    × (length (ordered ports es) ≤ length es)
ordered_short [] es = (omega arith, omega arith)
ordered_short (p ∷ ps) [] = (omega arith, omega arith)
ordered_short (p ∷ ps) (e ∷ es) =
    let h = ordered_short ps es in
    let a = h.0 in
    let b = h.1 in
    (omega (arith, a), omega (arith, b))

-- and there are no more
pub ordered_done : (ports : List Name) (es : List (Option Expr)) (n : ℕ) → min (length ports) (length es) ≤ n →
    take n (ordered ports (map (λ x. option_map expr_tree x) es)) ≡ ordered ports (map (λ x. option_map expr_tree x) es)
ordered_done ports es n most =
    let trees = map (λ x. option_map expr_tree x) es in
    let a = (ordered_short ports trees).0 in
    let b = (ordered_short ports trees).1 in
    let l = length-map es (λ x. option_map expr_tree x) in
    take_all n (ordered ports trees) (omega (arith, a, b, l, most))

module _ (nets : List NetInfo) (inside : List Name) (first : ℕ) (names : List Name) (from : ℕ) (m : ModuleTree) where
  -- each connection is joined
  pub joined_named : (ns : List Named) (k : ℕ) (n : Named) → k < length ns → n ≡ slice_index_or ns k n →
      AreJoined nets inside first names from m (map (named_connection m) (map named_tree ns)) →
      IsMaybeJoined nets inside first names from m (named_connection m (named_tree n))
  joined_named [] k n within is h = absurd (omega (arith, within))
  joined_named (x ∷ xs) zero n within is h =
      subst (λ y. IsMaybeJoined nets inside first names from m (named_connection m (named_tree y))) (sym is) h.0
  joined_named (x ∷ xs) (suc k) n within is h = joined_named xs k n (omega (arith, within)) is h.1

  pub joined_ordered : (ports : List Name) (es : List (Option Expr)) (k : ℕ) (p : Name) (e : Option Expr) →
      k < length ports → k < length es → p ≡ slice_index_or ports k p → e ≡ slice_index_or es k e →
      AreJoined nets inside first names from m (ordered ports (map (λ x. option_map expr_tree x) es)) →
      IsMaybeJoined nets inside first names from m (connected p (option_map expr_tree e))
  joined_ordered [] es k p e a b is here h = absurd (omega (arith, a))
  joined_ordered (q ∷ qs) [] k p e a b is here h = absurd (omega (arith, b))
  joined_ordered (q ∷ qs) (x ∷ xs) zero p e a b is here h =
      subst (λ y. IsMaybeJoined nets inside first names from m (connected y (option_map expr_tree e))) (sym is)
      (subst (λ y. IsMaybeJoined nets inside first names from m (connected q (option_map expr_tree y))) (sym here) h.0)
  joined_ordered (q ∷ qs) (x ∷ xs) (suc k) p e a b is here h =
      joined_ordered qs xs k p e (omega (arith, a)) (omega (arith, b)) is here h.1

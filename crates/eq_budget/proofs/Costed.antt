-- The cost of an item is what it drives by itself, what its statement costs, and what its connections cost. The first
-- two are the same in scopes in which its names are shifted.
use Rattle.std.proofs.Common.{◌≡◌, ℕ, ◌+◌, ◌*◌, List, [], ◌∷◌, ◌++◌, length, refl, arith, ap, ◌∙◌}
use Rattle.std.specs.Prelude.{filter_map, flat_map, sum_by}
use Rattle.std.proofs.lemmas.List.Sums.{sum_by-cons}
use Rattle.eq_net.specs.Meaning.{if_there}
use Rattle.eq_verilog.specs.Trees.{Name, ExprTree, ItemTree, declared, assign, primitive, instance, always, initial, ModuleTree}
use Rattle.eq_verilog.specs.Scopes.{Scope}
use Rattle.eq_verilog.specs.Sizes.{own}
use Rattle.eq_verilog.specs.Costs.{bits_set, connection_cost, cost, different, item_cost, stmt_cost}
use Rattle.eq_verilog.specs.Declarations.{names_in, names_of_item}
use Rattle.eq_verilog.specs.Equations.{connections_of, gate_inputs, gate_outputs}
use Rattle.eq_verilog.specs.Hierarchy.{Instance, instance_in, module_named}
use Rattle.eq_flatten.specs.Items.{own_cost}
use Rattle.eq_layout.specs.Spending.{process_cost}
use Rattle.eq_budget.proofs.Summed.{sum_more, sum_option}
use Rattle.eq_budget.proofs.Named.{in_expr, in_exprs, in_first, in_second, in_stmt, stmt_names, InExprs, OfAll}
use Rattle.eq_budget.proofs.Shifted.{cost_alike, different_alike, own_alike, side_alike, stmt_alike, IsShifted}

-- ---- shifted scopes

module _ (s r : Scope) (start : ℕ) where
  abbrev Shifted : Name → Type 0
  Shifted n = IsShifted s r start n

  terms_alike : (es : List ExprTree) → InExprs Shifted es →
      sum_by (λ e. cost s e (own s e)) es ≡ sum_by (λ e. cost r e (own r e)) es
  terms_alike [] h = refl
  terms_alike (e ∷ es) h =
      sum_more (λ x. cost s x (own s x)) (λ x. cost r x (own r x)) e e es es
      (ap (cost s e) (own_alike s r start e h.0) ∙ cost_alike s r start e (own r e) h.0) (terms_alike es h.1)

  own_item : (i : ItemTree) → OfAll Shifted (names_of_item i) → own_cost s i ≡ own_cost r i
  own_item (declared k d n) h = refl
  own_item (assign t e) h =
      let target = in_expr Shifted t (in_first Shifted (names_in t) (names_in e ++ []) h) in
      let other = in_second Shifted (names_in t) (names_in e ++ []) h in
      side_alike s r start e (own s t) (own r t) (own_alike s r start t target)
      (in_expr Shifted e (in_first Shifted (names_in e) [] other))
  own_item (primitive k n terms) h =
      ap (λ m. length (gate_outputs k terms) * (4 * length (gate_inputs k terms) + 1) + m)
      (terms_alike terms (in_exprs Shifted terms h))
  own_item (instance m n conns) h = refl
  own_item (always event body) h = refl
  own_item (initial t c) h = refl

  process_item : (i : ItemTree) → OfAll Shifted (names_of_item i) → process_cost s i ≡ process_cost r i
  process_item (declared k d n) h = refl
  process_item (assign t e) h = refl
  process_item (primitive k n terms) h = refl
  process_item (instance m n conns) h = refl
  process_item (always event body) h =
      let inside = in_stmt Shifted body (in_second Shifted (names_in event) (stmt_names body) h) in
      ap (λ n. stmt_cost s n body) (different_alike s r start body inside)
      ∙ stmt_alike s r start (different (bits_set r body)) body inside
  process_item (initial t c) h = refl

  -- what items drive by themselves
  pub own_items : (is : List ItemTree) → OfAll Shifted (flat_map names_of_item is) →
      sum_by (own_cost s) is ≡ sum_by (own_cost r) is
  own_items [] h = refl
  own_items (i ∷ is) h =
      sum_more (own_cost s) (own_cost r) i i is is
      (own_item i (in_first Shifted (names_of_item i) (flat_map names_of_item is) h))
      (own_items is (in_second Shifted (names_of_item i) (flat_map names_of_item is) h))

  -- always items
  pub process_items : (is : List ItemTree) → OfAll Shifted (flat_map names_of_item is) →
      sum_by (process_cost s) is ≡ sum_by (process_cost r) is
  process_items [] h = refl
  process_items (i ∷ is) h =
      sum_more (process_cost s) (process_cost r) i i is is
      (process_item i (in_first Shifted (names_of_item i) (flat_map names_of_item is) h))
      (process_items is (in_second Shifted (names_of_item i) (flat_map names_of_item is) h))

-- ---- one scope

module _ (all : List ModuleTree) (s : Scope) where
  -- the connections of an instance
  abbrev pub inner_cost : Instance → ℕ
  inner_cost i =
      if_there 0 (λ inside. sum_by (connection_cost s inside) (connections_of inside i.connections))
      (module_named all i.module_name)

  abbrev inner_item : ItemTree → ℕ
  inner_item i = if_there 0 inner_cost (instance_in i)

  item_parts : (i : ItemTree) → item_cost all s i ≡ own_cost s i + (process_cost s i + inner_item i)
  item_parts (declared k d n) = refl
  item_parts (assign t e) = omega arith
  item_parts (primitive k n terms) = omega arith
  item_parts (instance m n conns) = omega arith
  item_parts (always event body) = omega arith
  item_parts (initial t c) = refl

  -- the items of a module
  pub items_parts : (is : List ItemTree) → sum_by (item_cost all s) is
      ≡ sum_by (own_cost s) is + (sum_by (process_cost s) is + sum_by inner_cost (filter_map instance_in is))
  items_parts [] = refl
  items_parts (i ∷ is) =
      (let a = sum_by-cons (item_cost all s) i is in
      let b = sum_by-cons (own_cost s) i is in
      let c = sum_by-cons (process_cost s) i is in
      let d = sum_option inner_cost (instance_in i) (filter_map instance_in is) in
      let e = item_parts i in
      let f = items_parts is in
      omega (arith, a, b, c, d, e, f))

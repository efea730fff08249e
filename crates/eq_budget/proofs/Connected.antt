-- The connections of an instance cost what they cost in its module's scope and in that of the module that it stands in.
use Rattle.std.proofs.Common.{◌≡◌, ℕ, Bool, true, false, cond, List, [], ◌∷◌, map, Option, Some, None, refl, sym, ap, ◌∙◌}
use Rattle.std.specs.Prelude.{filter_map, sum_by, zip}
use Rattle.eq_model.specs.Nets.{Dir, inner, is_input, is_output, range_width}
use Rattle.eq_net.specs.Meaning.{if_there}
use Rattle.eq_verilog.specs.Trees.{Name, ExprTree, NamedConnection, ConnectionList, by_order, by_name, ModuleTree}
use Rattle.eq_verilog.specs.Scopes.{Scope, width}
use Rattle.eq_verilog.specs.Costs.{connection_cost, side_cost}
use Rattle.eq_verilog.specs.Declarations.{comes_in, connected_exprs, dir_of, has}
use Rattle.eq_verilog.specs.Equations.{connected, connections_of}
use Rattle.eq_verilog.specs.Nets.{module_scope}
use Rattle.eq_flatten.specs.Joining.{conns_cost}
use Rattle.eq_flatten.specs.Linking.{link_cost, maybe_cost, named_connection, ordered}
use Rattle.eq_flatten.proofs.Faultless.{first_name}
use Rattle.eq_flatten.proofs.SameNamed.{names_all}
use Rattle.eq_budget.proofs.Summed.{sum_kept, sum_more}
use Rattle.eq_budget.proofs.Named.{in_second, option_first, option_rest, InExpr, InOption, OfAll}
use Rattle.eq_budget.proofs.Shifted.{side_alike, IsShifted}

-- an instance of m with scope i, in a path with scope o, which is shifted from q
module _ (i o q : Scope) (first start : ℕ) (m : ModuleTree) where
  abbrev Port : Name → Type 0
  Port n = IsShifted i (module_scope m) first n

  abbrev Outer : Name → Type 0
  Outer n = IsShifted o q start n

  by_dir : (d : Dir) (p : Name) (e : ExprTree) → Port p → InExpr Outer e →
      link_cost i o d p e ≡ cond (comes_in d) (side_cost q e (width (module_scope m) p)) 0
  by_dir inner p e h g = refl
  by_dir is_input p e h g =
      side_alike o q start e (width i p) (width (module_scope m) p) (ap range_width h.0) g
  by_dir is_output p e h g = refl

  -- a port that may be connected, as the definitions have it
  abbrev Cost : Name → Option ExprTree → ℕ
  Cost p e = if_there 0 (connection_cost q m) (connected p e)

  one_cost : (p : Name) (e : Option ExprTree) → Port p → InOption Outer e → maybe_cost i o m (connected p e) ≡ Cost p e
  one_cost p None h g = refl
  one_cost p (Some e) h g = by_dir (dir_of m p) p e h g

  in_order : (ports : List Name) (es : List (Option ExprTree)) → OfAll Port ports →
      OfAll Outer (names_all (filter_map (λ e. e) es)) → sum_by (maybe_cost i o m) (ordered ports es)
      ≡ sum_by (λ (x : Name × Option ExprTree). Cost x.0 x.1) (zip ports es)
  in_order [] es h g = refl
  in_order (p ∷ ps) [] h g = refl
  in_order (p ∷ ps) (e ∷ es) h g =
      let kept : List ExprTree = filter_map (λ x. x) es in
      sum_more (maybe_cost i o m) (λ (x : Name × Option ExprTree). Cost x.0 x.1) (connected p e) (p, e) (ordered ps es)
      (zip ps es) (one_cost p e (h p (first_name p ps)) (option_first Outer e kept g))
      (in_order ps es (in_second Port (p ∷ []) ps h) (option_rest Outer e kept g))

  one_named : (t : Bool) (n : NamedConnection) → (t ≡ true → Port n.port) → InOption Outer n.expr →
      maybe_cost i o m (cond t (connected n.port n.expr) None)
      ≡ if_there 0 (connection_cost q m) (cond t (connected n.port n.expr) None)
  one_named true n h g = one_cost n.port n.expr (h refl) g
  one_named false n h g = refl

  named : (ns : List NamedConnection) → OfAll Port m.ports →
      OfAll Outer (names_all (filter_map (λ (n : NamedConnection). n.expr) ns)) →
      sum_by (maybe_cost i o m) (map (named_connection m) ns)
      ≡ sum_by (λ n. if_there 0 (connection_cost q m) (named_connection m n)) ns
  named [] h g = refl
  named (n ∷ ns) h g =
      let kept = filter_map (λ (x : NamedConnection). x.expr) ns in
      sum_more (maybe_cost i o m) (λ x. if_there 0 (connection_cost q m) (named_connection m x))
      (named_connection m n) n (map (named_connection m) ns) ns
      (one_named (has m.ports n.port) n (h n.port) (option_first Outer n.expr kept g))
      (named ns h (option_rest Outer n.expr kept g))

  -- all connections of the instance
  pub connections_alike : (cs : ConnectionList) → OfAll Port m.ports → OfAll Outer (names_all (connected_exprs cs)) →
      conns_cost i o m cs ≡ sum_by (connection_cost q m) (connections_of m cs)
  connections_alike (by_order es) h g =
      in_order m.ports es h g
      ∙ sym (sum_kept (connection_cost q m) (λ (p : Name × Option ExprTree). connected p.0 p.1) (zip m.ports es))
  connections_alike (by_name ns) h g =
      named ns h g ∙ sym (sum_kept (connection_cost q m) (named_connection m) ns)

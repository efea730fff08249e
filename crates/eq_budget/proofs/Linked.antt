-- The links of a design cost no more than the instances in all its paths: each link is an instance in one of them. At
-- the greatest depth instances may be left out.
use Rattle.std.proofs.Common.{◌≡◌, ℕ, zero, suc, ◌+◌, ◌≤◌, List, [], ◌∷◌, ◌++◌, map, Option, Some, None, arith, ap}
use Rattle.std.specs.Prelude.{flat_map, sum_by}
use Rattle.std.proofs.lemmas.List.{map-append}
use Rattle.std.proofs.lemmas.List.Sums.{sum_by-append, sum_by-cons}
use Rattle.eq_net.specs.Meaning.{if_there}
use Rattle.eq_verilog.specs.Trees.{ModuleTree}
use Rattle.eq_verilog.specs.Costs.{connection_cost}
use Rattle.eq_verilog.specs.Equations.{connections_of}
use Rattle.eq_verilog.specs.Hierarchy.{Instance, instances, module_named, Path}
use Rattle.eq_verilog.specs.Nets.{module_scope}
use Rattle.eq_flatten.specs.Paths.{Link, end_of, links_at, links_from}
use Rattle.eq_budget.proofs.Costed.{inner_cost}
use Rattle.eq_budget.proofs.Joined.{link_cost_of}

module _ (all : List ModuleTree) where
  -- the instances in a path
  abbrev pub inners : Path → ℕ
  inners q = sum_by (inner_cost all (module_scope q.of)) (instances q.of)

  abbrev below : List Link → ℕ
  below ls = sum_by inners (map end_of ls)

  below_append : (xs ys : List Link) → below (xs ++ ys) ≡ below xs + below ys
  below_append xs ys =
      (let a = ap (λ ps. sum_by inners ps) (map-append end_of xs ys) in
      let b = sum_by-append inners (map end_of xs) (map end_of ys) in
      omega (arith, a, b))

  abbrev linked : ℕ → Path → Instance → Option ModuleTree → List Link
  linked k p i o = if_there [] (λ m. let l : Link = record { within = p; written = i; of = m } in
      l ∷ links_from all k (end_of l)) o

  abbrev IsWithin : ℕ → Path → Type 0
  IsWithin k p = sum_by link_cost_of (links_from all k p) ≤ inners p + below (links_from all k p)

  one_within : (k : ℕ) (p : Path) (i : Instance) (o : Option ModuleTree) → ((q : Path) → IsWithin k q) →
      sum_by link_cost_of (linked k p i o) ≤
      if_there 0 (λ inside. sum_by (connection_cost (module_scope p.of) inside) (connections_of inside i.connections)) o
      + below (linked k p i o)
  one_within k p i None h = omega arith
  one_within k p i (Some m) h =
      let l : Link = record { within = p; written = i; of = m } in
      let ls = links_from all k (end_of l) in
      let a = sum_by-cons link_cost_of l ls in
      let b = sum_by-cons inners (end_of l) (map end_of ls) in
      let c = h (end_of l) in
      omega (arith, a, b, c)

  some_within : (k : ℕ) (p : Path) (is : List Instance) → ((q : Path) → IsWithin k q) →
      sum_by link_cost_of (flat_map (links_at all k p) is)
      ≤ sum_by (inner_cost all (module_scope p.of)) is + below (flat_map (links_at all k p) is)
  some_within k p [] h = omega arith
  some_within k p (i ∷ is) h =
      let here = links_at all k p i in
      let rest = flat_map (links_at all k p) is in
      let a = sum_by-append link_cost_of here rest in
      let b = sum_by-cons (inner_cost all (module_scope p.of)) i is in
      let c = below_append here rest in
      let d = one_within k p i (module_named all i.module_name) h in
      let e = some_within k p is h in
      omega (arith, a, b, c, d, e)

  -- the links in a path cost no more than the instances in it and in those below it
  pub within : (k : ℕ) (p : Path) → IsWithin k p
  within zero p = omega arith
  within (suc k) p = some_within k p (instances p.of) (within k)

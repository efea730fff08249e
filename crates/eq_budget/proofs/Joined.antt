-- The connections of links by the tables of modules cost what they cost in the modules that they stand in.
use Rattle.std.proofs.Common.{◌≡◌, ℕ, ◌+◌, List, [], ◌∷◌, ◌++◌, map, length, slice_get, All, Option, Some, refl, arith, sym, ap, subst, ◌∙◌}
use Rattle.std.specs.Prelude.{sum_by, zip, Contains}
use Rattle.std.proofs.lemmas.List.{append_assoc, length-append}
use Rattle.std.proofs.lemmas.List.Sums.{sum_by-cons}
use Rattle.eq_net.specs.declared.types.NetInfo.{NetInfo}
use Rattle.eq_net.specs.Meaning.{if_there}
use Rattle.eq_verilog.specs.Trees.{Name, ConnectionList, connection_list, ModuleTree}
use Rattle.eq_verilog.specs.Costs.{connection_cost}
use Rattle.eq_verilog.specs.Declarations.{nets_in}
use Rattle.eq_verilog.specs.Equations.{connections_of}
use Rattle.eq_verilog.specs.Hierarchy.{instances, Path}
use Rattle.eq_verilog.specs.Nets.{module_scope}
use Rattle.eq_analysis.specs.Finding.{scope_of}
use Rattle.eq_flatten.specs.declared.paths.Link.{Link as LinkValue}
use Rattle.eq_flatten.specs.declared.paths.Path.{Path as PathValue}
use Rattle.eq_flatten.specs.Flat.{IsFlat}
use Rattle.eq_flatten.specs.Flattening.{names_of}
use Rattle.eq_flatten.specs.Joining.{all_joined_cost, conns_cost, inside_cost, joined_cost, scope_in}
use Rattle.eq_flatten.specs.Paths.{Link, end_of, link_of, path_at, path_of, written_of, IsPath}
use Rattle.eq_flatten.proofs.Scoped.{get_middle, head_same, in_connections, in_ports, none_left, path_there, tail_same, zip_beside, AreWritten}
use Rattle.eq_budget.proofs.Based.{at, one_each, IsAt}
use Rattle.eq_budget.proofs.Connected.{connections_alike}

-- what the connections of a link cost in the module that it stands in
abbrev pub link_cost_of : Link → ℕ
link_cost_of l =
    sum_by (connection_cost (module_scope l.within.of) l.of) (connections_of l.of l.written.connections)

module _ (all : List ModuleTree) (nets : List NetInfo) (paths : List PathValue) (firsts : List ℕ)
    (placed : All (IsPath all) paths) (flat : IsFlat paths (length paths) nets firsts) where
  abbrev ps : List Path
  ps = map path_of paths

  abbrev owned : List (List Name)
  owned = map nets_in all

  abbrev ends : List (PathValue × ℕ)
  ends = zip paths firsts

  abbrev Stands : PathValue × ℕ → Type 0
  Stands x = IsAt all nets paths firsts placed flat x

  stands : (k : ℕ) (x : PathValue × ℕ) → slice_get ends k ≡ Some x → Stands x
  stands = at all nets paths firsts placed flat

  -- a link of the code, with the path that it stands in and its own
  module _ (s : ℕ) (l : LinkValue) (x y : PathValue × ℕ) (outer : slice_get ends l.within ≡ Some x)
      (own : slice_get ends s ≡ Some y) (outer_is : path_of x.0 ≡ path_at ps l.within)
      (own_is : path_of y.0 ≡ end_of (link_of ps l))
      (written : Contains (instances (path_at ps l.within).of) (written_of l)) where
    abbrev cs : ConnectionList
    cs = connection_list l.conns.now

    abbrev w : Path
    w = path_of x.0

    abbrev e : Path
    e = path_of y.0

    by_scopes : joined_cost nets owned ends s l
        ≡ conns_cost (scope_of nets (nets_in e.of) y.1) (scope_of nets (nets_in w.of) x.1) e.of cs
    by_scopes =
        ap (λ (o : Option (PathValue × ℕ)). if_there 0 (λ (z : PathValue × ℕ).
        if_there 0 (inside_cost nets owned cs (scope_in nets owned z)) (slice_get ends s)) o) outer
        ∙ ap (λ (o : Option (PathValue × ℕ)). if_there 0 (inside_cost nets owned cs (scope_in nets owned x)) o) own
        ∙ ap (λ (ns : List Name). conns_cost (scope_of nets (names_of owned y.0) y.1) (scope_of nets ns x.1) e.of cs)
        (stands l.within x outer).names
        ∙ ap (λ (ns : List Name). conns_cost (scope_of nets ns y.1) (scope_of nets (nets_in w.of) x.1) e.of cs)
        (stands s y own).names

    by_modules : joined_cost nets owned ends s l
        ≡ sum_by (connection_cost (module_scope w.of) e.of) (connections_of e.of cs)
    by_modules =
        let inner = (stands s y own).based in
        let around = (stands l.within x outer).based in
        by_scopes
        ∙ connections_alike (scope_of nets (nets_in e.of) y.1) (scope_of nets (nets_in w.of) x.1) (module_scope w.of)
        inner.start around.start e.of cs
        (λ n h. inner.shifted n (in_ports e.of n h))
        (λ n h. around.shifted n (in_connections w.of (written_of l)
        (subst (λ (p : Path). Contains (instances p.of) (written_of l)) (sym outer_is) written) n h))

    one_joined : joined_cost nets owned ends s l ≡ link_cost_of (link_of ps l)
    one_joined =
        by_modules
        ∙ ap (λ (p : Path). sum_by (connection_cost (module_scope p.of) e.of) (connections_of e.of cs)) outer_is
        ∙ ap (λ (p : Path). sum_by (connection_cost (module_scope (path_at ps l.within).of) p.of)
        (connections_of p.of cs)) own_is

  -- links from place s on, whose own paths are the rest of all
  joined_from : (ls : List LinkValue) (front rest : List PathValue) (s : ℕ) → paths ≡ front ++ rest → length front ≡ s →
      map path_of rest ≡ map end_of (map (link_of ps) ls) → AreWritten all (map (link_of ps) ls) →
      all_joined_cost nets owned ends s ls ≡ sum_by link_cost_of (map (link_of ps) ls)
  joined_from [] front rest s is place same written = refl
  joined_from (l ∷ ls) front [] s is place same written =
      absurd (none_left (end_of (link_of ps l)) (map end_of (map (link_of ps) ls)) same)
  joined_from (l ∷ ls) front (y ∷ rest) s is place same written =
      let many = one_each all nets paths firsts placed flat in
      let here : slice_get paths s ≡ Some y =
      ap (λ (xs : List PathValue). slice_get xs s) is
      ∙ ap (λ (k : ℕ). slice_get (front ++ y ∷ rest) k) (sym place) ∙ get_middle front y rest in
      let outer = path_there paths l.within (written_of l) written.0.0 in
      let x = zip_beside paths firsts l.within outer.0 outer.1 many in
      let z = zip_beside paths firsts s y here many in
      let added = length-append front (y ∷ []) in
      let one = one_joined s l (outer.0, x.0) (y, z.0) x.1 z.1 outer.2
      (head_same (path_of y) (end_of (link_of ps l)) (map path_of rest) (map end_of (map (link_of ps) ls)) same)
      written.0.0 in
      let more = joined_from ls (front ++ y ∷ []) rest (s + 1) (is ∙ sym (append_assoc front (y ∷ []) rest))
      (omega (arith, added, place))
      (tail_same (path_of y) (end_of (link_of ps l)) (map path_of rest) (map end_of (map (link_of ps) ls)) same)
      written.1 in
      let c = sum_by-cons link_cost_of (link_of ps l) (map (link_of ps) ls) in
      omega (arith, one, more, c)

  -- those of all paths but the first
  pub joined_all : (top : Path) (xs : List PathValue) (ls : List LinkValue) → paths ≡ xs →
      map path_of xs ≡ top ∷ map end_of (map (link_of ps) ls) → AreWritten all (map (link_of ps) ls) →
      all_joined_cost nets owned ends 1 ls ≡ sum_by link_cost_of (map (link_of ps) ls)
  joined_all top [] ls is same written = absurd (none_left top (map end_of (map (link_of ps) ls)) same)
  joined_all top (x ∷ xs) ls is same written =
      joined_from ls (x ∷ []) xs 1 is refl
      (tail_same (path_of x) top (map path_of xs) (map end_of (map (link_of ps) ls)) same) written

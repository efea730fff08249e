-- The equations that the code has by the tables of modules agree with those of the definitions, path by path and link by
-- link.
use Rattle.std.proofs.Common.{◌≡◌, ℕ, suc, ◌+◌, ◌-◌, List, [], ◌∷◌, ◌++◌, map, length, slice_get, All, true, Option, Some, None, refl, arith, sym, ap, subst, ◌∙◌}
use Rattle.std.specs.Prelude.{flat_map, zip, Contains}
use Rattle.std.proofs.lemmas.List.{append_assoc, length-append}
use Rattle.eq_model.specs.Nets.{Net}
use Rattle.eq_net.specs.declared.types.NetInfo.{NetInfo}
use Rattle.eq_net.specs.Meaning.{if_there}
use Rattle.eq_net.specs.Nets.{net_of}
use Rattle.eq_verilog.specs.Trees.{Name, ConnectionList, connection_list, item_tree, ModuleTree, module_tree}
use Rattle.eq_verilog.specs.Declarations.{connected_exprs, has, nets_in}
use Rattle.eq_verilog.specs.Equations.{Equation, connections_of}
use Rattle.eq_verilog.specs.Firsts.{first_again}
use Rattle.eq_verilog.specs.Hierarchy.{instances, module_named, Path, paths_from}
use Rattle.eq_verilog.specs.Nets.{full_names, scope_at}
use Rattle.eq_analysis.specs.Finding.{scope_of}
use Rattle.eq_flatten.specs.declared.paths.Link.{Link as LinkValue}
use Rattle.eq_flatten.specs.declared.paths.Path.{Path as PathValue}
use Rattle.eq_flatten.specs.declared.paths.Paths.{Paths}
use Rattle.eq_flatten.specs.Flat.{IsFlat}
use Rattle.eq_flatten.specs.Flattening.{names_of, path_equations}
use Rattle.eq_flatten.specs.Items.{own_equations}
use Rattle.eq_flatten.specs.Joining.{all_joined, conns_equations, inside_equations, joined_equations, scope_in}
use Rattle.eq_flatten.specs.Paths.{end_of, link_of, links_from, path_at, path_of, written_of, HasPaths, IsPath}
use Rattle.eq_flatten.specs.Summing.{by_tables, link_at, own_at, AreAgreed}
use Rattle.eq_flatten.proofs.Bridged.{OffsetsByPath}
use Rattle.eq_flatten.proofs.PathLemmas.{on_top}
use Rattle.eq_flatten.proofs.SameNamed.{agreed_append, connection_of, connections_agreed, items_agreed, names_all}
use Rattle.eq_flatten.proofs.Scoped.{all_written, at, get_middle, head_same, in_connections, in_items, in_ports, many, none_left, path_there, tail_same, zip_beside, AreWritten, IsAt, IsScoped}

module _ (law : OffsetsByPath) (all : List ModuleTree) (nets : List NetInfo) (paths : List PathValue) (firsts : List ℕ)
    (placed : All (IsPath all) paths) (flat : IsFlat paths (length paths) nets firsts)
    (distinct : first_again (full_names (map net_of nets)) ≡ None) where
  abbrev N : List Net
  N = map net_of nets

  abbrev ps : List Path
  ps = map path_of paths

  abbrev owned : List (List Name)
  owned = map nets_in all

  abbrev ends : List (PathValue × ℕ)
  ends = zip paths firsts

  abbrev Stands : PathValue × ℕ → Type 0
  Stands x = IsAt law all nets paths firsts placed flat distinct x

  stands : (k : ℕ) (x : PathValue × ℕ) → slice_get ends k ≡ Some x → Stands x
  stands = at law all nets paths firsts placed flat distinct

  -- ---- what items drive by themselves

  path_agreed : (x : PathValue × ℕ) → Stands x → AreAgreed (path_equations nets owned x) (own_at N (path_of x.0))
  path_agreed x h =
      let m = module_tree x.0.of.module.now in
      subst (λ (ns : List Name). AreAgreed (flat_map (own_equations (scope_of nets ns x.1)) (map item_tree x.0.of.module.now.items))
      (own_at N (path_of x.0))) (sym h.names)
      (items_agreed (scope_of nets (nets_in m) x.1) (scope_at N (path_of x.0)) (map item_tree x.0.of.module.now.items)
      (λ n i. h.scope.same n (in_items m n i)))

  owns_agreed : (xs : List PathValue) (ns : List ℕ) → length ns ≡ length xs →
      ((k : ℕ) (x : PathValue × ℕ) → slice_get (zip xs ns) k ≡ Some x → Stands x) →
      AreAgreed (flat_map (path_equations nets owned) (zip xs ns)) (flat_map (own_at N) (map path_of xs))
  owns_agreed [] ns same h = tt
  owns_agreed (x ∷ xs) [] same h = absurd (omega (arith, same))
  owns_agreed (x ∷ xs) (n ∷ ns) same h =
      agreed_append (path_equations nets owned (x, n)) (own_at N (path_of x))
      (flat_map (path_equations nets owned) (zip xs ns)) (flat_map (own_at N) (map path_of xs))
      (path_agreed (x, n) (h 0 (x, n) refl)) (owns_agreed xs ns (omega (arith, same)) (λ k y i. h (suc k) y i))

  -- ---- connections

  between : (w e : Path) (from first : ℕ) (cs : ConnectionList) → IsScoped nets w from → IsScoped nets e first →
      ((n : Name) → has (names_all (connected_exprs cs)) n ≡ true → has (nets_in w.of) n ≡ true) →
      AreAgreed (conns_equations (scope_of nets (nets_in e.of) first) (scope_of nets (nets_in w.of) from) e.of cs)
      (flat_map (connection_of (scope_of nets (nets_in e.of) first) (scope_at N e) (scope_of nets (nets_in w.of) from) (scope_at N w) e.of) (connections_of e.of cs))
  between w e from first cs outer own named =
      connections_agreed (scope_of nets (nets_in e.of) first) (scope_at N e) (scope_of nets (nets_in w.of) from)
      (scope_at N w) e.of cs (λ n h. own.same n (in_ports e.of n h)) (λ n h. outer.same n (named n h))

  -- a link of the code with its own path and the one that it stands in
  pub record IsLinked (s : ℕ) (l : LinkValue) : Type 0 where
    pub x : PathValue × ℕ
    pub y : PathValue × ℕ
    pub outer : slice_get ends l.within ≡ Some x
    pub own : slice_get ends s ≡ Some y
    pub outer_is : path_of x.0 ≡ path_at ps l.within
    pub own_is : path_of y.0 ≡ end_of (link_of ps l)
    pub written : Contains (instances (path_at ps l.within).of) (written_of l)
    pub found : module_named all l.module.now ≡ Some (module_tree l.of.module.now)

  module _ (s : ℕ) (l : LinkValue) (h : IsLinked s l) where
    abbrev cs : ConnectionList
    cs = connection_list l.conns.now

    abbrev w : Path
    w = path_of h.x.0

    abbrev e : Path
    e = path_of h.y.0

    joined_is : joined_equations nets owned ends s l
        ≡ conns_equations (scope_of nets (nets_in e.of) h.y.1) (scope_of nets (nets_in w.of) h.x.1) e.of cs
    joined_is =
        ap (λ (o : Option (PathValue × ℕ)). if_there [] (λ (x : PathValue × ℕ).
        if_there [] (inside_equations nets owned cs (scope_in nets owned x)) (slice_get ends s)) o) h.outer
        ∙ ap (λ (o : Option (PathValue × ℕ)). if_there [] (inside_equations nets owned cs (scope_in nets owned h.x)) o) h.own
        ∙ ap (λ (ns : List Name). conns_equations (scope_of nets (names_of owned h.y.0) h.y.1) (scope_of nets ns h.x.1) e.of cs)
        (stands l.within h.x h.outer).names
        ∙ ap (λ (ns : List Name). conns_equations (scope_of nets ns h.y.1) (scope_of nets (nets_in w.of) h.x.1) e.of cs)
        (stands s h.y h.own).names

    abbrev Agrees : Path → Path → Type 0
    Agrees p q = AreAgreed (joined_equations nets owned ends s l)
        (flat_map (connection_of (scope_at N q) (scope_at N q) (scope_at N p) (scope_at N p) q.of) (connections_of q.of cs))

    link_agreed : AreAgreed (joined_equations nets owned ends s l) (link_at all N (link_of ps l))
    link_agreed =
        subst (λ (p : Path). Agrees p (end_of (link_of ps l))) h.outer_is
        (subst (λ (q : Path). Agrees w q) h.own_is
        (subst (λ (es : List Equation). AreAgreed es (flat_map (connection_of (scope_at N e) (scope_at N e) (scope_at N w) (scope_at N w) e.of) (connections_of e.of cs)))
        (sym joined_is)
        (between w e h.x.1 h.y.1 cs (stands l.within h.x h.outer).scope (stands s h.y h.own).scope
        (λ n i. in_connections w.of (written_of l)
        (subst (λ (p : Path). Contains (instances p.of) (written_of l)) (sym h.outer_is) h.written) n i))))

  abbrev pub AreLinked : ℕ → List LinkValue → Type 0
  AreLinked s [] = Unit {0}
  AreLinked s (l ∷ ls) = IsLinked s l × AreLinked (s + 1) ls

  links_agreed : (ls : List LinkValue) (s : ℕ) → AreLinked s ls →
      AreAgreed (all_joined nets owned ends s ls) (flat_map (link_at all N) (map (link_of ps) ls))
  links_agreed [] s h = tt
  links_agreed (l ∷ ls) s h =
      agreed_append (joined_equations nets owned ends s l) (link_at all N (link_of ps l))
      (all_joined nets owned ends (s + 1) ls) (flat_map (link_at all N) (map (link_of ps) ls))
      (link_agreed s l h.0) (links_agreed ls (s + 1) h.1)

  -- each link of all has them
  linked : (count : length firsts ≡ length paths) (ls : List LinkValue) (front rest : List PathValue) (s : ℕ) →
      paths ≡ front ++ rest → length front ≡ s → map path_of rest ≡ map end_of (map (link_of ps) ls) →
      AreWritten all (map (link_of ps) ls) → AreLinked s ls
  linked count [] front rest s is at same written = tt
  linked count (l ∷ ls) front [] s is at same written =
      absurd (none_left (end_of (link_of ps l)) (map end_of (map (link_of ps) ls)) same)
  linked count (l ∷ ls) front (y ∷ rest) s is at same written =
      let here : slice_get paths s ≡ Some y =
      ap (λ (xs : List PathValue). slice_get xs s) is
      ∙ ap (λ (k : ℕ). slice_get (front ++ y ∷ rest) k) (sym at) ∙ get_middle front y rest in
      let outer = path_there paths l.within (written_of l) written.0.0 in
      let x = zip_beside paths firsts l.within outer.0 outer.1 count in
      let z = zip_beside paths firsts s y here count in
      let added = length-append front (y ∷ []) in (
        record {
          x = (outer.0, x.0);
          y = (y, z.0);
          outer = x.1;
          own = z.1;
          outer_is = outer.2;
          own_is = head_same (path_of y) (end_of (link_of ps l)) (map path_of rest) (map end_of (map (link_of ps) ls)) same;
          written = written.0.0;
          found = written.0.1;
        },
        linked count ls (front ++ y ∷ []) rest (s + 1) (is ∙ sym (append_assoc front (y ∷ []) rest))
            (omega (arith, added, at))
            (tail_same (path_of y) (end_of (link_of ps l)) (map path_of rest) (map end_of (map (link_of ps) ls)) same)
            written.1,
      )

  -- those of all paths but the first
  pub from_second : (count : length firsts ≡ length paths) (top : Path) (xs : List PathValue) (ls : List LinkValue) →
      paths ≡ xs → map path_of xs ≡ top ∷ map end_of (map (link_of ps) ls) → AreWritten all (map (link_of ps) ls) →
      AreLinked 1 ls
  from_second count top [] ls is same written = absurd (none_left top (map end_of (map (link_of ps) ls)) same)
  from_second count top (x ∷ xs) ls is same written =
      linked count ls (x ∷ []) xs 1 is refl
      (tail_same (path_of x) top (map path_of xs) (map end_of (map (link_of ps) ls)) same) written

-- all equations
pub all_agreed : (law : OffsetsByPath) (all : List ModuleTree) (top : Path) (found : Paths) (nets : List NetInfo)
    (firsts : List ℕ) → HasPaths all top found
    → IsFlat found.paths.items (length found.paths.items) nets firsts
    → first_again (full_names (map net_of nets)) ≡ None
    → AreAgreed (by_tables nets (map nets_in all) found.paths.items found.links.items firsts)
    (flat_map (own_at (map net_of nets)) (paths_from all (suc (length all - 1)) top.prefix top.of)
    ++ flat_map (link_at all (map net_of nets)) (links_from all (length all - 1) top))
all_agreed law all top found nets firsts has_paths flat distinct =
    let paths = found.paths.items in
    let links = found.links.items in
    let ps = map path_of paths in
    let k = length all - 1 in
    let placed = has_paths.placed in
    let same : length firsts ≡ length paths = many law all nets paths firsts placed flat distinct in
    let paths_are : ps ≡ paths_from all (suc k) top.prefix top.of =
    has_paths.ends ∙ ap (λ ls. top ∷ map end_of ls) has_paths.links ∙ sym (on_top all k top) in
    let written = subst (AreWritten all) (sym has_paths.links) (all_written all k top) in
    let owns = owns_agreed law all nets paths firsts placed flat distinct paths firsts same
    (stands law all nets paths firsts placed flat distinct) in
    let links_too = links_agreed law all nets paths firsts placed flat distinct links 1
    (from_second law all nets paths firsts placed flat distinct same top paths links refl has_paths.ends written) in
    subst (λ qs. AreAgreed (by_tables nets (map nets_in all) found.paths.items found.links.items firsts)
    (flat_map (own_at (map net_of nets)) qs ++ flat_map (link_at all (map net_of nets)) (links_from all k top))) paths_are
    (subst (λ ls. AreAgreed (by_tables nets (map nets_in all) found.paths.items found.links.items firsts)
    (flat_map (own_at (map net_of nets)) ps ++ flat_map (link_at all (map net_of nets)) ls)) has_paths.links
    (agreed_append (flat_map (path_equations nets (map nets_in all)) (zip paths firsts))
    (flat_map (own_at (map net_of nets)) ps)
    (all_joined nets (map nets_in all) (zip paths firsts) 1 links)
    (flat_map (link_at all (map net_of nets)) (map (link_of ps) links)) owns links_too))

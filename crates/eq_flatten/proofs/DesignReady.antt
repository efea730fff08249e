-- In a design in which no module that is reached is refused, all paths and links are ready to become equations.
use Rattle.std.proofs.Common.{◌≡◌, ℕ, zero, suc, ◌+◌, ◌<◌, ◌≤◌, ◌^◌, true, List, [], ◌∷◌, ◌++◌, map, length, slice_get, All, Option, Some, None, refl, arith, sym, ap, subst, ◌∙◌, inl, inr}
use Rattle.std.specs.Prelude.{filter_map, flat_map, zip, is_some, Contains}
use Rattle.std.specs.List.{cons_option}
use Rattle.std.proofs.lemmas.List.{length-map}
use Rattle.std.proofs.lemmas.List.Elements.{Contains-append_cases, Contains-append_right}
use Rattle.eq_model.specs.Nets.{Net, range_width, total_width}
use Rattle.eq_net.specs.declared.types.NetInfo.{NetInfo}
use Rattle.eq_net.specs.Meaning.{if_there}
use Rattle.eq_net.specs.Net.{bits_of}
use Rattle.eq_net.specs.Nets.{net_of}
use Rattle.eq_verilog.specs.declared.refusal.ElabKind.{ElabKind}
use Rattle.eq_verilog.specs.declared.refusal.ElabKind.TheVariants as kind
use Rattle.eq_verilog.specs.Trees.{Name, ConnectionList, connection_list, ItemTree, item_tree, ModuleTree, module_tree}
use Rattle.eq_verilog.specs.Declarations.{has, nets_in}
use Rattle.eq_verilog.specs.Equations.{connections_of}
use Rattle.eq_verilog.specs.Firsts.{first_again, first_found, first_of}
use Rattle.eq_verilog.specs.Hierarchy.{Instance, instance_in, instances, inner_prefix, module_named, module_names, Path, reached}
use Rattle.eq_verilog.specs.ModuleRefusals.{bad_range, bad_range_at, duplicate_module, duplicate_name, no_top, recursive, unknown_module, unknown_name}
use Rattle.eq_verilog.specs.Nets.{full_names}
use Rattle.eq_verilog.specs.Refusals.{module_faults, named}
use Rattle.eq_verilog.specs.TargetRefusals.{bad_connected, bad_connection, bad_target, bad_target_at}
use Rattle.eq_flatten.specs.declared.paths.Link.{Link as LinkValue}
use Rattle.eq_flatten.specs.declared.paths.Path.{Path as PathValue}
use Rattle.eq_flatten.specs.Flat.{IsFlat}
use Rattle.eq_flatten.specs.Flattening.{names_of, ArePathsReady, IsPathReady}
use Rattle.eq_flatten.specs.Items.{AreReady}
use Rattle.eq_flatten.specs.inner.Faultless.{AreNetsOf}
use Rattle.eq_flatten.specs.Joining.{maybe_connections, AreLinksReady, IsBetween, IsLinkReady}
use Rattle.eq_flatten.specs.Linking.{AreJoined}
use Rattle.eq_flatten.specs.Paths.{Link, end_of, links_at, links_from, path_of, written_of, IsPath, IsPlaced}
use Rattle.eq_flatten.specs.Spelled.{AreItemsSpelled, IsItemSpelled, IsModuleSpelled}
use Rattle.eq_flatten.proofs.Bridged.{OffsetsByPath}
use Rattle.eq_flatten.proofs.Connected.{are_nets_of, connections_joined}
use Rattle.eq_flatten.proofs.Ending.{fine_at, reached_done, reached_named, top_met}
use Rattle.eq_flatten.proofs.Ready.{module_ready}
use Rattle.eq_flatten.proofs.Scoped.{at, get_inside, get_or_is, in_connections, zip_parts, is_item, item_of, split}
use Rattle.eq_flatten.proofs.Tabled.{AreLinked, IsLinked}
use Rattle.eq_flatten.proofs.Truths.{or_none, unless_none}

-- ---- what isn't refused

unnamed : (k : ElabKind) (o : Option Name) → named k o ≡ None → o ≡ None
unnamed k None h = refl
unnamed k (Some n) h = absurd (cc)

-- the refusals that are passed
pub record IsUnrefused (all : List ModuleTree) (top : Name) : Type 0 where
  pub there : is_some (module_named all top) ≡ true
  pub recursion : first_found (recursive all) (reached all top) ≡ None
  pub ranges : first_found bad_range (reached all top) ≡ None
  pub targets : first_found (bad_target all) (reached all top) ≡ None
  pub connections : first_found (bad_connection all) (reached all top) ≡ None

pub unrefused : (all : List ModuleTree) (top : Name) → first_of (module_faults all top (reached all top)) ≡ None →
    IsUnrefused all top
unrefused all top h =
    let ms = reached all top in
    let i = named kind.BadConnection (first_found (bad_connection all) ms) in
    let g = named kind.BadTarget (first_found (bad_target all) ms) in
    let f = named kind.BadRange (first_found bad_range ms) in
    let e = named kind.UnknownName (first_found unknown_name ms) in
    let d = named kind.DuplicateName (first_found duplicate_name ms) in
    let c = named kind.Recursive (first_found (recursive all) ms) in
    let b = named kind.UnknownModule (first_found (unknown_module all) ms) in
    let a = named kind.NoTop (no_top all top) in
    let z = named kind.DuplicateModule (duplicate_module all) in
    let p1 = or_none z (first_of (a ∷ b ∷ c ∷ d ∷ e ∷ f ∷ g ∷ i ∷ [])) h in
    let p2 = or_none a (first_of (b ∷ c ∷ d ∷ e ∷ f ∷ g ∷ i ∷ [])) p1.1 in
    let p3 = or_none b (first_of (c ∷ d ∷ e ∷ f ∷ g ∷ i ∷ [])) p2.1 in
    let p4 = or_none c (first_of (d ∷ e ∷ f ∷ g ∷ i ∷ [])) p3.1 in
    let p5 = or_none d (first_of (e ∷ f ∷ g ∷ i ∷ [])) p4.1 in
    let p6 = or_none e (first_of (f ∷ g ∷ i ∷ [])) p5.1 in
    let p7 = or_none f (first_of (g ∷ i ∷ [])) p6.1 in
    let p8 = or_none g (first_of (i ∷ [])) p7.1 in
    let p9 = or_none i (first_of []) p8.1 in
    record {
      there = unless_none (is_some (module_named all top)) top (unnamed kind.NoTop (no_top all top) p2.0);
      recursion = unnamed kind.Recursive (first_found (recursive all) ms) p4.0;
      ranges = unnamed kind.BadRange (first_found bad_range ms) p7.0;
      targets = unnamed kind.BadTarget (first_found (bad_target all) ms) p8.0;
      connections = unnamed kind.BadConnection (first_found (bad_connection all) ms) p9.0;
    }

-- ---- an instance as an item

module _ (i : Instance) where
  -- what holds of all items holds of it
  item_fine : (f : ItemTree → Option Name) (is : List ItemTree) → first_found f is ≡ None →
      Contains (filter_map instance_in is) i → f (item_of i) ≡ None
  item_fine f [] h inside = absurd (let lt = inside.1 in omega (arith, lt))
  item_fine f (x ∷ xs) h inside =
      let parts = or_none (f x) (first_found f xs) h in
      elim (Contains-append_cases (cons_option (instance_in x) []) (filter_map instance_in xs) i (split i x xs inside)) [
        | inl here ↦ subst (λ (y : ItemTree). f y ≡ None) (is_item i x here) parts.0
        | inr there ↦ item_fine f xs parts.1 there
      ]

  item_spelled : (is : List ItemTree) → AreItemsSpelled is → Contains (filter_map instance_in is) i →
      IsItemSpelled (item_of i)
  item_spelled [] h inside = absurd (let lt = inside.1 in omega (arith, lt))
  item_spelled (x ∷ xs) h inside =
      elim (Contains-append_cases (cons_option (instance_in x) []) (filter_map instance_in xs) i (split i x xs inside)) [
        | inl here ↦ subst (λ (y : ItemTree). IsItemSpelled y) (is_item i x here) h.0
        | inr there ↦ item_spelled xs h.1 there
      ]

-- ---- no more nets than bits

one_bit : (r : Option (ℕ × ℕ)) → 1 ≤ range_width r
one_bit None = omega arith
one_bit (Some r) = omega arith

wide : (nets : List Net) → length nets ≤ total_width nets
wide [] = omega arith
wide (n ∷ ns) =
    let one = one_bit n.range in
    let rest = wide ns in
    omega (arith, one, rest)

-- ---- what is reached

module _ (all : List ModuleTree) (top : Name) where
  abbrev pub IsReached : ModuleTree → Type 0
  IsReached m = (n : Name) × (has (module_names (reached all top)) n ≡ true) × (module_named all n ≡ Some m)

  -- what is refused of none that are reached
  fine : (f : ModuleTree → Option Name) → first_found f (reached all top) ≡ None → (m : ModuleTree) → IsReached m →
      f m ≡ None
  fine f none m h = fine_at all f (reached all top) (reached_named all top) none h.0 m h.1 h.2

  inner_reached : (m : ModuleTree) → IsReached m → (i : Instance) → Contains (instances m) i → (k : ModuleTree) →
      module_named all i.module_name ≡ Some k → IsReached k
  inner_reached m h i inside k is = (i.module_name, reached_done all top h.0 h.1 m h.2 i inside k is, is)

  abbrev EndsReached : List Link → Type 0
  EndsReached [] = Unit {0}
  EndsReached (l ∷ ls) = IsReached l.of × EndsReached ls

  ends_append : (xs ys : List Link) → EndsReached xs → EndsReached ys → EndsReached (xs ++ ys)
  ends_append [] ys h g = g
  ends_append (x ∷ xs) ys h g = (h.0, ends_append xs ys h.1 g)

  abbrev linked : ℕ → Path → Instance → Option ModuleTree → List Link
  linked k p i o = if_there [] (λ m. let l : Link = record { within = p; written = i; of = m } in
      l ∷ links_from all k (end_of l)) o

  abbrev Below : ℕ → Type 0
  Below k = (q : Path) → IsReached q.of → EndsReached (links_from all k q)

  one_reached : (k : ℕ) (p : Path) (i : Instance) (o : Option ModuleTree) → module_named all i.module_name ≡ o →
      IsReached p.of → Contains (instances p.of) i → Below k → EndsReached (linked k p i o)
  one_reached k p i None is h inside below = tt
  one_reached k p i (Some m) is h inside below =
      let q = inner_reached p.of h i inside m is in
      (q, below (record { prefix = inner_prefix p.prefix i.name; of = m }) q)

  some_reached : (k : ℕ) (p : Path) (is : List Instance) →
      ((i : Instance) → Contains is i → Contains (instances p.of) i) → IsReached p.of → Below k →
      EndsReached (flat_map (links_at all k p) is)
  some_reached k p [] among h below = tt
  some_reached k p (i ∷ is) among h below =
      ends_append (links_at all k p i) (flat_map (links_at all k p) is)
      (one_reached k p i (module_named all i.module_name) refl h (among i (0, omega arith, refl)) below)
      (some_reached k p is (λ j g. among j (Contains-append_right (i ∷ []) is j g)) h below)

  all_reached : (k : ℕ) → Below k
  all_reached zero p h = tt
  all_reached (suc k) p h = some_reached k p (instances p.of) (λ i g. g) h (all_reached k)

  -- all paths
  abbrev pub PathsReached : List Path → Type 0
  PathsReached [] = Unit {0}
  PathsReached (p ∷ ps) = IsReached p.of × PathsReached ps

  ends_are : (ls : List Link) → EndsReached ls → PathsReached (map end_of ls)
  ends_are [] h = tt
  ends_are (l ∷ ls) h = (h.0, ends_are ls h.1)

  pub paths_reached : (k : ℕ) (m : ModuleTree) (p : Path) → p.of ≡ m → module_named all top ≡ Some m →
      PathsReached (p ∷ map end_of (links_from all k p))
  paths_reached k m p same is =
      let h : IsReached p.of = subst IsReached (sym same) (top, top_met all top m is, is) in
      (h, ends_are (links_from all k p) (all_reached k p h))

  pub reached_at : (xs : List PathValue) (k : ℕ) (x : PathValue) → slice_get xs k ≡ Some x →
      PathsReached (map path_of xs) → IsReached (module_tree x.of.module.now)
  reached_at [] k x here h = absurd (cc)
  reached_at (y ∷ ys) zero x here h =
      let same : y ≡ x = ap (λ o. if_there y (λ w. w) o) here in
      subst (λ (z : PathValue). IsReached (module_tree z.of.module.now)) same h.0
  reached_at (y ∷ ys) (suc k) x here h = reached_at ys k x here h.1

-- ---- paths and links

same_pair : (x y : PathValue × ℕ) → Some x ≡ Some y → x ≡ y
same_pair x y e = ap (λ (o : Option (PathValue × ℕ)). if_there x (λ (w : PathValue × ℕ). w) o) e

first_part : (paths : List PathValue) (firsts : List ℕ) (k : ℕ) (x : PathValue × ℕ) →
    slice_get (zip paths firsts) k ≡ Some x → slice_get paths k ≡ Some x.0
first_part paths firsts k x h = (zip_parts paths firsts k x h).0

module _ (law : OffsetsByPath) (all : List ModuleTree) (nets : List NetInfo) (paths : List PathValue) (firsts : List ℕ)
    (placed : All (IsPath all) paths) (flat : IsFlat paths (length paths) nets firsts)
    (distinct : first_again (full_names (map net_of nets)) ≡ None)
    (top : Name) (right : IsUnrefused all top) (spelled : All IsModuleSpelled all) (few : bits_of nets < 2 ^ 32)
    (reach : PathsReached all top (map path_of paths)) where
  abbrev owned : List (List Name)
  owned = map nets_in all

  abbrev ends : List (PathValue × ℕ)
  ends = zip paths firsts

  -- a path's module is reached and spelled, and its nets are there
  record IsSet (x : PathValue × ℕ) : Type 0 where
    names : names_of owned x.0 ≡ nets_in (module_tree x.0.of.module.now)
    place : IsPlaced all x.0.of
    there : x.0.of.place < length owned
    room : x.1 + length (names_of owned x.0) < 2 ^ 32
    reached : IsReached all top (module_tree x.0.of.module.now)
    items : AreItemsSpelled (map item_tree x.0.of.module.now.items)
    own_nets : AreNetsOf (module_tree x.0.of.module.now) nets x.1

  set_at : (k : ℕ) (x : PathValue × ℕ) → slice_get ends k ≡ Some x → IsSet x
  set_at k x here =
      let m = module_tree x.0.of.module.now in
      let a = at law all nets paths firsts placed flat distinct k x here in
      let reached = reached_at all top paths k x.0 (first_part paths firsts k x here) reach in
      let less = get_inside all x.0.of.place m a.place in
      let long = length-map all nets_in in
      let room = a.scope.room in
      let names = ap (λ (ns : List Name). length ns) a.names in
      let nets_long = length-map nets net_of in
      let bits = wide (map net_of nets) in
      record {
        names = a.names;
        place = a.place;
        there = omega (arith, less, long);
        room = omega (arith, room, names, nets_long, bits, few);
        reached = reached;
        items = subst (λ (y : ModuleTree). AreItemsSpelled y.items) (get_or_is all x.0.of.place m a.place)
            (spelled x.0.of.place m less);
        own_nets = are_nets_of nets (path_of x.0) x.1 a.scope (fine all top bad_range right.ranges m reached);
      }

  path_ready : (x : PathValue × ℕ) → IsSet x → IsPathReady nets owned x
  path_ready x h =
      let m = module_tree x.0.of.module.now in
      record {
        there = h.there;
        room = h.room;
        items = subst (λ (ns : List Name). AreReady nets ns x.1 (map item_tree x.0.of.module.now.items)) (sym h.names)
            (module_ready all m nets x.1 h.own_nets h.items (fine all top bad_range right.ranges m h.reached)
            (fine all top (bad_target all) right.targets m h.reached)
            (fine all top (bad_connection all) right.connections m h.reached));
      }

  some_ready : (xs : List PathValue) (ns : List ℕ) →
      ((k : ℕ) (x : PathValue × ℕ) → slice_get (zip xs ns) k ≡ Some x → IsSet x) →
      ArePathsReady nets owned (zip xs ns)
  some_ready [] ns h = tt
  some_ready (x ∷ xs) [] h = tt
  some_ready (x ∷ xs) (n ∷ ns) h =
      (path_ready (x, n) (h 0 (x, n) refl), some_ready xs ns (λ k y i. h (suc k) y i))

  pub paths_ready : ArePathsReady nets owned ends
  paths_ready = some_ready paths firsts set_at

  -- ---- links

  abbrev Linked : ℕ → LinkValue → Type 0
  Linked s l = IsLinked law all nets paths firsts placed flat distinct s l

  module _ (s : ℕ) (l : LinkValue) (h : Linked s l) where
    abbrev cs : ConnectionList
    cs = connection_list l.conns.now

    abbrev m : ModuleTree
    m = module_tree h.x.0.of.module.now

    abbrev d : ModuleTree
    d = module_tree h.y.0.of.module.now

    inside : Contains (instances m) (written_of l)
    inside = subst (λ (p : Path). Contains (instances p.of) (written_of l)) (sym h.outer_is) h.written

    module_is : module_named all l.module.now ≡ Some d
    module_is = h.found ∙ ap (λ (p : Path). Some p.of) (sym h.own_is)

    outer : IsSet h.x
    outer = set_at l.within h.x h.outer

    own : IsSet h.y
    own = set_at s h.y h.own

    connected_fine : first_found (bad_connected m d) (connections_of d cs) ≡ None
    connected_fine =
        sym (ap (λ (o : Option ModuleTree). if_there None (λ k. first_found (bad_connected m k) (connections_of k cs)) o)
        module_is)
        ∙ item_fine (written_of l) (bad_target_at all m) m.items
        (fine all top (bad_target all) right.targets m outer.reached) inside

    abbrev Joined : List Name → List Name → Type 0
    Joined own_names names = AreJoined nets own_names h.y.1 names h.x.1 d (maybe_connections d cs)

    joined : AreJoined nets (names_of owned h.y.0) h.y.1 (names_of owned h.x.0) h.x.1 d (maybe_connections d cs)
    joined =
        subst (λ (ns : List Name). Joined ns (names_of owned h.x.0)) (sym own.names)
        (subst (λ (ns : List Name). Joined (nets_in d) ns) (sym outer.names)
        (connections_joined all m nets h.x.1 outer.own_nets d h.y.1 own.own_nets cs (
          in_connections m (written_of l) inside,
          (
            item_fine (written_of l) (bad_range_at m) m.items (fine all top bad_range right.ranges m outer.reached) inside,
            item_spelled (written_of l) m.items outer.items inside,
          ),
        )
        connected_fine))

    between : IsBetween nets all owned cs h.x h.y
    between = record {
      outer_there = outer.there;
      inside = record {
        there = own.there;
        module_is = own.place;
        outer_room = outer.room;
        room = own.room;
        joined = joined;
      };
    }

    link_ready : IsLinkReady nets all owned ends s l
    link_ready = record {
      outer = get_inside ends l.within h.x h.outer;
      own = get_inside ends s h.y h.own;
      between = λ x y ix iy.
          let a = same_pair h.x x (sym h.outer ∙ ix) in
          let b = same_pair h.y y (sym h.own ∙ iy) in
          subst (λ (z : PathValue × ℕ). IsBetween nets all owned cs z y) a
          (subst (λ (z : PathValue × ℕ). IsBetween nets all owned cs h.x z) b between);
    }

  pub links_ready : (ls : List LinkValue) (s : ℕ) → AreLinked law all nets paths firsts placed flat distinct s ls →
      AreLinksReady nets all owned ends s ls
  links_ready [] s h = tt
  links_ready (l ∷ ls) s h = (link_ready s l h.0, links_ready ls (s + 1) h.1)

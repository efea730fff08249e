-- The scope of each instance by the table of its module and the number of its first net says the same as the one by full
-- names, where these are distinct. So the equations of all paths and links agree with those of the definitions.
use Rattle.std.proofs.Common.{◌≡◌, ℕ, zero, suc, ◌+◌, ◌<◌, ◌≤◌, true, List, [], ◌∷◌, ◌++◌, map, length, take, drop, slice_get, slice_index_or, All, Option, Some, None, refl, arith, sym, ap, subst, ◌∙◌, inl, inr}
use Rattle.std.specs.Prelude.{filter_map, flat_map, zip, Contains}
use Rattle.std.specs.List.{cons_option}
use Rattle.std.proofs.lemmas.List.{length-append, take_all, length-map}
use Rattle.std.proofs.lemmas.List.Concat.{flat_map-append}
use Rattle.std.proofs.lemmas.List.Elements.{Contains-append_cases, Contains-append_right}
use Rattle.eq_model.specs.Nets.{Net, total_width}
use Rattle.eq_net.specs.declared.types.NetInfo.{NetInfo}
use Rattle.eq_net.specs.Meaning.{if_there}
use Rattle.eq_net.specs.Nets.{net_of}
use Rattle.eq_verilog.specs.Trees.{Name, ItemTree, declared, assign, primitive, instance, always, initial, ModuleTree, module_tree}
use Rattle.eq_verilog.specs.Declarations.{connected_exprs, has, names_of_item, nets_in}
use Rattle.eq_verilog.specs.Firsts.{first_again}
use Rattle.eq_verilog.specs.Hierarchy.{Instance, instance_in, instances, inner_prefix, module_named, Path}
use Rattle.eq_verilog.specs.Nets.{alone, full_names, net_at, nets_at, nets_of, offset, scope_at}
use Rattle.eq_analysis.specs.Finding.{net_in, scope_of}
use Rattle.eq_flatten.specs.declared.paths.Path.{Path as PathValue}
use Rattle.eq_flatten.specs.Flat.{first_of, IsFlat}
use Rattle.eq_flatten.specs.Flattening.{names_of}
use Rattle.eq_flatten.specs.Paths.{Link, end_of, links_at, links_from, nowhere, path_at, path_of, IsPath, IsPlaced}
use Rattle.eq_flatten.proofs.Bridged.{bridge_first, bridge_range, bridge_there, OffsetsByPath}
use Rattle.eq_flatten.proofs.Faultless.{in_back, in_front}
use Rattle.eq_flatten.proofs.FlatLemmas.{get_mapped}
use Rattle.eq_flatten.proofs.Listing.{numbered_at, numbered_length, only}
use Rattle.eq_flatten.proofs.Ready.{once}
use Rattle.eq_flatten.proofs.SameNamed.{names_all, SameOf}

-- ---- what a module names

pub in_items : (m : ModuleTree) (n : Name) → has (flat_map names_of_item m.items) n ≡ true → has (nets_in m) n ≡ true
in_items m n h =
    once n (m.ports ++ flat_map names_of_item m.items) [] (in_back m.ports (flat_map names_of_item m.items) n h)

pub in_ports : (m : ModuleTree) (n : Name) → has m.ports n ≡ true → has (nets_in m) n ≡ true
in_ports m n h =
    once n (m.ports ++ flat_map names_of_item m.items) [] (in_front m.ports (flat_map names_of_item m.items) n h)

-- ---- an instance as an item

abbrev pub item_of : Instance → ItemTree
item_of i = instance i.module_name i.name i.connections

module _ (i : Instance) where
  pub is_item : (x : ItemTree) → Contains (cons_option (instance_in x) []) i → x ≡ item_of i
  is_item (declared k r m) inside = absurd (let h = inside.1 in omega (arith, h))
  is_item (assign t e) inside = absurd (let h = inside.1 in omega (arith, h))
  is_item (primitive k m terms) inside = absurd (let h = inside.1 in omega (arith, h))
  is_item (instance m k conns) inside =
      let x : Instance = record { module_name = m; name = k; connections = conns } in
      ap item_of (only x i inside.0 inside.1 inside.2)
  is_item (always event body) inside = absurd (let h = inside.1 in omega (arith, h))
  is_item (initial t c) inside = absurd (let h = inside.1 in omega (arith, h))

  apart : (o : Option Instance) (is : List Instance) → cons_option o is ≡ cons_option o [] ++ is
  apart None is = refl
  apart (Some x) is = refl

  abbrev pub cases : ItemTree → List ItemTree → Type 0
  cases x xs = Contains (cons_option (instance_in x) [] ++ filter_map instance_in xs) i

  pub split : (x : ItemTree) (xs : List ItemTree) → Contains (filter_map instance_in (x ∷ xs)) i → cases x xs
  split x xs inside = subst (λ (ys : List Instance). Contains ys i) (apart (instance_in x) (filter_map instance_in xs)) inside

-- ---- the names of an instance's connections

abbrev conn_names : Instance → List Name
conn_names i = names_all (connected_exprs i.connections)

-- are names of the items
module _ (i : Instance) (n : Name) (h : has (conn_names i) n ≡ true) where
  in_conns : (is : List ItemTree) → Contains (filter_map instance_in is) i → has (flat_map names_of_item is) n ≡ true
  in_conns [] inside = absurd (omega (arith, inside.1))
  in_conns (x ∷ xs) inside =
      elim (Contains-append_cases (cons_option (instance_in x) []) (filter_map instance_in xs) i (split i x xs inside)) [
        | inl here ↦
            in_front (names_of_item x) (flat_map names_of_item xs) n
            (subst (λ (y : ItemTree). has (names_of_item y) n ≡ true) (sym (is_item i x here)) h)
        | inr there ↦ in_back (names_of_item x) (flat_map names_of_item xs) n (in_conns xs there)
      ]

pub in_connections : (m : ModuleTree) (i : Instance) → Contains (instances m) i → (n : Name) →
    has (conn_names i) n ≡ true → has (nets_in m) n ≡ true
in_connections m i inside n h = in_items m n (in_conns i n h m.items inside)

-- ---- links stand in a module's items

abbrev pub IsWritten : List ModuleTree → Link → Type 0
IsWritten all l = Contains (instances l.within.of) l.written × (module_named all l.written.module_name ≡ Some l.of)

abbrev pub AreWritten : List ModuleTree → List Link → Type 0
AreWritten all [] = Unit {0}
AreWritten all (l ∷ ls) = IsWritten all l × AreWritten all ls

module _ (all : List ModuleTree) where
  written_append : (xs ys : List Link) → AreWritten all xs → AreWritten all ys → AreWritten all (xs ++ ys)
  written_append [] ys h g = g
  written_append (x ∷ xs) ys h g = (h.0, written_append xs ys h.1 g)

  abbrev linked : ℕ → Path → Instance → Option ModuleTree → List Link
  linked k p i o = if_there [] (λ m. let l : Link = record { within = p; written = i; of = m } in
      l ∷ links_from all k (end_of l)) o

  one_written : (k : ℕ) (p : Path) (i : Instance) (o : Option ModuleTree) → module_named all i.module_name ≡ o →
      Contains (instances p.of) i → ((q : Path) → AreWritten all (links_from all k q)) → AreWritten all (linked k p i o)
  one_written k p i None is inside below = tt
  one_written k p i (Some m) is inside below =
      ((inside, is), below (record { prefix = inner_prefix p.prefix i.name; of = m }))

  some_written : (k : ℕ) (p : Path) (is : List Instance) →
      ((i : Instance) → Contains is i → Contains (instances p.of) i) →
      ((q : Path) → AreWritten all (links_from all k q)) → AreWritten all (flat_map (links_at all k p) is)
  some_written k p [] among below = tt
  some_written k p (i ∷ is) among below =
      written_append (links_at all k p i) (flat_map (links_at all k p) is)
      (one_written k p i (module_named all i.module_name) refl (among i (0, omega arith, refl)) below)
      (some_written k p is (λ j h. among j (Contains-append_right (i ∷ []) is j h)) below)

  pub all_written : (k : ℕ) (p : Path) → AreWritten all (links_from all k p)
  all_written zero p = tt
  all_written (suc k) p = some_written k p (instances p.of) (λ i h. h) (all_written k)

-- ---- places

pub zip_parts : {A B : Type 0} (xs : List A) (ys : List B) (k : ℕ) (z : A × B) → slice_get (zip xs ys) k ≡ Some z →
    (slice_get xs k ≡ Some z.0) × (slice_get ys k ≡ Some z.1)
zip_parts [] ys k z h = absurd (cc)
zip_parts (x ∷ xs) [] k z h = absurd (cc)
zip_parts (x ∷ xs) (y ∷ ys) zero z h =
    let same : (x, y) ≡ z = ap (λ o. if_there (x, y) (λ w. w) o) h in
    (ap (λ w. Some w.0) same, ap (λ w. Some w.1) same)
zip_parts (x ∷ xs) (y ∷ ys) (suc k) z h = zip_parts xs ys k z h

pub get_inside : {A : Type 0} (xs : List A) (k : ℕ) (x : A) → slice_get xs k ≡ Some x → k < length xs
get_inside [] k x h = absurd (cc)
get_inside (y ∷ ys) zero x h = omega arith
get_inside (y ∷ ys) (suc k) x h = (let lt = get_inside ys k x h in omega (arith, lt))

pub get_or_is : {A : Type 0} (xs : List A) (k : ℕ) (x : A) → slice_get xs k ≡ Some x → slice_index_or xs k x ≡ x
get_or_is [] k x h = refl
get_or_is (y ∷ ys) zero x h = ap (λ o. if_there y (λ w. w) o) h
get_or_is (y ∷ ys) (suc k) x h = get_or_is ys k x h

-- beside what stands at a place stands something
pub zip_beside : {A B : Type 0} (xs : List A) (ys : List B) (k : ℕ) (x : A) → slice_get xs k ≡ Some x →
    length ys ≡ length xs → (y : B) × (slice_get (zip xs ys) k ≡ Some (x, y))
zip_beside [] ys k x h same = absurd (cc)
zip_beside (a ∷ xs) [] k x h same = absurd (omega (arith, same))
zip_beside (a ∷ xs) (b ∷ ys) zero x h same =
    let is : a ≡ x = ap (λ o. if_there a (λ w. w) o) h in
    (b, ap (λ w. Some (w, b)) is)
zip_beside (a ∷ xs) (b ∷ ys) (suc k) x h same = zip_beside xs ys k x h (omega (arith, same))

pub get_middle : {A : Type 0} (xs : List A) (y : A) (ys : List A) → slice_get (xs ++ y ∷ ys) (length xs) ≡ Some y
get_middle [] y ys = refl
get_middle (x ∷ xs) y ys = get_middle xs y ys

-- the paths before one, it, and those behind it
split_at : (xs : List PathValue) (k : ℕ) (x : PathValue) → slice_get xs k ≡ Some x →
    map path_of xs ≡ take k (map path_of xs) ++ path_of x ∷ drop (suc k) (map path_of xs)
split_at [] k x h = absurd (cc)
split_at (y ∷ ys) zero x h =
    let is : y ≡ x = ap (λ o. if_there y (λ w. w) o) h in
    ap (λ w. path_of w ∷ map path_of ys) is
split_at (y ∷ ys) (suc k) x h = ap (λ ps. path_of y ∷ ps) (split_at ys k x h)

-- the scope of a path by its module's nets and the number of its first says the same as that by full names
pub record IsScoped (nets : List NetInfo) (p : Path) (from : ℕ) : Type 0 where
  pub there : (n : Name) → has (nets_in p.of) n ≡ true → net_in (nets_in p.of) from n < length nets
  pub same : SameOf (scope_of nets (nets_in p.of) from) (scope_at (map net_of nets) p) (nets_in p.of)
  -- the number of its first bit
  pub start : ℕ
  pub begins : (n : Name) → has (nets_in p.of) n ≡ true →
      (scope_of nets (nets_in p.of) from).first n ≡ start + offset (nets_at (alone p.of)) n
  pub room : from + length (nets_in p.of) ≤ length nets

scoped : (law : OffsetsByPath) (nets : List NetInfo) (before after : List Path) (p : Path) →
    map net_of nets ≡ nets_of (before ++ p ∷ after) → first_again (full_names (map net_of nets)) ≡ None →
    IsScoped nets p (length (nets_of before))
scoped law nets before after p are distinct =
    let others = subst (λ (ns : List Net). first_again (full_names ns) ≡ None) are distinct in
    record {
      there = λ n h. bridge_there law nets before after p n are others h;
      same = λ n h. (
        bridge_range law nets before after p n are others h,
        bridge_first law nets before after p n are others h
            ∙ ap (λ (ns : List Net). offset ns (p.prefix ++ n)) (sym are),
      );
      start = total_width (nets_of before);
      begins = λ n h. bridge_first law nets before after p n are others h ∙ law before after p n others h;
      room =
          (let a = length-map nets net_of in
          let b = ap (λ (xs : List Net). length xs) (are ∙ flat_map-append nets_at before (p ∷ after)) in
          let c = length-append (nets_of before) (nets_at p ++ nets_of after) in
          let d = length-append (nets_at p) (nets_of after) in
          let e = length-map (nets_in p.of) (net_at p) in
          omega (arith, a, b, c, d, e));
    }

pub path_there : (paths : List PathValue) (k : ℕ) (i : Instance) → Contains (instances (path_at (map path_of paths) k).of) i →
    (x : PathValue) × (slice_get paths k ≡ Some x) × (path_of x ≡ path_at (map path_of paths) k)
path_there [] k i h = absurd (omega (arith, h.1))
path_there (x ∷ xs) zero i h = (x, refl, refl)
path_there (x ∷ xs) (suc k) i h = path_there xs k i h

pub head_same : (x y : Path) (xs ys : List Path) → x ∷ xs ≡ y ∷ ys → x ≡ y
head_same x y xs ys e = ap (λ (ps : List Path). slice_index_or ps 0 nowhere) e

pub tail_same : (x y : Path) (xs ys : List Path) → x ∷ xs ≡ y ∷ ys → xs ≡ ys
tail_same x y xs ys e = ap (λ (ps : List Path). drop 1 ps) e

pub none_left : (y : Path) (ys : List Path) → [] ≡ y ∷ ys → ⊥
none_left y ys e = (let h = ap (λ (ps : List Path). length ps) e in absurd (omega (arith, h)))

module _ (law : OffsetsByPath) (all : List ModuleTree) (nets : List NetInfo) (paths : List PathValue) (firsts : List ℕ)
    (placed : All (IsPath all) paths) (flat : IsFlat paths (length paths) nets firsts)
    (distinct : first_again (full_names (map net_of nets)) ≡ None) where
  abbrev N : List Net
  N = map net_of nets

  abbrev ps : List Path
  ps = map path_of paths

  abbrev owned : List (List Name)
  owned = map nets_in all

  abbrev ends : List (PathValue × ℕ)
  ends = zip paths firsts

  pub many : length firsts ≡ length paths
  many = ap (λ (ns : List ℕ). length ns) flat.firsts_are ∙ numbered_length (first_of paths) (length paths)

  nets_are : N ≡ nets_of ps
  nets_are =
      flat.are ∙ ap nets_of (let e = length-map paths path_of in take_all (length paths) ps (omega (arith, e)))

  -- a path has its module's names, and is scoped
  pub record IsAt (x : PathValue × ℕ) : Type 0 where
    pub names : names_of owned x.0 ≡ nets_in (module_tree x.0.of.module.now)
    pub place : IsPlaced all x.0.of
    pub scope : IsScoped nets (path_of x.0) x.1

  placed_at : (xs : List PathValue) (k : ℕ) (x : PathValue) → All (IsPath all) xs → slice_get xs k ≡ Some x →
      IsPlaced all x.of
  placed_at xs k x h is =
      let lt = get_inside xs k x is in
      subst (λ (y : PathValue). IsPlaced all y.of) (get_or_is xs k x is) (h k x lt).0

  pub at : (k : ℕ) (x : PathValue × ℕ) → slice_get ends k ≡ Some x → IsAt x
  at k x here =
      let parts = zip_parts paths firsts k x here in
      let lt = get_inside paths k x.0 parts.0 in
      let number : first_of paths k ≡ x.1 =
      ap (λ (o : Option ℕ). if_there 0 (λ n. n) o)
      (sym (numbered_at (first_of paths) (length paths) k lt)
      ∙ ap (λ (ns : List ℕ). slice_get ns k) (sym flat.firsts_are) ∙ parts.1) in
      let place = placed_at paths k x.0 placed parts.0 in
      record {
        names = ap (λ (o : Option (List Name)). if_there [] (λ ns. ns) o)
            (get_mapped nets_in all x.0.of.place (module_tree x.0.of.module.now) place);
        place = place;
        scope = subst (λ (n : ℕ). IsScoped nets (path_of x.0) n) number
            (scoped law nets (take k ps) (drop (suc k) ps) (path_of x.0)
            (nets_are ∙ ap nets_of (split_at paths k x.0 parts.0)) distinct);
      }

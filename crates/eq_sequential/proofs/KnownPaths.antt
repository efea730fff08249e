-- A design that is laid out and sound: its paths are ready, and their always items and initial values are those of the
-- definitions.
use Rattle.std.proofs.Common.{◌≡◌, ℕ, suc, ◌+◌, ◌-◌, ◌<◌, ◌^◌, List, [], ◌∷◌, map, length, slice_get, Option, Some, None, refl, arith, sym, ap, subst, ◌∙◌}
use Rattle.std.specs.Prelude.{filter_map, flat_map, zip}
use Rattle.std.proofs.lemmas.List.{length-map}
use Rattle.eq_model.specs.Nets.{Net, range_width, total_width}
use Rattle.eq_net.specs.declared.types.NetInfo.{NetInfo}
use Rattle.eq_net.specs.Net.{bits_of}
use Rattle.eq_net.specs.Nets.{net_of}
use Rattle.eq_verilog.specs.Trees.{Name, item_tree, ModuleTree, module_tree}
use Rattle.eq_verilog.specs.Declarations.{nets_in}
use Rattle.eq_verilog.specs.Firsts.{first_found}
use Rattle.eq_verilog.specs.Hierarchy.{Path, module_named, paths, reached}
use Rattle.eq_verilog.specs.ModuleRefusals.{bad_range}
use Rattle.eq_verilog.specs.Nets.{scope_at}
use Rattle.eq_verilog.specs.Registers.{initial_in, initials_of, process_in, processes_of}
use Rattle.eq_verilog.specs.TargetRefusals.{bad_target}
use Rattle.eq_analysis.specs.Finding.{scope_of}
use Rattle.eq_flatten.specs.declared.paths.Path.{Path as PathValue}
use Rattle.eq_flatten.specs.Beginning.{path_initials, AreInitialsReady, ArePathsBegun, IsPathBegun}
use Rattle.eq_flatten.specs.Flattening.{names_of}
use Rattle.eq_flatten.specs.Paths.{end_of, path_of, top_path, HasPaths}
use Rattle.eq_flatten.specs.Spelled.{AreItemsSpelled}
use Rattle.eq_flatten.specs.inner.Faultless.{AreNetsOf}
use Rattle.eq_flatten.proofs.Bridged.{OffsetsByPath}
use Rattle.eq_flatten.proofs.Connected.{are_nets_of}
use Rattle.eq_flatten.proofs.DesignDriven.{the_module}
use Rattle.eq_flatten.proofs.DesignReady.{paths_reached, reached_at, unrefused, IsReached, IsUnrefused, PathsReached}
use Rattle.eq_flatten.proofs.Ending.{fine_at, reached_named}
use Rattle.eq_flatten.proofs.SameNamed.{SameOf}
use Rattle.eq_flatten.proofs.Scoped.{at, get_inside, get_or_is, many, zip_parts}
use Rattle.eq_layout.specs.declared.layout.Layout.{Layout}
use Rattle.eq_layout.specs.Layout.{design_in, trees_of, AreSound, IsLaidOut}
use Rattle.eq_sequential.specs.inner.Processing.{path_processes, AreAlwaysReady, ArePathsRunning, IsPathRunning}
use Rattle.eq_sequential.proofs.AlikeItems.{initials_alike, processes_alike, BeginsAlike, RunsAlike}
use Rattle.eq_sequential.proofs.FineItems.{always_ready, initials_ready, module_fine, AreItemsFine}
use Rattle.eq_sequential.proofs.Matched.{each_pair, matched_append, Each, Matched}

-- ---- no more nets than bits

one_bit : (r : Option (ℕ × ℕ)) → 0 < range_width r
one_bit None = omega arith
one_bit (Some r) = omega arith

wide : (nets : List Net) → length nets < suc (total_width nets)
wide [] = omega arith
wide (n ∷ ns) =
    let one = one_bit n.range in
    let rest = wide ns in
    omega (arith, one, rest)

-- ---- paths

-- a path of which all is known
pub record IsKnown (all : List ModuleTree) (nets : List NetInfo) (x : PathValue × ℕ) : Type 0 where
  pub names : names_of (map nets_in all) x.0 ≡ nets_in (module_tree x.0.of.module.now)
  pub there : x.0.of.place < length (map nets_in all)
  pub room : x.1 + length (names_of (map nets_in all) x.0) < 2 ^ 32
  pub fine : AreItemsFine (module_tree x.0.of.module.now) (map item_tree x.0.of.module.now.items)
  pub own_nets : AreNetsOf (module_tree x.0.of.module.now) nets x.1
  pub same : SameOf (scope_of nets (nets_in (module_tree x.0.of.module.now)) x.1)
      (scope_at (map net_of nets) (path_of x.0)) (nets_in (module_tree x.0.of.module.now))

module _ (all : List ModuleTree) (nets : List NetInfo) where
  abbrev owned : List (List Name)
  owned = map nets_in all

  abbrev N : List Net
  N = map net_of nets

  abbrev Known : PathValue × ℕ → Type 0
  Known x = IsKnown all nets x

  path_running : (x : PathValue × ℕ) → Known x → IsPathRunning nets owned x
  path_running x h = record {
    there = h.there;
    room = h.room;
    items = subst (λ (ns : List Name). AreAlwaysReady nets ns x.1 (map item_tree x.0.of.module.now.items)) (sym h.names)
        (always_ready (module_tree x.0.of.module.now) nets x.1 h.own_nets (map item_tree x.0.of.module.now.items)
        h.fine);
  }

  path_begun : (x : PathValue × ℕ) → Known x → IsPathBegun nets owned x
  path_begun x h = record {
    there = h.there;
    room = h.room;
    items =
        subst (λ (ns : List Name). AreInitialsReady nets ns x.1 (map item_tree x.0.of.module.now.items)) (sym h.names)
        (initials_ready (module_tree x.0.of.module.now) nets x.1 h.own_nets (map item_tree x.0.of.module.now.items)
        h.fine);
  }

  -- known paths are ready
  pub paths_running : (xs : List (PathValue × ℕ)) → Each (IsKnown all nets) xs → ArePathsRunning nets owned xs
  paths_running [] h = tt
  paths_running (x ∷ xs) h = (path_running x h.0, paths_running xs h.1)

  pub paths_begun : (xs : List (PathValue × ℕ)) → Each (IsKnown all nets) xs → ArePathsBegun nets owned xs
  paths_begun [] h = tt
  paths_begun (x ∷ xs) h = (path_begun x h.0, paths_begun xs h.1)

  -- and by tables they have what they have by the definitions
  path_processes_alike : (x : PathValue × ℕ) → Known x →
      Matched RunsAlike (path_processes nets owned x)
      (filter_map (process_in (scope_at N (path_of x.0))) (path_of x.0).of.items)
  path_processes_alike x h =
      let is = map item_tree x.0.of.module.now.items in
      let r = scope_at N (path_of x.0) in
      let m = module_tree x.0.of.module.now in
      subst (λ (ns : List Name). Matched RunsAlike (filter_map (process_in (scope_of nets ns x.1)) is)
      (filter_map (process_in r) is)) (sym h.names)
      (processes_alike m (scope_of nets (nets_in m) x.1) r h.same is h.fine)

  path_initials_alike : (x : PathValue × ℕ) → Known x →
      Matched BeginsAlike (path_initials nets owned x)
      (filter_map (initial_in (scope_at N (path_of x.0))) (path_of x.0).of.items)
  path_initials_alike x h =
      let is = map item_tree x.0.of.module.now.items in
      let r = scope_at N (path_of x.0) in
      let m = module_tree x.0.of.module.now in
      subst (λ (ns : List Name). Matched BeginsAlike (filter_map (initial_in (scope_of nets ns x.1)) is)
      (filter_map (initial_in r) is)) (sym h.names)
      (initials_alike m (scope_of nets (nets_in m) x.1) r h.same is h.fine)

  all_processes_alike : (xs : List PathValue) (ns : List ℕ) → length ns ≡ length xs →
      Each (IsKnown all nets) (zip xs ns) →
      Matched RunsAlike (flat_map (path_processes nets owned) (zip xs ns)) (processes_of N (map path_of xs))
  all_processes_alike [] ns size h = tt
  all_processes_alike (x ∷ xs) [] size h = absurd (omega (arith, size))
  all_processes_alike (x ∷ xs) (n ∷ ns) size h =
      matched_append RunsAlike (path_processes nets owned (x, n)) (flat_map (path_processes nets owned) (zip xs ns))
      (filter_map (process_in (scope_at N (path_of x))) (path_of x).of.items) (processes_of N (map path_of xs))
      (path_processes_alike (x, n) h.0) (all_processes_alike xs ns (omega (arith, size)) h.1)

  all_initials_alike : (xs : List PathValue) (ns : List ℕ) → length ns ≡ length xs →
      Each (IsKnown all nets) (zip xs ns) →
      Matched BeginsAlike (flat_map (path_initials nets owned) (zip xs ns)) (initials_of N (map path_of xs))
  all_initials_alike [] ns size h = tt
  all_initials_alike (x ∷ xs) [] size h = absurd (omega (arith, size))
  all_initials_alike (x ∷ xs) (n ∷ ns) size h =
      matched_append BeginsAlike (path_initials nets owned (x, n)) (flat_map (path_initials nets owned) (zip xs ns))
      (filter_map (initial_in (scope_at N (path_of x))) (path_of x).of.items) (initials_of N (map path_of xs))
      (path_initials_alike (x, n) h.0) (all_initials_alike xs ns (omega (arith, size)) h.1)

-- ---- a layout

module _ (law : OffsetsByPath) (top : Name) (l : Layout) (laid : IsLaidOut top l) (sound : AreSound top l) where
  abbrev pub modules : List ModuleTree
  modules = trees_of l

  abbrev found : List PathValue
  found = l.found.paths.items

  abbrev bits : List NetInfo
  bits = l.flat.nets.items

  abbrev ends : List (PathValue × ℕ)
  ends = zip found l.flat.firsts.items

  right : IsUnrefused modules top
  right = unrefused modules top sound.faultless

  one : (m : ModuleTree) × (module_named modules top ≡ Some m)
  one = the_module (module_named modules top) right.there

  has_paths : HasPaths modules (top_path one.0) l.found
  has_paths = laid.paths one.0 one.1

  reach : PathsReached modules top (map path_of found)
  reach =
      subst (PathsReached modules top)
      (sym (has_paths.ends ∙ ap (λ ls. top_path one.0 ∷ map end_of ls) has_paths.links))
      (paths_reached modules top (length modules - 1) one.0 (top_path one.0) refl one.1)

  -- as many first nets as paths
  pub layout_firsts : length l.flat.firsts.items ≡ length l.found.paths.items
  layout_firsts = many law modules bits found l.flat.firsts.items has_paths.placed laid.flat sound.apart

  fine : (f : ModuleTree → Option Name) → first_found f (reached modules top) ≡ None → (m : ModuleTree) →
      IsReached modules top m → f m ≡ None
  fine f none m h = fine_at modules f (reached modules top) (reached_named modules top) none h.0 m h.1 h.2

  module _ (few : bits_of l.flat.nets.items < 2 ^ 32) where
    known_at : (k : ℕ) (x : PathValue × ℕ) → slice_get ends k ≡ Some x → IsKnown modules bits x
    known_at k x here =
        let m = module_tree x.0.of.module.now in
        let a = at law modules bits found l.flat.firsts.items has_paths.placed laid.flat sound.apart k x here in
        let met = reached_at modules top found k x.0 (zip_parts found l.flat.firsts.items k x here).0 reach in
        let less = get_inside modules x.0.of.place m a.place in
        let long = length-map modules nets_in in
        let room = a.scope.room in
        let names = ap (λ (ns : List Name). length ns) a.names in
        let nets_long = length-map bits net_of in
        let narrow = wide (map net_of bits) in
        let range = fine bad_range right.ranges m met in
        record {
          names = a.names;
          there = omega (arith, less, long);
          room = omega (arith, room, names, nets_long, narrow, few);
          fine = module_fine m modules
              (subst (λ (y : ModuleTree). AreItemsSpelled y.items) (get_or_is modules x.0.of.place m a.place)
              (sound.spelled x.0.of.place m less)) range (fine (bad_target modules) right.targets m met);
          own_nets = are_nets_of bits (path_of x.0) x.1 a.scope range;
          same = a.scope.same;
        }

    known : Each (IsKnown modules bits) ends
    known = each_pair (IsKnown modules bits) found l.flat.firsts.items known_at

    pub layout_running : ArePathsRunning l.flat.nets.items (map nets_in (trees_of l))
        (zip l.found.paths.items l.flat.firsts.items)
    layout_running = paths_running modules bits ends known

    pub layout_begun : ArePathsBegun l.flat.nets.items (map nets_in (trees_of l))
        (zip l.found.paths.items l.flat.firsts.items)
    layout_begun = paths_begun modules bits ends known

    -- the always items by tables run as those of the design
    pub layout_processes : Matched RunsAlike
        (flat_map (path_processes l.flat.nets.items (map nets_in (trees_of l)))
        (zip l.found.paths.items l.flat.firsts.items))
        (design_in l top).processes
    layout_processes =
        let code = flat_map (path_processes bits (map nets_in modules)) ends in
        subst (λ (ns : List Net). Matched RunsAlike code (processes_of ns (paths modules top))) laid.nets
        (subst (λ (ps : List Path). Matched RunsAlike code (processes_of (map net_of bits) ps)) laid.paths_are
        (all_processes_alike modules bits found l.flat.firsts.items layout_firsts known))

    -- and the initial values begin as those of the design
    pub layout_initials : Matched BeginsAlike
        (flat_map (path_initials l.flat.nets.items (map nets_in (trees_of l)))
        (zip l.found.paths.items l.flat.firsts.items))
        (design_in l top).initials
    layout_initials =
        let code = flat_map (path_initials bits (map nets_in modules)) ends in
        subst (λ (ns : List Net). Matched BeginsAlike code (initials_of ns (paths modules top))) laid.nets
        (subst (λ (ps : List Path). Matched BeginsAlike code (initials_of (map net_of bits) ps)) laid.paths_are
        (all_initials_alike modules bits found l.flat.firsts.items layout_firsts known))

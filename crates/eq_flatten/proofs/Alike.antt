-- Lists of equations that are the same but for their order: the slots of one list speak of the other.
use Rattle.std.proofs.Common.{◌≡◌, ℕ, zero, suc, ◌+◌, ◌<◌, List, [], ◌∷◌, ◌++◌, map, Option, Some, None, refl, sym, ap, subst, ◌∙◌, arith, inl, inr}
use Rattle.std.specs.Prelude.{Contains, filter_map, flat_map}
use Rattle.std.specs.List.{cons_option}
use Rattle.std.proofs.lemmas.List.{append-nil, map-append}
use Rattle.std.proofs.lemmas.List.Concat.{flat_map-append}
use Rattle.std.proofs.lemmas.List.Elements.{Contains-append_cases, Contains-append_left, Contains-append_right}
use Rattle.eq_model.specs.Nets.{Net}
use Rattle.eq_net.specs.declared.types.NetInfo.{NetInfo}
use Rattle.eq_net.specs.Meaning.{if_there}
use Rattle.eq_net.specs.Tree.{Tree}
use Rattle.eq_verilog.specs.Trees.{ModuleTree, ItemTree, declared, assign, primitive, instance, always, initial}
use Rattle.eq_verilog.specs.Hierarchy.{Instance, instance_in, instances, module_named, Path, inner_prefix, paths_from}
use Rattle.eq_verilog.specs.Nets.{scope_at}
use Rattle.eq_verilog.specs.Equations.{Equation, connection_equation, connections_of, equations_of, item_equations, path_equations}
use Rattle.eq_flatten.specs.declared.driving.Slot.{Slot}
use Rattle.eq_flatten.specs.declared.driving.Slot.TheVariants.{Free, Once, Twice}
use Rattle.eq_flatten.specs.Driving.{slot_at}
use Rattle.eq_flatten.specs.Equating.{drivers_of, drives, AreDriven, SlotSays}
use Rattle.eq_flatten.specs.Items.{gate_equations, own_equations}
use Rattle.eq_flatten.specs.Paths.{Link, end_of, links_at, links_from}
use Rattle.eq_flatten.specs.Summing.{link_at, own_at, ComesToEnd}
use Rattle.eq_flatten.proofs.Equated.{count_append}
use Rattle.eq_flatten.proofs.PathLemmas.{on_top}

-- each bit has as many of both, and each of the second is one of the first
pub record HasAll (es fs : List Equation) : Type 0 where
  pub count : (b : ℕ) → drivers_of es b ≡ drivers_of fs b
  pub has : (e : Equation) → Contains fs e → Contains es e

itself : (es : List Equation) → HasAll es es
itself es = record { count = λ b. refl; has = λ e h. h }

after : (es fs gs : List Equation) → HasAll es fs → HasAll fs gs → HasAll es gs
after es fs gs p q = record { count = λ b. p.count b ∙ q.count b; has = λ e h. p.has e (q.has e h) }

equal : (es fs : List Equation) → es ≡ fs → HasAll es fs
equal es fs is = subst (λ (gs : List Equation). HasAll es gs) is (itself es)

count_join : (es fs : List Equation) (b : ℕ) → drivers_of (es ++ fs) b ≡ drivers_of es b + drivers_of fs b
count_join es fs b = count_append (drives b) es fs

both : (a b c d : List Equation) → HasAll a c → HasAll b d → HasAll (a ++ b) (c ++ d)
both a b c d p q = record {
  count = λ n.
      (let x = count_join a b n in
      let y = count_join c d n in
      let u = p.count n in
      let v = q.count n in
      omega (arith, x, y, u, v));
  has = λ e h. elim (Contains-append_cases c d e h) [
    | inl l ↦ Contains-append_left a b e (p.has e l)
    | inr r ↦ Contains-append_right a b e (q.has e r)
  ];
}

-- two pairs of lists, taken the other way round
crossed : (a b c d : List Equation) → HasAll ((a ++ b) ++ (c ++ d)) ((a ++ c) ++ (b ++ d))
crossed a b c d = record {
  count = λ n.
      (let x = count_join (a ++ b) (c ++ d) n in
      let y = count_join a b n in
      let z = count_join c d n in
      let u = count_join (a ++ c) (b ++ d) n in
      let v = count_join a c n in
      let w = count_join b d n in
      omega (arith, x, y, z, u, v, w));
  has = λ e h. elim (Contains-append_cases (a ++ c) (b ++ d) e h) [
    | inl l ↦ elim (Contains-append_cases a c e l) [
      | inl k ↦ Contains-append_left (a ++ b) (c ++ d) e (Contains-append_left a b e k)
      | inr k ↦ Contains-append_right (a ++ b) (c ++ d) e (Contains-append_left c d e k)
    ]
    | inr r ↦ elim (Contains-append_cases b d e r) [
      | inl k ↦ Contains-append_left (a ++ b) (c ++ d) e (Contains-append_right a b e k)
      | inr k ↦ Contains-append_right (a ++ b) (c ++ d) e (Contains-append_right c d e k)
    ]
  ];
}

-- what slots say of the second they say of the first
slot_says : (nets : List NetInfo) (words : List Tree) (es fs : List Equation) (b : ℕ) (s : Slot) → HasAll es fs →
    SlotSays nets words fs b s → SlotSays nets words es b s
slot_says nets words es fs b Free h says = h.count b ∙ says
slot_says nets words es fs b (Once w) h says = (h.count b ∙ says.0, (says.1.0, h.has says.1.0 says.1.1, says.1.2))
slot_says nets words es fs b Twice h says = subst (λ (n : ℕ). 1 < n) (sym (h.count b)) says

pub driven_so : (nets : List NetInfo) (words : List Tree) (es fs : List Equation) (slots : List Slot) → HasAll es fs →
    AreDriven nets words fs slots → AreDriven nets words es slots
driven_so nets words es fs slots h are b less = slot_says nets words es fs b (slot_at slots b) h (are b less)

module _ (all : List ModuleTree) (nets : List Net) where
  -- the connections of an instance in a path
  abbrev inner_of : Path → Instance → List Equation
  inner_of q i =
      if_there [] (λ m. flat_map (connection_equation all nets q i.name m) (connections_of m i.connections))
      (module_named all i.module_name)

  abbrev inners_of : Path → List Equation
  inners_of q = flat_map (inner_of q) (instances q.of)

  -- ---- items

  item_parts : (q : Path) (i : ItemTree) → HasAll (item_equations all nets q i)
      (own_equations (scope_at nets q) i ++ if_there [] (inner_of q) (instance_in i))
  item_parts q (declared k r n) = itself []
  item_parts q (assign t e) = itself (item_equations all nets q (assign t e))
  item_parts q (primitive k n terms) =
      equal (gate_equations (scope_at nets q) k terms) (gate_equations (scope_at nets q) k terms ++ [])
      (sym (append-nil (gate_equations (scope_at nets q) k terms)))
  item_parts q (instance m n conns) = itself (item_equations all nets q (instance m n conns))
  item_parts q (always event body) = itself []
  item_parts q (initial t c) = itself []

  one_item : (q : Path) (o : Option Instance) (is : List Instance) →
      flat_map (inner_of q) (cons_option o is) ≡ if_there [] (inner_of q) o ++ flat_map (inner_of q) is
  one_item q None is = refl
  one_item q (Some i) is = refl

  items_parts : (q : Path) (is : List ItemTree) → HasAll (flat_map (item_equations all nets q) is)
      (flat_map (own_equations (scope_at nets q)) is ++ flat_map (inner_of q) (filter_map instance_in is))
  items_parts q [] = itself []
  items_parts q (i ∷ is) =
      let owns = flat_map (own_equations (scope_at nets q)) is in
      let own = own_equations (scope_at nets q) i in
      let inner = if_there [] (inner_of q) (instance_in i) in
      let inners = flat_map (inner_of q) (filter_map instance_in is) in
      let start = flat_map (item_equations all nets q) (i ∷ is) in
      let mid = (own ++ inner) ++ (owns ++ inners) in
      subst (λ (es : List Equation). HasAll start ((own ++ owns) ++ es))
      (sym (one_item q (instance_in i) (filter_map instance_in is)))
      (after start mid ((own ++ owns) ++ (inner ++ inners))
      (both (item_equations all nets q i) (flat_map (item_equations all nets q) is) (own ++ inner) (owns ++ inners)
      (item_parts q i) (items_parts q is))
      (crossed own inner owns inners))

  -- ---- paths

  paths_parts : (qs : List Path) →
      HasAll (equations_of all nets qs) (flat_map (own_at nets) qs ++ flat_map inners_of qs)
  paths_parts [] = itself []
  paths_parts (q ∷ qs) =
      let owns = flat_map (own_at nets) qs in
      let inners = flat_map inners_of qs in
      after (equations_of all nets (q ∷ qs)) ((own_at nets q ++ inners_of q) ++ (owns ++ inners))
      ((own_at nets q ++ owns) ++ (inners_of q ++ inners))
      (both (path_equations all nets q) (equations_of all nets qs) (own_at nets q ++ inners_of q) (owns ++ inners)
      (items_parts q q.of.items) (paths_parts qs))
      (crossed (own_at nets q) (inners_of q) owns inners)

  -- ---- links

  ends_joined : (xs ys : List Link) → flat_map inners_of (map end_of (xs ++ ys))
      ≡ flat_map inners_of (map end_of xs) ++ flat_map inners_of (map end_of ys)
  ends_joined xs ys =
      ap (λ (qs : List Path). flat_map inners_of qs) (map-append end_of xs ys)
      ∙ flat_map-append inners_of (map end_of xs) (map end_of ys)

  abbrev Below : ℕ → Path → Type 0
  Below k p = HasAll (inners_of p ++ flat_map inners_of (map end_of (links_from all k p)))
      (flat_map (link_at all nets) (links_from all k p))

  abbrev linked : ℕ → Path → Instance → Option ModuleTree → List Link
  linked k p i o = if_there [] (λ m. let l : Link = record { within = p; written = i; of = m } in
      l ∷ links_from all k (end_of l)) o

  one_link : (k : ℕ) (p : Path) (i : Instance) (o : Option ModuleTree) →
      ((m : ModuleTree) → o ≡ Some m → Below k (record { prefix = inner_prefix p.prefix i.name; of = m })) →
      HasAll (if_there [] (λ m. flat_map (connection_equation all nets p i.name m) (connections_of m i.connections)) o
      ++ flat_map inners_of (map end_of (linked k p i o)))
      (flat_map (link_at all nets) (linked k p i o))
  one_link k p i None below = itself []
  one_link k p i (Some m) below =
      let l : Link = record { within = p; written = i; of = m } in
      both (link_at all nets l) (inners_of (end_of l) ++ flat_map inners_of (map end_of (links_from all k (end_of l))))
      (link_at all nets l) (flat_map (link_at all nets) (links_from all k (end_of l)))
      (itself (link_at all nets l)) (below m refl)

  some_links : (k : ℕ) (p : Path) (is : List Instance) →
      ((i : Instance) (m : ModuleTree) → Contains is i → module_named all i.module_name ≡ Some m →
      Below k (record { prefix = inner_prefix p.prefix i.name; of = m })) →
      HasAll (flat_map (inner_of p) is ++ flat_map inners_of (map end_of (flat_map (links_at all k p) is)))
      (flat_map (link_at all nets) (flat_map (links_at all k p) is))
  some_links k p [] below = itself []
  some_links k p (i ∷ is) below =
      let here = links_at all k p i in
      let rest = flat_map (links_at all k p) is in
      let inner = inner_of p i in
      let inners = flat_map (inner_of p) is in
      let a = flat_map inners_of (map end_of here) in
      let b = flat_map inners_of (map end_of rest) in
      let goal = flat_map (link_at all nets) here ++ flat_map (link_at all nets) rest in
      subst (λ (es : List Equation). HasAll ((inner ++ inners) ++ es) (flat_map (link_at all nets) (here ++ rest)))
      (sym (ends_joined here rest))
      (subst (λ (es : List Equation). HasAll ((inner ++ inners) ++ (a ++ b)) es)
      (sym (flat_map-append (link_at all nets) here rest))
      (after ((inner ++ inners) ++ (a ++ b)) ((inner ++ a) ++ (inners ++ b)) goal
      (crossed inner inners a b)
      (both (inner ++ a) (inners ++ b) (flat_map (link_at all nets) here) (flat_map (link_at all nets) rest)
      (one_link k p i (module_named all i.module_name) (λ m is_m. below i m (0, omega arith, refl) is_m))
      (some_links k p is (λ j m has is_m. below j m (Contains-append_right (i ∷ []) is j has) is_m)))))

  no_inner : (p : Path) (i : Instance) (o : Option ModuleTree) → o ≡ None →
      if_there [] (λ m. flat_map (connection_equation all nets p i.name m) (connections_of m i.connections)) o ≡ []
  no_inner p i o is = subst (λ (x : Option ModuleTree). if_there [] (λ m.
      flat_map (connection_equation all nets p i.name m) (connections_of m i.connections)) x ≡ []) (sym is) refl

  no_inners : (p : Path) (is : List Instance) →
      ((i : Instance) → Contains is i → module_named all i.module_name ≡ None) → flat_map (inner_of p) is ≡ []
  no_inners p [] none = refl
  no_inners p (i ∷ is) none =
      ap (λ (es : List Equation). es ++ flat_map (inner_of p) is)
      (no_inner p i (module_named all i.module_name) (none i (0, omega arith, refl)))
      ∙ no_inners p is (λ j has. none j (Contains-append_right (i ∷ []) is j has))

  below : (k : ℕ) (p : Path) → ComesToEnd all k p → Below k p
  below zero p ends = equal (inners_of p ++ []) []
      (append-nil (inners_of p) ∙ no_inners p (instances p.of) ends)
  below (suc k) p ends =
      some_links k p (instances p.of) (λ i m has is. below k (record { prefix = inner_prefix p.prefix i.name; of = m })
      (ends i m has is))

  -- the equations of all paths from one are what their items drive, and those of the links in it
  pub equations_parts : (k : ℕ) (p : Path) → ComesToEnd all k p →
      HasAll (equations_of all nets (paths_from all (suc k) p.prefix p.of))
      (flat_map (own_at nets) (paths_from all (suc k) p.prefix p.of)
      ++ flat_map (link_at all nets) (links_from all k p))
  equations_parts k p ends =
      let qs = paths_from all (suc k) p.prefix p.of in
      let owns = flat_map (own_at nets) qs in
      after (equations_of all nets qs) (owns ++ flat_map inners_of qs)
      (owns ++ flat_map (link_at all nets) (links_from all k p))
      (paths_parts qs)
      (both owns (flat_map inners_of qs) owns (flat_map (link_at all nets) (links_from all k p)) (itself owns)
      (subst (λ (ps : List Path). HasAll (flat_map inners_of ps) (flat_map (link_at all nets) (links_from all k p)))
      (sym (on_top all k p)) (below k p ends)))

-- All that a visit comes to from the instances of a module with numbers above its own has such numbers, so the module itself
-- isn't among it.
use Rattle.std.proofs.Common.{◌≡◌, ℕ, zero, suc, ◌+◌, ◌<◌, ◌≤◌, List, [], ◌∷◌, ◌++◌, Bool, true, false, cond, ◌&&◌, ◌||◌, not, nat_le, Option, Some, None, length, refl, sym, ap, subst, ◌∙◌, arith, inl, inr}
use Rattle.std.specs.Prelude.{fold, filter_map, option_map, slice_get, slice_index}
use Rattle.std.specs.List.{list_all, cons_option}
use Rattle.std.specs.Str.{bytes_eq}
use Rattle.std.proofs.lemmas.Bool.{cases_Bool, leb-true, le-leb}
use Rattle.std.proofs.lemmas.List.Folds.{list_all-append}
use Rattle.eq_names.specs.Tables.{number_of}
use Rattle.eq_net.specs.Meaning.{if_there}
use Rattle.eq_reads.specs.declared.graph.Edge.{Edge}
use Rattle.eq_reads.specs.Graph.{Joins, from_at}
use Rattle.eq_loops.specs.Components.{NeverFall}
use Rattle.eq_verilog.specs.Trees.{Name, ItemTree, ModuleTree}
use Rattle.eq_verilog.specs.Declarations.{has}
use Rattle.eq_verilog.specs.Hierarchy.{Instance, instance_in, instances, module_names, module_named, visit, reached_below}
use Rattle.eq_verilog.specs.Firsts.{unless}
use Rattle.eq_verilog.specs.ModuleRefusals.{recursive}
use Rattle.eq_analysis.specs.inner.Climbing.{item_climbs, module_of, name_climbs, HasEdges, IsApart, NumbersClimb}
use Rattle.eq_analysis.proofs.BesideLemmas.{one_name}
use Rattle.eq_analysis.proofs.VisitLemmas.{named_is}

both : (a b : Bool) → (a && b) ≡ true → (a ≡ true) × (b ≡ true)
both true b h = (refl, h)
both false b h = absurd (cc)

join : (a b : Bool) → a ≡ true → b ≡ true → (a && b) ≡ true
join true b h k = k
join false b h k = absurd (cc)

all_at : {A : Type 0} (p : A → Bool) (xs : List A) → ((j : ℕ) (x : A) → slice_get xs j ≡ Some x → p x ≡ true) →
    list_all p xs ≡ true
all_at p [] h = refl
all_at p (x ∷ xs) h = join (p x) (list_all p xs) (h 0 x refl) (all_at p xs (λ j y e. h (suc j) y e))

-- ---- edges along which numbers don't fall

module _ (numbers : List ℕ) (edges : List Edge) (rise : NeverFall edges numbers) where
  along : (a c : ℕ) → Joins edges a c → slice_index numbers a ≤ slice_index numbers c
  along a c j =
      subst (λ (u : ℕ). slice_index numbers u ≤ slice_index numbers c) j.starts
      (subst (λ (u : ℕ). slice_index numbers (from_at edges j.edge) ≤ slice_index numbers u) j.ends (rise j.edge j.there))

  module _ (names : List Name) where
    place_climbs : (k : ℕ) (o : Option ℕ) → ((c : ℕ) → o ≡ Some c → Joins edges k c) →
        if_there true (λ c. nat_le (slice_index numbers k) (slice_index numbers c)) o ≡ true
    place_climbs k None h = refl
    place_climbs k (Some c) h = le-leb (slice_index numbers k) (slice_index numbers c) (along k c (h c refl))

    name_joined : (k : ℕ) (o : Option Name) → ((n : Name) (c : ℕ) → o ≡ Some n → number_of names n ≡ Some c → Joins edges k c)
        → if_there true (name_climbs numbers names (slice_index numbers k)) o ≡ true
    name_joined k None h = refl
    name_joined k (Some n) h = place_climbs k (number_of names n) (λ c e. h n c refl e)

    pub numbers_climb : (all : List ModuleTree) → HasEdges edges names all → NumbersClimb numbers names all
    numbers_climb all has_edges k m there =
        all_at (item_climbs numbers names (slice_index numbers k)) m.items
        (λ j i at. name_joined k (module_of i) (has_edges k m there j i at))

-- ---- visits

module _ (numbers : List ℕ) (names : List Name) where
  place_lower : (least more : ℕ) (o : Option ℕ) → least ≤ more →
      if_there true (λ c. nat_le more (slice_index numbers c)) o ≡ true →
      if_there true (λ c. nat_le least (slice_index numbers c)) o ≡ true
  place_lower least more None le h = refl
  place_lower least more (Some c) le h =
      let above = leb-true more (slice_index numbers c) h in
      le-leb least (slice_index numbers c) (omega (arith, le, above))

  abbrev Climb : ℕ → List Instance → Type 0
  Climb least is = list_all (λ (x : Instance). name_climbs numbers names least x.module_name) is ≡ true

  one_item : (least : ℕ) (o : Option Instance) (is : List Instance) →
      if_there true (name_climbs numbers names least) (option_map (λ (x : Instance). x.module_name) o) ≡ true →
      Climb least is → Climb least (cons_option o is)
  one_item least None is h k = k
  one_item least (Some x) is h k =
      join (name_climbs numbers names least x.module_name)
      (list_all (λ (y : Instance). name_climbs numbers names least y.module_name) is) h k

  -- instances one by one, as items
  by_items : (least : ℕ) (items : List ItemTree) → list_all (item_climbs numbers names least) items ≡ true →
      Climb least (filter_map instance_in items)
  by_items least [] h = refl
  by_items least (i ∷ is) h =
      let parts = both (item_climbs numbers names least i) (list_all (item_climbs numbers names least) is) h in
      one_item least (instance_in i) (filter_map instance_in is) parts.0 (by_items least is parts.1)

  all_lower : (least more : ℕ) (is : List Instance) → least ≤ more → Climb more is → Climb least is
  all_lower least more [] le h = refl
  all_lower least more (i ∷ is) le h =
      let parts = both (name_climbs numbers names more i.module_name)
      (list_all (λ (x : Instance). name_climbs numbers names more x.module_name) is) h in
      join (name_climbs numbers names least i.module_name)
      (list_all (λ (x : Instance). name_climbs numbers names least x.module_name) is)
      (place_lower least more (number_of names i.module_name) le parts.0) (all_lower least more is le parts.1)

  placed : (o : Option ℕ) (least k : ℕ) → if_there true (λ c. nat_le least (slice_index numbers c)) o ≡ true → o ≡ Some k →
      least ≤ slice_index numbers k
  placed None least k h e = absurd (cc)
  placed (Some c) least k h e =
      let same : c ≡ k = ap (λ (x : Option ℕ). if_there 0 (λ y. y) x) e in
      subst (λ (j : ℕ). least ≤ slice_index numbers j) same (leb-true least (slice_index numbers c) h)

  module _ (all : List ModuleTree) (climb : NumbersClimb numbers names all)
      (there : (n : Name) (k : ℕ) → number_of names n ≡ Some k → module_named all n ≡ slice_get all k)
      (nowhere : (n : Name) → number_of names n ≡ None → module_named all n ≡ None) (least : ℕ) where
    abbrev AreAbove : List ModuleTree → Type 0
    AreAbove xs = list_all (λ (x : ModuleTree). name_climbs numbers names least x.name) xs ≡ true

    more_above : (seen : List ModuleTree) (m : ModuleTree) → AreAbove seen →
        name_climbs numbers names least m.name ≡ true → AreAbove (seen ++ m ∷ [])
    more_above seen m h k =
        list_all-append (λ (x : ModuleTree). name_climbs numbers names least x.name) seen (m ∷ [])
        ∙ join (list_all (λ (x : ModuleTree). name_climbs numbers names least x.name) seen)
        (name_climbs numbers names least m.name && true) h (join (name_climbs numbers names least m.name) true k refl)

    all_above : (k : ℕ) →
        ((seen : List ModuleTree) (n : Name) → AreAbove seen → name_climbs numbers names least n ≡ true →
        AreAbove (visit all k seen n)) →
        (is : List Instance) (seen : List ModuleTree) → AreAbove seen → Climb least is →
        AreAbove (fold (λ more (i : Instance). visit all k more i.module_name) seen is)
    all_above k f [] seen h is_so = h
    all_above k f (i ∷ is) seen h is_so =
        let parts = both (name_climbs numbers names least i.module_name)
        (list_all (λ (x : Instance). name_climbs numbers names least x.module_name) is) is_so in
        all_above k f is (visit all k seen i.module_name) (f seen i.module_name h parts.0) parts.1

    either_above : (b : Bool) (xs ys : List ModuleTree) → AreAbove xs → AreAbove ys → AreAbove (cond b xs ys)
    either_above true xs ys h k = h
    either_above false xs ys h k = k

    maybe_above : (seen : List ModuleTree) (f : ModuleTree → List ModuleTree) (o : Option ModuleTree) →
        AreAbove seen → ((m : ModuleTree) → o ≡ Some m → AreAbove (f m)) → AreAbove (if_there seen f o)
    maybe_above seen f None h k = h
    maybe_above seen f (Some m) h k = k m refl

    none_is : (m : ModuleTree) (o : Option ModuleTree) → o ≡ None → o ≡ Some m → ⊥
    none_is m None e h = absurd (cc)
    none_is m (Some x) e h = absurd (cc)

    -- what is found by a name with a number that is large enough has only such instances
    below_at : (n : Name) (m : ModuleTree) (o : Option ℕ) → number_of names n ≡ o →
        if_there true (λ c. nat_le least (slice_index numbers c)) o ≡ true → module_named all n ≡ Some m →
        Climb least (instances m)
    below_at n m None e h found = absurd (none_is m (module_named all n) (nowhere n e) found)
    below_at n m (Some k) e h found =
        all_lower least (slice_index numbers k) (instances m) (leb-true least (slice_index numbers k) h)
        (by_items (slice_index numbers k) m.items (climb k m (sym (there n k e) ∙ found)))

    visit_above : (k : ℕ) (seen : List ModuleTree) (n : Name) → AreAbove seen →
        name_climbs numbers names least n ≡ true → AreAbove (visit all k seen n)
    visit_above zero seen n h is = h
    visit_above (suc k) seen n h is =
        either_above (has (module_names seen) n) seen
        (if_there seen (λ m. fold (λ more (i : Instance). visit all k more i.module_name) (seen ++ m ∷ [])
        (instances m)) (module_named all n)) h
        (maybe_above seen
        (λ m. fold (λ more (i : Instance). visit all k more i.module_name) (seen ++ m ∷ []) (instances m))
        (module_named all n) h
        (λ m found. all_above k (visit_above k) (instances m) (seen ++ m ∷ [])
        (more_above seen m h
        (subst (λ (j : Name). name_climbs numbers names least j ≡ true) (sym (named_is all n m found)) is))
        (below_at n m (number_of names n) refl is found)))

    not_among : (k : ℕ) (xs : List ModuleTree) (n : Name) → number_of names n ≡ Some k → slice_index numbers k < least →
        AreAbove xs → has (module_names xs) n ≡ false
    not_among k [] n at less h = refl
    not_among k (x ∷ xs) n at less h =
        let parts = both (name_climbs numbers names least x.name)
        (list_all (λ (y : ModuleTree). name_climbs numbers names least y.name) xs) h in
        elim (cases_Bool (bytes_eq n x.name)) [
          | inl here ↦
              (let most = placed (number_of names x.name) least k parts.0
              (ap (λ (j : Name). number_of names j) (sym (one_name n x.name here)) ∙ at) in
              absurd (omega (arith, most, less)))
          | inr other ↦
              ap (λ (b : Bool). b || has (module_names xs) n) other ∙ not_among k xs n at less parts.1
        ]

-- a module that stands apart doesn't lead back to itself
pub not_recursive : (all : List ModuleTree) (names : List Name) (numbers : List ℕ) (m : ModuleTree)
    → names ≡ module_names all
    → ((ms : List ModuleTree) (n : Name) (k : ℕ) → number_of (module_names ms) n ≡ Some k → module_named ms n ≡ slice_get ms k)
    → ((ms : List ModuleTree) (n : Name) → number_of (module_names ms) n ≡ None → module_named ms n ≡ None)
    → NumbersClimb numbers names all → IsApart numbers names m → recursive all m ≡ None
not_recursive all names numbers m same there nowhere climb apart =
    let least = slice_index numbers apart.place + 1 in
    let found : (n : Name) (k : ℕ) → number_of names n ≡ Some k → module_named all n ≡ slice_get all k =
    λ n k e. there all n k (ap (λ (ns : List Name). number_of ns n) (sym same) ∙ e) in
    let missing : (n : Name) → number_of names n ≡ None → module_named all n ≡ None =
    λ n e. nowhere all n (ap (λ (ns : List Name). number_of ns n) (sym same) ∙ e) in
    let below = all_above numbers names all climb found missing least (length all)
    (visit_above numbers names all climb found missing least (length all)) (instances m) [] refl
    (by_items numbers names least m.items apart.greater) in
    ap (λ (b : Bool). unless (not b) m.name)
    (not_among numbers names all climb found missing least apart.place (reached_below all m) m.name apart.there
    (omega arith) below)

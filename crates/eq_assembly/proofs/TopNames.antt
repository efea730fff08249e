-- The table of the top's names: the module of the first path is the top, and its ports have numbers.
use Rattle.std.proofs.Common.{◌≡◌, ℕ, ◌+◌, ◌<◌, true, List, [], ◌∷◌, ◌++◌, length, map, take, slice_get, slice_index_or, All, Option, Some, None, bytes_eq, arith, sym, ap, subst, ◌∙◌}
use Rattle.std.proofs.lemmas.List.{map-append, take_more}
use Rattle.std.proofs.lemmas.List.Quantifiers.{position-Some}
use Rattle.std.proofs.lemmas.Option.{slice_get-get_or}
use Rattle.std.proofs.lemmas.Slice.Eq.{bytes_eq-Decides}
use Rattle.eq_names.specs.Tables.{number_of}
use Rattle.eq_net.specs.Meaning.{if_there}
use Rattle.eq_verilog.specs.Trees.{Name, ModuleTree, module_tree}
use Rattle.eq_verilog.specs.Declarations.{has, nets_in}
use Rattle.eq_verilog.specs.Hierarchy.{module_named, Path}
use Rattle.eq_flatten.specs.declared.paths.Path.{Path as PathValue}
use Rattle.eq_flatten.specs.Owning.{names_in}
use Rattle.eq_flatten.specs.Paths.{path_of, IsPath}
use Rattle.eq_flatten.proofs.FlatLemmas.{get_mapped}
use Rattle.eq_flatten.proofs.Scoped.{in_ports}
use Rattle.eq_layout.specs.declared.layout.Layout.{Layout}
use Rattle.eq_layout.specs.Layout.{trees_of, IsLaidOut}
use Rattle.eq_assembly.specs.inner.Numbers.{AreNumbers}
use Rattle.eq_assembly.proofs.NamesApart.{has_at}
use Rattle.eq_assembly.proofs.NetReady.{the_module}

-- ---- numbers of names

-- the name of a number that was found
pub found_there : (names : List Name) (n : Name) (k : ℕ) → number_of names n ≡ Some k → slice_get names k ≡ Some n
found_there names n k h =
    let at = position-Some (λ (m : Name). bytes_eq n m) names k [] h in
    slice_get-get_or names k [] at.0
    ∙ ap (λ (m : Name). Some m) (sym ((bytes_eq-Decides n (slice_index_or names k [])).0 at.1))

-- one number more
pub more_numbers : (names : List Name) (ks more : List ℕ) (ns : List Name) (i k : ℕ) (n : Name) →
    AreNumbers names ks (take i ns) → i < length ns → n ≡ slice_index_or ns i n → slice_get names k ≡ Some n →
    more ≡ ks ++ k ∷ [] → AreNumbers names more (take (i + 1) ns)
more_numbers names ks more ns i k n h lt is found grown =
    let f = λ (p : ℕ). slice_get names p in
    let g = λ (m : Name). Some m in
    let taken : take (i + 1) ns ≡ take i ns ++ n ∷ [] =
    take_more ns i n lt ∙ ap (λ (m : Name). take i ns ++ m ∷ []) (sym is) in
    record {
      are = ap (λ (ps : List ℕ). map f ps) grown ∙ map-append f ks (k ∷ [])
          ∙ ap (λ (os : List (Option Name)). os ++ slice_get names k ∷ []) h.are
          ∙ ap (λ (o : Option Name). map g (take i ns) ++ o ∷ []) found
          ∙ sym (map-append g (take i ns) (n ∷ []))
          ∙ sym (ap (λ (ms : List Name). map g ms) taken);
    }

-- the ports of a module are among its names
pub ports_there : (m : ModuleTree) → All (λ (n : Name). has (nets_in m) n ≡ true) m.ports
ports_there m k d lt = in_ports m (slice_index_or m.ports k d) (has_at m.ports k d lt)

-- ---- the first path

head_is : (xs : List PathValue) (x : PathValue) (p : Path) (ps : List Path) → Some x ≡ slice_get xs 0 →
    map path_of xs ≡ p ∷ ps → path_of x ≡ p
head_is [] x p ps h e = absurd (cc)
head_is (y ∷ ys) x p ps h e =
    ap (λ (o : Option PathValue). if_there p (λ (z : PathValue). path_of z) o) h
    ∙ ap (λ (qs : List Path). slice_index_or qs 0 p) e

no_head : (xs : List PathValue) (p : Path) (ps : List Path) → None ≡ slice_get xs 0 → map path_of xs ≡ p ∷ ps → ⊥
no_head [] p ps h e = absurd (cc)
no_head (y ∷ ys) p ps h e = absurd (cc)

get_first : {A : Type 0} (xs : List A) (x : A) → Some x ≡ slice_get xs 0 → (0 < length xs) × (slice_index_or xs 0 x ≡ x)
get_first [] x h = absurd (cc)
get_first (y ∷ ys) x h = (omega arith, ap (λ o. if_there x (λ z. z) o) (sym h))

same_list : (a b : List Name) → Some a ≡ Some b → a ≡ b
same_list a b e = ap (λ (o : Option (List Name)). if_there a (λ (x : List Name). x) o) e

same_module : (a b : ModuleTree) → Some a ≡ Some b → a ≡ b
same_module a b e = ap (λ (o : Option ModuleTree). if_there a (λ (x : ModuleTree). x) o) e

module _ (l : Layout) (top : Name) (laid : IsLaidOut top l) where
  abbrev all : List ModuleTree
  all = trees_of l

  pub some_path : None ≡ slice_get l.found.paths.items 0 → ⊥
  some_path h =
      let one = the_module (module_named all top) laid.there in
      no_head l.found.paths.items _ _ h (laid.paths one.0 one.1).ends

  module _ (x : PathValue) (first : Some x ≡ slice_get l.found.paths.items 0) where
    -- is the top's
    pub top_is : module_named all top ≡ Some (module_tree x.of.module.now)
    top_is =
        let one = the_module (module_named all top) laid.there in
        one.1
        ∙ ap (λ (p : Path). Some p.of) (sym (head_is l.found.paths.items x _ _ first (laid.paths one.0 one.1).ends))

    placed : slice_get all x.of.place ≡ Some (module_tree x.of.module.now)
    placed =
        let one = the_module (module_named all top) laid.there in
        let at = get_first l.found.paths.items x first in
        (subst (λ (z : PathValue). IsPath all z) at.1 ((laid.paths one.0 one.1).placed 0 x at.0)).0

    owned_at : slice_get (map names_in l.owned.items) x.of.place ≡ Some (nets_in (module_tree x.of.module.now))
    owned_at =
        ap (λ (ns : List (List Name)). slice_get ns x.of.place) laid.names
        ∙ get_mapped nets_in all x.of.place (module_tree x.of.module.now) placed

    pub some_owned : None ≡ slice_get (map names_in l.owned.items) x.of.place → ⊥
    some_owned h = (let e = h ∙ owned_at in absurd (cc))

    -- the names of its table are those of its nets
    pub owned_names : (ns : List Name) → Some ns ≡ slice_get (map names_in l.owned.items) x.of.place →
        (m : ModuleTree) → module_named all top ≡ Some m → ns ≡ nets_in m
    owned_names ns h m is =
        same_list ns (nets_in (module_tree x.of.module.now)) (h ∙ owned_at)
        ∙ ap (λ (k : ModuleTree). nets_in k) (same_module (module_tree x.of.module.now) m (sym top_is ∙ is))

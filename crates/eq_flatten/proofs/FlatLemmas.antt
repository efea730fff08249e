-- The nets of an instance: their full names are names, and they are its module's behind its prefix.
use Rattle.std.proofs.Common.{◌≡◌, ℕ, zero, suc, ◌+◌, ◌<◌, List, [], ◌∷◌, ◌++◌, map, length, take, slice_get, slice_index_or, Option, Some, None, refl, arith, sym, ap, subst, ◌∙◌}
use Rattle.std.specs.Prelude.{All, option_map}
use Rattle.std.proofs.lemmas.List.{append-nil, length-map}
use Rattle.std.proofs.lemmas.List.Concat.{flat_map-append}
use Rattle.std.proofs.lemmas.List.Elements.{All-append}
use Rattle.eq_model.specs.Nets.{Net}
use Rattle.eq_names.specs.Name.{IsName, IsNameByte}
use Rattle.eq_net.specs.declared.types.NetInfo.{NetInfo}
use Rattle.eq_net.specs.Meaning.{if_there}
use Rattle.eq_net.specs.Nets.{net_of}
use Rattle.eq_verilog.specs.Trees.{Name, ModuleTree}
use Rattle.eq_verilog.specs.Nets.{alone, net_at, nets_at, nets_of}
use Rattle.eq_flatten.specs.declared.owning.Owned.{Owned}
use Rattle.eq_flatten.specs.declared.paths.Path.{Path}
use Rattle.eq_flatten.specs.Flat.{first_of, within, IsFlat}
use Rattle.eq_flatten.specs.Forms.{numbered}
use Rattle.eq_flatten.specs.Owning.{nets_in}
use Rattle.eq_flatten.specs.Paths.{path_of}

-- a prefix and a name have bytes that names may have
pub full_bytes : (prefix own text : List ℕ) → text ≡ prefix ++ own → All IsNameByte prefix → IsName own →
    All IsNameByte text
full_bytes prefix own text is front name =
    subst (λ (t : List ℕ). All IsNameByte t) (sym is) (All-append IsNameByte prefix own front name.bytes)

one_within : (prefix : Name) (m : ModuleTree) (n : Name) →
    within prefix (net_at (alone m) n) ≡ net_at (record { prefix = prefix; of = m }) n
one_within prefix m n = refl

-- the nets of a path are those of its module, behind its prefix
pub nets_within : (prefix : Name) (m : ModuleTree) (ns : List Name) →
    map (within prefix) (map (net_at (alone m)) ns) ≡ map (net_at (record { prefix = prefix; of = m })) ns
nets_within prefix m [] = refl
nets_within prefix m (n ∷ ns) =
    ap (λ (x : Net). x ∷ map (within prefix) (map (net_at (alone m)) ns)) (one_within prefix m n)
    ∙ ap (λ (xs : List Net). net_at (record { prefix = prefix; of = m }) n ∷ xs) (nets_within prefix m ns)

some_list : (a b : List Net) → Some a ≡ Some b → a ≡ b
some_list a b e = ap (λ (o : Option (List Net)). if_there [] (λ (x : List Net). x) o) e

pub get_mapped : {A B : Type 0} (f : A → B) (xs : List A) (k : ℕ) (x : A) → slice_get xs k ≡ Some x →
    slice_get (map f xs) k ≡ Some (f x)
get_mapped f [] k x h = absurd (cc)
get_mapped {A = A} f (y ∷ ys) zero x h = ap (λ (o : Option A). option_map f o) h
get_mapped f (y ∷ ys) (suc k) x h = get_mapped f ys k x h

-- the nets of a module's instances are found by its number
module _ (all : List ModuleTree) (owned : List Owned) (place : ℕ) (m : ModuleTree)
    (same : map nets_in owned ≡ map (λ (x : ModuleTree). nets_at (alone x)) all) (there : slice_get all place ≡ Some m)
  where
    found : slice_get (map nets_in owned) place ≡ Some (nets_at (alone m))
    found =
        ap (λ (xs : List (List Net)). slice_get xs place) same
        ∙ get_mapped (λ (x : ModuleTree). nets_at (alone x)) all place m there

    pub owned_is : (nets : List Net) → Some nets ≡ slice_get (map nets_in owned) place → nets ≡ nets_at (alone m)
    owned_is nets is = some_list nets (nets_at (alone m)) (is ∙ found)

    pub never_none : None ≡ slice_get (map nets_in owned) place → ⊥
    never_none is = (let e = is ∙ found in absurd (cc))

taken_path : (paths : List Path) (k : ℕ) (p : Path) → k < length paths → p ≡ slice_index_or paths k p →
    take (suc k) (map path_of paths) ≡ take k (map path_of paths) ++ path_of p ∷ []
taken_path [] k p inside is = absurd (omega (arith, inside))
taken_path (x ∷ xs) zero p inside is = ap (λ y. path_of y ∷ []) (sym is)
taken_path (x ∷ xs) (suc k) p inside is = ap (λ ts. path_of x ∷ ts) (taken_path xs k p (omega (arith, inside)) is)

-- one path more
pub flat_more : (paths : List Path) (k : ℕ) (p : Path) (old new : List NetInfo) (firsts more : List ℕ) (first : ℕ)
    → k < length paths → p ≡ slice_index_or paths k p → IsFlat paths k old firsts
    → map net_of new ≡ map net_of old ++ nets_at (path_of p)
    → first ≡ length old → more ≡ firsts ++ first ∷ []
    → IsFlat paths (k + 1) new more
flat_more paths k p old new firsts more first inside is so_far added number pushed =
    let next : suc k ≡ k + 1 = omega arith in
    let ps = map path_of paths in
    let grown : take (suc k) ps ≡ take k ps ++ path_of p ∷ [] = taken_path paths k p inside is in
    subst (λ (n : ℕ). IsFlat paths n new more) next
    (record {
      are = added ∙ ap (λ xs. xs ++ nets_at (path_of p)) so_far.are
          ∙ ap (λ xs. nets_of (take k ps) ++ xs) (sym (append-nil (nets_at (path_of p))))
          ∙ sym (flat_map-append nets_at (take k ps) (path_of p ∷ []))
          ∙ ap nets_of (sym grown);
      firsts_are =
          let same : length old ≡ length (nets_of (take k ps)) =
          sym (length-map old net_of) ∙ ap (λ (xs : List Net). length xs) so_far.are in
          pushed ∙ ap (λ xs. xs ++ first ∷ []) so_far.firsts_are
          ∙ ap (λ n. numbered (first_of paths) k ++ n ∷ []) (number ∙ same);
    })

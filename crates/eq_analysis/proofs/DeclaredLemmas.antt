-- What a module declares of a name, told by the first declarations of its classes.
use Rattle.std.proofs.Common.{◌≡◌, ℕ, ◌+◌, ◌<◌, List, [], ◌∷◌, ◌++◌, Bool, true, false, cond, ◌&&◌, ◌||◌, Option, Some, None, length, get_or, take, map, refl, sym, ap, ◌∙◌}
use Rattle.std.specs.Prelude.{is_some, find, filter_map}
use Rattle.std.specs.Option.{option_or}
use Rattle.std.specs.List.{list_any}
use Rattle.std.specs.Str.{bytes_eq}
use Rattle.std.proofs.lemmas.List.{take_more, map-append}
use Rattle.eq_model.specs.Nets.{inner}
use Rattle.eq_net.specs.Meaning.{if_there}
use Rattle.eq_vparse.specs.declared.tree.Item.{Item}
use Rattle.eq_verilog.specs.Trees.{Name, ItemTree, declared, assign, primitive, instance, always, initial, item_tree}
use Rattle.eq_verilog.specs.Declarations.{Declaration, declaration_in, side_of}
use Rattle.eq_verilog.specs.Firsts.{first_found}
use Rattle.eq_analysis.specs.declared.declaring.Class.{Class}
use Rattle.eq_analysis.specs.declared.declaring.Class.TheVariants.{All, Direction}
use Rattle.eq_analysis.specs.declared.declaring.Declared.{Declared}
use Rattle.eq_analysis.specs.Declaring.{is_of, declared_in, beside, AreFirsts}
use Rattle.eq_analysis.proofs.FirstLemmas.{found_behind}

-- the items up to the next
pub items_more : (is : List Item) (k : ℕ) (d : Item) → k < length is →
    map item_tree (take (k + 1) is) ≡ map item_tree (take k is) ++ item_tree (get_or is k d) ∷ []
items_more is k d lt =
    ap (λ xs. map item_tree xs) (take_more is k d lt) ∙ map-append item_tree (take k is) (get_or is k d ∷ [])

-- what is found up to the next item
pub found_more : {B : Type 0} (f : ItemTree → Option B) (is : List Item) (k : ℕ) (d x : Item) → k < length is →
    get_or is k d ≡ x →
    first_found f (map item_tree (take (k + 1) is))
    ≡ option_or (first_found f (map item_tree (take k is))) (f (item_tree x))
found_more f is k d x lt e =
    ap (first_found f) (items_more is k d lt)
    ∙ found_behind f (map item_tree (take k is)) (item_tree (get_or is k d))
    ∙ ap (λ (i : Item). option_or (first_found f (map item_tree (take k is))) (f (item_tree i))) e

-- one item more
pub firsts_more : (c : Class) (is : List Item) (k : ℕ) (d x : Item) (names new : List Name)
    (found more : List Declared) →
    k < length is → get_or is k d ≡ x → AreFirsts c (map item_tree (take k is)) names found →
    length new ≡ length more →
    ((n : Name) → beside new more n ≡ option_or (beside names found n) (declared_in c n (item_tree x))) →
    AreFirsts c (map item_tree (take (k + 1) is)) new more
firsts_more c is k d x names new found more lt e before same step = record {
  same = same;
  firsts = λ n.
      step n
      ∙ ap (λ o. option_or o (declared_in c n (item_tree x))) (before.firsts n)
      ∙ sym (found_more (declared_in c n) is k d x lt e);
}

-- ---- what definitions ask

module _ {B : Type 0} (z : B) (f : Declaration → B) (g : Declared → B) where
  either : (a b : Bool) (d : Declaration) (x : Declared) (o : Option Declaration) (p : Option Declared) → f d ≡ g x →
      if_there z f o ≡ if_there z g p →
      if_there z f (cond (a && b) (Some d) o) ≡ if_there z g (option_or (cond (b && a) (Some x) None) p)
  either true true d x o p here behind = here
  either true false d x o p here behind = behind
  either false true d x o p here behind = behind
  either false false d x o p here behind = behind

one_range : (a : Bool) (r : Option (ℕ × ℕ)) (d : Declaration) (x : Declared) (o : Option Declaration)
    (p : Option Declared) → d.range ≡ x.range →
    if_there None (λ (e : Declaration). e.range) o ≡ if_there None (λ (e : Declared). e.range) p →
    if_there None (λ (e : Declaration). e.range) (cond a (Some d) o)
    ≡ if_there None (λ (e : Declared). e.range) (option_or (cond a (Some x) None) p)
one_range true r d x o p here behind = here
one_range false r d x o p here behind = behind

-- the range of a name
pub range_by : (n : Name) (is : List ItemTree) →
    if_there None (λ (d : Declaration). d.range)
    (find (λ (d : Declaration). bytes_eq n d.name) (filter_map declaration_in is))
    ≡ if_there None (λ (x : Declared). x.range) (first_found (declared_in All n) is)
range_by n [] = refl
range_by n (declared k r m ∷ is) =
    one_range (bytes_eq n m) r (record { kind = k; range = r; name = m }) (record { kind = k; range = r })
    (find (λ (d : Declaration). bytes_eq n d.name) (filter_map declaration_in is))
    (first_found (declared_in All n) is) refl (range_by n is)
range_by n (assign t e ∷ is) = range_by n is
range_by n (primitive k m ts ∷ is) = range_by n is
range_by n (instance m k c ∷ is) = range_by n is
range_by n (always e s ∷ is) = range_by n is
range_by n (initial t v ∷ is) = range_by n is

-- the direction of a name
pub dir_by : (n : Name) (is : List ItemTree) →
    if_there inner (λ (d : Declaration). side_of d.kind)
    (find (λ (d : Declaration). bytes_eq n d.name && is_of Direction d.kind) (filter_map declaration_in is))
    ≡ if_there inner (λ (x : Declared). side_of x.kind) (first_found (declared_in Direction n) is)
dir_by n [] = refl
dir_by n (declared k r m ∷ is) =
    either inner (λ (d : Declaration). side_of d.kind) (λ (x : Declared). side_of x.kind)
    (bytes_eq n m) (is_of Direction k) (record { kind = k; range = r; name = m }) (record { kind = k; range = r })
    (find (λ (d : Declaration). bytes_eq n d.name && is_of Direction d.kind) (filter_map declaration_in is))
    (first_found (declared_in Direction n) is) refl (dir_by n is)
dir_by n (assign t e ∷ is) = dir_by n is
dir_by n (primitive k m ts ∷ is) = dir_by n is
dir_by n (instance m k c ∷ is) = dir_by n is
dir_by n (always e s ∷ is) = dir_by n is
dir_by n (initial t v ∷ is) = dir_by n is

one_any : (a b t : Bool) (x : Declared) (o : Option Declared) → t ≡ is_some o →
    ((a && b) || t) ≡ is_some (option_or (cond (b && a) (Some x) None) o)
one_any true true t x o h = refl
one_any true false t x o h = h
one_any false true t x o h = h
one_any false false t x o h = h

-- whether a name has a declaration of a class
pub any_by : (c : Class) (n : Name) (is : List ItemTree) →
    list_any (λ (d : Declaration). bytes_eq n d.name && is_of c d.kind) (filter_map declaration_in is)
    ≡ is_some (first_found (declared_in c n) is)
any_by c n [] = refl
any_by c n (declared k r m ∷ is) =
    one_any (bytes_eq n m) (is_of c k)
    (list_any (λ (d : Declaration). bytes_eq n d.name && is_of c d.kind) (filter_map declaration_in is))
    (record { kind = k; range = r }) (first_found (declared_in c n) is) (any_by c n is)
any_by c n (assign t e ∷ is) = any_by c n is
any_by c n (primitive k m ts ∷ is) = any_by c n is
any_by c n (instance m k x ∷ is) = any_by c n is
any_by c n (always e s ∷ is) = any_by c n is
any_by c n (initial t v ∷ is) = any_by c n is

-- the same, from what stands beside the name
pub range_told : (is : List ItemTree) (n : Name) (names : List Name) (found : List Declared) (o : Option Declared) →
    AreFirsts All is names found → o ≡ beside names found n →
    if_there None (λ (x : Declared). x.range) o
    ≡ if_there None (λ (d : Declaration). d.range)
    (find (λ (d : Declaration). bytes_eq n d.name) (filter_map declaration_in is))
range_told is n names found o are e =
    ap (λ (p : Option Declared). if_there None (λ (x : Declared). x.range) p) (e ∙ are.firsts n) ∙ sym (range_by n is)

pub dir_told : (is : List ItemTree) (n : Name) (names : List Name) (found : List Declared) (o : Option Declared) →
    AreFirsts Direction is names found → o ≡ beside names found n →
    if_there inner (λ (x : Declared). side_of x.kind) o
    ≡ if_there inner (λ (d : Declaration). side_of d.kind)
    (find (λ (d : Declaration). bytes_eq n d.name && is_of Direction d.kind) (filter_map declaration_in is))
dir_told is n names found o are e =
    ap (λ (p : Option Declared). if_there inner (λ (x : Declared). side_of x.kind) p) (e ∙ are.firsts n)
    ∙ sym (dir_by n is)

pub any_told : (c : Class) (is : List ItemTree) (n : Name) (names : List Name) (found : List Declared)
    (o : Option Declared) → AreFirsts c is names found → o ≡ beside names found n →
    is_some o ≡ list_any (λ (d : Declaration). bytes_eq n d.name && is_of c d.kind) (filter_map declaration_in is)
any_told c is n names found o are e =
    ap (λ (p : Option Declared). is_some p) (e ∙ are.firsts n) ∙ sym (any_by c n is)

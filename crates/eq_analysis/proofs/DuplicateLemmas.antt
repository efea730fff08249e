-- Which names were declared, and which instances and gates have, with one name more.
use Rattle.std.proofs.Common.{◌≡◌, ℕ, ◌+◌, ◌<◌, List, [], ◌∷◌, ◌++◌, Bool, true, false, cond, ◌&&◌, ◌||◌, not, nat_lt, Option, Some, None, Result, Ok, Err, OnOk, length, get_or, take, drop, map, count_by, filter_map, refl, sym, ap, subst, ◌∙◌, arith}
use Rattle.std.specs.List.{list_any, cons_option}
use Rattle.std.specs.Option.{option_or}
use Rattle.std.specs.Str.{bytes_eq}
use Rattle.std.proofs.lemmas.Bool.Decides.{nat_tests}
use Rattle.std.proofs.lemmas.List.{append-nil, drop_more}
use Rattle.std.proofs.lemmas.List.Elements.{filter_map-append}
use Rattle.std.proofs.lemmas.List.Sums.{sum_by-append, sum_by-cons}
use Rattle.eq_vparse.specs.declared.tree.Item.{Item}
use Rattle.eq_net.specs.Meaning.{if_there}
use Rattle.eq_net.specs.Numbers.{differ}
use Rattle.eq_names.specs.Tables.{with_name}
use Rattle.eq_verilog.specs.Trees.{Name, ItemTree, ModuleTree, item_tree}
use Rattle.eq_verilog.specs.Declarations.{has, Declaration, declaration_in, is_direction}
use Rattle.eq_verilog.specs.ModuleRefusals.{is_alike, own_name, duplicate_at, duplicate_from}
use Rattle.eq_analysis.specs.inner.Duplicates.{AreCounted, AreSeen}
use Rattle.eq_analysis.proofs.BesideLemmas.{one_name}
use Rattle.eq_analysis.proofs.DeclaredLemmas.{items_more}
use Rattle.eq_analysis.proofs.HavingLemmas.{has_with}

-- ---- counts

count_more : (p : Name → Bool) (names : List Name) (x : Name) →
    count_by p (names ++ x ∷ []) ≡ count_by p names + cond (p x) 1 0
count_more p names x =
    let f : Name → ℕ = λ (y : Name). cond (p y) 1 0 in
    let e = sum_by-append f names (x ∷ []) in
    let g = sum_by-cons f x [] in
    omega arith

one_first : (b : Bool) (k : ℕ) → (nat_lt 0 k || b) ≡ nat_lt 0 (k + cond b 1 0)
one_first true k = grind (arith, nat_tests)
one_first false k = grind (arith, nat_tests)

one_second : (h b t : Bool) (k : ℕ) → (b ≡ true → h ≡ nat_lt 0 k) → t ≡ nat_lt 1 k →
    cond h (t || b) t ≡ nat_lt 1 (k + cond b 1 0)
one_second true true t k e f = let g = e refl in grind (arith, nat_tests)
one_second true false t k e f = grind (arith, nat_tests)
one_second false true t k e f = let g = e refl in grind (arith, nat_tests)
one_second false false t k e f = grind (arith, nat_tests)

has_either : (h : Bool) (a b : List Name) (n : Name) → has (cond h a b) n ≡ cond h (has a n) (has b n)
has_either true a b n = refl
has_either false a b n = refl

-- a name more
pub counted_more : (names once twice : List Name) (x : Name) → AreCounted names once twice →
    AreCounted (names ++ x ∷ []) (with_name once x) (cond (has once x) (with_name twice x) twice)
counted_more names once twice x c = record {
  first = λ n.
      has_with once x n
      ∙ ap (λ (t : Bool). t || bytes_eq n x) (c.first n)
      ∙ one_first (bytes_eq n x) (count_by (bytes_eq n) names)
      ∙ ap (λ (k : ℕ). nat_lt 0 k) (sym (count_more (bytes_eq n) names x));
  second = λ n.
      has_either (has once x) (with_name twice x) twice n
      ∙ ap (λ (t : Bool). cond (has once x) t (has twice n)) (has_with twice x n)
      ∙ one_second (has once x) (bytes_eq n x) (has twice n) (count_by (bytes_eq n) names)
      (λ e. ap (λ (k : Name). has once k) (sym (one_name n x e)) ∙ c.first n) (c.second n)
      ∙ ap (λ (k : ℕ). nat_lt 1 k) (sym (count_more (bytes_eq n) names x));
}

pub counted_none : AreCounted [] [] []
counted_none = record { first = λ n. refl; second = λ n. refl }

-- ---- declarations

and_true : (b t : Bool) → ((b && true) || t) ≡ (t || b)
and_true true true = refl
and_true true false = refl
and_true false true = refl
and_true false false = refl

and_false : (b t : Bool) → ((b && false) || t) ≡ t
and_false true t = refl
and_false false t = refl

one_seen : (p q : Bool) (ds os : List Name) (x n : Name) (t : Bool) → t ≡ has (cond p ds os) n →
    ((bytes_eq n x && not (differ p q)) || t)
    ≡ has (cond p (cond q (with_name ds x) ds) (cond q os (with_name os x))) n
one_seen true true ds os x n t e =
    and_true (bytes_eq n x) t ∙ ap (λ (a : Bool). a || bytes_eq n x) e ∙ sym (has_with ds x n)
one_seen true false ds os x n t e = and_false (bytes_eq n x) t ∙ e
one_seen false true ds os x n t e = and_false (bytes_eq n x) t ∙ e
one_seen false false ds os x n t e =
    and_true (bytes_eq n x) t ∙ ap (λ (a : Bool). a || bytes_eq n x) e ∙ sym (has_with os x n)

-- a declaration more
pub seen_more : (before : List Declaration) (ds os : List Name) (d : Declaration) → AreSeen before ds os →
    AreSeen (d ∷ before) (cond (is_direction d.kind) (with_name ds d.name) ds)
    (cond (is_direction d.kind) os (with_name os d.name))
seen_more before ds os d s k n =
    one_seen (is_direction k) (is_direction d.kind) ds os d.name n
    (list_any (λ (e : Declaration). bytes_eq n e.name && is_alike k e.kind) before) (s k n)

nothing : (b : Bool) (n : Name) → false ≡ has (cond b [] []) n
nothing true n = refl
nothing false n = refl

pub seen_none : AreSeen [] [] []
seen_none k n = nothing (is_direction k) n

-- at a place of the items: what is left is found as all are
pub record IsSoFar (m : ModuleTree) (is rest : List ItemTree) (directions others : List Name) : Type 0 where
  pub before : List Declaration
  pub seen : AreSeen before directions others
  pub goes_on : duplicate_from m [] is ≡ duplicate_from m before rest

pub so_far_none : (m : ModuleTree) (is : List ItemTree) → IsSoFar m is is [] []
so_far_none m is = record { before = []; seen = seen_none; goes_on = refl }

-- ---- one item more

both : {T E : Type 0} {P Q R : Type 0} (r : Result T E) → (P → Q → R) → OnOk r P → OnOk r Q → OnOk r R
both (Ok x) f p q = f p q
both (Err e) f p q = tt

-- the name of an item, if it has one
counted_item : (names once twice once_new twice_new : List Name) (o : Option Name) (x : Name) → o ≡ Some x →
    once_new ≡ with_name once x → twice_new ≡ cond (has once x) (with_name twice x) twice →
    AreCounted names once twice → AreCounted (names ++ cons_option o []) once_new twice_new
counted_item names once twice once_new twice_new o x is e f c =
    subst (λ (p : Option Name). AreCounted (names ++ cons_option p []) once_new twice_new) (sym is)
    (subst (λ (ns : List Name). AreCounted (names ++ x ∷ []) ns twice_new) (sym e)
    (subst (λ (ns : List Name). AreCounted (names ++ x ∷ []) (with_name once x) ns) (sym f)
    (counted_more names once twice x c)))

pub adds_item : {T E : Type 0} (r : Result T E) (once twice once_new twice_new : List Name) (o : Option Name)
    (x : Name) → o ≡ Some x → OnOk r (once_new ≡ with_name once x) →
    OnOk r (twice_new ≡ cond (has once x) (with_name twice x) twice) →
    OnOk r ((names : List Name) → AreCounted names once twice →
    AreCounted (names ++ cons_option o []) once_new twice_new)
adds_item r once twice once_new twice_new o x is e f =
    both r (λ a b names c. counted_item names once twice once_new twice_new o x is a b c) e f

pub adds_nothing : (once twice : List Name) (o : Option Name) → o ≡ None → (names : List Name) →
    AreCounted names once twice → AreCounted (names ++ cons_option o []) once twice
adds_nothing once twice o is names c =
    subst (λ (p : Option Name). AreCounted (names ++ cons_option p []) once twice) (sym is)
    (subst (λ (ns : List Name). AreCounted ns once twice) (sym (append-nil names)) c)

pub owns_more : (is : List Item) (k : ℕ) (d x : Item) → k < length is → get_or is k d ≡ x →
    filter_map own_name (map item_tree (take (k + 1) is))
    ≡ filter_map own_name (map item_tree (take k is)) ++ cons_option (own_name (item_tree x)) []
owns_more is k d x lt e =
    ap (λ (ts : List ItemTree). filter_map own_name ts) (items_more is k d lt)
    ∙ filter_map-append own_name (map item_tree (take k is)) (item_tree (get_or is k d) ∷ [])
    ∙ ap (λ (i : Item). filter_map own_name (map item_tree (take k is)) ++ cons_option (own_name (item_tree i)) []) e

-- what is left from an item on
pub items_left : (is : List Item) (k : ℕ) (d x : Item) → k < length is → get_or is k d ≡ x →
    map item_tree (drop k is) ≡ item_tree x ∷ map item_tree (drop (k + 1) is)
items_left is k d x lt e =
    ap (λ (js : List Item). map item_tree js) (drop_more is k d lt)
    ∙ ap (λ (i : Item). item_tree i ∷ map item_tree (drop (k + 1) is)) e

module _ (m : ModuleTree) (is : List Item) (k : ℕ) (d x : Item) (ds os : List Name) (lt : k < length is)
    (at : get_or is k d ≡ x) (so_far : IsSoFar m (map item_tree is) (map item_tree (drop k is)) ds os) where
  divided : duplicate_from m [] (map item_tree is)
      ≡ option_or (duplicate_at m so_far.before (item_tree x))
      (duplicate_from m (if_there so_far.before (λ e. e ∷ so_far.before) (declaration_in (item_tree x)))
      (map item_tree (drop (k + 1) is)))
  divided =
      so_far.goes_on ∙ ap (λ (js : List ItemTree). duplicate_from m so_far.before js) (items_left is k d x lt at)

  pub duplicate_here : (n : Name) →
      ((before : List Declaration) → AreSeen before ds os → Some n ≡ duplicate_at m before (item_tree x)) →
      Some n ≡ duplicate_from m [] (map item_tree is)
  duplicate_here n found =
      sym (divided ∙ ap (λ (o : Option Name). option_or o (duplicate_from m
      (if_there so_far.before (λ e. e ∷ so_far.before) (declaration_in (item_tree x)))
      (map item_tree (drop (k + 1) is)))) (sym (found so_far.before so_far.seen)))

  pub duplicate_later : (new_ds new_os : List Name) →
      ((before : List Declaration) → AreSeen before ds os → None ≡ duplicate_at m before (item_tree x)) →
      ((before : List Declaration) → AreSeen before ds os →
      AreSeen (if_there before (λ e. e ∷ before) (declaration_in (item_tree x))) new_ds new_os) →
      IsSoFar m (map item_tree is) (map item_tree (drop (k + 1) is)) new_ds new_os
  duplicate_later new_ds new_os found more = record {
    before = if_there so_far.before (λ e. e ∷ so_far.before) (declaration_in (item_tree x));
    seen = more so_far.before so_far.seen;
    goes_on =
        divided ∙ ap (λ (o : Option Name). option_or o (duplicate_from m
        (if_there so_far.before (λ e. e ∷ so_far.before) (declaration_in (item_tree x)))
        (map item_tree (drop (k + 1) is)))) (sym (found so_far.before so_far.seen));
  }

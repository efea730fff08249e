-- Names one after the other, and those before them. Which names come again depends only on which names were seen.
use Rattle.std.proofs.Common.{◌≡◌, ℕ, ◌+◌, ◌<◌, List, [], ◌∷◌, ◌++◌, Bool, true, false, cond, ◌||◌, Option, Some, length, get_or, take, drop, map, refl, sym, ap, subst, ◌∙◌, arith}
use Rattle.std.specs.Str.{bytes_eq}
use Rattle.std.proofs.lemmas.List.{take_more, drop_more, get_or-map, length-map}
use Rattle.std.proofs.lemmas.List.Folds.{list_any-append}
use Rattle.eq_names.specs.Tables.{with_name}
use Rattle.eq_verilog.specs.Trees.{Name}
use Rattle.eq_verilog.specs.Declarations.{has}
use Rattle.eq_verilog.specs.Firsts.{again_after, first_again}

or_swapped : (a b : Bool) → (a || b) ≡ (b || (a || false))
or_swapped true true = refl
or_swapped true false = refl
or_swapped false true = refl
or_swapped false false = refl

pub with_known : (names : List Name) (n : Name) → has names n ≡ true → with_name names n ≡ names
with_known names n h = subst (λ (b : Bool). cond b names (names ++ n ∷ []) ≡ names) (sym h) refl

pub with_new : (names : List Name) (n : Name) → has names n ≡ false → with_name names n ≡ names ++ n ∷ []
with_new names n h = subst (λ (b : Bool). cond b names (names ++ n ∷ []) ≡ names ++ n ∷ []) (sym h) refl

-- which names come again depends only on which were seen
pub same_again : (a b : List Name) → ((n : Name) → has a n ≡ has b n) → (ns : List Name)
    → again_after a ns ≡ again_after b ns
same_again a b same [] = refl
same_again a b same (n ∷ ns) =
    ap (λ (t : Bool). cond t (Some n) (again_after (n ∷ a) ns)) (same n)
    ∙ ap (λ (o : Option Name). cond (has b n) (Some n) o)
    (same_again (n ∷ a) (n ∷ b) (λ m. ap (λ (t : Bool). bytes_eq m n || t) (same m)) ns)

-- a name before others, and behind them
has_behind : (a : List Name) (x n : Name) → has (x ∷ a) n ≡ has (a ++ x ∷ []) n
has_behind a x n =
    or_swapped (bytes_eq n x) (has a n) ∙ sym (list_any-append (bytes_eq n) a (x ∷ []))

-- at a place of the names: none before came again, and the table has them all
pub record IsAgain (names : List Name) (i : ℕ) (table : List Name) : Type 0 where
  pub table_is : table ≡ take i names
  pub again_is : first_again names ≡ again_after (take i names) (drop i names)

module _ {A : Type 0} (f : A → Name) (xs : List A) (i : ℕ) (d x : A) (table : List Name) (within : i < length xs)
    (is : get_or xs i d ≡ x) (so_far : IsAgain (map f xs) i table) where
  next_is : drop i (map f xs) ≡ f x ∷ drop (i + 1) (map f xs)
  next_is =
      drop_more (map f xs) i (f d) (omega (arith, within, length-map xs f))
      ∙ ap (λ (n : Name). n ∷ drop (i + 1) (map f xs)) (get_or-map f xs i d (f d) within ∙ ap f is)

  front_is : take (i + 1) (map f xs) ≡ take i (map f xs) ++ f x ∷ []
  front_is =
      take_more (map f xs) i (f d) (omega (arith, within, length-map xs f))
      ∙ ap (λ (n : Name). take i (map f xs) ++ n ∷ []) (get_or-map f xs i d (f d) within ∙ ap f is)

  split : first_again (map f xs)
      ≡ cond (has table (f x)) (Some (f x)) (again_after (f x ∷ table) (drop (i + 1) (map f xs)))
  split =
      so_far.again_is
      ∙ ap (λ (ns : List Name). again_after (take i (map f xs)) ns) next_is
      ∙ ap (λ (seen : List Name). again_after seen (f x ∷ drop (i + 1) (map f xs))) (sym so_far.table_is)

  -- a name that comes again
  pub again_here : has table (f x) ≡ true → Some (f x) ≡ first_again (map f xs)
  again_here h = sym (split ∙ ap (λ (t : Bool).
      cond t (Some (f x)) (again_after (f x ∷ table) (drop (i + 1) (map f xs)))) h)

  -- a name that is new
  pub again_later : (new : List Name) → has table (f x) ≡ false → new ≡ with_name table (f x)
      → IsAgain (map f xs) (i + 1) new
  again_later new h more =
      let grown : take (i + 1) (map f xs) ≡ table ++ f x ∷ [] =
      front_is ∙ ap (λ (ns : List Name). ns ++ f x ∷ []) (sym so_far.table_is) in
      record {
        table_is = more ∙ with_new table (f x) h ∙ sym grown;
        again_is =
            split
            ∙ ap (λ (t : Bool). cond t (Some (f x)) (again_after (f x ∷ table) (drop (i + 1) (map f xs)))) h
            ∙ same_again (f x ∷ table) (table ++ f x ∷ []) (has_behind table (f x)) (drop (i + 1) (map f xs))
            ∙ ap (λ (seen : List Name). again_after seen (drop (i + 1) (map f xs))) (sym grown);
      }

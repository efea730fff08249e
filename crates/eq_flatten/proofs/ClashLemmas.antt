-- Full names of nets one after the other, and those before them.
use Rattle.std.proofs.Common.{◌≡◌, ℕ, zero, suc, ◌+◌, ◌<◌, List, [], ◌∷◌, ◌++◌, Bool, true, false, cond, ◌||◌, Option, Some, length, drop, map, slice_index_or, refl, sym, ap, subst, ◌∙◌, arith}
use Rattle.std.specs.Str.{bytes_eq}
use Rattle.std.proofs.lemmas.List.Folds.{list_any-append}
use Rattle.eq_names.specs.Tables.{with_name}
use Rattle.eq_net.specs.Nets.{net_of}
use Rattle.eq_net.specs.declared.types.NetInfo.{NetInfo}
use Rattle.eq_verilog.specs.Trees.{Name}
use Rattle.eq_verilog.specs.Declarations.{has}
use Rattle.eq_verilog.specs.Nets.{full_names}
use Rattle.eq_verilog.specs.Firsts.{again_after, first_again}

or_swapped : (a b : Bool) → (a || b) ≡ (b || (a || false))
or_swapped true true = refl
or_swapped true false = refl
or_swapped false true = refl
or_swapped false false = refl

pub with_known : (names : List Name) (n : Name) → has names n ≡ true → with_name names n ≡ names
with_known names n h = subst (λ (b : Bool). cond b names (names ++ n ∷ []) ≡ names) (sym h) refl

with_new : (names : List Name) (n : Name) → has names n ≡ false → with_name names n ≡ names ++ n ∷ []
with_new names n h = subst (λ (b : Bool). cond b names (names ++ n ∷ []) ≡ names ++ n ∷ []) (sym h) refl

-- which names come again depends only on which were seen
same_again : (a b : List Name) → ((n : Name) → has a n ≡ has b n) → (ns : List Name) → again_after a ns ≡ again_after b ns
same_again a b same [] = refl
same_again a b same (n ∷ ns) =
    ap (λ (t : Bool). cond t (Some n) (again_after (n ∷ a) ns)) (same n)
    ∙ ap (λ (o : Option Name). cond (has b n) (Some n) o)
    (same_again (n ∷ a) (n ∷ b) (λ m. ap (λ (t : Bool). bytes_eq m n || t) (same m)) ns)

-- a name before others, and behind them
has_behind : (a : List Name) (x n : Name) → has (x ∷ a) n ≡ has (a ++ x ∷ []) n
has_behind a x n = or_swapped (bytes_eq n x) (has a n) ∙ sym (list_any-append (bytes_eq n) a (x ∷ []))

-- the first name that comes again is one from place i on, where the table has those before
abbrev pub IsAgain : List Name → ℕ → List Name → Type 0
IsAgain names i table = first_again names ≡ again_after table (drop i names)

next_name : (nets : List NetInfo) (i : ℕ) (x : NetInfo) → i < length nets → x ≡ slice_index_or nets i x →
    drop i (full_names (map net_of nets)) ≡ x.name ∷ drop (suc i) (full_names (map net_of nets))
next_name [] i x inside is = absurd (omega (arith, inside))
next_name (y ∷ ys) zero x inside is =
    ap (λ (z : NetInfo). z.name ∷ full_names (map net_of ys)) (sym is)
next_name (y ∷ ys) (suc i) x inside is = next_name ys i x (omega (arith, inside)) is

module _ (nets : List NetInfo) (i : ℕ) (x : NetInfo) where
  abbrev names : List Name
  names = full_names (map net_of nets)

  split : (table : List Name) → i < length nets → x ≡ slice_index_or nets i x → IsAgain names i table →
      first_again names ≡ cond (has table x.name) (Some x.name) (again_after (x.name ∷ table) (drop (suc i) names))
  split table inside is so_far = so_far ∙ ap (λ (ns : List Name). again_after table ns) (next_name nets i x inside is)

  -- a name that comes again
  pub again_here : (table : List Name) → i < length nets → x ≡ slice_index_or nets i x → IsAgain names i table →
      has table x.name ≡ true → Some x.name ≡ first_again names
  again_here table inside is so_far h =
      sym (split table inside is so_far
      ∙ ap (λ (t : Bool). cond t (Some x.name) (again_after (x.name ∷ table) (drop (suc i) names))) h)

  -- a name that is new
  pub again_later : (table new : List Name) → i < length nets → x ≡ slice_index_or nets i x → IsAgain names i table →
      has table x.name ≡ false → new ≡ with_name table x.name → IsAgain names (i + 1) new
  again_later table new inside is so_far h more =
      let next : suc i ≡ i + 1 = omega arith in
      subst (λ (k : ℕ). IsAgain names k new) next
      (split table inside is so_far
      ∙ ap (λ (t : Bool). cond t (Some x.name) (again_after (x.name ∷ table) (drop (suc i) names))) h
      ∙ same_again (x.name ∷ table) (table ++ x.name ∷ []) (has_behind table x.name) (drop (suc i) names)
      ∙ ap (λ (seen : List Name). again_after seen (drop (suc i) names)) (sym (more ∙ with_new table x.name h)))

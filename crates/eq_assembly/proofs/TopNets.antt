-- The nets of a design: those of its top by their own names, and behind them those of instances, which have no direction.
use Rattle.std.proofs.Common.{◌≡◌, ℕ, zero, suc, ◌<◌, List, [], ◌∷◌, ◌++◌, length, map, drop, slice_get, slice_index_or, Option, Some, refl, arith, ap, ◌∙◌}
use Rattle.eq_model.specs.Nets.{Dir, inner, Net}
use Rattle.eq_net.specs.declared.types.Dir.{Dir as Side}
use Rattle.eq_net.specs.declared.types.Dir.TheVariants.{Inner, Input, Output}
use Rattle.eq_net.specs.declared.types.NetInfo.{NetInfo}
use Rattle.eq_net.specs.Meaning.{if_there}
use Rattle.eq_net.specs.Net.{net_at}
use Rattle.eq_net.specs.Nets.{net_of, side_of}
use Rattle.eq_verilog.specs.Trees.{Name}
use Rattle.eq_verilog.specs.Declarations.{dir_of, nets_in}
use Rattle.eq_verilog.specs.Hierarchy.{dot}
use Rattle.eq_verilog.specs.Nets.{dir_at, nets_at, nets_of, net_at as net_in_path}
use Rattle.eq_flatten.specs.Paths.{Link, end_of}

abbrev pub AllInner : List Net → Type 0
AllInner [] = Unit {0}
AllInner (n ∷ ns) = (n.dir ≡ inner) × AllInner ns

inner_append : (xs ys : List Net) → AllInner xs → AllInner ys → AllInner (xs ++ ys)
inner_append [] ys h g = g
inner_append (x ∷ xs) ys h g = (h.0, inner_append xs ys h.1 g)

some_prefix : (p q : Name) (c : ℕ) (d : Dir) → dir_at (p ++ (q ++ c ∷ [])) d ≡ inner
some_prefix [] [] c d = refl
some_prefix [] (x ∷ q) c d = refl
some_prefix (x ∷ p) q c d = refl

inner_names : (l : Link) (ns : List Name) → AllInner (map (net_in_path (end_of l)) ns)
inner_names l [] = tt
inner_names l (n ∷ ns) = (some_prefix l.within.prefix l.written.name dot (dir_of l.of n), inner_names l ns)

-- nets of instances have no direction
pub inner_links : (ls : List Link) → AllInner (nets_of (map end_of ls))
inner_links [] = tt
inner_links (l ∷ ls) =
    inner_append (nets_at (end_of l)) (nets_of (map end_of ls)) (inner_names l (nets_in l.of)) (inner_links ls)

head_same : (x y : Net) (xs ys : List Net) → x ∷ xs ≡ y ∷ ys → x ≡ y
head_same x y xs ys e = ap (λ (ns : List Net). slice_index_or ns 0 x) e

tail_same : (x y : Net) (xs ys : List Net) → x ∷ xs ≡ y ∷ ys → xs ≡ ys
tail_same x y xs ys e = ap (λ (ns : List Net). drop 1 ns) e

pub side_inner : (d : Side) → side_of d ≡ inner → d ≡ Inner
side_inner Inner e = refl
side_inner Input e = absurd (cc)
side_inner Output e = absurd (cc)

no_side : (nets : List NetInfo) (others : List Net) (k : ℕ) → map net_of nets ≡ others → AllInner others →
    k < length nets → (net_at nets k).dir ≡ Inner
no_side [] others k are all lt = absurd (omega (arith, lt))
no_side (x ∷ xs) [] k are all lt = absurd (cc)
no_side (x ∷ xs) (y ∷ ys) zero are all lt =
    side_inner x.dir (ap (λ (n : Net). n.dir) (head_same (net_of x) y (map net_of xs) ys are) ∙ all.0)
no_side (x ∷ xs) (y ∷ ys) (suc k) are all lt =
    no_side xs ys k (tail_same (net_of x) y (map net_of xs) ys are) all.1 (omega (arith, lt))

module _ (f : Name → Net) (others : List Net) where
  -- a net of the top by the place of its name
  pub net_named : (nets : List NetInfo) (names : List Name) (k : ℕ) (n : Name) →
      map net_of nets ≡ map f names ++ others → slice_get names k ≡ Some n →
      (k < length nets) × (net_of (net_at nets k) ≡ f n)
  net_named nets [] k n are h = absurd (cc)
  net_named [] (x ∷ xs) k n are h = absurd (cc)
  net_named (y ∷ ys) (x ∷ xs) zero n are h = (
    omega arith,
    head_same (net_of y) (f x) (map net_of ys) (map f xs ++ others) are
        ∙ ap (λ (o : Option Name). if_there (f x) (λ (z : Name). f z) o) h,
  )
  net_named (y ∷ ys) (x ∷ xs) (suc k) n are h =
      let rest = net_named ys xs k n (tail_same (net_of y) (f x) (map net_of ys) (map f xs ++ others) are) h in
      (let lt = rest.0 in omega (arith, lt), rest.1)

  -- a net with a direction is one of the top
  pub has_name : (nets : List NetInfo) (names : List Name) (k : ℕ) → map net_of nets ≡ map f names ++ others →
      AllInner others → k < length nets → ((net_at nets k).dir ≡ Inner → ⊥) → (n : Name) × (slice_get names k ≡ Some n)
  has_name [] names k are all lt some = absurd (omega (arith, lt))
  has_name (y ∷ ys) [] k are all lt some = absurd (some (no_side (y ∷ ys) others k are all lt))
  has_name (y ∷ ys) (x ∷ xs) zero are all lt some = (x, refl)
  has_name (y ∷ ys) (x ∷ xs) (suc k) are all lt some =
      has_name ys xs k (tail_same (net_of y) (f x) (map net_of ys) (map f xs ++ others) are) all (omega (arith, lt)) some

-- The scope of an instance by the table of its module and the number of its first net is that of its module, shifted:
-- the first bits of its nets are further on by as many as all nets before its own have. Full names play no part.
use Rattle.std.proofs.Common.{◌≡◌, ℕ, zero, suc, ◌+◌, ◌<◌, Bool, true, cond, List, [], ◌∷◌, ◌++◌, map, length, take, drop, slice_get, All, Option, Some, None, bytes_eq, ◌||◌, not, nat_lt, refl, arith, sym, ap, subst, ◌∙◌, inl, inr}
use Rattle.std.specs.Prelude.{zip}
use Rattle.std.specs.List.{position_or_len}
use Rattle.std.proofs.lemmas.Bool.{cases_Bool}
use Rattle.std.proofs.lemmas.Slice.Eq.{bytes_eq-Decides}
use Rattle.std.proofs.lemmas.List.{length-map, take_all}
use Rattle.std.proofs.lemmas.List.Concat.{flat_map-append}
use Rattle.eq_model.specs.Nets.{Net, first_bit, net_width, range_width, total_width}
use Rattle.eq_names.specs.Tables.{number_of}
use Rattle.eq_net.specs.declared.types.NetInfo.{NetInfo}
use Rattle.eq_net.specs.Meaning.{if_there}
use Rattle.eq_net.specs.Net as netlist
use Rattle.eq_net.specs.Nets.{net_of, range_of as range_of_net}
use Rattle.eq_verilog.specs.Trees.{Name, ModuleTree, module_tree}
use Rattle.eq_verilog.specs.Declarations.{has, nets_in, range_of}
use Rattle.eq_verilog.specs.Hierarchy.{Path}
use Rattle.eq_verilog.specs.Nets.{alone, module_scope, net_at, nets_at, nets_of, offset}
use Rattle.eq_analysis.specs.Finding.{net_in, scope_of}
use Rattle.eq_flatten.specs.declared.paths.Path.{Path as PathValue}
use Rattle.eq_flatten.specs.Flat.{first_of, IsFlat}
use Rattle.eq_flatten.specs.Flattening.{names_of}
use Rattle.eq_flatten.specs.Paths.{path_of, IsPath, IsPlaced}
use Rattle.eq_flatten.proofs.FlatLemmas.{get_mapped}
use Rattle.eq_flatten.proofs.Listing.{first_true, numbered_at, numbered_length}
use Rattle.eq_flatten.proofs.Scoped.{get_inside, get_or_is, zip_parts}
use Rattle.eq_budget.proofs.Named.{OfAll}
use Rattle.eq_budget.proofs.Shifted.{IsShifted}

one_plus : (k : ℕ) → 1 + k ≡ suc k
one_plus k = omega arith

next_plus : (k l : ℕ) → suc k + l ≡ suc (k + l)
next_plus k l = omega arith

nothing_plus : (k : ℕ) → 0 + k ≡ k
nothing_plus k = omega arith

-- a name that a list has stands at its number, and the bits of its net begin behind those of the names before
record HasPlace (ns : List Name) (n : Name) : Type 0 where
  at : ℕ
  place : position_or_len (bytes_eq n) ns ≡ at
  inside : at < length ns
  here : slice_get ns at ≡ Some n
  offset_is : (p : Path) → offset (map (net_at (alone p.of)) ns) n ≡ first_bit (map (net_at p) ns) at

has_place : (ns : List Name) (n : Name) → has ns n ≡ true → HasPlace ns n
has_place [] n e = absurd (cc)
has_place (k ∷ ns) n e = elim (cases_Bool (bytes_eq n k)) [
  | inl same ↦ record {
    at = 0;
    place = ap (λ (b : Bool). cond {A = ℕ} (not b) (1 + position_or_len (bytes_eq n) ns) 0) same;
    inside = omega arith;
    here = ap (λ (x : Name). Some x) (sym ((bytes_eq-Decides n k).0 same));
    offset_is = λ p.
        ap (λ (b : Bool). cond {A = ℕ} b 0 (range_width (range_of p.of k) + offset (map (net_at (alone p.of)) ns) n))
        same;
  }
  | inr other ↦
      let rest : has ns n ≡ true = sym (ap (λ (b : Bool). b || has ns n) other) ∙ e in
      let h = has_place ns n rest in
      record {
        at = suc h.at;
        place = ap (λ (b : Bool). cond {A = ℕ} (not b) (1 + position_or_len (bytes_eq n) ns) 0) other
            ∙ ap (λ k. 1 + k) h.place ∙ one_plus h.at;
        inside = (let i = h.inside in omega (arith, i));
        here = h.here;
        offset_is = λ p.
            let after = range_width (range_of p.of k) in
            ap (λ (b : Bool). cond {A = ℕ} b 0 (after + offset (map (net_at (alone p.of)) ns) n)) other
            ∙ ap (λ x. after + x) (h.offset_is p);
      }
]

number_is : (ns : List Name) (n : Name) (h : HasPlace ns n) → number_of ns n ≡ Some h.at
number_is ns n h =
    ap (λ k. cond (nat_lt k (length ns)) (Some k) None) h.place
    ∙ ap (λ (b : Bool). cond b (Some h.at) None) (first_true h.at (length ns) h.inside)

-- ---- nets in a row

first_behind : (xs ys : List Net) (k : ℕ) → first_bit (xs ++ ys) (length xs + k) ≡ total_width xs + first_bit ys k
first_behind [] ys k = ap (λ n. first_bit ys n) (nothing_plus k) ∙ sym (nothing_plus (first_bit ys k))
first_behind (x ∷ xs) ys k =
    (let h = first_behind xs ys k in
    let e : net_width x + (total_width xs + first_bit ys k) ≡ (net_width x + total_width xs) + first_bit ys k =
    omega arith in
    ap (λ n. first_bit (x ∷ (xs ++ ys)) n) (next_plus (length xs) k) ∙ ap (λ n. net_width x + n) h ∙ e)

first_front : (xs ys : List Net) (k : ℕ) → k < length xs → first_bit (xs ++ ys) k ≡ first_bit xs k
first_front [] ys k h = absurd (omega (arith, h))
first_front (x ∷ xs) ys zero h = refl
first_front (x ∷ xs) ys (suc k) h = ap (λ n. net_width x + n) (first_front xs ys k (omega (arith, h)))

get_behind : {A : Type 0} (xs ys : List A) (k : ℕ) → slice_get (xs ++ ys) (length xs + k) ≡ slice_get ys k
get_behind [] ys k = ap (λ n. slice_get ys n) (nothing_plus k)
get_behind (x ∷ xs) ys k = ap (λ n. slice_get (x ∷ (xs ++ ys)) n) (next_plus (length xs) k) ∙ get_behind xs ys k

get_front : {A : Type 0} (xs ys : List A) (k : ℕ) (x : A) → slice_get xs k ≡ Some x → slice_get (xs ++ ys) k ≡ Some x
get_front [] ys k x h = absurd (cc)
get_front (y ∷ xs) ys zero x h = h
get_front (y ∷ xs) ys (suc k) x h = get_front xs ys k x h

-- the range of a net of the code
range_at : (nets : List NetInfo) (k : ℕ) (n : Net) → slice_get (map net_of nets) k ≡ Some n →
    range_of_net (netlist.net_at nets k) ≡ n.range
range_at [] k n h = absurd (cc)
range_at (x ∷ xs) zero n h = ap (λ (o : Option Net). if_there (range_of_net x) (λ (y : Net). y.range) o) h
range_at (x ∷ xs) (suc k) n h = range_at xs k n h

module _ (nets : List NetInfo) (before after : List Path) (p : Path)
    (are : map net_of nets ≡ nets_of (before ++ p ∷ after)) where
  abbrev from : ℕ
  from = length (nets_of before)

  joined : map net_of nets ≡ nets_of before ++ (nets_at p ++ nets_of after)
  joined = are ∙ flat_map-append nets_at before (p ∷ after)

  module _ (n : Name) (h : HasPlace (nets_in p.of) n) where
    number : net_in (nets_in p.of) from n ≡ from + h.at
    unfolding net_in
    number = ap (λ (o : Option ℕ). if_there from (λ k. from + k) o) (number_is (nets_in p.of) n h)

    there : slice_get (map net_of nets) (from + h.at) ≡ Some (net_at p n)
    there =
        ap (λ (xs : List Net). slice_get xs (from + h.at)) joined
        ∙ get_behind (nets_of before) (nets_at p ++ nets_of after) h.at
        ∙ get_front (nets_at p) (nets_of after) h.at (net_at p n)
        (get_mapped (net_at p) (nets_in p.of) h.at n h.here)

    range_is : (scope_of nets (nets_in p.of) from).range n ≡ (module_scope p.of).range n
    range_is =
        ap (λ k. range_of_net (netlist.net_at nets k)) number ∙ range_at nets (from + h.at) (net_at p n) there

    first_is : (scope_of nets (nets_in p.of) from).first n ≡ total_width (nets_of before) + (module_scope p.of).first n
    first_is =
        ap (λ k. netlist.offset nets k) number
        ∙ ap (λ (xs : List Net). first_bit xs (from + h.at)) joined
        ∙ first_behind (nets_of before) (nets_at p ++ nets_of after) h.at
        ∙ ap (λ k. total_width (nets_of before) + k)
        (first_front (nets_at p) (nets_of after) h.at
        (subst (λ k. h.at < k) (sym (length-map (nets_in p.of) (net_at p))) h.inside) ∙ sym (h.offset_is p))

  -- all names of the module are shifted
  shifted : OfAll (IsShifted (scope_of nets (nets_in p.of) from) (module_scope p.of) (total_width (nets_of before)))
      (nets_in p.of)
  shifted n member =
      let h = has_place (nets_in p.of) n member in
      (range_is n h, first_is n h)

-- the scope of a path by its module's nets and the number of its first
pub record IsBased (nets : List NetInfo) (p : Path) (from : ℕ) : Type 0 where
  pub start : ℕ
  pub shifted : OfAll (IsShifted (scope_of nets (nets_in p.of) from) (module_scope p.of) start) (nets_in p.of)

-- ---- the paths of a design

split_at : (xs : List PathValue) (k : ℕ) (x : PathValue) → slice_get xs k ≡ Some x →
    map path_of xs ≡ take k (map path_of xs) ++ path_of x ∷ drop (suc k) (map path_of xs)
split_at [] k x h = absurd (cc)
split_at (y ∷ ys) zero x h =
    let is : y ≡ x = ap (λ o. if_there y (λ w. w) o) h in
    ap (λ w. path_of w ∷ map path_of ys) is
split_at (y ∷ ys) (suc k) x h = ap (λ ps. path_of y ∷ ps) (split_at ys k x h)

placed_at : (all : List ModuleTree) (xs : List PathValue) (k : ℕ) (x : PathValue) → All (IsPath all) xs →
    slice_get xs k ≡ Some x → IsPlaced all x.of
placed_at all xs k x h is =
    subst (λ (y : PathValue). IsPlaced all y.of) (get_or_is xs k x is) (h k x (get_inside xs k x is)).0

module _ (all : List ModuleTree) (nets : List NetInfo) (paths : List PathValue) (firsts : List ℕ)
    (placed : All (IsPath all) paths) (flat : IsFlat paths (length paths) nets firsts) where
  abbrev ps : List Path
  ps = map path_of paths

  pub one_each : length firsts ≡ length paths
  one_each = ap (λ (ns : List ℕ). length ns) flat.firsts_are ∙ numbered_length (first_of paths) (length paths)

  pub nets_are : map net_of nets ≡ nets_of ps
  nets_are =
      flat.are ∙ ap nets_of (let e = length-map paths path_of in take_all (length paths) ps (omega (arith, e)))

  -- a path has its module's names, and its scope is its module's, shifted
  pub record IsAt (x : PathValue × ℕ) : Type 0 where
    pub names : names_of (map nets_in all) x.0 ≡ nets_in (module_tree x.0.of.module.now)
    pub based : IsBased nets (path_of x.0) x.1

  pub at : (k : ℕ) (x : PathValue × ℕ) → slice_get (zip paths firsts) k ≡ Some x → IsAt x
  at k x here =
      let parts = zip_parts paths firsts k x here in
      let lt = get_inside paths k x.0 parts.0 in
      let number : first_of paths k ≡ x.1 =
      ap (λ (o : Option ℕ). if_there 0 (λ n. n) o)
      (sym (numbered_at (first_of paths) (length paths) k lt)
      ∙ ap (λ (ns : List ℕ). slice_get ns k) (sym flat.firsts_are) ∙ parts.1) in
      let split = nets_are ∙ ap nets_of (split_at paths k x.0 parts.0) in
      record {
        names = ap (λ (o : Option (List Name)). if_there [] (λ ns. ns) o)
            (get_mapped nets_in all x.0.of.place (module_tree x.0.of.module.now)
            (placed_at all paths k x.0 placed parts.0));
        based = subst (λ (n : ℕ). IsBased nets (path_of x.0) n) number
            (record {
              start = total_width (nets_of (take k ps));
              shifted = shifted nets (take k ps) (drop (suc k) ps) (path_of x.0) split;
            });
      }

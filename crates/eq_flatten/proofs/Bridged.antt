-- The scope of an instance by its table and the number of its first net is the one by full names.
use Rattle.std.proofs.Common.{◌≡◌, ℕ, zero, suc, ◌+◌, ◌<◌, Bool, true, cond, List, [], ◌∷◌, ◌++◌, length, map, slice_index_or, Option, Some, None, bytes_eq, ◌||◌, not, nat_lt, refl, arith, sym, ap, subst, ◌∙◌, inl, inr}
use Rattle.std.specs.List.{position_or_len}
use Rattle.std.proofs.lemmas.Bool.{cases_Bool}
use Rattle.std.proofs.lemmas.Slice.Eq.{bytes_eq-Decides}
use Rattle.std.proofs.lemmas.List.{length-append, length-map}
use Rattle.std.proofs.lemmas.List.Concat.{flat_map-append}
use Rattle.eq_model.specs.Nets.{Net, first_bit, net_width, range_width, total_width}
use Rattle.eq_names.specs.Tables.{number_of}
use Rattle.eq_net.specs.declared.types.NetInfo.{NetInfo}
use Rattle.eq_net.specs.Meaning.{if_there}
use Rattle.eq_net.specs.Nets.{net_of, range_of as range_of_net}
use Rattle.eq_net.specs.Net as netlist
use Rattle.eq_verilog.specs.Trees.{Name, ModuleTree}
use Rattle.eq_verilog.specs.Declarations.{has, nets_in, range_of}
use Rattle.eq_verilog.specs.Hierarchy.{Path}
use Rattle.eq_verilog.specs.Nets.{net_at, nets_at, nets_of, full_names, alone, offset, scope_at}
use Rattle.eq_verilog.specs.Firsts.{first_again}
use Rattle.eq_analysis.specs.Finding.{net_in, scope_of}
use Rattle.eq_flatten.proofs.Listing.{first_true}

one_plus : (k : ℕ) → 1 + k ≡ suc k
one_plus k = omega arith

nothing_plus : (k : ℕ) → 0 + k ≡ k
nothing_plus k = omega arith

next_plus : (k l : ℕ) → suc k + l ≡ suc (k + l)
next_plus k l = omega arith

-- a name that a list has stands at its number
record Stands (ns : List Name) (n : Name) : Type 0 where
  at : ℕ
  place : position_or_len (bytes_eq n) ns ≡ at
  inside : at < length ns
  offset_is : (m : ModuleTree) → offset (map (net_at (alone m)) ns) n ≡ first_bit (map (net_at (alone m)) ns) at
  range_is : (p : Path) (d : Net) → (slice_index_or (map (net_at p) ns) at d).range ≡ range_of p.of n

stands : (ns : List Name) (n : Name) → has ns n ≡ true → Stands ns n
stands [] n e = absurd (cc)
stands (k ∷ ns) n e = elim (cases_Bool (bytes_eq n k)) [
  | inl here ↦
      let same : n ≡ k = (bytes_eq-Decides n k).0 here in
      record {
        at = 0;
        place = ap (λ (b : Bool). cond {A = ℕ} (not b) (1 + position_or_len (bytes_eq n) ns) 0) here;
        inside = omega arith;
        offset_is = λ m. ap (λ (b : Bool). cond {A = ℕ} b 0 (range_width (range_of m k) + offset (map (net_at (alone m)) ns) n)) here;
        range_is = λ p d. ap (λ (x : Name). range_of p.of x) (sym same);
      }
  | inr other ↦
      let rest : has ns n ≡ true = sym (ap (λ (b : Bool). b || has ns n) other) ∙ e in
      let s = stands ns n rest in
      record {
        at = suc s.at;
        place = ap (λ (b : Bool). cond {A = ℕ} (not b) (1 + position_or_len (bytes_eq n) ns) 0) other
            ∙ ap (λ k. 1 + k) s.place ∙ one_plus s.at;
        inside = (let i = s.inside in omega (arith, i));
        offset_is = λ m.
            ap (λ (b : Bool). cond {A = ℕ} b 0 (range_width (range_of m k) + offset (map (net_at (alone m)) ns) n)) other
            ∙ ap (λ x. range_width (range_of m k) + x) (s.offset_is m);
        range_is = s.range_is;
      }
]

-- so it has that number
stands_number : (ns : List Name) (n : Name) (s : Stands ns n) → number_of ns n ≡ Some s.at
stands_number ns n s =
    ap (λ k. cond (nat_lt k (length ns)) (Some k) None) s.place
    ∙ ap (λ (b : Bool). cond b (Some s.at) None) (first_true s.at (length ns) s.inside)

-- nets behind others
first_behind : (xs ys : List Net) (k : ℕ) → first_bit (xs ++ ys) (length xs + k) ≡ total_width xs + first_bit ys k
first_behind [] ys k = ap (λ n. first_bit ys n) (nothing_plus k) ∙ sym (nothing_plus (first_bit ys k))
first_behind (x ∷ xs) ys k =
    (let h = first_behind xs ys k in
    let a = ap (λ n. net_width x + n) h in
    ap (λ n. first_bit (x ∷ (xs ++ ys)) n) (next_plus (length xs) k) ∙ a ∙ (let e : net_width x + (total_width xs + first_bit ys k) ≡ (net_width x + total_width xs) + first_bit ys k = omega arith in e))

first_front : (xs ys : List Net) (k : ℕ) → k < length xs → first_bit (xs ++ ys) k ≡ first_bit xs k
first_front [] ys k h = absurd (omega (arith, h))
first_front (x ∷ xs) ys zero h = refl
first_front (x ∷ xs) ys (suc k) h = ap (λ n. net_width x + n) (first_front xs ys k (omega (arith, h)))

at_behind : (xs ys : List Net) (k : ℕ) (d : Net) → slice_index_or (xs ++ ys) (length xs + k) d ≡ slice_index_or ys k d
at_behind [] ys k d = ap (λ n. slice_index_or ys n d) (nothing_plus k)
at_behind (x ∷ xs) ys k d =
    ap (λ n. slice_index_or (x ∷ (xs ++ ys)) n d) (next_plus (length xs) k) ∙ at_behind xs ys k d

at_front : (xs ys : List Net) (k : ℕ) (d : Net) → k < length xs → slice_index_or (xs ++ ys) k d ≡ slice_index_or xs k d
at_front [] ys k d h = absurd (omega (arith, h))
at_front (x ∷ xs) ys zero d h = refl
at_front (x ∷ xs) ys (suc k) d h = at_front xs ys k d (omega (arith, h))

-- where a net begins doesn't depend on the path
first_at : (prefix : Name) (m : ModuleTree) (ns : List Name) (k : ℕ) →
    first_bit (map (net_at (record { prefix = prefix; of = m })) ns) k ≡ first_bit (map (net_at (alone m)) ns) k
first_at prefix m [] k = refl
first_at prefix m (n ∷ ns) zero = refl
first_at prefix m (n ∷ ns) (suc k) = ap (λ x. range_width (range_of m n) + x) (first_at prefix m ns k)

-- the range of a net of the code
range_at : (nets : List NetInfo) (k : ℕ) → k < length nets →
    range_of_net (netlist.net_at nets k) ≡ (slice_index_or (map net_of nets) k (net_of netlist.no_net)).range
range_at [] k h = refl
range_at (x ∷ xs) zero h = refl
range_at (x ∷ xs) (suc k) h = range_at xs k (omega (arith, h))

-- what `offsets_by_path` says
abbrev pub OffsetsByPath : Type 0
OffsetsByPath = (before after : List Path) (p : Path) (n : Name) →
    first_again (full_names (nets_of (before ++ p ∷ after))) ≡ None → has (nets_in p.of) n ≡ true →
    offset (nets_of (before ++ p ∷ after)) (p.prefix ++ n)
    ≡ total_width (nets_of before) + offset (nets_at (alone p.of)) n

module _ (law : OffsetsByPath) (nets : List NetInfo) (before after : List Path) (p : Path) (n : Name)
    (are : map net_of nets ≡ nets_of (before ++ p ∷ after))
    (distinct : first_again (full_names (nets_of (before ++ p ∷ after))) ≡ None)
    (member : has (nets_in p.of) n ≡ true) where
  joined : nets_of (before ++ p ∷ after) ≡ nets_of before ++ (nets_at p ++ nets_of after)
  joined = flat_map-append nets_at before (p ∷ after)

  own : Stands (nets_in p.of) n
  own = stands (nets_in p.of) n member

  abbrev pub from : ℕ
  from = length (nets_of before)

  number : net_in (nets_in p.of) from n ≡ from + own.at
  unfolding net_in
  number = ap (λ (o : Option ℕ). if_there from (λ k. from + k) o) (stands_number (nets_in p.of) n own)

  own_inside : own.at < length (nets_at p)
  own_inside = subst (λ k. own.at < k) (sym (length-map (nets_in p.of) (net_at p))) own.inside

  inside : from + own.at < length nets
  inside =
      (let a = length-map nets net_of in
      let b = ap (λ (xs : List Net). length xs) (are ∙ joined) in
      let c = length-append (nets_of before) (nets_at p ++ nets_of after) in
      let d = length-append (nets_at p) (nets_of after) in
      let e = own_inside in
      omega (arith, a, b, c, d, e))

  -- the net is there
  pub bridge_there : net_in (nets_in p.of) from n < length nets
  bridge_there = subst (λ k. k < length nets) (sym number) inside

  -- it has the range that its module declares
  pub bridge_range : (scope_of nets (nets_in p.of) from).range n ≡ (scope_at (nets_of (before ++ p ∷ after)) p).range n
  bridge_range =
      ap (λ k. range_of_net (netlist.net_at nets k)) number
      ∙ range_at nets (from + own.at) inside
      ∙ ap (λ (xs : List Net). (slice_index_or xs (from + own.at) (net_of netlist.no_net)).range) (are ∙ joined)
      ∙ ap (λ (x : Net). x.range) (at_behind (nets_of before) (nets_at p ++ nets_of after) own.at (net_of netlist.no_net)
      ∙ at_front (nets_at p) (nets_of after) own.at (net_of netlist.no_net) own_inside)
      ∙ own.range_is p (net_of netlist.no_net)

  -- and begins where its full name does
  pub bridge_first : (scope_of nets (nets_in p.of) from).first n ≡ (scope_at (nets_of (before ++ p ∷ after)) p).first n
  bridge_first =
      ap (λ k. netlist.offset nets k) number
      ∙ ap (λ (xs : List Net). first_bit xs (from + own.at)) (are ∙ joined)
      ∙ first_behind (nets_of before) (nets_at p ++ nets_of after) own.at
      ∙ ap (λ k. total_width (nets_of before) + k)
      (first_front (nets_at p) (nets_of after) own.at own_inside ∙ first_at p.prefix p.of (nets_in p.of) own.at
      ∙ sym (own.offset_is p.of))
      ∙ sym (law before after p n distinct member)

-- The ports of a netlist by the numbers of their names: exactly the nets with a direction, in the order of the header.
use Rattle.std.proofs.Common.{◌≡◌, ◌≢◌, ℕ, ◌<◌, ◌==◌, Bool, true, ◌||◌, List, [], ◌∷◌, ◌++◌, length, map, drop, slice_get, slice_index_or, All, AllPairs, Option, Some, None, bytes_eq, refl, sym, ap, ◌∙◌, inl, inr}
use Rattle.std.specs.Prelude.{IsTrue}
use Rattle.std.specs.List.{list_any}
use Rattle.std.proofs.lemmas.Bool.{cases_Bool}
use Rattle.std.proofs.lemmas.Bool.Decides.{Decides-eqb}
use Rattle.std.proofs.lemmas.List.Elements.{All-cons, All-nil}
use Rattle.std.proofs.lemmas.Slice.Eq.{bytes_eq-Decides}
use Rattle.eq_model.specs.Nets.{inner, Net}
use Rattle.eq_net.specs.declared.types.Dir.{Dir as Side}
use Rattle.eq_net.specs.declared.types.Dir.TheVariants.{Inner}
use Rattle.eq_net.specs.declared.types.NetInfo.{NetInfo}
use Rattle.eq_net.specs.Meaning.{if_there}
use Rattle.eq_net.specs.Net.{name_at, net_at, no_net, IsPortNet}
use Rattle.eq_net.specs.Nets.{net_of, side_of}
use Rattle.eq_verilog.specs.Trees.{Name, ModuleTree}
use Rattle.eq_verilog.specs.Declarations.{dir_of, has, nets_in}
use Rattle.eq_verilog.specs.Firsts.{again_after}
use Rattle.eq_verilog.specs.Nets.{alone, nets_at, net_at as net_in_path}
use Rattle.eq_flatten.proofs.Truths.{or_left, or_right}
use Rattle.eq_assembly.proofs.NamesApart.{apart_by, has_first, one_place}
use Rattle.eq_assembly.proofs.TopFaults.{IsTopFine}
use Rattle.eq_assembly.proofs.TopNets.{has_name, net_named, side_inner, AllInner}

-- the rest of two lists of places that agree
first_same : (x y : Option Name) (xs ys : List (Option Name)) → x ∷ xs ≡ y ∷ ys → x ≡ y
first_same x y xs ys e = ap (λ (os : List (Option Name)). slice_index_or os 0 x) e

rest_same : (x y : Option Name) (xs ys : List (Option Name)) → x ∷ xs ≡ y ∷ ys → xs ≡ ys
rest_same x y xs ys e = ap (λ (os : List (Option Name)). drop 1 os) e

same_some : (x y : Name) → Some x ≡ Some y → x ≡ y
same_some x y e = ap (λ (o : Option Name). if_there x (λ (z : Name). z) o) e

inner_side : (d : Side) → d ≡ Inner → side_of d ≡ inner
inner_side d e = ap (λ (x : Side). side_of x) e

module _ (m : ModuleTree) (others : List Net) (nets : List NetInfo)
    (are : map net_of nets ≡ nets_at (alone m) ++ others) where
  abbrev Places : List ℕ → List Name → Type 0
  Places ks ns = map (λ (k : ℕ). slice_get (nets_in m) k) ks ≡ map (λ (n : Name). Some n) ns

  record IsNamed (k : ℕ) (n : Name) : Type 0 where
    there : k < length nets
    name : name_at nets k ≡ n
    dir : side_of (net_at nets k).dir ≡ dir_of m n

  named : (k : ℕ) (n : Name) → slice_get (nets_in m) k ≡ Some n → IsNamed k n
  named k n h =
      let found = net_named (net_in_path (alone m)) others nets (nets_in m) k n are h in
      record {
        there = found.0;
        name = ap (λ (x : Net). x.name) found.1;
        dir = ap (λ (x : Net). x.dir) found.1;
      }

  -- the ports have the names of the header
  pub port_names : (ks : List ℕ) (ns : List Name) → Places ks ns → map (name_at nets) ks ≡ ns
  port_names [] [] h = refl
  port_names [] (n ∷ ns) h = absurd (cc)
  port_names (k ∷ ks) [] h = absurd (cc)
  port_names (k ∷ ks) (n ∷ ns) h =
      let rest = rest_same (slice_get (nets_in m) k) (Some n) (map (λ (i : ℕ). slice_get (nets_in m) i) ks)
      (map (λ (x : Name). Some x) ns) h in
      let here = first_same (slice_get (nets_in m) k) (Some n) (map (λ (i : ℕ). slice_get (nets_in m) i) ks)
      (map (λ (x : Name). Some x) ns) h in
      ap (λ (x : Name). x ∷ map (name_at nets) ks) (named k n here).name
      ∙ ap (λ (xs : List Name). n ∷ xs) (port_names ks ns rest)

  -- each has a direction
  pub ports_sided : (ks : List ℕ) (ns : List Name) → Places ks ns →
      ((n : Name) → has ns n ≡ true → dir_of m n ≡ inner → ⊥) → All (IsPortNet nets) ks
  ports_sided [] ns h sided = All-nil (IsPortNet nets)
  ports_sided (k ∷ ks) [] h sided = absurd (cc)
  ports_sided (k ∷ ks) (n ∷ ns) h sided =
      let rest = rest_same (slice_get (nets_in m) k) (Some n) (map (λ (i : ℕ). slice_get (nets_in m) i) ks)
      (map (λ (x : Name). Some x) ns) h in
      let here = first_same (slice_get (nets_in m) k) (Some n) (map (λ (i : ℕ). slice_get (nets_in m) i) ks)
      (map (λ (x : Name). Some x) ns) h in
      let is = named k n here in
      All-cons (IsPortNet nets) k ks
      (is.there, λ e. sided n (has_first n ns) (sym is.dir ∙ inner_side (net_at nets k).dir e))
      (ports_sided ks ns rest (λ x inside. sided x (or_right (bytes_eq x n) (has ns x) inside)))

  -- none stands twice
  pub ports_apart : (ks : List ℕ) (ns : List Name) → Places ks ns → again_after [] ns ≡ None →
      AllPairs (λ p q. p ≢ q) ks
  ports_apart ks ns h once =
      let names = port_names ks ns h in
      let apart = apart_by (name_at nets) ks []
      (ap (λ (xs : List Name). again_after [] xs) names ∙ once) in
      λ i j d lt within same. apart i j d lt within (ap (λ (k : ℕ). name_at nets k) same)

  module _ (apart : AllPairs (λ (a b : NetInfo). a.name ≢ b.name) nets) where
    -- the number of a name of the header is one of the ports
    among : (k : ℕ) (x : Name) (ks : List ℕ) (ns : List Name) → slice_get (nets_in m) k ≡ Some x → Places ks ns →
        has ns x ≡ true → IsTrue (list_any (λ (p : ℕ). p == k) ks)
    among k x ks [] is h inside = absurd (cc)
    among k x [] (n ∷ ns) is h inside = absurd (cc)
    among k x (p ∷ ks) (n ∷ ns) is h inside =
        let rest = rest_same (slice_get (nets_in m) p) (Some n) (map (λ (i : ℕ). slice_get (nets_in m) i) ks)
        (map (λ (y : Name). Some y) ns) h in
        let here = first_same (slice_get (nets_in m) p) (Some n) (map (λ (i : ℕ). slice_get (nets_in m) i) ks)
        (map (λ (y : Name). Some y) ns) h in
        elim (cases_Bool (bytes_eq x n)) [
          | inl t ↦
              let same : x ≡ n = (bytes_eq-Decides x n).0 t in
              let one = named p n here in
              let two = named k x is in
              let place : p ≡ k =
              one_place (λ (a : NetInfo). a.name) nets apart p k no_net one.there two.there
              (one.name ∙ sym same ∙ sym two.name) in
              or_left (p == k) (list_any (λ (q : ℕ). q == k) ks) ((Decides-eqb p k).1 place)
          | inr f ↦
              or_right (p == k) (list_any (λ (q : ℕ). q == k) ks)
              (among k x ks ns is rest (sym (ap (λ (b : Bool). b || has ns x) f) ∙ inside))
        ]

    -- all nets with a direction are ports
    pub all_sided : (ks : List ℕ) → AllInner others → Places ks m.ports → IsTopFine m → (k : ℕ) → IsPortNet nets k →
        IsTrue (list_any (λ (p : ℕ). p == k) ks)
    all_sided ks inside h fine k port =
        let found = has_name (net_in_path (alone m)) others nets (nets_in m) k are inside port.0 port.1 in
        let is = named k found.0 found.1 in
        among k found.0 ks m.ports found.1 h
        (fine.header found.0 (λ e. port.1 (side_inner (net_at nets k).dir (is.dir ∙ e))))

-- Where the bits of nets stand among all bits.
use Rattle.std.proofs.Common.{◌≡◌, ℕ, zero, suc, ◌+◌, ◌<◌, ◌≤◌, false, List, [], ◌∷◌, map, length, slice_index_or, Option, Some, None, refl, arith, sym, ap, subst, ◌∙◌}
use Rattle.std.proofs.lemmas.List.{get_or_default, length-map}
use Rattle.eq_model.specs.Nets.{range_width, Net, net_width}
use Rattle.eq_model.proofs.Bits.{at_place}
use Rattle.eq_net.specs.declared.types.NetInfo.{NetInfo}
use Rattle.eq_net.specs.Net.{bits_of, net_at, nets_of, no_net, offset}
use Rattle.eq_net.specs.Nets.{net_of, side_of, width_of}
use Rattle.eq_verilog.specs.Declarations.{comes_in}
use Rattle.eq_drivers.specs.inner.Choosing.{comes_from_outside}

-- a net as the design has it
pub mapped_at : (ns : List NetInfo) (i : ℕ) (x : NetInfo) → x ≡ slice_index_or ns i x →
    slice_index_or (map net_of ns) i (net_of x) ≡ net_of x
mapped_at [] i x is = refl
mapped_at (y ∷ ys) zero x is = ap net_of (sym is)
mapped_at (y ∷ ys) (suc i) x is = mapped_at ys i x is

some_bits : (r : Option (ℕ × ℕ)) → 0 < range_width r
some_bits None = omega arith
some_bits (Some r) = omega arith

-- no more nets than bits
pub few_nets : (nets : List NetInfo) → length nets ≤ bits_of nets
few_nets [] = omega arith
few_nets (x ∷ xs) = (let some = some_bits (net_of x).range in let rest = few_nets xs in omega (arith, some, rest))

-- the bits end behind the last net
pub all_offset : (nets : List NetInfo) → offset nets (length nets) ≡ bits_of nets
all_offset [] = refl
all_offset (x ∷ xs) = ap (λ n. width_of x + n) (all_offset xs)

module _ (nets : List NetInfo) (k : ℕ) (x : NetInfo) (lt : k < length nets) (is : x ≡ slice_index_or nets k x) where
  pub same_net : net_at nets k ≡ x
  same_net = get_or_default nets k no_net x lt ∙ sym is

  -- a bit of the net comes from outside where the net does
  pub outside_told : (j n : ℕ) → j < width_of x → n ≡ offset nets k + j →
      comes_in (side_of x.dir) ≡ comes_from_outside nets n
  outside_told j n inside at =
      let size = length-map nets net_of in
      let here = mapped_at nets k x is in
      let placed = at_place false (λ (m : Net) (p : ℕ). comes_in m.dir) (nets_of nets) k j (net_of x)
      (omega (arith, lt, size)) (subst (λ (m : Net). j < net_width m) (sym here) inside) in
      sym (ap (comes_from_outside nets) at ∙ placed.1 ∙ ap (λ (m : Net). comes_in m.dir) here)

  -- a place in the net as the list has it
  pub inside_net : (j w : ℕ) → w ≡ width_of x → j < w → j < width_of (net_at nets k)
  inside_net j w width less =
      subst (λ (n : NetInfo). j < width_of n) (sym same_net) (omega (arith, width, less))

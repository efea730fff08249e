-- The bits of nets by their numbers: net by net, what is left of a number behind the nets before.
use Rattle.std.specs.Fmt.{decimal}
use Rattle.std.proofs.Common.{◌≡◌, ℕ, zero, suc, ◌+◌, ◌-◌, ◌<◌, ◌≤◌, List, [], ◌∷◌, ◌++◌, Bool, true, false, Some, None, length, map, drop, slice_index_or, if◌then◌else◌, refl, arith, sym, ap, subst, ◌∙◌}
use Rattle.std.proofs.lemmas.Bool.{lt-ltb, le-ltb}
use Rattle.std.proofs.lemmas.List.{at_drop_more, append-nil}
use Rattle.eq_model.specs.Nets.{total_width, range_width}
use Rattle.eq_names.specs.declared.BitName.{BitName}
use Rattle.eq_net.specs.declared.types.NetInfo.{NetInfo}
use Rattle.eq_net.specs.Naming.{bit_name as position_name, index_of}
use Rattle.eq_net.specs.Net.{bits_of, offset}
use Rattle.eq_net.specs.Nets.{net_of, range_of, width_of}
use Rattle.eq_verilog.specs.Trees.{Name}
use Rattle.eq_verilog.specs.Nets.{bit_name, index_text}
use Rattle.eq_elab.specs.inner.Naming.{AreBits}

-- ---- names

abbrev pub name_from : List NetInfo → ℕ → Name
name_from ns b = bit_name (map net_of ns) b

-- the name of a bit of the first net
pub name_here : (x : NetInfo) (ns : List NetInfo) (b : ℕ) → b < width_of x →
    name_from (x ∷ ns) b ≡ x.name ++ index_text (range_of x) b
name_here x ns b lt =
    ap (λ (t : Bool). if t then x.name ++ index_text (range_of x) b else name_from ns (b - width_of x))
    (lt-ltb b (width_of x) lt)

-- that of a bit behind it
pub name_behind : (x : NetInfo) (ns : List NetInfo) (b : ℕ) → width_of x ≤ b →
    name_from (x ∷ ns) b ≡ name_from ns (b - width_of x)
name_behind x ns b le =
    ap (λ (t : Bool). if t then x.name ++ index_text (range_of x) b else name_from ns (b - width_of x))
    (le-ltb b (width_of x) le)

by_ranged : (r : Bool) (x : NetInfo) (p : ℕ) →
    (if r then x.name ++ 0x5B ∷ (decimal (index_of x p) ++ 0x5D ∷ []) else x.name)
    ≡ x.name ++ index_text (if r then Some (x.left, x.right) else None) p
by_ranged true x p = refl
by_ranged false x p = sym (append-nil x.name)

-- the name of a position is the net's name with its index
pub named_by : (x : NetInfo) (p : ℕ) → position_name x p ≡ x.name ++ index_text (range_of x) p
named_by x p = by_ranged x.ranged x p

-- what is still to be gone through while a bit is looked for
pub record IsSought (nets : List NetInfo) (b i left : ℕ) : Type 0 where
  pub same : name_from nets b ≡ name_from (drop i nets) left
  pub there : left < total_width (map net_of (drop i nets))
  pub fits : left ≤ b

pub sought_first : (nets : List NetInfo) (b : ℕ) → b < bits_of nets → IsSought nets b 0 b
sought_first nets b lt = record { same = refl; there = lt; fits = omega arith }

-- the nets from one on
split : (nets : List NetInfo) (i : ℕ) (x : NetInfo) → i < length nets → x ≡ slice_index_or nets i x →
    {Y : Type 0} (F : List NetInfo → Y) → F (drop i nets) ≡ F (x ∷ drop (i + 1) nets)
split nets i x lt is F =
    at_drop_more F nets i x lt ∙ ap (λ (y : NetInfo). F (y ∷ drop (i + 1) nets)) (sym is)

pub sought_next : (nets : List NetInfo) (b i left : ℕ) (x : NetInfo) → i < length nets → x ≡ slice_index_or nets i x →
    width_of x ≤ left → IsSought nets b i left → IsSought nets b (i + 1) (left - width_of x)
sought_next nets b i left x lt is le h =
    let all = split nets i x lt is (λ ns. total_width (map net_of ns)) in
    let there = h.there in
    let fits = h.fits in
    record {
      same = h.same ∙ split nets i x lt is (λ ns. name_from ns left) ∙ name_behind x (drop (i + 1) nets) left le;
      there = omega (arith, all, there, le);
      fits = omega (arith, fits);
    }

pub sought_here : (nets : List NetInfo) (b i left : ℕ) (x : NetInfo) → i < length nets → x ≡ slice_index_or nets i x →
    left < width_of x → IsSought nets b i left → name_from nets b ≡ position_name x left
sought_here nets b i left x lt is less h =
    h.same ∙ split nets i x lt is (λ ns. name_from ns left) ∙ name_here x (drop (i + 1) nets) left less
    ∙ sym (named_by x left)

none_left : (nets : List NetInfo) (i : ℕ) → length nets ≤ i → total_width (map net_of (drop i nets)) ≡ 0
none_left [] zero le = refl
none_left [] (suc i) le = refl
none_left (x ∷ xs) zero le = absurd (omega (arith, le))
none_left (x ∷ xs) (suc i) le = none_left xs i (omega (arith, le))

-- behind the last net nothing is sought
pub sought_nowhere : (nets : List NetInfo) (b i left : ℕ) → length nets ≤ i → IsSought nets b i left → ⊥
sought_nowhere nets b i left le h =
    let none = none_left nets i le in
    let there = h.there in
    omega (arith, none, there)

-- ---- numbers

by_width : (r : Bool) (w : ℕ × ℕ) → 0 < range_width (if r then Some w else None)
by_width true w = omega arith
by_width false w = omega arith

-- each net has a bit
wide : (x : NetInfo) → 0 < width_of x
wide x = by_width x.ranged (x.left, x.right)

-- so there are no more nets than bits
pub nets_few : (nets : List NetInfo) → length nets ≤ bits_of nets
nets_few [] = omega arith
nets_few (x ∷ xs) =
    let one = wide x in
    let rest = nets_few xs in
    omega (arith, one, rest)

-- a net is no wider than all
pub width_few : (nets : List NetInfo) (k : ℕ) (x : NetInfo) → k < length nets → x ≡ slice_index_or nets k x →
    width_of x ≤ bits_of nets
width_few [] k x lt is = absurd (omega (arith, lt))
width_few (y ∷ ys) zero x lt is =
    let same = ap (λ (z : NetInfo). width_of z) is in
    omega (arith, same)
width_few (y ∷ ys) (suc k) x lt is =
    let rest = width_few ys k x (omega (arith, lt)) is in
    omega (arith, rest)

pub offset_end : (nets : List NetInfo) → offset nets (length nets) ≡ bits_of nets
offset_end [] = refl
offset_end (x ∷ xs) = ap (λ n. width_of x + n) (offset_end xs)

-- no bits yet
pub bits_none : (nets : List NetInfo) (names : List BitName) → names ≡ [] → offset nets 0 ≡ 0 →
    AreBits nets names (offset nets 0)
bits_none nets names none first = record {
  size = ap (λ (ns : List BitName). length ns) none ∙ sym first;
  there = λ b lt. absurd (omega (arith, lt, first));
  numbers = λ b lt. absurd (omega (arith, lt, first));
}

-- the bits of all nets
pub bits_all : (nets : List NetInfo) (names : List BitName) (k : ℕ) → k ≡ length nets →
    AreBits nets names (offset nets k) → AreBits nets names (bits_of nets)
bits_all nets names k all h =
    subst (λ (n : ℕ). AreBits nets names n) (ap (λ j. offset nets j) all ∙ offset_end nets) h

-- The net of a bit, and that of a clock.
use Rattle.std.proofs.Common.{◌≡◌, ℕ, zero, suc, ◌+◌, ◌-◌, ◌<◌, ◌≤◌, Bool, true, false, ◌&&◌, cond, List, [], ◌∷◌, length, map, Option, Some, None, refl, arith, sym, ap, ◌∙◌, inl, inr}
use Rattle.std.specs.Prelude.{is_none}
use Rattle.std.proofs.lemmas.Bool.{cases_lt, lt-ltb, le-ltb}
use Rattle.eq_model.specs.Nets.{at_bit, range_width, total_width, Net}
use Rattle.eq_net.specs.declared.types.Dir.{Dir as Side}
use Rattle.eq_net.specs.declared.types.Dir.TheVariants.{Inner, Input, Output}
use Rattle.eq_net.specs.declared.types.NetInfo.{NetInfo}
use Rattle.eq_net.specs.Net.{bits_of, net_at, offset, IsClock}
use Rattle.eq_net.specs.Nets.{net_of, range_of, side_of, width_of}
use Rattle.eq_verilog.specs.Declarations.{comes_in}
use Rattle.eq_flatten.proofs.Truths.{and_true}
use Rattle.eq_assembly.specs.inner.Numbers.{IsNetOf}

-- what is asked of a bit is asked of its net
pub asked_of : {A : Type 0} (o : A) (f : Net → A) (nets : List NetInfo) (b k : ℕ) → IsNetOf nets b k →
    at_bit o (λ n p. f n) (map net_of nets) b ≡ f (net_of (net_at nets k))
asked_of o f [] b k is = absurd (let lt = is.there in omega (arith, lt))
asked_of o f (x ∷ xs) b zero is =
    ap (λ (t : Bool). cond t (f (net_of x)) (at_bit o (λ n p. f n) (map net_of xs) (b - width_of x)))
    (lt-ltb b (width_of x) (let e = is.ends in omega (arith, e)))
asked_of o f (x ∷ xs) b (suc k) is =
    let s = is.starts in
    let e = is.ends in
    let t = is.there in
    ap (λ (t : Bool). cond t (f (net_of x)) (at_bit o (λ n p. f n) (map net_of xs) (b - width_of x)))
    (le-ltb b (width_of x) (omega (arith, s)))
    ∙ asked_of o f xs (b - width_of x) k
    (record { there = omega (arith, t); starts = omega (arith, s); ends = omega (arith, s, e) })

-- a bit of which something is asked is there
pub bit_there : (f : Net → Bool) (nets : List Net) (b : ℕ) → at_bit false (λ n p. f n) nets b ≡ true →
    b < total_width nets
bit_there f [] b h = absurd (cc)
bit_there f (n ∷ ns) b h = elim (cases_lt b (range_width n.range)) [
  | inl less ↦ omega (arith, less)
  | inr more ↦
      let rest = bit_there f ns (b - range_width n.range)
      (sym (ap (λ (t : Bool). cond t (f n) (at_bit false (λ n p. f n) ns (b - range_width n.range)))
      (le-ltb b (range_width n.range) more)) ∙ h) in
      omega (arith, more, rest)
]

input_side : (d : Side) → comes_in (side_of d) ≡ true → d ≡ Input
input_side Inner e = absurd (cc)
input_side Input e = refl
input_side Output e = absurd (cc)

one_wide : (r : Option (ℕ × ℕ)) → is_none r ≡ true → range_width r ≡ 1
one_wide None e = refl
one_wide (Some r) e = absurd (cc)

abbrev pub clocks : Net → Bool
clocks n = comes_in n.dir && is_none n.range

-- the net of a bit that may be the clock is an input of one bit
pub clock_net : (nets : List NetInfo) (b k : ℕ) → IsNetOf nets b k →
    at_bit false (λ n p. clocks n) (map net_of nets) b ≡ true → IsClock nets k
clock_net nets b k is h =
    let x = net_at nets k in
    let both = and_true (comes_in (side_of x.dir)) (is_none (range_of x)) (sym (asked_of false clocks nets b k is) ∙ h) in
    (is.there, one_wide (range_of x) both.1, input_side x.dir both.0)

-- ---- a walk

some_bit : (r : Option (ℕ × ℕ)) → 1 ≤ range_width r
some_bit None = omega arith
some_bit (Some r) = omega arith

pub one_bit : (n : NetInfo) → 1 ≤ width_of n
one_bit n = some_bit (range_of n)

pub no_offset : (nets : List NetInfo) → offset nets 0 ≡ 0
no_offset [] = refl
no_offset (x ∷ xs) = refl

pub last_offset : (nets : List NetInfo) → offset nets (length nets) ≡ bits_of nets
last_offset [] = refl
last_offset (x ∷ xs) = ap (λ (n : ℕ). width_of x + n) (last_offset xs)

-- What is tested along the bits of operands, in the words of numbers.
use Rattle.std.proofs.Common.{◌≡◌, ℕ, zero, suc, ◌+◌, ◌<◌, List, Bool, true, false, not, ◌&&◌, ◌||◌, cond, slice_index_or, refl, arith, sym, ap, subst, ◌∙◌}
use Rattle.eq_net.specs.declared.cells.gates.Cell.{Cell}
use Rattle.eq_net.specs.declared.cells.gates.Kind.{Kind}
use Rattle.eq_net.specs.declared.cells.gates.Kind.TheVariants as kind_of
use Rattle.eq_net.specs.Numbers.{Digits, all_ones, differ, parity, some_one}
use Rattle.eq_net.specs.Operators.{one_bit}
use Rattle.eq_net.specs.Ripples.{less, same}
use Rattle.eq_net.specs.inner.Cells.{Valuation, Computes, Gives, Grown, Performs, Written, seen}
use Rattle.eq_net.specs.inner.CellSteps.{folded}
use Rattle.eq_net.proofs.Cellular.{performs_same}

pub folded_less : (n : ℕ) (a b : Digits) → folded kind_of.Less false n a b ≡ less a b n
folded_less zero a b = refl
folded_less (suc n) a b = ap (λ t. cond {A = Bool} (differ (a n) (b n)) (b n) t) (folded_less n a b)

pub folded_equal : (n : ℕ) (a b : Digits) → folded kind_of.Equal true n a b ≡ same a b n
folded_equal zero a b = refl
folded_equal (suc n) a b = ap (λ t. t && not (differ (a n) (b n))) (folded_equal n a b)

pub folded_or : (n : ℕ) (a b : Digits) → folded kind_of.Or false n a b ≡ some_one n a
folded_or zero a b = refl
folded_or (suc n) a b = ap (λ t. t || a n) (folded_or n a b)

pub folded_and : (n : ℕ) (a b : Digits) → folded kind_of.And true n a b ≡ all_ones n a
folded_and zero a b = refl
folded_and (suc n) a b = ap (λ t. t && a n) (folded_and n a b)

pub folded_xor : (n : ℕ) (a b : Digits) → folded kind_of.Xor false n a b ≡ parity n a
folded_xor zero a b = refl
folded_xor (suc n) a b = ap (λ t. differ t (a n)) (folded_xor n a b)

-- one cell is left
pub performs_one : (to m : ℕ) (f : Valuation → Bool) (c0 c1 : List Cell) (s0 s1 : List ℕ) → Grown c0 c1 → Written to 1 s0 s1 → ((j : ℕ) → j < 1 → slice_index_or s1 (to + j) 0 ≡ m) →
    Gives c1 m f → Performs 1 to (λ v. one_bit (f v)) c0 c1 s0 s1
performs_one to m f c0 c1 s0 s1 grown written at i = record { grown = grown; written = written; spells = here }
  where
    here : (j : ℕ) → j < 1 → Gives c1 (slice_index_or s1 (to + j) 0) (λ v. one_bit (f v) j)
    here zero lt = (let P : ℕ → Type 0 = λ n. Gives c1 n f in subst P (sym (at 0 (omega arith))) i)
    here (suc j) lt = absurd (omega arith)

-- a test along the bits, where the start is a constant
pub tested : (kind : Kind) (negate s : Bool) (count start left right to : ℕ) (c0 c1 : List Cell) (s0 s1 : List ℕ) (T : Valuation → Bool) →
    ((v : Valuation) → Computes c1 v → v.cells start ≡ s) →
    ((v : Valuation) → folded kind s count (seen v s0 left) (seen v s0 right) ≡ T v) →
    Performs 1 to (λ v. one_bit (differ negate (folded kind (v.cells start) count (seen v s0 left) (seen v s0 right)))) c0 c1 s0 s1 →
    Performs 1 to (λ v. one_bit (differ negate (T v))) c0 c1 s0 s1
tested kind negate s count start left right to c0 c1 s0 s1 T value same p =
    performs_same 1 1 to (λ v. one_bit (differ negate (folded kind (v.cells start) count (seen v s0 left) (seen v s0 right)))) (λ v. one_bit (differ negate (T v))) c0 c1 s0 s1 refl
    (λ v c j lt. ap (λ t. one_bit (differ negate (folded kind t count (seen v s0 left) (seen v s0 right))) j) (value v c) ∙ ap (λ t. one_bit (differ negate t) j) (same v)) p

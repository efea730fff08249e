-- What cells give stays as cells are added, and one more cell gives what it computes.
use Rattle.std.proofs.Common.{◌≡◌, ℕ, ◌+◌, ◌<◌, ◌≤◌, ◌^◌, ◌++◌, ◌∷◌, [], List, Bool, length, slice_index_or, arith, ap, subst, sym, ◌∙◌, length-append, Result, Ok, Err, OnOk, IfOk}
use Rattle.std.proofs.Math.ListN.{get_or-append}
use Rattle.std.proofs.Math.Seq.{get_or-append_seam}
use Rattle.eq_net.specs.declared.cells.gates.Cell.{Cell}
use Rattle.eq_net.specs.declared.cells.gates.Cell.TheVariants.{Bit}
use Rattle.eq_net.specs.Numbers.{Digits}
use Rattle.eq_net.specs.inner.Cells.{Valuation, Computes, Gives, Grown, Performs, Spells, Written, cell_at, computed}

-- nothing is added
pub grown_none : (cells : List Cell) → Grown cells cells
grown_none cells = record { before = λ v c. c }

pub grown_twice : (a b c : List Cell) → Grown a b → Grown b c → Grown a c
grown_twice a b c g h = record { before = λ v e. g.before v (h.before v e) }

pub gives_still : (old new : List Cell) → Grown old new → (m : ℕ) (f : Valuation → Bool) → Gives old m f → Gives new m f
gives_still old new g m f i = record { value = λ v c. i.value v (g.before v c) }

module _ (old new : List Cell) (cell : Cell) (is : new ≡ old ++ cell ∷ []) where
  longer : length new ≡ length old + 1
  longer = (let a = ap length is in let b = length-append old (cell ∷ []) in omega arith)

  front : (k : ℕ) → k < length old → cell_at new k ≡ cell_at old k
  front k lt = ap (λ (cs : List Cell). cell_at cs k) is ∙ get_or-append old (cell ∷ []) (Bit 0) k lt

  last : cell_at new (length old) ≡ cell
  last = ap (λ (cs : List Cell). cell_at cs (length old)) is ∙ get_or-append_seam old cell [] (Bit 0)

  -- one cell more
  pub grown_one : Grown old new
  grown_one = record {
    before = λ v c. record {
      few = (let l = longer in let f = c.few in omega arith);
      false_first = c.false_first;
      then_true = c.then_true;
      each = λ k lt. c.each k (let l = longer in omega arith) ∙ ap (computed v) (front k lt);
    };
  }

  pub gives_one : (m : ℕ) → (2 + length old < 2 ^ 32 → m ≡ 2 + length old) → Gives new m (λ v. computed v cell)
  gives_one m at = record {
    value = λ v c. ap v.cells (at (let l = longer in let f = c.few in omega arith)) ∙ c.each (length old) (let l = longer in omega arith) ∙ ap (computed v) last;
  }

-- ---- the stack

-- what stands on top is moved down
pub performs_moved : (w top to : ℕ) (f : Valuation → Digits) (c0 c1 : List Cell) (s0 s1 s2 : List ℕ) → to ≤ top → Grown c0 c1 → Written top w s0 s1 → Spells c1 s1 top w f →
    Written to w s1 s2 → ((j : ℕ) → j < w → slice_index_or s2 (to + j) 0 ≡ slice_index_or s1 (top + j) 0) → Performs w to f c0 c1 s0 s2
performs_moved w top to f c0 c1 s0 s1 s2 le grown written spells down moved = record {
  grown = grown;
  written = record { size = down.size; kept = λ i lt. down.kept i lt ∙ written.kept i (omega arith) };
  spells = λ j lt. (let P : ℕ → Type 0 = λ n. Gives c1 n (λ v. f v j) in subst P (sym (moved j lt)) (spells j lt));
}

-- the same, said in another way
pub performs_same : (w u from : ℕ) (f h : Valuation → Digits) (c0 c1 : List Cell) (s0 s1 : List ℕ) → w ≡ u →
    ((v : Valuation) → Computes c1 v → (j : ℕ) → j < w → f v j ≡ h v j) → Performs w from f c0 c1 s0 s1 → Performs u from h c0 c1 s0 s1
performs_same w u from f h c0 c1 s0 s1 width values p = record {
  grown = p.grown;
  written = record { size = (let s = p.written.size in omega arith); kept = p.written.kept };
  spells = λ j lt. record { value = λ v c. (p.spells j (omega arith)).value v c ∙ values v c j (omega arith) };
}

-- of an answer, or of none
pub on_ok_all : {T E : Type 0} {P : Type 0} (r : Result T E) → P → OnOk r P
on_ok_all (Ok x) p = p
on_ok_all (Err e) p = tt

pub with_both : {T E : Type 0} {P : Type 0} (r : Result T E) (Q R : T → Type 0) → ((x : T) → P → Q x → R x) → OnOk r P → IfOk r Q → IfOk r R
with_both (Ok x) Q R f p q = f x p q
with_both (Err e) Q R f p q = tt

pub ok_both : {T E : Type 0} {P Q R : Type 0} (r : Result T E) → (P → Q → R) → OnOk r P → OnOk r Q → OnOk r R
ok_both (Ok x) f p q = f p q
ok_both (Err e) f p q = tt

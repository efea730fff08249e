-- With numbers that don't fall along edges a cycle stays among nodes of one number.
use Rattle.std.proofs.Common.{◌≡◌, ℕ, zero, suc, ◌+◌, ◌<◌, ◌≤◌, List, length, slice_index, arith, sym, subst, ap, ◌∙◌, inl, inr}
use Rattle.std.proofs.lemmas.Bool.Decides.{eqb_tells}
use Rattle.eq_reads.specs.declared.graph.Edge.{Edge}
use Rattle.eq_reads.specs.Graph.{Joins, from_at, to_at}
use Rattle.eq_loops.specs.Components.{NeverFall}
use Rattle.eq_loops.specs.inner.Back.{AreClear, Passes}

-- where along one of the first k edges the numbers stay, it begins at `first` or behind it
pub record AreSuspects (edges : List Edge) (numbers : List ℕ) (bits first k : ℕ) : Type 0 where
  pub most : first ≤ bits
  pub later : (e : ℕ) → e < k → slice_index numbers (from_at edges e) ≡ slice_index numbers (to_at edges e) →
      first ≤ from_at edges e

pub suspects_none : (edges : List Edge) (numbers : List ℕ) (bits : ℕ) → AreSuspects edges numbers bits bits 0
suspects_none edges numbers bits = record {
  most = omega arith;
  later = λ e lt. absurd (omega arith);
}

-- one more edge was looked at
pub suspects_more : (edges : List Edge) (numbers : List ℕ) (bits first next k : ℕ) → AreSuspects edges numbers bits first k →
    next ≤ first → (slice_index numbers (from_at edges k) ≡ slice_index numbers (to_at edges k) → next ≤ from_at edges k) →
    AreSuspects edges numbers bits next (k + 1)
suspects_more edges numbers bits first next k before le later =
    let most = before.most in
    record {
      most = omega arith;
      later = λ e lt. elim (eqb_tells e k) [
        | inl at ↦ subst (λ (u : ℕ). slice_index numbers (from_at edges u) ≡ slice_index numbers (to_at edges u) → next ≤ from_at edges u)
            (sym at.1) later
        | inr ne ↦ (λ is. let apart = ne.1 in let old = before.later e (omega arith) is in omega arith)
      ];
    }

along : (edges : List Edge) (numbers : List ℕ) → NeverFall edges numbers → (a c : ℕ) → Joins edges a c →
    slice_index numbers a ≤ slice_index numbers c
along edges numbers rise a c j =
    subst (λ (u : ℕ). slice_index numbers u ≤ slice_index numbers c) j.starts
    (subst (λ (u : ℕ). slice_index numbers (from_at edges j.edge) ≤ slice_index numbers u) j.ends (rise j.edge j.there))

passed : (edges : List Edge) (numbers : List ℕ) → NeverFall edges numbers → (n a b : ℕ) → Passes edges n a b →
    slice_index numbers a ≤ slice_index numbers b
passed edges numbers rise zero a b is = subst (λ (u : ℕ). slice_index numbers a ≤ slice_index numbers u) is (omega arith)
passed edges numbers rise (suc n) a b (c, j, way) =
    let one = along edges numbers rise a c j in
    let more = passed edges numbers rise n c b way in
    omega arith

all_clear : (edges : List Edge) (numbers : List ℕ) (bits first : ℕ) → NeverFall edges numbers →
    AreSuspects edges numbers bits first (length edges) → AreClear edges first
all_clear edges numbers bits first rise all b lt n (c, j, way) =
    let one = along edges numbers rise b c j in
    let more = passed edges numbers rise n c b way in
    let same : slice_index numbers b ≡ slice_index numbers c = omega arith in
    let at = j.starts in
    let is : slice_index numbers (from_at edges j.edge) ≡ slice_index numbers (to_at edges j.edge) =
    ap (λ (u : ℕ). slice_index numbers u) j.starts ∙ same ∙ sym (ap (λ (u : ℕ). slice_index numbers u) j.ends) in
    let behind = all.later j.edge j.there is in
    absurd (omega arith)

-- when all edges were looked at, no node before the first suspect is on a cycle
pub suspects_clear : (edges : List Edge) (numbers : List ℕ) (bits first k : ℕ) → NeverFall edges numbers →
    length edges ≤ k → AreSuspects edges numbers bits first k → AreClear edges first
suspects_clear edges numbers bits first k rise le all = all_clear edges numbers bits first rise (record {
  most = all.most;
  later = λ e lt is. all.later e (omega arith) is;
})

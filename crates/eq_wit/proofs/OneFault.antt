-- A text has one fault at most, and the text of an evidence has none.
use Rattle.std.proofs.Common.{◌≡◌, ℕ, ◌<◌, List, arith, refl, subst, inl, inr}
use Rattle.std.proofs.lemmas.Bool.{cases_lt}
use Rattle.eq_proof.specs.Text.{IsFirstBadLine}
use Rattle.eq_wit.specs.declared.types.WitKind.{WitKind}
use Rattle.eq_wit.specs.declared.types.WitKind.TheVariants as kind
use Rattle.eq_wit.specs.Faults.{HasKind, IsEvidenceText, OneFault}

no_earlier : (IsText : List ℕ → Type 0) (text : List ℕ) (m n : ℕ) → IsFirstBadLine IsText text m →
    IsFirstBadLine IsText text n → m < n → ⊥
no_earlier IsText text m n p q less =
    let good = q.begins in
    p.breaks good.0 good.1 (λ k below. good.2 k (omega arith))

one_line : (IsText : List ℕ → Type 0) (text : List ℕ) (m n : ℕ) → IsFirstBadLine IsText text m →
    IsFirstBadLine IsText text n → m ≡ n
one_line IsText text m n p q =
    elim (cases_lt m n) [
      | inl less ↦ absurd (no_earlier IsText text m n p q less)
      | inr more ↦ elim (cases_lt n m) [
        | inl less ↦ absurd (no_earlier IsText text n m q p less)
        | inr same ↦ omega arith
      ]
    ]

-- a line has one kind at most
one_kind : (text : List ℕ) (line : ℕ) (a b : WitKind) → HasKind text line a → HasKind text line b → a ≡ b
one_kind text line kind.Head kind.Head h k = refl
one_kind text line kind.Head kind.Word h k = absurd (k.0 h)
one_kind text line kind.Head kind.Number h k = absurd (k.0 h)
one_kind text line kind.Head kind.End h k = absurd (k.0 h)
one_kind text line kind.Word kind.Head h k = absurd (h.0 k)
one_kind text line kind.Word kind.Word h k = refl
one_kind text line kind.Word kind.Number h k = absurd (h.2 k.2)
one_kind text line kind.Word kind.End h k = absurd (h.1 k.1)
one_kind text line kind.Number kind.Head h k = absurd (h.0 k)
one_kind text line kind.Number kind.Word h k = absurd (k.2 h.2)
one_kind text line kind.Number kind.Number h k = refl
one_kind text line kind.Number kind.End h k = absurd (h.1 k.1)
one_kind text line kind.End kind.Head h k = absurd (h.0 k)
one_kind text line kind.End kind.Word h k = absurd (k.1 h.1)
one_kind text line kind.End kind.Number h k = absurd (k.1 h.1)
one_kind text line kind.End kind.End h k = refl

pub one_fault : OneFault
one_fault = record {
  line = λ text m n a b h k. one_line IsEvidenceText text m n h.first k.first;
  kind = λ text m n a b h k.
      let same : m ≡ n = one_line IsEvidenceText text m n h.first k.first in
      one_kind text n a b (subst (λ (line : ℕ). HasKind text line a) same h.kind_is) k.kind_is;
  never_both = λ text m a h k. k.first.breaks text h (λ i below. refl);
}

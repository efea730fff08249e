-- What operations make of the nodes of their operands, by their shapes.
use Rattle.std.proofs.Common.{◌≡◌, ℕ, zero, suc, ◌+◌, ◌-◌, ◌<◌, ◌≤◌, ◌↔◌, List, false, length, refl, arith, sym, subst, inl, inr}
use Rattle.std.proofs.lemmas.Bool.{cases_lt}
use Rattle.eq_net.specs.declared.types.WordOp.{WordOp}
use Rattle.eq_net.specs.declared.types.WordOp.TheVariants as op
use Rattle.eq_net.specs.Meaning.{result_size}
use Rattle.eq_net.specs.Operators.{has_free_sizes}
use Rattle.eq_reads.specs.declared.graph.Nodes.{Nodes}
use Rattle.eq_reads.specs.declared.operators.Shape.TheVariants as shape
use Rattle.eq_reads.specs.Words.{AreNodes, AreThere, LeadsTo, number_at}
use Rattle.eq_reads.specs.inner.Leading.{DownLeads, NodesGrew, PairLeads, RowGrew, SomeLeads, UpLeads}
use Rattle.eq_reads.specs.inner.Shapes.{AllLead, IsPaired, OperandsLead, shape_of, size_of}
use Rattle.eq_reads.proofs.Grown.{none_leads, one_leads}
use Rattle.eq_reads.proofs.Rows.{row_still}

pub size_of_shape : (o : WordOp) (m : ℕ) → size_of (shape_of o) m ≡ result_size o m
size_of_shape op.And m = refl
size_of_shape op.Or m = refl
size_of_shape op.Xor m = refl
size_of_shape op.Xnor m = refl
size_of_shape op.Add m = refl
size_of_shape op.Sub m = refl
size_of_shape op.Shl m = refl
size_of_shape op.Shr m = refl
size_of_shape op.Eq m = refl
size_of_shape op.Ne m = refl
size_of_shape op.Lt m = refl
size_of_shape op.Le m = refl
size_of_shape op.Gt m = refl
size_of_shape op.Ge m = refl
size_of_shape op.LogAnd m = refl
size_of_shape op.LogOr m = refl

pub paired_sizes : (o : WordOp) → IsPaired (shape_of o) → has_free_sizes o ≡ false
paired_sizes op.And p = refl
paired_sizes op.Or p = refl
paired_sizes op.Xor p = refl
paired_sizes op.Xnor p = refl
paired_sizes op.Add p = refl
paired_sizes op.Sub p = refl
paired_sizes op.Shl p = absurd p
paired_sizes op.Shr p = absurd p
paired_sizes op.Eq p = absurd p
paired_sizes op.Ne p = absurd p
paired_sizes op.Lt p = absurd p
paired_sizes op.Le p = absurd p
paired_sizes op.Gt p = absurd p
paired_sizes op.Ge p = absurd p
paired_sizes op.LogAnd p = absurd p
paired_sizes op.LogOr p = absurd p

-- the same places, said otherwise
pub some_same : (s : Nodes) (row : List ℕ) (l h k m c : ℕ) → l ≡ k → h ≡ m → SomeLeads s row l h c → SomeLeads s row k
    m c
some_same s row l h k m c low high i = (let x = i.from_low in let y = i.to_high in record {
  place = i.place;
  from_low = omega arith;
  to_high = omega arith;
  leads = i.leads;
})

-- some of the places of a row that another begins with
pub some_still : (s : Nodes) (row : List ℕ) (now : Nodes) (after : List ℕ) (low high l h c : ℕ) → AreNodes s →
    NodesGrew s now → AreThere s row → high ≤ length row →
    ((p : ℕ) → p < high → number_at after p ≡ number_at row p) → low ≡ l → high ≡ h → SomeLeads now after low high c ↔
    SomeLeads s row l h c
some_still s row now after low high l h c are grew there le kept is_low is_high = (
  λ i. (
      let x = i.from_low in
      let y = i.to_high in
      record {
        place = i.place;
        from_low = omega arith;
        to_high = omega arith;
        leads = (row_still s now row after i.place c are grew (there i.place (omega arith))
            (kept i.place i.to_high)).0 i.leads;
      }),
  λ i. (
      let x = i.from_low in
      let y = i.to_high in
      record {
        place = i.place;
        from_low = omega arith;
        to_high = omega arith;
        leads = (row_still s now row after i.place c are grew (there i.place (omega arith))
            (kept i.place (omega arith))).1 i.leads;
      }),
)

module _ (s : Nodes) (row : List ℕ) (left right : ℕ) where
  -- one place of each operand
  pub same_leads : (j c : ℕ) → PairLeads s row left right j c ↔ OperandsLead shape.Same s row left right j c
  same_leads j c =
      let a = one_leads s row (left + j) (left + suc j) c (omega arith) in
      let b = one_leads s row (right + j) (right + suc j) c (omega arith) in (
        λ e. elim e [ inl l ↦ inl (a.0 l) | inr l ↦ inr (b.0 l) ],
        λ e. elim e [ inl i ↦ inl (a.1 i) | inr i ↦ inr (b.1 i) ],
      )

  -- all places of one operation, which has one
  pub whole_leads : (j c : ℕ) → left ≤ right → right ≤ length row → j < 1 → AllLead s row left j c ↔ OperandsLead
      shape.Whole s row left right j c
  whole_leads zero c lr rl lt = (
    λ i. (
        let x = i.from_low in
        let y = i.to_high in
        elim (cases_lt i.place right) [
          | inl less ↦ inl (record { place = i.place; from_low = omega arith; to_high = omega arith; leads = i.leads })
          | inr more ↦ inr (record { place = i.place; from_low = omega arith; to_high = omega arith; leads = i.leads })
        ]),
    λ e. elim e [
      | inl i ↦ (let x = i.from_low in let y = i.to_high in record {
        place = i.place;
        from_low = omega arith;
        to_high = omega arith;
        leads = i.leads;
      })
      | inr i ↦ (let x = i.from_low in let y = i.to_high in record {
        place = i.place;
        from_low = omega arith;
        to_high = omega arith;
        leads = i.leads;
      })
    ],
  )
  whole_leads (suc j) c lr rl lt = absurd (omega arith)

  -- all up to a place of each operand, after these were paired
  module _ (t : Nodes) (mid : List ℕ) (f : RowGrew s row t mid left (right - left) (PairLeads s row left right)) where
    pub lower_leads : (j c : ℕ) → j < right - left → UpLeads t mid left s.none j c ↔ OperandsLead shape.Lower s row
        left right j c
    lower_leads j c lt = (
      λ e. elim e [
        | inl l ↦ absurd (none_leads t f.nodes.are c (subst (λ (x : ℕ). LeadsTo t x c) (sym f.nodes.none) l))
        | inr i ↦ (
            let x = i.from_low in
            let y = i.to_high in
            let k = i.place - left in
            let at : i.place ≡ left + k = omega arith in
            elim ((f.leads k (omega arith) c).0 (subst (λ (p : ℕ). LeadsTo t (number_at mid p) c) at i.leads)) [
              | inl l ↦ inl (record { place = left + k; from_low = omega arith; to_high = omega arith; leads = l })
              | inr l ↦ inr (record { place = right + k; from_low = omega arith; to_high = omega arith; leads = l })
            ])
      ],
      λ e. inr (elim e [
        | inl i ↦ (
            let x = i.from_low in
            let y = i.to_high in
            let k = i.place - left in
            let at : i.place ≡ left + k = omega arith in
            record {
              place = left + k;
              from_low = omega arith;
              to_high = omega arith;
              leads = (f.leads k (omega arith) c).1 (inl (subst (λ (p : ℕ). LeadsTo s (number_at row p) c) at i.leads));
            })
        | inr i ↦ (
            let x = i.from_low in
            let y = i.to_high in
            let k = i.place - right in
            let at : i.place ≡ right + k = omega arith in
            record {
              place = left + k;
              from_low = omega arith;
              to_high = omega arith;
              leads = (f.leads k (omega arith) c).1 (inr (subst (λ (p : ℕ). LeadsTo s (number_at row p) c) at i.leads));
            })
      ]),
    )

  -- an amount whose places were gathered and dropped
  module _ (t : Nodes) (mid : List ℕ) (amount : ℕ) (are : AreNodes s) (there : AreThere s row) (order : left ≤ right)
      (within : right ≤ length row)
      (grew : NodesGrew s t) (size : length mid ≡ right) (kept : (p : ℕ) → p < right → number_at mid p ≡ number_at row
      p)
      (all : (c : ℕ) → LeadsTo t amount c ↔ SomeLeads s row right (length row) c) where
    amount_some : (c : ℕ) → LeadsTo t amount c ↔ SomeLeads s row (right + 0) (right + (length row - right)) c
    amount_some c = (
      λ l. some_same s row right (length row) (right + 0) (right + (length row - right)) c (omega arith) (omega arith)
          ((all c).0 l),
      λ i. (all c).1 (some_same s row (right + 0) (right + (length row - right)) right (length row) c (omega arith)
          (omega arith) i),
    )

    pub upward_leads : (j c : ℕ) → j < right - left → UpLeads t mid left amount j c ↔ OperandsLead shape.Upward s row
        left right j c
    upward_leads j c lt =
        let k = some_still s row t mid left (left + suc j) (left + 0) (left + suc j) c are grew there (omega arith)
        (λ p h. kept p (omega arith)) (omega arith) refl in
        let a = amount_some c in (
          λ e. elim e [ inl l ↦ inr (a.0 l) | inr i ↦ inl (k.0 i) ],
          λ e. elim e [ inl i ↦ inr (k.1 i) | inr i ↦ inl (a.1 i) ],
        )

    pub downward_leads : (j c : ℕ) → j < right - left → DownLeads t mid left amount j c ↔ OperandsLead shape.Downward
        s row left right j c
    downward_leads j c lt =
        let k = some_still s row t mid (left + j) (length mid) (left + j) (left + (right - left)) c are grew there
        (omega arith) (λ p h. kept p (omega arith)) refl (omega arith) in
        let a = amount_some c in (
          λ e. elim e [ inl l ↦ inr (a.0 l) | inr i ↦ inl (k.0 i) ],
          λ e. elim e [ inl i ↦ inr (k.1 i) | inr i ↦ inl (a.1 i) ],
        )

-- What ranges of positions of an operation read, from what ranges of its operands read.
use Rattle.std.proofs.Common.{◌≡◌, ℕ, zero, suc, ◌-◌, ◌<◌, ◌≤◌, ◌⊎◌, ◌++◌, false, cond, refl, arith, sym, ap, subst, inl, inr}
use Rattle.std.proofs.lemmas.List.Elements.{Contains-append_cases, Contains-append_left, Contains-append_right}
use Rattle.eq_net.specs.declared.types.WordOp.{WordOp}
use Rattle.eq_net.specs.declared.types.WordOp.TheVariants as op
use Rattle.eq_net.specs.Operators.{Reads, all_reads, apply_reads, has_free_sizes, one_read, reads_from}
use Rattle.eq_net.specs.Meaning.{result_size}
use Rattle.eq_reads.specs.inner.Reading.{ReadIn}
use Rattle.eq_reads.specs.inner.Shapes.{Ranges, all_ranges, ranges, ranges_of}
use Rattle.eq_reads.proofs.Ranged.{all_in, from_in, in_all, in_from, in_left, in_lowest, in_right, in_upto, in_whole, lowest_in, not_zero, one_in, parts_in, upto_in, whole_in}

-- what two operands read in these ranges
abbrev pub OperandsRead : Reads → Reads → Ranges → ℕ → Type 0
OperandsRead r q s b = ReadIn r s.left_low s.left_high b ⊎ ReadIn q s.right_low s.right_high b

all_above : (l m n : ℕ) → all_ranges (suc l) m n ≡ ranges 0 0 0 0
all_above l m n = ap (λ t. cond {A = Ranges} t (ranges 0 m 0 n) (ranges 0 0 0 0)) (not_zero l)

module _ (r q : Reads) (m n h b : ℕ) where
  none_both : ¬ OperandsRead r q (ranges 0 0 0 0) b
  none_both (inl left) = (let y = left.to_high in absurd (omega arith))
  none_both (inr right) = (let y = right.to_high in absurd (omega arith))

  one_both_in : (l : ℕ) → ReadIn (one_read (all_reads m r ++ all_reads n q)) l h b →
      OperandsRead r q (all_ranges l m n) b
  one_both_in zero i = elim (Contains-append_cases (all_reads m r) (all_reads n q) b
      (lowest_in (all_reads m r ++ all_reads n q) h b i)) [
        | inl left ↦ inl (all_in m r b left)
        | inr right ↦ inr (all_in n q b right)
      ]
  one_both_in (suc l) i = absurd (one_in (all_reads m r ++ all_reads n q) l h b i)

  in_one_both : (l : ℕ) → l < h → OperandsRead r q (all_ranges l m n) b →
      ReadIn (one_read (all_reads m r ++ all_reads n q)) l h b
  in_one_both zero lt (inl left) = in_lowest (all_reads m r ++ all_reads n q) h b lt
      (Contains-append_left (all_reads m r) (all_reads n q) b (in_all m r b left))
  in_one_both zero lt (inr right) = in_lowest (all_reads m r ++ all_reads n q) h b lt
      (Contains-append_right (all_reads m r) (all_reads n q) b (in_all n q b right))
  in_one_both (suc l) lt reads = absurd (none_both (subst (λ (s : Ranges). OperandsRead r q s b) (all_above l m n)
      reads))

  module _ (l : ℕ) where
    both_in : (f g : Reads) (s : Ranges) → (ReadIn f l h b → ReadIn r s.left_low s.left_high b) →
        (ReadIn g l h b → ReadIn q s.right_low s.right_high b) →
        ReadIn (λ j. f j ++ g j) l h b → OperandsRead r q s b
    both_in f g s left right i = elim (parts_in f g l h b i) [ inl x ↦ inl (left x) | inr y ↦ inr (right y) ]

    in_both : (f g : Reads) (s : Ranges) → (ReadIn r s.left_low s.left_high b → ReadIn f l h b) →
        (ReadIn q s.right_low s.right_high b → ReadIn g l h b) →
        OperandsRead r q s b → ReadIn (λ j. f j ++ g j) l h b
    in_both f g s left right (inl x) = in_left f g l h b (left x)
    in_both f g s left right (inr y) = in_right f g l h b (right y)

    pub operation_in : (o : WordOp) → ReadIn (apply_reads o m n r q) l h b → OperandsRead r q (ranges_of o m n l h) b
    operation_in op.And = both_in r q (ranges_of op.And m n l h) (λ x. x) (λ x. x)
    operation_in op.Or = both_in r q (ranges_of op.Or m n l h) (λ x. x) (λ x. x)
    operation_in op.Xor = both_in r q (ranges_of op.Xor m n l h) (λ x. x) (λ x. x)
    operation_in op.Xnor = both_in r q (ranges_of op.Xnor m n l h) (λ x. x) (λ x. x)
    operation_in op.Add = both_in (λ j. all_reads (suc j) r) (λ j. all_reads (suc j) q) (ranges_of op.Add m n l h)
        (upto_in r l h b) (upto_in q l h b)
    operation_in op.Sub = both_in (λ j. all_reads (suc j) r) (λ j. all_reads (suc j) q) (ranges_of op.Sub m n l h)
        (upto_in r l h b) (upto_in q l h b)
    operation_in op.Shl = both_in (λ j. all_reads (suc j) r) (λ j. all_reads n q) (ranges_of op.Shl m n l h)
        (upto_in r l h b) (whole_in q n l h b)
    operation_in op.Shr = both_in (λ j. reads_from j (m - j) r) (λ j. all_reads n q) (ranges_of op.Shr m n l h)
        (from_in r m l h b) (whole_in q n l h b)
    operation_in op.Eq = one_both_in l
    operation_in op.Ne = one_both_in l
    operation_in op.Lt = one_both_in l
    operation_in op.Le = one_both_in l
    operation_in op.Gt = one_both_in l
    operation_in op.Ge = one_both_in l
    operation_in op.LogAnd = one_both_in l
    operation_in op.LogOr = one_both_in l

    pub in_operation : (o : WordOp) → l < h → OperandsRead r q (ranges_of o m n l h) b →
        ReadIn (apply_reads o m n r q) l h b
    in_operation op.And lt = in_both r q (ranges_of op.And m n l h) (λ x. x) (λ x. x)
    in_operation op.Or lt = in_both r q (ranges_of op.Or m n l h) (λ x. x) (λ x. x)
    in_operation op.Xor lt = in_both r q (ranges_of op.Xor m n l h) (λ x. x) (λ x. x)
    in_operation op.Xnor lt = in_both r q (ranges_of op.Xnor m n l h) (λ x. x) (λ x. x)
    in_operation op.Add lt = in_both (λ j. all_reads (suc j) r) (λ j. all_reads (suc j) q) (ranges_of op.Add m n l h)
        (in_upto r l h b lt) (in_upto q l h b lt)
    in_operation op.Sub lt = in_both (λ j. all_reads (suc j) r) (λ j. all_reads (suc j) q) (ranges_of op.Sub m n l h)
        (in_upto r l h b lt) (in_upto q l h b lt)
    in_operation op.Shl lt = in_both (λ j. all_reads (suc j) r) (λ j. all_reads n q) (ranges_of op.Shl m n l h)
        (in_upto r l h b lt) (in_whole q n l h b lt)
    in_operation op.Shr lt = in_both (λ j. reads_from j (m - j) r) (λ j. all_reads n q) (ranges_of op.Shr m n l h)
        (in_from r m l h b lt) (in_whole q n l h b lt)
    in_operation op.Eq lt = in_one_both l lt
    in_operation op.Ne lt = in_one_both l lt
    in_operation op.Lt lt = in_one_both l lt
    in_operation op.Le lt = in_one_both l lt
    in_operation op.Gt lt = in_one_both l lt
    in_operation op.Ge lt = in_one_both l lt
    in_operation op.LogAnd lt = in_one_both l lt
    in_operation op.LogOr lt = in_one_both l lt

-- the ranges are within the operands
pub record Inside (s : Ranges) (m n : ℕ) : Type 0 where
  pub left : s.left_high ≤ m
  pub right : s.right_high ≤ n

all_inside : (l m n : ℕ) → Inside (all_ranges l m n) m n
all_inside zero m n = record { left = omega arith; right = omega arith }
all_inside (suc l) m n = subst (λ (s : Ranges). Inside s m n) (sym (all_above l m n))
    (record { left = omega arith; right = omega arith })

pub inside : (o : WordOp) (m n l h : ℕ) → h ≤ result_size o m → (has_free_sizes o ≡ false → m ≡ n) →
    Inside (ranges_of o m n l h) m n
inside op.And m n l h le same = (let e = same refl in record { left = le; right = omega arith })
inside op.Or m n l h le same = (let e = same refl in record { left = le; right = omega arith })
inside op.Xor m n l h le same = (let e = same refl in record { left = le; right = omega arith })
inside op.Xnor m n l h le same = (let e = same refl in record { left = le; right = omega arith })
inside op.Add m n l h le same = (let e = same refl in record { left = le; right = omega arith })
inside op.Sub m n l h le same = (let e = same refl in record { left = le; right = omega arith })
inside op.Shl m n l h le same = record { left = le; right = omega arith }
inside op.Shr m n l h le same = record { left = omega arith; right = omega arith }
inside op.Eq m n l h le same = all_inside l m n
inside op.Ne m n l h le same = all_inside l m n
inside op.Lt m n l h le same = all_inside l m n
inside op.Le m n l h le same = all_inside l m n
inside op.Gt m n l h le same = all_inside l m n
inside op.Ge m n l h le same = all_inside l m n
inside op.LogAnd m n l h le same = all_inside l m n
inside op.LogOr m n l h le same = all_inside l m n

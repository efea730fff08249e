-- Cited by proofs alone; nothing here has to be believed.
-- Of which positions of its operands, of m and n bits, the positions of an operation from low up to high read.
use Rattle.std.specs.Prelude.{ℕ, suc, ◌+◌, ◌-◌, ◌==◌, ◌⊎◌, if◌then◌else◌, List, length}
use Rattle.eq_net.specs.declared.types.WordOp.{WordOp}
use Rattle.eq_net.specs.declared.types.WordOp.TheVariants as op
use Rattle.eq_reads.specs.declared.graph.Nodes.{Nodes}
use Rattle.eq_reads.specs.declared.operators.Shape.{Shape}
use Rattle.eq_reads.specs.declared.operators.Shape.TheVariants as shape
use Rattle.eq_reads.specs.inner.Leading.{SomeLeads}

-- ranges of positions of the left and of the right operand
pub record Ranges : Type 0 where
  pub left_low : ℕ
  pub left_high : ℕ
  pub right_low : ℕ
  pub right_high : ℕ

abbrev pub ranges : ℕ → ℕ → ℕ → ℕ → Ranges
ranges a b c d = record { left_low = a; left_high = b; right_low = c; right_high = d }

-- all of both where the lowest position is among them
abbrev pub all_ranges : ℕ → ℕ → ℕ → Ranges
all_ranges low m n = if low == 0 then ranges 0 m 0 n else ranges 0 0 0 0

abbrev pub shape_of : WordOp → Shape
shape_of op.And = shape.Same
shape_of op.Or = shape.Same
shape_of op.Xor = shape.Same
shape_of op.Xnor = shape.Same
shape_of op.Add = shape.Lower
shape_of op.Sub = shape.Lower
shape_of op.Shl = shape.Upward
shape_of op.Shr = shape.Downward
shape_of op.Eq = shape.Whole
shape_of op.Ne = shape.Whole
shape_of op.Lt = shape.Whole
shape_of op.Le = shape.Whole
shape_of op.Gt = shape.Whole
shape_of op.Ge = shape.Whole
shape_of op.LogAnd = shape.Whole
shape_of op.LogOr = shape.Whole

abbrev pub ranges_for : Shape → ℕ → ℕ → ℕ → ℕ → Ranges
ranges_for shape.Same m n low high = ranges low high low high
ranges_for shape.Lower m n low high = ranges 0 high 0 high
ranges_for shape.Upward m n low high = ranges 0 high 0 n
ranges_for shape.Downward m n low high = ranges low m 0 n
ranges_for shape.Whole m n low high = all_ranges low m n

abbrev pub ranges_of : WordOp → ℕ → ℕ → ℕ → ℕ → Ranges
ranges_of o m n low high = ranges_for (shape_of o) m n low high

-- how many positions there are where the left operand has m
abbrev pub size_of : Shape → ℕ → ℕ
size_of shape.Same m = m
size_of shape.Lower m = m
size_of shape.Upward m = m
size_of shape.Downward m = m
size_of shape.Whole m = 1

-- the operands have one size
abbrev pub IsPaired : Shape → Type 0
IsPaired shape.Same = Unit {0}
IsPaired shape.Lower = Unit {0}
IsPaired shape.Upward = ⊥
IsPaired shape.Downward = ⊥
IsPaired shape.Whole = ⊥

-- what position j reads of operands whose nodes stand from left up to right and from there on
abbrev pub OperandsIn : Ranges → Nodes → List ℕ → ℕ → ℕ → ℕ → Type 0
OperandsIn g s row left right c = SomeLeads s row (left + g.left_low) (left + g.left_high) c ⊎
    SomeLeads s row (right + g.right_low) (right + g.right_high) c

abbrev pub OperandsLead : Shape → Nodes → List ℕ → ℕ → ℕ → ℕ → ℕ → Type 0
OperandsLead o s row left right j c =
    OperandsIn (ranges_for o (right - left) (length row - right) j (suc j)) s row left right c

-- all nodes from a place on
abbrev pub AllLead : Nodes → List ℕ → ℕ → ℕ → ℕ → Type 0
AllLead s row from j c = SomeLeads s row from (length row) c

-- Mirrors src/marks.rt; nothing here has to be believed.
-- Marks of bits, by position, what operators make of them, and stacks of marks.
use Rattle.std.specs.Prelude.{◌≡◌, ℕ, zero, suc, ◌+◌, ◌-◌, ◌<◌, ◌==◌, List, Bool, false, if◌then◌else◌, nat_lt, min, length, slice_index_or, Option, Some, None}
use Rattle.eq_net.specs.declared.types.WordOp.{WordOp}
use Rattle.eq_net.specs.declared.types.WordOp.TheVariants.{And, Or, Xor, Xnor, Add, Sub, Shl, Shr, Eq, Ne, Lt, Le, Gt, Ge, LogAnd, LogOr}
use Rattle.eq_marks.specs.declared.marks.Way.{Way}
use Rattle.eq_marks.specs.declared.marks.Way.TheVariants.{Copies, Reads}

abbrev pub Marks : Type 0
Marks = ℕ → Option ℕ

-- the smaller of two marks, where there are any
abbrev pub least : Option ℕ → Option ℕ → Option ℕ
least None y = y
least (Some a) None = Some a
least (Some a) (Some b) = Some (min a b)

-- there is a mark, and it is below t
abbrev pub is_under : ℕ → Option ℕ → Bool
is_under t None = false
is_under t (Some a) = nat_lt a t

-- what an operator makes of two marks
abbrev pub mixed : Way → Option ℕ → Option ℕ → Option ℕ
mixed Copies x y = None
mixed Reads x y = least x y

-- what an operator makes of the marks of the lowest n bits
abbrev pub mixed_all : Way → ℕ → Marks → Option ℕ
mixed_all way zero f = None
mixed_all way (suc n) f = mixed way (mixed_all way n f) (f n)

-- the same of n bits from position m down, which isn't among them
abbrev pub mixed_down : Way → ℕ → ℕ → Marks → Option ℕ
mixed_down way m n f = mixed_all way n (λ i. f ((m - 1) - i))

abbrev pub one_mark : Option ℕ → Marks
one_mark x j = if j == 0 then x else None

abbrev pub extended_marks : ℕ → Marks → Marks
extended_marks n f j = if nat_lt j n then f j else None

-- the marks of an operation on a, of m bits, and b, of n bits
abbrev pub operated : Way → WordOp → ℕ → ℕ → Marks → Marks → Marks
operated way And m n a b j = mixed way (a j) (b j)
operated way Or m n a b j = mixed way (a j) (b j)
operated way Xor m n a b j = mixed way (a j) (b j)
operated way Xnor m n a b j = mixed way (a j) (b j)
operated way Add m n a b j = mixed_all way (suc j) (λ i. mixed way (a i) (b i))
operated way Sub m n a b j = mixed_all way (suc j) (λ i. mixed way (a i) (b i))
operated way Shl m n a b j = mixed way (mixed_all way (suc j) a) (mixed_all way n b)
operated way Shr m n a b j = mixed way (mixed_down way m (m - j) a) (mixed_all way n b)
operated way Eq m n a b j = one_mark (mixed way (mixed_all way m a) (mixed_all way n b)) j
operated way Ne m n a b j = one_mark (mixed way (mixed_all way m a) (mixed_all way n b)) j
operated way Lt m n a b j = one_mark (mixed way (mixed_all way m a) (mixed_all way n b)) j
operated way Le m n a b j = one_mark (mixed way (mixed_all way m a) (mixed_all way n b)) j
operated way Gt m n a b j = one_mark (mixed way (mixed_all way m a) (mixed_all way n b)) j
operated way Ge m n a b j = one_mark (mixed way (mixed_all way m a) (mixed_all way n b)) j
operated way LogAnd m n a b j = one_mark (mixed way (mixed_all way m a) (mixed_all way n b)) j
operated way LogOr m n a b j = one_mark (mixed way (mixed_all way m a) (mixed_all way n b)) j

-- ---- stacks

-- the marks that stand from a place on
abbrev pub part : List (Option ℕ) → ℕ → Marks
part stack from i = slice_index_or stack (from + i) None

-- the mark at one place is x now, and all others are as they were
pub record Puts (at : ℕ) (x : Option ℕ) (old new : List (Option ℕ)) : Type 0 where
  pub size : length new ≡ length old
  pub there : slice_index_or new at None ≡ x
  pub below : (k : ℕ) → k < at → slice_index_or new k None ≡ slice_index_or old k None
  pub above : (k : ℕ) → at < k → slice_index_or new k None ≡ slice_index_or old k None

-- from a place on it has the first w marks of f and nothing else, and below it is as it was
pub record Overwrites (from : ℕ) (f : Marks) (w : ℕ) (old new : List (Option ℕ)) : Type 0 where
  pub size : length new ≡ from + w
  pub kept : (k : ℕ) → k < from → slice_index_or new k None ≡ slice_index_or old k None
  pub put : (j : ℕ) → j < w → part new from j ≡ f j

-- it has grown by the first w marks of f
abbrev pub GrowsBy : Marks → ℕ → List (Option ℕ) → List (Option ℕ) → Type 0
GrowsBy f w old new = Overwrites (length old) f w old new

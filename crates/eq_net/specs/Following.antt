-- What it means that a value follows reads, and of each operator that its bits follow what it says is read.
use Rattle.std.specs.Prelude.{◌≡◌, ℕ, List, Contains, false}
use Rattle.eq_model.specs.System.{Values}
use Rattle.eq_net.specs.declared.types.WordOp.{WordOp}
use Rattle.eq_net.specs.declared.types.RedOp.{RedOp}
use Rattle.eq_net.specs.Numbers.{Digits}
use Rattle.eq_net.specs.Operators.{Reads, all_reads, apply, apply_reads, choose, choose_reads, extended, extended_reads, has_free_sizes, negative, negative_reads, one_bit, one_read, reduce}

-- v and u have the same values at these bits
abbrev pub AgreeOn : Values → Values → List ℕ → Type 0
AgreeOn v u rs = (b : ℕ) → Contains rs b → v b ≡ u b

-- f and h have the same bit wherever v and u agree on what r says that it reads
abbrev pub Follow : Values → Values → Reads → Digits → Digits → Type 0
Follow v u r f h = (j : ℕ) → AgreeOn v u (r j) → f j ≡ h j

-- where operands follow what they read, so does an operation. All but shifts, `&&` and `||` have operands of one size
abbrev pub OperationsFollow : Type 0
OperationsFollow = (v u : Values) (fr gr : Reads) (f g h k : Digits) → Follow v u fr f h → Follow v u gr g k →
    (o : WordOp) (m n j : ℕ) → (has_free_sizes o ≡ false → m ≡ n) →
    AgreeOn v u (apply_reads o m n fr gr j) → apply o m n f g j ≡ apply o m n h k j

-- so do a reduction,
abbrev pub ReductionsFollow : Type 0
ReductionsFollow = (v u : Values) (r : Reads) (f h : Digits) → Follow v u r f h → (o : RedOp) (n j : ℕ) →
    AgreeOn v u (one_read (all_reads n r) j) → one_bit (reduce o n f) j ≡ one_bit (reduce o n h) j

-- a negative,
abbrev pub NegativesFollow : Type 0
NegativesFollow = (v u : Values) (r : Reads) (f h : Digits) → Follow v u r f h → (n j : ℕ) →
    AgreeOn v u (negative_reads r j) → negative n f j ≡ negative n h j

-- an extension,
abbrev pub ExtensionsFollow : Type 0
ExtensionsFollow = (v u : Values) (r : Reads) (f h : Digits) → Follow v u r f h → (n j : ℕ) →
    AgreeOn v u (extended_reads n r j) → extended n f j ≡ extended n h j

-- and a choice
abbrev pub ChoicesFollow : Type 0
ChoicesFollow = (v u : Values) (cr fr gr : Reads) (c d f g h k : Digits) →
    Follow v u cr c d → Follow v u fr f h → Follow v u gr g k → (n j : ℕ) →
    AgreeOn v u (choose_reads n cr fr gr j) → choose n c f g j ≡ choose n d h k j

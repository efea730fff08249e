-- Cited by private contracts alone; nothing here has to be believed.
-- What a stack of node numbers has after something was written on it.
use Rattle.std.specs.Prelude.{◌≡◌, ℕ, ◌+◌, ◌<◌, List, length, slice_index_or}
use Rattle.eq_model.specs.System.{Values}
use Rattle.eq_bits.specs.declared.node.Node.{Node}
use Rattle.eq_net.specs.Numbers.{Digits}
use Rattle.eq_blast.specs.inner.Growing.{Gives, Grown}

-- what x has at the nodes that stand from a place on
abbrev pub seen : Values → List ℕ → ℕ → Digits
seen x stack from i = x (slice_index_or stack (from + i) 0)

-- all nodes on the stack are there
abbrev pub AreThere : List Node → List ℕ → Type 0
AreThere nodes stack = (k : ℕ) → k < length stack → slice_index_or stack k 0 < length nodes

-- from a place on the stack has w nodes and nothing else, and below it is as it was
pub record Written (from w : ℕ) (old new : List ℕ) : Type 0 where
  pub size : length new ≡ from + w
  pub kept : (k : ℕ) → k < from → slice_index_or new k 0 ≡ slice_index_or old k 0

-- the w nodes from a place on give the digits f, and ask for g
abbrev pub Spells : List Node → List ℕ → ℕ → ℕ → (Values → Digits) → (Values → Digits) → Type 0
Spells nodes stack from w f g = (j : ℕ) → j < w →
    Gives nodes (slice_index_or stack (from + j) 0) (λ x. f x j) (λ d. g d j)

-- gates were added, at most `cost`, and from a place on the stack has w nodes that give the digits f and ask for g
pub record Performs (cost w from : ℕ) (f g : Values → Digits) (b0 b1 : List Node) (s0 s1 : List ℕ) : Type 0 where
  pub grown : Grown cost b0 b1
  pub written : Written from w s0 s1
  pub spells : Spells b1 s1 from w f g

-- What k-induction answers that looks at k = 1, 2 and so on up to a depth, where base and step say which queries hold.
use Rattle.std.specs.Prelude.{ℕ, suc, ◌<◌, ◌≤◌}

-- there is a difference after k cycles and none before; there never is one, as is seen at k; or neither is seen
pub data Kind : Type 0 where
  fail : ℕ → Kind
  proved : ℕ → Kind
  deep : Kind

-- induction shows at k that there is never a difference: none is reached in 1 to k cycles, and no step of k cycles fails
abbrev pub IsProved : (ℕ → Type 0) → (ℕ → Type 0) → ℕ → Type 0
IsProved base step k = ((j : ℕ) → 1 ≤ j → j ≤ k → base j → ⊥) × (step k → ⊥)

-- nothing is answered below k: no difference is reached, and each step can still fail
abbrev pub GoesOn : (ℕ → Type 0) → (ℕ → Type 0) → ℕ → Type 0
GoesOn base step k = (j : ℕ) → 1 ≤ j → j < k → (base j → ⊥) × step j

-- at each k, fail where the base query holds, else proved where the step query doesn't hold, else go on to the next
abbrev pub IsKind : (ℕ → Type 0) → (ℕ → Type 0) → ℕ → Kind → Type 0
IsKind base step depth (fail k) = (1 ≤ k) × (k ≤ depth) × GoesOn base step k × base k
IsKind base step depth (proved k) = (1 ≤ k) × (k ≤ depth) × GoesOn base step k × (base k → ⊥) ×
    (step k → ⊥)
IsKind base step depth deep = GoesOn base step (suc depth)

use Rattle.std.proofs.Common.{◌≡◌, ◌<◌, ◌≤◌, ℕ, List, Some, slice_get}
use Rattle.eq_names.specs.Name.{IsName}
use Rattle.eq_wit.proofs.items.wrong_from.Given as goal

abbrev pub invariant-loop-place : goal.invariant-loop-place
invariant-loop-place l = (k : ℕ) (word : List ℕ) → l.from ≤ k → k < l.place → slice_get l.words k ≡ Some word → IsName word

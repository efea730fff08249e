-- Rows of marks.
use Rattle.std.proofs.Common.{◌≡◌, ℕ, zero, suc, ◌≤◌, List, [], ◌∷◌, Option, None, slice_get, refl, arith}
use Rattle.eq_net.specs.declared.types.NetInfo.{NetInfo}
use Rattle.eq_net.specs.Net.{IsWord, bits_of, offset}
use Rattle.eq_net.specs.Tree.{Tree, const, read, pick, negated, opposite, binary, reduced, choice, empty, joined, extended}
use Rattle.eq_marks.specs.inner.Carrying.{IsFitting, mark_of}

-- beyond the end of a list there is no mark
pub none_at : (xs : List (Option ℕ)) (j : ℕ) → ◌≡◌ {A = Option (Option ℕ)} None (slice_get xs j) → ◌≡◌ {A = Option ℕ}
    None (mark_of xs j)
none_at [] j e = refl
none_at (x ∷ xs) zero e = absurd (cc)
none_at (x ∷ xs) (suc j) e = none_at xs j e

pub offset_le : (nets : List NetInfo) (k : ℕ) → offset nets k ≤ bits_of nets
offset_le [] k = omega arith
offset_le (x ∷ xs) zero = omega arith
offset_le (x ∷ xs) (suc k) = (let h = offset_le xs k in omega arith)

pub fitting : (nets : List NetInfo) (words : List Tree) (k : ℕ) (t : Tree) → IsWord nets words k t → IsFitting nets t
fitting nets words k (const bits) is = tt
fitting nets words k (read names) is = is
fitting nets words k (pick bits) is = tt
fitting nets words k (negated a) is = fitting nets words k a is
fitting nets words k (opposite a) is = fitting nets words k a is
fitting nets words k (binary o a b) is = (fitting nets words k a is.0, fitting nets words k b is.1, is.2)
fitting nets words k (reduced o a) is = fitting nets words k a is
fitting nets words k (choice c a b) is = (
  fitting nets words k c is.0,
  fitting nets words k a is.1,
  fitting nets words
      k b is.2,
  is.3,
)
fitting nets words k empty is = tt
fitting nets words k (joined a b) is = (fitting nets words k a is.0, fitting nets words k b is.1)
fitting nets words k (extended a n) is = (fitting nets words k a is.0, is.1)

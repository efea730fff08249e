-- Mirrors src/listing.rt; nothing here has to be believed.
-- The classes of the positions that were looked at so far.
use Rattle.std.specs.Prelude.{◌≡◌, ℕ, zero, suc, ◌<◌, ◌+◌, nat_lt, if◌then◌else◌, Bool, true, List, [], ◌∷◌, ◌++◌, length, Option, Some, slice_index_or, slice_set}
use Rattle.eq_match.specs.Classes.{Together, classes_to, is_first}
use Rattle.eq_match.specs.Leaders.{leader_at, one_leader}
use Rattle.eq_match.specs.inner.Leading.{first_at}

-- how many first positions there are below k
abbrev pub rank : (ℕ → Bool) → Together → ℕ → ℕ
rank held together zero = 0
rank held together (suc k) = if is_first held together k then rank held together k + 1 else rank held together k

-- one position more in list s, or in a list of its own behind the others
abbrev pub added : List (List ℕ) → ℕ → ℕ → List (List ℕ)
added lists s i =
    if nat_lt s (length lists) then slice_set lists s (slice_index_or lists s [] ++ i ∷ [])
    else lists ++ (i ∷ []) ∷ []

-- the list of each leader, and the lists, of the first i positions
pub record AreBegun (held : ℕ → Bool) (leaders : List ℕ) (i : ℕ) (slots : List (Option ℕ)) (lists : List (List ℕ)) : Type 0 where
  pub lists_are : lists ≡ classes_to i held (one_leader leaders) i
  pub placed : (j : ℕ) → j < i → held j ≡ true → (f : ℕ) × (f < i) × (is_first held (one_leader leaders) f ≡ true) ×
      (leader_at leaders f ≡ leader_at leaders j) ×
      (first_at slots (leader_at leaders j) ≡ Some (rank held (one_leader leaders) f))
  pub found : (l s : ℕ) → first_at slots l ≡ Some s → (j : ℕ) × (j < i) × (held j ≡ true) × (leader_at leaders j ≡ l)

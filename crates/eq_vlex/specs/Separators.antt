-- Comments and attributes, which separate tokens and mean nothing (IEEE 1364-2005, 3.3 and 3.8).
use Rattle.std.specs.Prelude.{◌≡◌, ℕ, ◌+◌, ◌<◌, if◌then◌else◌, ◌==◌, List, take, slice_index}
use Rattle.std.specs.List.{fold}
use Rattle.eq_vlex.specs.declared.separator.Place.{Place}
use Rattle.eq_vlex.specs.declared.separator.Place.TheVariants.{Outside, Inside, Escaped}

-- a `*/` begins at the place k
abbrev pub ClosesComment : List ℕ → ℕ → Type 0
ClosesComment body k = (slice_index body k ≡ 42) × (slice_index body (k + 1) ≡ 47)

-- Where the next byte of an attribute stands. A string goes from `"` to the next `"`, and in it a `\` takes the
-- byte after it with it.
abbrev pub after : Place → ℕ → Place
after Outside b = if b == 34 then Inside else Outside
after Inside b = if b == 34 then Outside else (if b == 92 then Escaped else Inside)
after Escaped b = Inside

-- where the byte after these bytes of an attribute stands
abbrev pub place_after : List ℕ → Place
place_after bytes = fold after Outside bytes

-- a `*)` that stands in no string of the attribute begins at the place k of the bytes after its `(*`
abbrev pub ClosesAttribute : List ℕ → ℕ → Type 0
ClosesAttribute body k = (slice_index body k ≡ 42) × (slice_index body (k + 1) ≡ 41) × (place_after (take k body) ≡ Outside)

-- k is the first place of which this holds
pub record IsFirst (P : ℕ → Type 0) (k : ℕ) : Type 0 where
  pub here : P k
  pub none_before : (j : ℕ) → j < k → ¬ P j

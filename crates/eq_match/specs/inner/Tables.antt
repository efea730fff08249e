-- Mirrors src/table.rt; nothing here has to be believed.
use Rattle.std.specs.Prelude.{◌≡◌, ◌==◌, ℕ, ◌⊎◌, if◌then◌else◌, List, length, Option, Some, None, slice_index_or}
use Rattle.eq_match.specs.declared.types.Partner.{Partner}
use Rattle.eq_match.specs.NetPairs.{Pairing, SamePairs}

-- the pairs that a table holds
abbrev pub pairing_of : List (Option Partner) → Pairing
pairing_of partners k = slice_index_or partners k None

abbrev pub owner_of : List (Option ℕ) → ℕ → Option ℕ
owner_of owners h = slice_index_or owners h None

-- each net of gold has the net of gate of which it is the owner, and the other way round
pub record AreLinked (partners : List (Option Partner)) (owners : List (Option ℕ)) : Type 0 where
  pub there : (k : ℕ) (p : Partner) → pairing_of partners k ≡ Some p → owner_of owners p.net ≡ Some k
  pub back : (k h : ℕ) → owner_of owners h ≡ Some k → (p : Partner) × (pairing_of partners k ≡ Some p) × (p.net ≡ h)

-- a table for so many nets of gold and of gate
pub record IsTable (gold gate : ℕ) (partners : List (Option Partner)) (owners : List (Option ℕ)) : Type 0 where
  pub gold_size : length partners ≡ gold
  pub gate_size : length owners ≡ gate
  pub linked : AreLinked partners owners

-- without the pair of net k of gold
abbrev pub released : Pairing → ℕ → Pairing
released p k g = if g == k then None else p g

-- the pair of net k goes where this holds
abbrev pub ReleasesIf : Type 0 → ℕ → Pairing → Pairing → Type 0
ReleasesIf gone k before after = (gone × SamePairs after (released before k)) ⊎ ((¬ gone) × SamePairs after before)

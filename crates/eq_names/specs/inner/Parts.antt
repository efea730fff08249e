-- Cited by proofs alone; nothing here has to be believed.
-- What holds of each part of a template.
use Rattle.std.specs.Prelude.{ℕ, ◌<◌, ◌≤◌, List}
use Rattle.std.specs.List.{AllByRecursion}
use Rattle.eq_names.specs.declared.part.Part.{Part}
use Rattle.eq_names.specs.declared.part.Part.TheVariants.{Byte, Wild}
use Rattle.eq_names.specs.Name.{IsNameByte}

-- a byte that a name may have, or the number of one of so many wilds
abbrev pub IsPartOf : ℕ → Part → Type 0
IsPartOf wilds (Byte b) = IsNameByte b
IsPartOf wilds (Wild number) = (0 < number) × (number ≤ wilds)

abbrev pub ArePartsOf : ℕ → List Part → Type 0
ArePartsOf wilds parts = AllByRecursion (IsPartOf wilds) parts

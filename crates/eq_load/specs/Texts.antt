-- The text of a file, and what is wrong where there is none.
use Rattle.std.specs.Prelude.{◌≡◌, ℕ, ◌<◌, ◌≤◌, ◌⊎◌, List, length, None, Some}
use Rattle.std.specs.FinMap.{get}
use Rattle.eq_io.specs.Files.{Files}
use Rattle.eq_load.specs.declared.text.TheConstants.{MOST_BYTES}
use Rattle.eq_report.specs.declared.refusal.Refusal.{Refusal}
use Rattle.eq_report.specs.declared.refusal.Refusal.TheVariants.{Absent, TooLong}

-- the file has this text, which is short enough to be read
abbrev pub HasText : Files → List ℕ → List ℕ → Type 0
HasText files name text = (get files name ≡ Some text) × (length text ≤ MOST_BYTES)

-- the file isn't read: nothing has its name, or it has too many bytes
abbrev pub IsUnread : Files → List ℕ → Refusal → Type 0
IsUnread files name r =
    ((get files name ≡ None) × (r ≡ Absent name))
    ⊎ ((text : List ℕ) × (get files name ≡ Some text) × (MOST_BYTES < length text) × (r ≡ TooLong name))

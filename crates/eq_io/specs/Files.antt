-- What a store holds, and what a read answers of it.
use Rattle.std.specs.Prelude.{◌≡◌, ◌≢◌, ◌↔◌, ℕ, ◌<◌, ◌≤◌, List, length, Option, Some, None, IsSomeAnd}
use Rattle.std.specs.Ordering.{nat_cmp}
use Rattle.std.specs.Cmp.Lexicographic.{slice_cmp}
use Rattle.std.specs.FinMap.{FinMap, get, insert, remove}
use Rattle.eq_io.specs.declared.store.Got.{Got}
use Rattle.eq_io.specs.declared.store.Got.TheVariants.{Absent, TooLong, Held}

-- the bytes under each name; a name is its bytes
abbrev pub Files : Type 0
Files = FinMap (slice_cmp nat_cmp) (List ℕ)

-- a read of at most `most` bytes gives this answer, where the name holds that or nothing
abbrev pub Answers : ℕ → Option (List ℕ) → Got → Type 0
Answers most held Absent = held ≡ None
Answers most held TooLong = (bytes : List ℕ) × (held ≡ Some bytes) × (most < length bytes)
Answers most held (Held bytes) = held ≡ Some bytes

-- an answer that holds bytes holds at most `most`
abbrev pub IsWithin : ℕ → Got → Type 0
IsWithin most (Held bytes) = length bytes ≤ most
IsWithin most _ = Unit {0}

-- the files with these bytes under the name, or with nothing there; all other names as before
abbrev pub with_file : List ℕ → Option (List ℕ) → Files → Files
with_file name (Some bytes) files = insert files name bytes
with_file name None files = remove files name

-- Absent is answered exactly where nothing has the name, and TooLong exactly where there are more than `most` bytes.
abbrev pub AnswersExactly : Type 0
AnswersExactly = (most : ℕ) (held : Option (List ℕ)) (got : Got) → Answers most held got → IsWithin most got
    → ((got ≡ Absent) ↔ (held ≡ None)) × ((got ≡ TooLong) ↔ IsSomeAnd held (λ bytes. most < length bytes))

-- The name holds what was put there, and every other name what it held.
abbrev pub ChangesOnlyTheName : Type 0
ChangesOnlyTheName = (name : List ℕ) (left : Option (List ℕ)) (files : Files)
    → (get (with_file name left files) name ≡ left)
    × ((other : List ℕ) → other ≢ name → get (with_file name left files) other ≡ get files other)

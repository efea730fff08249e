-- Numbers of bits that were marked.
use Rattle.std.specs.Prelude.{◌≡◌, ℕ, zero, suc, ◌+◌, nat_eq, Bool, List, [], ◌∷◌, Option, is_some}
use Rattle.std.specs.declared.hash.FoldHasher.{FoldHasher}
use Rattle.std.specs.declared.hash.BuildHasherDefault.{BuildHasherDefault}
use Rattle.std.specs.HashMap.{HashMap, get}
use Rattle.eq_verilog.specs.Costs.{has_bit}

abbrev pub Marks : Type 0
Marks = HashMap ℕ Bool (BuildHasherDefault FoldHasher)

abbrev pub mark_of : Marks → ℕ → Option Bool
mark_of marks b = get nat_eq marks b

abbrev pub is_marked : Marks → ℕ → Bool
is_marked marks b = is_some (mark_of marks b)

-- just these bits are marked
abbrev pub AreMarked : Marks → List ℕ → Type 0
AreMarked marks seen = (b : ℕ) → is_marked marks b ≡ has_bit seen b

-- so many bits in a row, the highest first
abbrev pub run : ℕ → ℕ → List ℕ
run low zero = []
run low (suc n) = (low + n) ∷ run low n

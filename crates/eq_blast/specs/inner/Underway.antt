-- Mirrors src/placing.rt; nothing here has to be believed.
use Rattle.std.specs.Prelude.{ℕ, List}
use Rattle.eq_bits.specs.declared.node.Node.{Node}
use Rattle.eq_blast.specs.declared.placing.Placing.{Placing}
use Rattle.eq_blast.specs.inner.Sorting.{AreLinked, IsPassed, IsPlacing, IsSorted, IsTried}

-- some nodes of the plan are made
abbrev pub IsUnderway : List Node → Placing → Type 0
IsUnderway plan p = IsPlacing plan p.places.items p.builder p.left

-- node m was tried, and the first n nodes were
abbrev pub WasTried : List Node → Placing → Placing → ℕ → Type 0
WasTried plan old new m = IsTried plan old.places.items new.places.items old.left new.left m

abbrev pub WerePassed : List Node → Placing → Placing → ℕ → Type 0
WerePassed plan old new n = IsPassed plan old.places.items new.places.items old.left new.left n

-- all are made but for the registers' next nodes, and the first n have these too
abbrev pub AreMade : List Node → Placing → Type 0
AreMade plan p = IsPlacing plan p.places.items p.builder 0

abbrev pub AreComplete : List Node → Placing → ℕ → Type 0
AreComplete plan p n = AreLinked plan p.places.items p.builder n

-- all are
abbrev pub IsDone : List Node → Placing → Type 0
IsDone plan p = IsSorted plan p.places.items p.builder

-- Cited by proofs alone; nothing here has to be believed.
-- What is kept from line to line: the conflicts so far, and what is known of the part.
use Rattle.std.specs.Prelude.{◌≡◌, ℕ, ◌+◌, ◌≤◌, ◌<◌, List, Option, Some, IfSome, length, slice_get}
use Rattle.eq_bits.specs.declared.part.Part.{Part}
use Rattle.eq_bits.specs.Cycle.{register_count}
use Rattle.eq_unroll.specs.declared.query.Query.{Query}
use Rattle.eq_unroll.specs.declared.query.Query.TheVariants.{Base, Step}
use Rattle.eq_wit.specs.declared.counted.Counts.{Counts}
use Rattle.eq_wit.specs.declared.state.State.{State}
use Rattle.eq_wit.specs.declared.state.State.TheVariants as state
use Rattle.eq_wit.specs.declared.types.WitErr.{WitErr}
use Rattle.eq_wit.specs.declared.types.WitErr.TheVariants as err
use Rattle.eq_wit.specs.Faults.{IsFirstFault}
use Rattle.eq_wit.specs.Texts.{first_number}
use Rattle.eq_wit.specs.inner.Judging.{IsReached}

-- numbers of first steps, at numbers of cycles up to 64
pub record AreFirsts (part : Part) (q : Query) (firsts : List (Option ℕ)) : Type 0 where
  pub long : length firsts ≡ 65
  pub known : (k n : ℕ) → slice_get firsts k ≡ Some (Some n) → n ≡ first_number part q k

-- what is known is so of the part
pub record AreCounts (part : Part) (c : Counts) : Type 0 where
  pub registers : IfSome c.registers (λ n. n ≡ register_count part.nodes)
  pub base : AreFirsts part Base c.base
  pub step : AreFirsts part Step c.step

-- nothing is known
abbrev pub CountsNothing : Counts → Type 0
CountsNothing c = (part : Part) → AreCounts part c

-- what is known where the reading stands so: nothing before the part is whole
abbrev pub HasCounts : State → Counts → Type 0
HasCounts state.Titled c = CountsNothing c
HasCounts (state.Named name) c = CountsNothing c
HasCounts (state.Inputs d left) c = CountsNothing c
HasCounts (state.Nodes d seen left) c = CountsNothing c
HasCounts (state.Outputs d left) c = CountsNothing c
HasCounts (state.Tries t) c = AreCounts t.part c
HasCounts (state.Queries t o) c = AreCounts t.part c
HasCounts (state.Regs t o q k) c = AreCounts t.part c
HasCounts (state.Frames t o q k run left) c = AreCounts t.part c
HasCounts (state.Steps t o q k log) c = AreCounts t.part c
HasCounts (state.Closing t) c = AreCounts t.part c
HasCounts (state.Ended t) c = AreCounts t.part c

-- the conflicts of all logs so far
abbrev pub conflicts_at : State → ℕ
conflicts_at state.Titled = 0
conflicts_at (state.Named name) = 0
conflicts_at (state.Inputs d left) = 0
conflicts_at (state.Nodes d seen left) = 0
conflicts_at (state.Outputs d left) = 0
conflicts_at (state.Tries t) = t.conflicts
conflicts_at (state.Queries t o) = t.conflicts
conflicts_at (state.Regs t o q k) = t.conflicts
conflicts_at (state.Frames t o q k run left) = t.conflicts
conflicts_at (state.Steps t o q k log) = t.conflicts
conflicts_at (state.Closing t) = t.conflicts
conflicts_at (state.Ended t) = t.conflicts

-- the reading has come so far: a line brought one conflict at most, and took one byte at least
pub record IsAt (text : List ℕ) (s : State) (line : ℕ) (rest : List ℕ) : Type 0 where
  pub reached : IsReached text s line rest
  pub conflicts : conflicts_at s ≤ line
  pub within : line + length rest < length text

-- what is answered of a text that isn't read: its first fault, or want of memory
abbrev pub IsAnswered : List ℕ → WitErr → Type 0
IsAnswered text (err.At line kind) = IsFirstFault text line kind
IsAnswered text err.Memory = Unit {0}

-- a line more leaves what is known of the part, and brings one conflict at most
pub record Keeps (s next : State) : Type 0 where
  pub counts : (c : Counts) → HasCounts s c → HasCounts next c
  pub conflicts : conflicts_at next ≤ conflicts_at s + 1

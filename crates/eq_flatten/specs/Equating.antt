-- What the slots of the bits say of a list of equations.
use Rattle.std.specs.Prelude.{◌≡◌, ◌<◌, ◌≤◌, ◌+◌, ◌++◌, ℕ, List, [], ◌∷◌, Contains, Bool, Option, None, Some, is_some, count_by, sum_by, length, map, slice_get, slice_index_or}
use Rattle.eq_names.specs.declared.BitName.{BitName}
use Rattle.eq_net.specs.declared.types.NetInfo.{NetInfo}
use Rattle.eq_net.specs.Tree.{Tree}
use Rattle.eq_net.specs.Meaning.{if_there, cost_of}
use Rattle.eq_net.specs.Net.{AreWords, offset, number_of, word_at}
use Rattle.eq_verilog.specs.Trees.{ExprTree}
use Rattle.eq_verilog.specs.Scopes.{Scope}
use Rattle.eq_verilog.specs.Sizes.{context, own}
use Rattle.eq_verilog.specs.Expressions.{wire}
use Rattle.eq_verilog.specs.Equations.{Equation, assignment, place_below, place_in}
use Rattle.eq_flatten.specs.declared.driving.Slot.{Slot}
use Rattle.eq_flatten.specs.declared.driving.Slot.TheVariants.{Free, Once, Twice}
use Rattle.eq_flatten.specs.Driving.{filled, slot_at, IsApart}
use Rattle.eq_flatten.specs.Meant.{AreSlim}
use Rattle.eq_flatten.specs.Rendering.{KeepsFront, Renders}

-- how many bits both sides of an equation are computed in
abbrev pub width_of : Equation → ℕ
width_of e = context e.target_scope e.target e.source_scope e.source

-- bit b is at position j of the equation's target, and word k is its right side
pub record IsDriver (nets : List NetInfo) (words : List Tree) (e : Equation) (b k j : ℕ) : Type 0 where
  pub there : k < length words
  pub place : place_in e.target_scope e.target b ≡ Some j
  pub renders : Renders nets words e.source_scope e.source (width_of e) (word_at words k)

abbrev pub drives : ℕ → Equation → Bool
drives b e = is_some (place_in e.target_scope e.target b)

-- how many equations have the bit
abbrev pub drivers_of : List Equation → ℕ → ℕ
drivers_of es b = count_by (drives b) es

-- what a slot says of bit b among these equations
abbrev pub SlotSays : List NetInfo → List Tree → List Equation → ℕ → Slot → Type 0
SlotSays nets words es b Free = drivers_of es b ≡ 0
SlotSays nets words es b (Once w) =
    (drivers_of es b ≡ 1) × ((e : Equation) × Contains es e × IsDriver nets words e b w.word w.bit)
SlotSays nets words es b Twice = 1 < drivers_of es b

abbrev pub AreDriven : List NetInfo → List Tree → List Equation → List Slot → Type 0
AreDriven nets words es slots = (b : ℕ) → b < length slots → SlotSays nets words es b (slot_at slots b)

-- the first bits of the nets have these numbers
pub record AreStarts (nets : List NetInfo) (starts : List ℕ) : Type 0 where
  pub size : length starts ≡ length nets
  pub are : (k : ℕ) → k < length nets → slice_index_or starts k 0 ≡ offset nets k

-- words and slots have grown by these equations, and what was added to the words costs no more than n
pub record AddsEquations (nets : List NetInfo) (old new : List Tree) (before after : List Slot)
    (es : List Equation) (n : ℕ) : Type 0 where
  pub extends : KeepsFront old new
  pub words : AreWords nets old → AreWords nets new
  pub size : length after ≡ length before
  pub driven : (earlier : List Equation) → AreDriven nets old earlier before →
      AreDriven nets new (earlier ++ es) after
  pub costs : sum_by cost_of new ≤ sum_by cost_of old + n

-- f has the number of the bit at each position, and nothing above
abbrev pub AreNumbered : List NetInfo → List BitName → (ℕ → Option ℕ) → Type 0
AreNumbered nets bits f =
    (j : ℕ) → if_there None (λ (b : BitName). Some (number_of nets b)) (slice_get bits j) ≡ f j

-- bits were driven by one more word
pub record AreEquated (nets : List NetInfo) (bits : List BitName) (made : Tree) (old new : List Tree)
    (before after : List Slot) : Type 0 where
  pub added : new ≡ old ++ made ∷ []
  pub size : length after ≡ length before
  pub filled : (f : ℕ → Option ℕ) → AreNumbered nets bits f → IsApart f → (b : ℕ) →
      slot_at after b ≡ filled (slot_at before b) (length old) (place_below (length bits) f b)

-- outputs of one bit are driven by word k: whatever it is the expression of
pub record DrivesAll (nets : List NetInfo) (s : Scope) (k : ℕ) (ts : List ExprTree) (before after : List Slot) : Type 0
  where
    pub size : length after ≡ length before
    pub driven : (words : List Tree) (e : ExprTree) → k < length words → Renders nets words s e 1 (word_at words k) →
        own s e ≡ 1 → (earlier : List Equation) → AreDriven nets words earlier before →
        AreDriven nets words (earlier ++ map (λ t. assignment s t s e) ts) after

-- an output's bits were driven by word k
pub record IsDrivenBy (s : Scope) (t : ExprTree) (k : ℕ) (before after : List Slot) : Type 0 where
  pub size : length after ≡ length before
  pub filled : IsApart (wire s t) → (b : ℕ) → slot_at after b ≡ filled (slot_at before b) k (place_in s t b)

-- each is a target whose nets aren't too large, and has no bit twice
abbrev pub AreTargets : Scope → List ExprTree → Type 0
AreTargets s [] = Unit {0}
AreTargets s (t ∷ ts) = (AreSlim s t × IsApart (wire s t)) × AreTargets s ts

-- Cited by proofs alone; nothing here has to be believed.
-- While the words of a cycle are evaluated one after another: bits and words are marked that have the values of a solution.
use Rattle.std.specs.Prelude.{◌≡◌, ◌≢◌, ℕ, Option, Some, None, ◌<◌, List, [], Bool, All, true, false, length, slice_index_or}
use Rattle.eq_model.specs.Frames.{frames, values}
use Rattle.eq_model.specs.System.{Values}
use Rattle.eq_names.specs.declared.BitName.{BitName}
use Rattle.eq_net.specs.declared.types.WordBit.{WordBit}
use Rattle.eq_net.specs.declared.types.Driver.{Driver}
use Rattle.eq_net.specs.declared.types.Driver.TheVariants.{Input, Undriven, Expr as WordOf, Reg}
use Rattle.eq_net.specs.Cycles.{word_values}
use Rattle.eq_net.specs.Tree.{Tree, const, read, pick, negated, opposite, binary, reduced, choice, empty, joined, extended}
use Rattle.eq_net.specs.Meaning.{width}
use Rattle.eq_net.specs.Net.{Parts, word_at}

-- the value of a bit that a word drives, where the word is marked
abbrev pub HasValue : Driver → List (List Bool) → List Bool → Bool → Type 0
HasValue (WordOf w j) words whole x = (values whole w ≡ true) × (x ≡ frames words w j)
HasValue Input words whole x = ⊥
HasValue Undriven words whole x = ⊥
HasValue (Reg init w j) words whole x = ⊥

-- bit b has the value, if there is one, and is marked, and all others are as they were
abbrev pub IsMarkedAs : ℕ → Option Bool → List Bool → List Bool → List Bool → List Bool → Type 0
IsMarkedAs b None now now' done done' = (now' ≡ now) × (done' ≡ done)
IsMarkedAs b (Some x) now now' done done' = (values now' b ≡ x) × (values done' b ≡ true) ×
    ((k : ℕ) → k ≢ b → values now' k ≡ values now k) × ((k : ℕ) → k ≢ b → values done' k ≡ values done k)

-- a bit that is given, or one without a driver that is 0
abbrev pub IsGiven : Driver → Bool → Type 0
IsGiven Input x = Unit {0}
IsGiven Undriven x = x ≡ false
IsGiven (WordOf w j) x = ⊥
IsGiven (Reg init w j) x = Unit {0}

-- marked bits have their values in v
abbrev pub AreMarked : Values → List Bool → List Bool → Type 0
AreMarked v now done = (b : ℕ) → values done b ≡ true → values now b ≡ v b

-- the lists of marked words are as long as these, and have their bits, where v has the values of all bits
pub record AreWhole (n : Parts) (v : Values) (words : List (List Bool)) (whole : List Bool) : Type 0 where
  pub sizes : (w : ℕ) → values whole w ≡ true → length (slice_index_or words w []) ≡ width (word_at n.words w)
  pub each : (w j : ℕ) → values whole w ≡ true → j < width (word_at n.words w) → frames words w j ≡ word_values n v w j

-- all bits that a word reads are marked, and all words of which it picks bits
abbrev pub IsReady : (BitName → ℕ) → List Bool → List Bool → Tree → Type 0
IsReady number done whole (const bits) = Unit {0}
IsReady number done whole (read names) = All (λ n. values done (number n) ≡ true) names
IsReady number done whole (pick bits) = All (λ (b : WordBit). values whole b.word ≡ true) bits
IsReady number done whole (negated a) = IsReady number done whole a
IsReady number done whole (opposite a) = IsReady number done whole a
IsReady number done whole (binary o a b) = IsReady number done whole a × IsReady number done whole b
IsReady number done whole (reduced o a) = IsReady number done whole a
IsReady number done whole (choice c a b) = IsReady number done whole c × IsReady number done whole a × IsReady number done whole b
IsReady number done whole empty = Unit {0}
IsReady number done whole (joined a b) = IsReady number done whole a × IsReady number done whole b
IsReady number done whole (extended a n) = IsReady number done whole a

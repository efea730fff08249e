-- Cited by proofs alone; nothing here has to be believed.
-- The places of which one of two entries is new, and the word that chooses between them.
use Rattle.std.specs.Prelude.{◌≡◌, ◌≤◌, ◌<◌, ◌+◌, ◌++◌, ◌∷◌, [], ℕ, nat_lt, Bool, ◌||◌, true, false, List, Some, length, slice_get, slice_set, sum_by}
use Rattle.eq_model.specs.System.{Values}
use Rattle.eq_net.specs.declared.types.NetInfo.{NetInfo}
use Rattle.eq_net.specs.declared.types.WordBit.{WordBit}
use Rattle.eq_net.specs.Tree.{Tree, choice, pick}
use Rattle.eq_net.specs.Meaning.{all_reads_of, cost_of, values_of, width}
use Rattle.eq_net.specs.Net.{AreWords, number_of, word_at}
use Rattle.eq_verilog.specs.Trees.{ExprTree}
use Rattle.eq_verilog.specs.Scopes.{Scope}
use Rattle.eq_verilog.specs.Sizes.{own}
use Rattle.eq_verilog.specs.Expressions.{reads, value}
use Rattle.eq_verilog.specs.Costs.{cost}
use Rattle.eq_flatten.specs.Rendering.{KeepsFront}
use Rattle.eq_registers.specs.inner.Writing.{entry}

-- the last of the words is an expression by itself
pub record HasCondition (nets : List NetInfo) (s : Scope) (c : ExprTree) (number : ℕ) (old new : List Tree) : Type 0
  where
    pub extends : KeepsFront old new
    pub words : AreWords nets new
    pub last : length new ≡ number + 1
    pub above : length old ≤ number
    pub size : width (word_at new number) ≡ own s c
    pub values : (v : Values) (j : ℕ) → values_of v (number_of nets) new number j ≡ value s v c (own s c) j
    pub reads : (j : ℕ) → all_reads_of (number_of nets) new number j ≡ reads s c (own s c) j
    pub costs : sum_by cost_of new ≤ sum_by cost_of old + cost s c (own s c)

-- the first n bits of a word
pub record IsWhole (word : ℕ) (bits : List WordBit) (n : ℕ) : Type 0 where
  pub size : length bits ≡ n
  pub at : (j : ℕ) (b : WordBit) → slice_get bits j ≡ Some b → b ≡ entry word j
  pub there : (j : ℕ) → j < n → slice_get bits j ≡ Some (entry word j)

abbrev pub is_new : ℕ → WordBit → WordBit → Bool
is_new condition x y = nat_lt condition x.word || nat_lt condition y.word

-- a place was looked at, of which the first entry is x
pub record IsTaken (condition number place : ℕ) (x : WordBit) (ones others before nows mores after : List WordBit) : Type 0
  where
    pub taken : (y : WordBit) → slice_get before place ≡ Some y → is_new condition x y ≡ true →
        (nows ≡ ones ++ x ∷ []) × (mores ≡ others ++ y ∷ [])
        × (after ≡ slice_set before place (entry number (length ones)))
    pub passed : (y : WordBit) → slice_get before place ≡ Some y → is_new condition x y ≡ false →
        (nows ≡ ones) × (mores ≡ others) × (after ≡ before)

-- the entries of the first n places of which one is new
pub record IsGathered (condition number : ℕ) (firsts before after ones others : List WordBit) (n : ℕ) : Type 0 where
  pub size : length after ≡ length before
  pub even : length others ≡ length ones
  pub few : length ones ≤ n
  pub chosen : (p : ℕ) (x y : WordBit) → p < n → slice_get firsts p ≡ Some x → slice_get before p ≡ Some y →
      is_new condition x y ≡ true →
      (k : ℕ) × (slice_get after p ≡ Some (entry number k)) × (slice_get ones k ≡ Some x) × (slice_get others k ≡ Some y)
  pub passed : (p : ℕ) (x y : WordBit) → p < n → slice_get firsts p ≡ Some x → slice_get before p ≡ Some y →
      is_new condition x y ≡ false → slice_get after p ≡ Some y
  pub rest : (p : ℕ) → n ≤ p → slice_get after p ≡ slice_get before p
  pub from_firsts : (k : ℕ) (x : WordBit) → slice_get ones k ≡ Some x → (p : ℕ) × (slice_get firsts p ≡ Some x)
  pub from_others : (k : ℕ) (y : WordBit) → slice_get others k ≡ Some y → (p : ℕ) × (slice_get before p ≡ Some y)

-- a word was added that chooses between the entries, where one of them is new
pub record IsChosen (condition size : ℕ) (firsts before after : List WordBit) (old new : List Tree) : Type 0 where
  pub bits : List WordBit
  pub ones : List WordBit
  pub others : List WordBit
  pub whole : IsWhole condition bits size
  pub gathered : IsGathered condition (length old) firsts before after ones others (length firsts)
  pub added : new ≡ old ++ choice (pick bits) (pick ones) (pick others) ∷ []

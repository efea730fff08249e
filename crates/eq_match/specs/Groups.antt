-- The groups of pairs.
use Rattle.std.specs.Prelude.{◌≡◌, ℕ, ◌<◌, ◌↔◌, ◌⊎◌, ◌==◌, Bool, true, not, List, [], ◌∷◌, length}
use Rattle.eq_names.specs.Patterns.{Matches}
use Rattle.eq_net.specs.Net.{Parts, name_at}
use Rattle.eq_config.specs.declared.config.CollectRule.{CollectRule}
use Rattle.eq_config.specs.declared.config.CollectRule.TheVariants.{Solo, Group, Join}
use Rattle.eq_config.specs.declared.config.CollectSection.{CollectSection}
use Rattle.eq_config.specs.declared.config.Config.{Config}
use Rattle.eq_match.specs.declared.types.Pair.{Pair}
use Rattle.eq_match.specs.Pairs.{pair_at, gold_net}
use Rattle.eq_match.specs.Classes.{SameClasses, Together, alone, classes, gathered, touches, united}

-- pairs of inputs stand in no group
abbrev pub is_held : List Pair → ℕ → Bool
is_held pairs i = not (pair_at pairs i).input

-- the pattern matches the full name of the gold net at position i
abbrev pub IsHit : Parts → List Pair → List ℕ → ℕ → Type 0
IsHit gold pairs pattern i = Matches pattern (name_at gold.nets (gold_net pairs i))

-- the test tells the positions that a pattern hits
abbrev pub TellsHits : Parts → List Pair → List ℕ → (ℕ → Bool) → Type 0
TellsHits gold pairs pattern hit = (i : ℕ) → i < length pairs → (hit i ≡ true) ↔ IsHit gold pairs pattern i

-- at first there is a group for each net of gold
abbrev pub by_net : List Pair → Together
by_net pairs i j = gold_net pairs i == gold_net pairs j

-- what a line makes of the groups, where the test tells its hits
abbrev pub collected : List Pair → CollectRule → (ℕ → Bool) → Together → Together
collected pairs (Solo pattern) hit before = alone hit before
collected pairs (Group pattern) hit before = gathered hit before
collected pairs (Join pattern) hit before = united (touches (length pairs) (is_held pairs) hit before) before

abbrev pub pattern_of : CollectRule → List ℕ
pattern_of (Solo pattern) = pattern
pattern_of (Group pattern) = pattern
pattern_of (Join pattern) = pattern

abbrev pub LineMakes : Parts → List Pair → CollectRule → Together → Together → Type 0
LineMakes gold pairs rule before after = (hit : ℕ → Bool) × TellsHits gold pairs (pattern_of rule) hit ×
    SameClasses (length pairs) after (collected pairs rule hit before)

abbrev pub LinesMake : Parts → List Pair → List CollectRule → Together → Together → Type 0
LinesMake gold pairs [] before after = SameClasses (length pairs) after before
LinesMake gold pairs (rule ∷ rules) before after = (between : Together) × LineMakes gold pairs rule before between ×
    LinesMake gold pairs rules between after

-- a section counts where its heading's pattern matches the name of gold's top
abbrev pub SectionCollects : Parts → List Pair → List ℕ → CollectSection → Together → Together → Type 0
SectionCollects gold pairs top s before after = (Matches s.top top × LinesMake gold pairs s.rules before after) ⊎
    ((¬ Matches s.top top) × SameClasses (length pairs) after before)

abbrev pub SectionsCollect : Parts → List Pair → List ℕ → List CollectSection → Together → Together → Type 0
SectionsCollect gold pairs top [] before after = SameClasses (length pairs) after before
SectionsCollect gold pairs top (s ∷ sections) before after = (between : Together) ×
    SectionCollects gold pairs top s before between × SectionsCollect gold pairs top sections between after

-- the groups that a configuration says, as lists of positions
pub record AreGroups (gold : Parts) (pairs : List Pair) (c : Config) (groups : List (List ℕ)) : Type 0 where
  pub together : Together
  pub lines : SectionsCollect gold pairs c.gold.top c.collects (by_net pairs) together
  pub groups_are : groups ≡ classes (length pairs) (is_held pairs) together

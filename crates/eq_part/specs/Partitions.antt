-- The partitions of pairs, and their names.
use Rattle.std.specs.Prelude.{◌≡◌, ◌==◌, ℕ, ◌<◌, ◌↔◌, ◌⊎◌, Bool, true, not, ◌&&◌, ◌||◌, if◌then◌else◌, List, [], ◌∷◌, length, map, Option, Some, None, slice_get, All, ◌^◌}
use Rattle.std.specs.List.{list_any}
use Rattle.eq_model.specs.Cut.{any_below}
use Rattle.eq_names.specs.Patterns.{Matches}
use Rattle.eq_net.specs.Net.{HasBit, Parts, name_at}
use Rattle.eq_net.specs.Naming.{name_of_bit}
use Rattle.eq_config.specs.declared.config.Config.{Config}
use Rattle.eq_config.specs.declared.config.PartRule.{PartRule}
use Rattle.eq_config.specs.declared.config.PartRule.TheVariants.{Merge, Path, Rename}
use Rattle.eq_config.specs.declared.config.PartSection.{PartSection}
use Rattle.eq_match.specs.declared.types.Pair.{Pair}
use Rattle.eq_match.specs.Pairs.{gold_net, pair_at}
use Rattle.eq_match.specs.NetPairs.{IsFilling}
use Rattle.eq_match.specs.Classes.{Together, classes, touches, united}
use Rattle.eq_match.specs.Fitting.{PartRuleFits}
use Rattle.eq_match.specs.Divided.{has}
use Rattle.eq_match.specs.Groups.{IsHit, TellsHits, is_held}
use Rattle.eq_part.specs.declared.types.Partition.{Partition}
use Rattle.eq_match.specs.Matched.{gold_bit}
use Rattle.eq_part.specs.Reach.{IsOnPath}

-- partitions while lines are read: who stands together, and the name that a line gave to a position's partition
pub record Division : Type 0 where
  pub together : Together
  pub called : ℕ → Option (List ℕ)

-- divisions that say the same of n positions
pub record SameDivision (n : ℕ) (d e : Division) : Type 0 where
  pub together : (i j : ℕ) → i < n → j < n → d.together i j ≡ e.together i j
  pub called : (i : ℕ) → i < n → d.called i ≡ e.called i

-- ---- unions

-- two marked positions that are held stand in different partitions
abbrev pub are_several : List Pair → (ℕ → Bool) → Together → Bool
are_several pairs marked together = any_below (length pairs) (λ i. is_held pairs i && marked i &&
    any_below (length pairs) (λ j. is_held pairs j && marked j && not (together i j)))

-- the marked partitions are united, and the union has its default name again. One partition alone stays as it is
abbrev pub union : List Pair → (ℕ → Bool) → Division → Division
union pairs marked d = record {
  together = united marked d.together;
  called = λ i. if are_several pairs marked d.together && marked i then None else d.called i;
}

-- ---- names

-- position j is the first output of the partition of i of which this holds
pub record IsFirstOf (pairs : List Pair) (together : Together) (P : ℕ → Type 0) (i j : ℕ) : Type 0 where
  pub within : j < length pairs
  pub held : is_held pairs j ≡ true
  pub one : together i j ≡ true
  pub holds : P j
  pub first : (k : ℕ) → k < j → is_held pairs k ≡ true → together i k ≡ true → ¬ P k

-- no output of the partition of i is hit
abbrev pub IsMissed : Parts → List Pair → Together → List ℕ → ℕ → Type 0
IsMissed gold pairs together pattern i = (j : ℕ) → j < length pairs → is_held pairs j ≡ true → together i j ≡ true →
    ¬ IsHit gold pairs pattern j

-- the name before, and after a line that gives this text: an empty one leaves the name
abbrev pub renamed : Option (List ℕ) → List ℕ → Option (List ℕ)
renamed before [] = before
renamed before (b ∷ bytes) = Some (b ∷ bytes)

-- `name`: a partition with a hit output takes the text filled with the captures of its first such output
abbrev pub IsRenamed : Parts → List Pair → List ℕ → List ℕ → Division → Division → Type 0
IsRenamed gold pairs pattern template before after = (i : ℕ) → i < length pairs → is_held pairs i ≡ true →
    ((j : ℕ) × (text : List ℕ) × IsFirstOf pairs before.together (IsHit gold pairs pattern) i j ×
    IsFilling pattern template (name_at gold.nets (gold_net pairs j)) text ×
    (after.called i ≡ renamed (before.called i) text)) ⊎
    (IsMissed gold pairs before.together pattern i × (after.called i ≡ before.called i))

-- ---- lines

-- what a line makes of the partitions
abbrev pub RuleMakes : Parts → List Pair → PartRule → Division → Division → Type 0
RuleMakes gold pairs (Merge pattern) before after = (hit : ℕ → Bool) × TellsHits gold pairs pattern hit ×
    SameDivision (length pairs) after (union pairs (touches (length pairs) (is_held pairs) hit before.together) before)
RuleMakes gold pairs (Path from to) before after = (marked : ℕ → Bool) ×
    ((i : ℕ) → i < length pairs → (marked i ≡ true) ↔ IsOnPath gold pairs before.together from to i) ×
    SameDivision (length pairs) after (union pairs marked before)
RuleMakes gold pairs (Rename pattern template) before after =
    ((i j : ℕ) → i < length pairs → j < length pairs → after.together i j ≡ before.together i j) ×
    IsRenamed gold pairs pattern template before after

abbrev pub RulesMake : Parts → List Pair → List PartRule → Division → Division → Type 0
RulesMake gold pairs [] before after = SameDivision (length pairs) after before
RulesMake gold pairs (rule ∷ rules) before after = (between : Division) × RuleMakes gold pairs rule before between ×
    RulesMake gold pairs rules between after

-- a section counts where its heading's pattern matches the name of gold's top
abbrev pub SectionMakes : Parts → List Pair → List ℕ → PartSection → Division → Division → Type 0
SectionMakes gold pairs top s before after = (Matches s.top top × RulesMake gold pairs s.rules before after) ⊎
    ((¬ Matches s.top top) × SameDivision (length pairs) after before)

abbrev pub SectionsMake : Parts → List Pair → List ℕ → List PartSection → Division → Division → Type 0
SectionsMake gold pairs top [] before after = SameDivision (length pairs) after before
SectionsMake gold pairs top (s ∷ sections) before after = (between : Division) ×
    SectionMakes gold pairs top s before between × SectionsMake gold pairs top sections between after

-- ---- the partitions

-- each partition begins as a group, without a name of its own. A pair of inputs stands alone
abbrev pub from_groups : List (List ℕ) → Division
from_groups groups = record {
  together = λ i j. (i == j) || list_any (λ g. has i g && has j g) groups;
  called = λ i. None;
}

-- the partition of position i holds all bits of i's gold net: pairs join whole nets, so all are paired
abbrev pub HoldsNet : List Pair → Together → ℕ → Type 0
HoldsNet pairs together i = (j : ℕ) → j < length pairs → gold_net pairs j ≡ gold_net pairs i → together i j ≡ true

-- the default name of the partition whose first output is at i: the net's name where it holds all bits of the net, else the
-- bit's
abbrev pub IsDefaultName : Parts → List Pair → Together → ℕ → List ℕ → Type 0
IsDefaultName gold pairs together i name =
    (HoldsNet pairs together i × (name ≡ name_at gold.nets (gold_net pairs i))) ⊎
    ((¬ HoldsNet pairs together i) × (name ≡ name_of_bit gold.nets (pair_at pairs i).gold))

-- the name that a line gave, or the default one
abbrev pub IsNameOf : Parts → List Pair → Division → ℕ → List ℕ → Type 0
IsNameOf gold pairs d i name = (d.called i ≡ Some name) ⊎ ((d.called i ≡ None) × IsDefaultName gold pairs d.together i name)

-- the partitions that a configuration makes of these groups
pub record ArePartitions (gold : Parts) (pairs : List Pair) (groups : List (List ℕ)) (c : Config)
    (parts : List Partition) : Type 0 where
  pub first : Division
  pub begins : SameDivision (length pairs) first (from_groups groups)
  pub division : Division
  pub lines : SectionsMake gold pairs c.gold.top c.partitions first division
  pub outputs_are : map (λ p. p.outputs) parts ≡ classes (length pairs) (is_held pairs) division.together
  pub names_are : (q i : ℕ) (p : Partition) (more : List ℕ) → slice_get parts q ≡ Some p → p.outputs ≡ i ∷ more →
      IsNameOf gold pairs division i p.name

-- the pairs have bits of gold, no two the same, and there are few of them
pub record HaveGoldBits (gold : Parts) (pairs : List Pair) : Type 0 where
  pub there : All (λ p. HasBit gold.nets p.gold) pairs
  pub once : (i j : ℕ) → i < length pairs → j < length pairs → gold_bit gold pairs i ≡ gold_bit gold pairs j → i ≡ j
  pub few : length pairs < 2 ^ 31

-- the templates of a section fit their patterns
abbrev pub SectionFits : PartSection → Type 0
SectionFits s = All PartRuleFits s.rules

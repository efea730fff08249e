-- Templates that fit their patterns.
use Rattle.std.specs.Prelude.{ℕ, List, All}
use Rattle.eq_names.specs.Patterns.{HasWilds}
use Rattle.eq_names.specs.Templates.{IsTemplate}
use Rattle.eq_config.specs.declared.config.Config.{Config}
use Rattle.eq_config.specs.declared.config.MatchRule.{MatchRule}
use Rattle.eq_config.specs.declared.config.MatchRule.TheVariants.{GoldMatch, GateMatch, GoldNo, GateNo}
use Rattle.eq_config.specs.declared.config.MatchSection.{MatchSection}
use Rattle.eq_config.specs.declared.config.PartRule.{PartRule}
use Rattle.eq_config.specs.declared.config.PartRule.TheVariants.{Merge, Path, Rename}
use Rattle.eq_config.specs.declared.config.PartSection.{PartSection}

-- the text is a template for as many wilds as the pattern has
abbrev pub FitsPattern : List ℕ → List ℕ → Type 0
FitsPattern pattern template = (wilds : ℕ) → HasWilds pattern wilds → IsTemplate template wilds

abbrev pub RuleFits : MatchRule → Type 0
RuleFits (GoldMatch pattern template inverted) = FitsPattern pattern template
RuleFits (GateMatch pattern template inverted) = FitsPattern pattern template
RuleFits (GoldNo pattern) = Unit {0}
RuleFits (GateNo pattern) = Unit {0}

abbrev pub PartRuleFits : PartRule → Type 0
PartRuleFits (Merge pattern) = Unit {0}
PartRuleFits (Path from to) = Unit {0}
PartRuleFits (Rename pattern template) = FitsPattern pattern template

-- each template of a configuration fits its pattern
pub record HasFittingTemplates (c : Config) : Type 0 where
  pub matches : All (λ (s : MatchSection). All RuleFits s.rules) c.matches
  pub partitions : All (λ (s : PartSection). All PartRuleFits s.rules) c.partitions

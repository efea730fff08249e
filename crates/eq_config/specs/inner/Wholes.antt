-- Mirrors src/finish.rt; nothing here has to be believed.
use Rattle.std.specs.Prelude.{ℕ, [], map, Option, unwrap_or}
use Rattle.eq_config.specs.declared.config.Config.{Config}
use Rattle.eq_config.specs.declared.config.Side.{Side}
use Rattle.eq_config.specs.declared.draft.Draft.{Draft}
use Rattle.eq_config.specs.declared.section.SideSection.{SideSection}
use Rattle.eq_config.specs.Configs.{or_else, missing_side, missing_strategy, strategy_of}

abbrev pub missing_in_draft : ℕ → Draft → Option ℕ
missing_in_draft end d =
    or_else (missing_side end d.gold.line d.gold.files d.gold.top)
    (or_else (missing_side end d.gate.line d.gate.files d.gate.top) (missing_strategy end d.strategies))

abbrev pub side_of_section : SideSection → Side
side_of_section s = record { files = s.files; top = unwrap_or s.top [] }

abbrev pub config_of_draft : Draft → Config
config_of_draft d = record {
  gold = side_of_section d.gold;
  gate = side_of_section d.gate;
  matches = d.matches;
  collects = d.collects;
  partitions = d.partitions;
  strategies = map strategy_of d.strategies;
}

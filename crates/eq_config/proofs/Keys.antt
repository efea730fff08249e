-- The first words of printed lines and headings are known where they stand, and are names.
use Rattle.std.proofs.Common.{◌≡◌, ℕ, Bool, true, leb, ◌&&◌, List, [], ◌∷◌, Some, refl, arith}
use Rattle.std.specs.Prelude.{All, codes}
use Rattle.std.proofs.lemmas.Bool.{and_parts, leb-true}
use Rattle.std.proofs.lemmas.List.Elements.{All-nil, All-cons}
use Rattle.eq_names.specs.Name.{IsNameByte, IsName}
use Rattle.eq_config.specs.declared.keyword.Keyword.{Keyword}
use Rattle.eq_config.specs.declared.keyword.Keyword.TheVariants as keyword
use Rattle.eq_config.specs.declared.keyword.MatchKeyword.{MatchKeyword}
use Rattle.eq_config.specs.declared.keyword.MatchKeyword.TheVariants.{GoldMatch, GateMatch, GoldNo, GateNo}
use Rattle.eq_config.specs.declared.keyword.CollectKeyword.{CollectKeyword}
use Rattle.eq_config.specs.declared.keyword.CollectKeyword.TheVariants.{Solo, Group, Join}
use Rattle.eq_config.specs.declared.keyword.PartKeyword.{PartKeyword}
use Rattle.eq_config.specs.declared.keyword.PartKeyword.TheVariants.{Merge, Path, Rename}
use Rattle.eq_config.specs.declared.said.Role.{Role}
use Rattle.eq_config.specs.declared.said.Role.TheVariants.{Gold, Gate}
use Rattle.eq_config.specs.declared.said.SectionKind.{SectionKind}
use Rattle.eq_config.specs.declared.said.SectionKind.TheVariants as section
use Rattle.eq_config.specs.Keywords.{title_of, keyword_of}
use Rattle.eq_config.proofs.Leading.{IsKey}

-- ---- names, by computing

abbrev pub is_seen : List ℕ → Bool
is_seen [] = true
is_seen (b ∷ bs) = leb 33 b && (leb b 126 && is_seen bs)

seen_all : (word : List ℕ) → is_seen word ≡ true → All IsNameByte word
seen_all [] seen = All-nil IsNameByte
seen_all (b ∷ bs) seen =
    let low = and_parts (leb 33 b) (leb b 126 && is_seen bs) seen in
    let high = and_parts (leb b 126) (is_seen bs) low.1 in
    All-cons IsNameByte b bs (leb-true 33 b low.0, leb-true b 126 high.0) (seen_all bs high.1)

pub name_by : (b : ℕ) (bs : List ℕ) → is_seen (b ∷ bs) ≡ true → IsName (b ∷ bs)
name_by b bs seen = record { some = λ e. absurd (cc); bytes = seen_all (b ∷ bs) seen }

-- a first word in a section of a kind
pub record IsKeyOf (kind : SectionKind) (key : Keyword) (word : List ℕ) : Type 0 where
  pub known : keyword_of kind word ≡ Some key
  pub first : IsKey word
  pub name : IsName word

-- a first word in a heading
pub record IsTitleOf (kind : SectionKind) (word : List ℕ) : Type 0 where
  pub known : title_of word ≡ Some kind
  pub name : IsName word

-- ---- headings

abbrev pub side_title : Role → List ℕ
side_title Gold = codes "gold"
side_title Gate = codes "gate"

pub title_side : (role : Role) → IsTitleOf (section.Design role) (side_title role)
unfolding title_of
title_side Gold = record { known = refl; name = name_by _ _ refl }
title_side Gate = record { known = refl; name = name_by _ _ refl }

pub title_match : IsTitleOf section.Match (codes "match")
unfolding title_of
title_match = record { known = refl; name = name_by _ _ refl }

pub title_collect : IsTitleOf section.Collect (codes "collect")
unfolding title_of
title_collect = record { known = refl; name = name_by _ _ refl }

pub title_partition : IsTitleOf section.Partition (codes "partition")
unfolding title_of
title_partition = record { known = refl; name = name_by _ _ refl }

pub title_strategy : IsTitleOf section.Strategy (codes "strategy")
unfolding title_of
title_strategy = record { known = refl; name = name_by _ _ refl }

-- ---- lines

pub key_files : (role : Role) → IsKeyOf (section.Design role) (keyword.Files role) (codes "read_verilog")
unfolding keyword_of
key_files role = record {
  known = refl;
  first = (λ e. absurd (omega arith), λ e. absurd (omega arith));
  name = name_by _ _ refl;
}

pub key_top : (role : Role) → IsKeyOf (section.Design role) (keyword.Top role) (codes "prep")
unfolding keyword_of
key_top role = record {
  known = refl;
  first = (λ e. absurd (omega arith), λ e. absurd (omega arith));
  name = name_by _ _ refl;
}

abbrev pub match_word : MatchKeyword → List ℕ
match_word GoldMatch = codes "gold-match"
match_word GateMatch = codes "gate-match"
match_word GoldNo = codes "gold-nomatch"
match_word GateNo = codes "gate-nomatch"

pub key_match : (key : MatchKeyword) → IsKeyOf section.Match (keyword.Match key) (match_word key)
unfolding keyword_of
key_match GoldMatch = record {
  known = refl;
  first = (λ e. absurd (omega arith), λ e. absurd (omega arith));
  name = name_by _ _ refl;
}
key_match GateMatch = record {
  known = refl;
  first = (λ e. absurd (omega arith), λ e. absurd (omega arith));
  name = name_by _ _ refl;
}
key_match GoldNo = record {
  known = refl;
  first = (λ e. absurd (omega arith), λ e. absurd (omega arith));
  name = name_by _ _ refl;
}
key_match GateNo = record {
  known = refl;
  first = (λ e. absurd (omega arith), λ e. absurd (omega arith));
  name = name_by _ _ refl;
}

abbrev pub collect_word : CollectKeyword → List ℕ
collect_word Solo = codes "solo"
collect_word Group = codes "group"
collect_word Join = codes "join"

pub key_collect : (key : CollectKeyword) → IsKeyOf section.Collect (keyword.Collect key) (collect_word key)
unfolding keyword_of
key_collect Solo = record {
  known = refl;
  first = (λ e. absurd (omega arith), λ e. absurd (omega arith));
  name = name_by _ _ refl;
}
key_collect Group = record {
  known = refl;
  first = (λ e. absurd (omega arith), λ e. absurd (omega arith));
  name = name_by _ _ refl;
}
key_collect Join = record {
  known = refl;
  first = (λ e. absurd (omega arith), λ e. absurd (omega arith));
  name = name_by _ _ refl;
}

abbrev pub part_word : PartKeyword → List ℕ
part_word Merge = codes "merge"
part_word Path = codes "path"
part_word Rename = codes "name"

pub key_part : (key : PartKeyword) → IsKeyOf section.Partition (keyword.Partition key) (part_word key)
unfolding keyword_of
key_part Merge = record {
  known = refl;
  first = (λ e. absurd (omega arith), λ e. absurd (omega arith));
  name = name_by _ _ refl;
}
key_part Path = record {
  known = refl;
  first = (λ e. absurd (omega arith), λ e. absurd (omega arith));
  name = name_by _ _ refl;
}
key_part Rename = record {
  known = refl;
  first = (λ e. absurd (omega arith), λ e. absurd (omega arith));
  name = name_by _ _ refl;
}

pub key_use : IsKeyOf section.Strategy keyword.Use (codes "use")
unfolding keyword_of
key_use = record {
  known = refl;
  first = (λ e. absurd (omega arith), λ e. absurd (omega arith));
  name = name_by _ _ refl;
}

pub key_depth : IsKeyOf section.Strategy keyword.Depth (codes "depth")
unfolding keyword_of
key_depth = record {
  known = refl;
  first = (λ e. absurd (omega arith), λ e. absurd (omega arith));
  name = name_by _ _ refl;
}

pub key_conflicts : IsKeyOf section.Strategy keyword.Conflicts (codes "conflicts")
unfolding keyword_of
key_conflicts = record {
  known = refl;
  first = (λ e. absurd (omega arith), λ e. absurd (omega arith));
  name = name_by _ _ refl;
}

pub key_apply : IsKeyOf section.Strategy keyword.Apply (codes "apply")
unfolding keyword_of
key_apply = record {
  known = refl;
  first = (λ e. absurd (omega arith), λ e. absurd (omega arith));
  name = name_by _ _ refl;
}

-- Which net of gold is paired with which net of gate.
use Rattle.std.specs.Prelude.{◌≡◌, ◌≢◌, ◌==◌, ℕ, zero, suc, ◌<◌, ◌⊎◌, Bool, false, if◌then◌else◌, List, [], ◌∷◌, length, Option, Some, None}
use Rattle.eq_names.specs.declared.span.Span.{Span}
use Rattle.eq_names.specs.Patterns.{Matches, AreCaptures}
use Rattle.eq_names.specs.Templates.{IsFilled}
use Rattle.eq_net.specs.declared.types.Dir.TheVariants.{Inner}
use Rattle.eq_net.specs.Net.{Parts, name_at, net_at}
use Rattle.eq_config.specs.declared.config.Config.{Config}
use Rattle.eq_config.specs.declared.config.MatchRule.{MatchRule}
use Rattle.eq_config.specs.declared.config.MatchRule.TheVariants.{GoldMatch, GateMatch, GoldNo, GateNo}
use Rattle.eq_config.specs.declared.config.MatchSection.{MatchSection}
use Rattle.eq_match.specs.declared.types.Partner.{Partner}
use Rattle.eq_match.specs.Seen.{IsSeen, HaveOneWidth}

-- for each net of gold, by number, the net of gate that it is paired with
abbrev pub Pairing : Type 0
Pairing = ℕ → Option Partner

abbrev pub SamePairs : Pairing → Pairing → Type 0
SamePairs p q = (k : ℕ) → p k ≡ q k

-- ---- at first

-- ports of the tops are paired by name
pub record AreOnePort (gold gate : Parts) (k h : ℕ) : Type 0 where
  pub gold_there : k < length gold.nets
  pub gate_there : h < length gate.nets
  pub gold_port : (net_at gold.nets k).dir ≢ Inner
  pub gate_port : (net_at gate.nets h).dir ≢ Inner
  pub names : name_at gold.nets k ≡ name_at gate.nets h

-- other nets of one name and width, where all bits are driven on both sides and no tool made the name
pub record AreOneNet (gold gate : Parts) (k h : ℕ) : Type 0 where
  pub gold_seen : IsSeen gold k
  pub gate_seen : IsSeen gate h
  pub gold_chosen : (net_at gold.nets k).auto ≡ false
  pub gate_chosen : (net_at gate.nets h).auto ≡ false
  pub names : name_at gold.nets k ≡ name_at gate.nets h
  pub widths : HaveOneWidth gold k gate h

-- the two nets are paired before any line is read
abbrev pub AreTwins : Parts → Parts → ℕ → ℕ → Type 0
AreTwins gold gate k h = AreOnePort gold gate k h ⊎ AreOneNet gold gate k h

-- the pairs before any line is read, all of them plain
abbrev pub IsFirstPairing : Parts → Parts → Pairing → Type 0
IsFirstPairing gold gate p = (k : ℕ) →
    ((h : ℕ) × AreTwins gold gate k h × (p k ≡ Some (record { net = h; inverted = false }))) ⊎
    (((h : ℕ) → ¬ AreTwins gold gate k h) × (p k ≡ None))

-- ---- a line

-- without the pair of this net of gate
abbrev pub without : ℕ → Option Partner → Option Partner
without h None = None
without h (Some p) = if p.net == h then None else Some p

-- all pairs that hold net k of gold or the partner go, and the pair of the two comes
abbrev pub paired : Pairing → ℕ → Partner → Pairing
paired p k partner g = if g == k then Some partner else without partner.net (p g)

-- the template filled with what the pattern captures of the name
pub record IsFilling (pattern template name text : List ℕ) : Type 0 where
  pub spans : List Span
  pub captured : AreCaptures pattern name spans
  pub filled : IsFilled template name spans text

-- the pattern and the template lead from net k of one netlist to net h of the other: both are seen, and they have as
-- many bits
pub record LeadsFrom (n m : Parts) (pattern template : List ℕ) (k h : ℕ) : Type 0 where
  pub here : IsSeen n k
  pub there : IsSeen m h
  pub named : IsFilling pattern template (name_at n.nets k) (name_at m.nets h)
  pub widths : HaveOneWidth n k m h

-- `gold-match` at net k of gold, and `gate-match` at net h of gate: the pair that it leads to comes, if there is one

abbrev pub GoldMatchAt : Parts → Parts → List ℕ → List ℕ → Bool → ℕ → Pairing → Pairing → Type 0
GoldMatchAt gold gate pattern template inverted k before after =
    ((h : ℕ) × LeadsFrom gold gate pattern template k h ×
    SamePairs after (paired before k (record { net = h; inverted = inverted }))) ⊎
    (((h : ℕ) → ¬ LeadsFrom gold gate pattern template k h) × SamePairs after before)

abbrev pub GateMatchAt : Parts → Parts → List ℕ → List ℕ → Bool → ℕ → Pairing → Pairing → Type 0
GateMatchAt gold gate pattern template inverted h before after =
    ((k : ℕ) × LeadsFrom gate gold pattern template h k ×
    SamePairs after (paired before k (record { net = h; inverted = inverted }))) ⊎
    (((k : ℕ) → ¬ LeadsFrom gate gold pattern template h k) × SamePairs after before)

-- a step at each of the first n nets, in order
abbrev pub AtEach : (ℕ → Pairing → Pairing → Type 0) → ℕ → Pairing → Pairing → Type 0
AtEach step zero before after = SamePairs after before
AtEach step (suc n) before after = (between : Pairing) × AtEach step n before between × step n between after

-- net k is seen, and the pattern matches its name
abbrev pub IsNamed : Parts → List ℕ → ℕ → Type 0
IsNamed n pattern k = IsSeen n k × Matches pattern (name_at n.nets k)

-- the gate net of a pair is named
abbrev pub IsPartnerNamed : Parts → List ℕ → Option Partner → Type 0
IsPartnerNamed gate pattern None = ⊥
IsPartnerNamed gate pattern (Some p) = IsNamed gate pattern p.net

-- the pairs of which this holds go, and the others stay
abbrev pub Loses : (ℕ → Type 0) → Pairing → Pairing → Type 0
Loses gone before after = (k : ℕ) → (gone k × (after k ≡ None)) ⊎ ((¬ gone k) × (after k ≡ before k))

-- what a line makes of the pairs
abbrev pub RuleMakes : Parts → Parts → MatchRule → Pairing → Pairing → Type 0
RuleMakes gold gate (GoldMatch pattern template inverted) before after =
    AtEach (GoldMatchAt gold gate pattern template inverted) (length gold.nets) before after
RuleMakes gold gate (GateMatch pattern template inverted) before after =
    AtEach (GateMatchAt gold gate pattern template inverted) (length gate.nets) before after
RuleMakes gold gate (GoldNo pattern) before after = Loses (IsNamed gold pattern) before after
RuleMakes gold gate (GateNo pattern) before after = Loses (λ k. IsPartnerNamed gate pattern (before k)) before after

-- ---- all lines

abbrev pub RulesMake : Parts → Parts → List MatchRule → Pairing → Pairing → Type 0
RulesMake gold gate [] before after = SamePairs after before
RulesMake gold gate (rule ∷ rules) before after = (between : Pairing) × RuleMakes gold gate rule before between ×
    RulesMake gold gate rules between after

-- a section counts where its heading's pattern matches the name of gold's top
abbrev pub SectionMakes : Parts → Parts → List ℕ → MatchSection → Pairing → Pairing → Type 0
SectionMakes gold gate top s before after = (Matches s.top top × RulesMake gold gate s.rules before after) ⊎
    ((¬ Matches s.top top) × SamePairs after before)

abbrev pub SectionsMake : Parts → Parts → List ℕ → List MatchSection → Pairing → Pairing → Type 0
SectionsMake gold gate top [] before after = SamePairs after before
SectionsMake gold gate top (s ∷ sections) before after = (between : Pairing) ×
    SectionMakes gold gate top s before between × SectionsMake gold gate top sections between after

-- the pairs of nets that a configuration says
pub record IsPairing (gold gate : Parts) (c : Config) (after : Pairing) : Type 0 where
  pub first : Pairing
  pub first_is : IsFirstPairing gold gate first
  pub lines : SectionsMake gold gate c.gold.top c.matches first after

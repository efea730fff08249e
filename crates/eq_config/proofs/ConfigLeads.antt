-- The printed configuration of a text has this configuration again.
use Rattle.std.proofs.Common.{◌≡◌, ℕ, ◌+◌, ◌<◌, ◌≤◌, Bool, true, cond, List, [], ◌∷◌, ◌++◌, length, Option, Some, None, refl, sym, ap, subst, ◌∙◌, arith, append_assoc}
use Rattle.std.specs.Prelude.{map, codes, unwrap_or}
use Rattle.std.specs.List.{flat_map}
use Rattle.std.specs.Str.Lines.{lines}
use Rattle.std.proofs.lemmas.List.{append-nil, length-map}
use Rattle.eq_config.specs.declared.config.Config.{Config}
use Rattle.eq_config.specs.declared.config.Strategy.{Strategy}
use Rattle.eq_config.specs.declared.config.MatchSection.{MatchSection}
use Rattle.eq_config.specs.declared.config.CollectSection.{CollectSection}
use Rattle.eq_config.specs.declared.config.PartSection.{PartSection}
use Rattle.eq_config.specs.declared.draft.Draft.{Draft}
use Rattle.eq_config.specs.declared.limits.TheConstants.{MOST_RULES}
use Rattle.eq_config.specs.declared.said.SectionKind.{SectionKind}
use Rattle.eq_config.specs.declared.section.SideSection.{SideSection}
use Rattle.eq_config.specs.declared.section.StrategySection.{StrategySection}
use Rattle.eq_config.specs.Configs.{or_else, missing_side, missing_use, missing_strategy, strategy_of, HasConfig, IsConfig}
use Rattle.eq_config.specs.Printing.{match_lines, collect_lines, part_lines, strategy_lines, side_lines, rule_lines, config_lines, printed}
use Rattle.eq_config.specs.inner.Drafts.{draft_of, no_side}
use Rattle.eq_config.specs.inner.Wholes.{missing_in_draft, config_of_draft}
use Rattle.eq_config.proofs.Ended.{has_config}
use Rattle.eq_config.proofs.GoodConfigs.{whole_draft}
use Rattle.eq_config.proofs.GoodDrafts.{IsGood, OfSome}
use Rattle.eq_config.proofs.GoodSaids.{AllOf, IsGoodTop}
use Rattle.eq_config.proofs.Leading.{Leads, AreLed, all_led}
use Rattle.eq_config.proofs.PrintedLines.{lines_of_text, led_texts}
use Rattle.eq_config.proofs.RuleLeads.{st, match_leads, collect_leads, part_leads}
use Rattle.eq_config.proofs.SideLeads.{gold_leads, gate_leads}
use Rattle.eq_config.proofs.StrategyLeads.{strategies_leads}

-- ---- what isn't missing

both_none : (a b : Option ℕ) → or_else a b ≡ None → (a ≡ None) × (b ≡ None)
both_none None b h = (refl, h)
both_none (Some n) b h = absurd (cc)

none_of_both : (a b : Option ℕ) → a ≡ None → b ≡ None → or_else a b ≡ None
none_of_both None b a-none b-none = b-none
none_of_both (Some n) b a-none b-none = absurd (cc)

record IsPresent (files : List (List ℕ)) (top : Option (List ℕ)) : Type 0 where
  some : 0 < length files
  top_is : top ≡ Some (unwrap_or top [])

side_present : (end : ℕ) (line : Option ℕ) (files : List (List ℕ)) (top : Option (List ℕ))
    → missing_side end line files top ≡ None → IsPresent files top
side_present end None files top h = absurd (cc)
side_present end (Some line) [] top h = absurd (cc)
side_present end (Some line) (f ∷ files) None h = absurd (cc)
side_present end (Some line) (f ∷ files) (Some name) h = record { some = omega arith; top_is = refl }

present_side : (end line : ℕ) (files : List (List ℕ)) (top : List ℕ) → 0 < length files
    → missing_side end (Some line) files (Some top) ≡ None
present_side end line [] top some = absurd (omega arith)
present_side end line (f ∷ files) top some = refl

top_good : (top : Option (List ℕ)) → OfSome IsGoodTop top → top ≡ Some (unwrap_or top []) → IsGoodTop (unwrap_or top [])
top_good None good is = absurd (cc)
top_good (Some name) good is = good

strategies_present : (end : ℕ) (all : List StrategySection) → missing_strategy end all ≡ None → 0 < length all
strategies_present end [] h = absurd (cc)
strategies_present end (s ∷ all) h = omega arith

all_used : (all : List StrategySection) → AllOf (λ s. s.used ≡ true) all → missing_use all ≡ None
all_used [] h = refl
all_used (s ∷ all) h =
    let P : Bool → Type 0 = λ c. cond c (missing_use all) (Some s.line) ≡ None in
    subst P (sym h.0) (all_used all h.1)

present_strategies : (end : ℕ) (all : List StrategySection) → 0 < length all → AllOf (λ s. s.used ≡ true) all
    → missing_strategy end all ≡ None
present_strategies end [] some used = absurd (omega arith)
present_strategies end (s ∷ all) some used = all_used (s ∷ all) used

-- ---- the printed lines of a draft that nothing is missing of

record IsPrinted (c : Config) (d : Draft) : Type 0 where
  config_is : config_of_draft d ≡ c
  whole : (end : ℕ) → missing_in_draft end d ≡ None

start_is : draft_of [] ≡ st None no_side no_side [] [] [] [] 0
unfolding draft_of
start_is = refl

module _ (d : Draft) (good : IsGood d) (gold-there : IsPresent d.gold.files d.gold.top)
    (gate-there : IsPresent d.gate.files d.gate.top) (strategies-there : 0 < length d.strategies) where
  abbrev side : ℕ → SideSection → SideSection
  side line s = record { line = Some line; files = s.files; top = Some (unwrap_or s.top []) }

  last : (gold gate : ℕ) (ms : List MatchSection) (cs : List CollectSection) (ps : List PartSection) → ms ≡ d.matches
      → cs ≡ d.collects → ps ≡ d.partitions
      → (k n : ℕ) (at : Option SectionKind) → k + Rattle.eq_config.proofs.GoodDrafts.apply_count
      d.strategies ≤ MOST_RULES
      → Leads (IsPrinted (config_of_draft d)) (st at (side gold d.gold) (side gate d.gate) ms cs ps [] k) n
      (flat_map strategy_lines (map strategy_of d.strategies))
  last gold gate ms cs ps ms-are cs-are ps-are k n at room =
      let P : Draft → Type 0 = IsPrinted (config_of_draft d) in
      let whole = strategies_leads P (side gold d.gold) (side gate d.gate) ms cs ps d.strategies [] at [] [] k n
      good.strategies good.fresh (λ name. refl) tt (omega (arith, good.few)) room
      (λ m now all j is used.
      let count : length all ≡ length d.strategies = sym (length-map all strategy_of)
      ∙ ap (λ (xs : List Strategy). length xs) is ∙ length-map d.strategies strategy_of in
      record {
        config_is = λ i. record {
          gold = (config_of_draft d).gold;
          gate = (config_of_draft d).gate;
          matches = ms-are i;
          collects = cs-are i;
          partitions = ps-are i;
          strategies = is i;
        };
        whole = λ end.
            none_of_both _ _ (present_side end gold d.gold.files (unwrap_or d.gold.top []) gold-there.some)
            (none_of_both _ _ (present_side end gate d.gate.files (unwrap_or d.gate.top []) gate-there.some)
            (present_strategies end all (omega (arith, count, strategies-there)) used));
      }) in
      subst (λ (ls : List (List ℕ)). Leads P (st at (side gold d.gold) (side gate d.gate) ms cs ps [] k) n ls)
      (append-nil (flat_map strategy_lines (map strategy_of d.strategies))) whole

  rules : (gold gate n : ℕ) (at : Option SectionKind)
      → Leads (IsPrinted (config_of_draft d)) (st at (side gold d.gold) (side gate d.gate) [] [] [] [] 0) n
      (rule_lines (config_of_draft d) ++ flat_map strategy_lines (map strategy_of d.strategies))
  rules gold gate n at =
      let P : Draft → Type 0 = IsPrinted (config_of_draft d) in
      let a : List (List ℕ) = flat_map match_lines d.matches in
      let b : List (List ℕ) = flat_map collect_lines d.collects in
      let p : List (List ℕ) = flat_map part_lines d.partitions in
      let end : List (List ℕ) = flat_map strategy_lines (map strategy_of d.strategies) in
      let counted = good.counted in
      let most = good.rules in
      let whole = match_leads P (side gold d.gold) (side gate d.gate) d.matches at [] [] []
      (b ++ (p ++ end)) 0 n [] good.matches (omega (arith, counted, most))
      (λ n1 at1 ms k1 ms-are k1-is.
      collect_leads P (side gold d.gold) (side gate d.gate) d.collects at1 ms [] [] (p ++ end) k1 n1 [] good.collects
      (omega (arith, counted, most, k1-is))
      (λ n2 at2 cs k2 cs-are k2-is.
      part_leads P (side gold d.gold) (side gate d.gate) d.partitions at2 ms cs [] end k2 n2 [] good.partitions
      (omega (arith, counted, most, k1-is, k2-is))
      (λ n3 at3 ps k3 ps-are k3-is. last gold gate ms cs ps ms-are cs-are ps-are k3 n3 at3
      (omega (arith, counted, most, k1-is, k2-is, k3-is))))) in
      subst (λ (ls : List (List ℕ)). Leads P (st at (side gold d.gold) (side gate d.gate) [] [] [] [] 0) n ls)
      (sym (append_assoc a (b ++ p) end ∙ ap (λ (x : List (List ℕ)). a ++ x) (append_assoc b p end))) whole

  all_lines : Leads (IsPrinted (config_of_draft d)) (draft_of []) 0 (config_lines (config_of_draft d))
  all_lines =
      let P : Draft → Type 0 = IsPrinted (config_of_draft d) in
      let rest : List (List ℕ) = rule_lines (config_of_draft d) ++ flat_map strategy_lines
      (map strategy_of d.strategies) in
      subst (λ (s : Draft). Leads P s 0 (config_lines (config_of_draft d))) (sym start_is)
      (gold_leads P [] [] [] [] 0 d.gold.files (unwrap_or d.gold.top []) None no_side
      (side_lines (codes "gate") (config_of_draft d).gate ++ rest) 0 good.gold_files
      (top_good d.gold.top good.gold_top gold-there.top_is)
      (λ m gold.
      gate_leads P [] [] [] [] 0 d.gate.files (unwrap_or d.gate.top []) _ (side gold d.gold) rest m good.gate_files
      (top_good d.gate.top good.gate_top gate-there.top_is)
      (λ n gate. rules gold gate n _)))

-- ---- and so the printed text

whole_back : (d : Draft) (end : ℕ) → IsGood d → missing_in_draft end d ≡ None
    → HasConfig (printed (config_of_draft d)) (config_of_draft d)
whole_back d end good none =
    let gold = both_none (missing_side end d.gold.line d.gold.files d.gold.top) _ none in
    let gate = both_none (missing_side end d.gate.line d.gate.files d.gate.top) _ gold.1 in
    let c : Config = config_of_draft d in
    let P : Draft → Type 0 = IsPrinted c in
    let leads : Leads P (draft_of []) 0 (config_lines c) = all_lines d good
    (side_present end d.gold.line d.gold.files d.gold.top gold.0)
    (side_present end d.gate.line d.gate.files d.gate.top gate.0) (strategies_present end d.strategies gate.1) in
    let same : lines (printed c) ≡ config_lines c = lines_of_text (config_lines c)
    (led_texts P (draft_of []) 0 (config_lines c) leads) in
    let led : AreLed P (lines (printed c)) = subst (λ (ls : List (List ℕ)). AreLed P ls) (sym same)
    (all_led P (config_lines c) leads) in
    has_config (printed c) (length (lines (printed c))) led.draft c led.said refl led.fine
    (led.so.whole (length (lines (printed c)) + 1)) (sym led.so.config_is)

pub printed_back : (c : Config) (text : List ℕ) → text ≡ printed c → IsConfig c → HasConfig text c
printed_back c text is config =
    let whole = whole_draft config.0 c config.1 in
    let d : Draft = draft_of (Rattle.eq_config.specs.Configs.saids_of (lines config.0)) in
    let back : HasConfig (printed c) c = subst (λ (x : Config). HasConfig (printed x) x) (sym whole.config_is)
    (whole_back d whole.end whole.good whole.whole) in
    subst (λ (t : List ℕ). HasConfig t c) (sym is) back

-- Printed sections of rules lead on from any draft: they add themselves to its sections.
use Rattle.std.proofs.Common.{◌≡◌, ℕ, ◌+◌, ◌≤◌, Bool, cond, eqb, List, [], ◌∷◌, ◌++◌, length, Option, Some, None, refl, sym, ap, subst, ◌∙◌, arith, append_assoc, inl, inr}
use Rattle.std.specs.Prelude.{map, codes}
use Rattle.std.specs.List.{flat_map}
use Rattle.std.proofs.lemmas.Bool.{cases_Bool, eqb-true, lt-leb}
use Rattle.std.proofs.lemmas.List.{append-nil}
use Rattle.eq_config.specs.declared.config.MatchRule.{MatchRule}
use Rattle.eq_config.specs.declared.config.MatchSection.{MatchSection}
use Rattle.eq_config.specs.declared.config.CollectRule.{CollectRule}
use Rattle.eq_config.specs.declared.config.CollectSection.{CollectSection}
use Rattle.eq_config.specs.declared.config.PartRule.{PartRule}
use Rattle.eq_config.specs.declared.config.PartSection.{PartSection}
use Rattle.eq_config.specs.declared.draft.Draft.{Draft}
use Rattle.eq_config.specs.declared.keyword.Keyword.TheVariants as keyword
use Rattle.eq_config.specs.declared.keyword.MatchKeyword.{MatchKeyword}
use Rattle.eq_config.specs.declared.keyword.MatchKeyword.TheVariants as matching
use Rattle.eq_config.specs.declared.keyword.CollectKeyword.{CollectKeyword}
use Rattle.eq_config.specs.declared.keyword.CollectKeyword.TheVariants as collecting
use Rattle.eq_config.specs.declared.keyword.PartKeyword.{PartKeyword}
use Rattle.eq_config.specs.declared.keyword.PartKeyword.TheVariants as parting
use Rattle.eq_config.specs.declared.limits.TheConstants.{MOST_RULES}
use Rattle.eq_config.specs.declared.said.SectionKind.{SectionKind}
use Rattle.eq_config.specs.declared.said.SectionKind.TheVariants as section
use Rattle.eq_config.specs.declared.section.SideSection.{SideSection}
use Rattle.eq_config.specs.declared.section.StrategySection.{StrategySection}
use Rattle.eq_config.specs.Words.{is_inverted, unsigned}
use Rattle.eq_config.specs.Entries.{IsPatternLine, MatchFits, match_rule_of, collect_rule_of, PartFits, part_rule_of}
use Rattle.eq_config.specs.Sections.{on_last}
use Rattle.eq_config.specs.Printing.{spaced, signed, match_line, match_lines, collect_line, collect_lines, part_line, part_lines}
use Rattle.eq_config.proofs.GoodDrafts.{IsGoodMatchSection, IsGoodCollectSection, IsGoodPartSection, match_count, collect_count, part_count}
use Rattle.eq_config.proofs.GoodSaids.{AllOf, IsGoodMatch, IsGoodCollect, IsGoodPart}
use Rattle.eq_config.proofs.Growing.{on_last_is}
use Rattle.eq_config.proofs.Keys.{match_word, key_match, collect_word, key_collect, part_word, key_part, title_match, title_collect, title_partition}
use Rattle.eq_config.proofs.Leading.{Leads, entry_leads, heading_leads}

-- a draft of these parts
abbrev pub st : Option SectionKind → SideSection → SideSection → List MatchSection → List CollectSection
    → List PartSection → List StrategySection → ℕ → Draft
st at gold gate ms cs ps ss k = record {
  section = at;
  options = None;
  gold = gold;
  gate = gate;
  matches = ms;
  collects = cs;
  partitions = ps;
  strategies = ss;
  rules = k;
}

-- ---- a rule is printed as the words that say it

signed_is : (word : List ℕ) → signed (is_inverted word) (unsigned word) ≡ word
signed_is [] = refl
signed_is (b ∷ bs) = elim (cases_Bool (eqb b 126)) [
  | inl yes' ↦
      let P : Bool → Type 0 = λ c. cond c (126 ∷ cond c bs (b ∷ bs)) (cond c bs (b ∷ bs)) ≡ b ∷ bs in
      subst P (sym yes') (ap (λ (x : ℕ). x ∷ bs) (sym (eqb-true b 126 yes')))
  | inr no' ↦
      let P : Bool → Type 0 = λ c. cond c (126 ∷ cond c bs (b ∷ bs)) (cond c bs (b ∷ bs)) ≡ b ∷ bs in
      subst P (sym no') refl
]

match_line_is : (key : MatchKeyword) (ws : List (List ℕ)) → ¬ ¬ MatchFits key ws
    → match_line (match_rule_of key ws) ≡ spaced (match_word key ∷ ws)
match_line_is matching.GoldMatch (p ∷ w ∷ []) fits = ap (λ (x : List ℕ). spaced (codes "gold-match" ∷ p ∷ x ∷ []))
    (signed_is w)
match_line_is matching.GateMatch (p ∷ w ∷ []) fits = ap (λ (x : List ℕ). spaced (codes "gate-match" ∷ p ∷ x ∷ []))
    (signed_is w)
match_line_is matching.GoldNo (p ∷ []) fits = refl
match_line_is matching.GateNo (p ∷ []) fits = refl
match_line_is _ _ fits = absurd (fits (λ h. h))

collect_line_is : (key : CollectKeyword) (ws : List (List ℕ)) → ¬ ¬ IsPatternLine ws
    → collect_line (collect_rule_of key ws) ≡ spaced (collect_word key ∷ ws)
collect_line_is collecting.Solo (p ∷ []) fits = refl
collect_line_is collecting.Group (p ∷ []) fits = refl
collect_line_is collecting.Join (p ∷ []) fits = refl
collect_line_is _ _ fits = absurd (fits (λ h. h))

part_line_is : (key : PartKeyword) (ws : List (List ℕ)) → ¬ ¬ PartFits key ws
    → part_line (part_rule_of key ws) ≡ spaced (part_word key ∷ ws)
part_line_is parting.Merge (p ∷ []) fits = refl
part_line_is parting.Path (p ∷ q ∷ []) fits = refl
part_line_is parting.Rename (p ∷ t ∷ []) fits = refl
part_line_is _ _ fits = absurd (fits (λ h. h))

module _ (P : Draft → Type 0) (gold gate : SideSection) where
  -- ---- sections of match rules

  match_rules : (top : List ℕ) (before : List MatchSection) (sofar rules : List MatchRule) (cs : List CollectSection)
      (ps : List PartSection) (ss : List StrategySection) (lines : List (List ℕ)) (k n : ℕ) → AllOf IsGoodMatch rules
      → k + length rules ≤ MOST_RULES
      → ((m : ℕ) (all : List MatchSection) (j : ℕ) → all ≡ before ++ record { top = top; rules = sofar ++ rules } ∷ []
      → j ≡ k + length rules → Leads P (st (Some section.Match) gold gate all cs ps ss j) m lines)
      → (all : List MatchSection) → all ≡ before ++ record { top = top; rules = sofar } ∷ []
      → Leads P (st (Some section.Match) gold gate all cs ps ss k) n (map match_line rules ++ lines)
  match_rules top before sofar [] cs ps ss lines k n good room next all is =
      next n all k (is ∙ ap (λ (rs : List MatchRule). before ++ record { top = top; rules = rs } ∷ [])
      (sym (append-nil sofar))) (omega arith)
  match_rules top before sofar (rule ∷ rules) cs ps ss lines k n good room next all is =
      let g : IsGoodMatch rule = good.0 in
      let key = key_match g.key in
      let said : MatchRule = match_rule_of g.key g.words in
      let printed : match_line rule ≡ spaced (match_word g.key ∷ g.words) = ap match_line (sym g.is)
      ∙ match_line_is g.key g.words g.fits in
      let more : List MatchRule = sofar ++ said ∷ [] in
      let whole : more ++ rules ≡ sofar ++ rule ∷ rules = append_assoc sofar (said ∷ []) rules
      ∙ ap (λ (r : MatchRule). sofar ++ r ∷ rules) g.is in
      let add : MatchSection → MatchSection = λ s. record { top = s.top; rules = s.rules ++ said ∷ [] } in
      let rest = match_rules top before more rules cs ps ss lines (k + 1) (n + 1) good.1 (omega (arith, room))
      (λ m end j e f. next m end j
      (e ∙ ap (λ (rs : List MatchRule). before ++ record { top = top; rules = rs } ∷ []) whole) (omega (arith, f)))
      (on_last add all) (on_last_is add before all (record { top = top; rules = sofar }) is) in
      subst (λ (line : List ℕ). Leads P (st (Some section.Match) gold gate all cs ps ss k) n
      (line ∷ (map match_line rules ++ lines))) (sym printed)
      (entry_leads P (st (Some section.Match) gold gate all cs ps ss k) n section.Match (keyword.Match g.key)
      (match_word g.key) g.words (map match_line rules ++ lines)
      refl key.known key.first (key.name, g.names) g.fits refl (lt-leb MOST_RULES k (omega (arith, room))) rest)

  pub match_leads : (sections : List MatchSection) (at : Option SectionKind) (cs : List CollectSection)
      (ps : List PartSection) (ss : List StrategySection) (lines : List (List ℕ)) (k n : ℕ) (all : List MatchSection)
      → AllOf IsGoodMatchSection sections → k + match_count sections ≤ MOST_RULES
      → ((m : ℕ) (now : Option SectionKind) (end : List MatchSection) (j : ℕ) → end ≡ all ++ sections
      → j ≡ k + match_count sections → Leads P (st now gold gate end cs ps ss j) m lines)
      → Leads P (st at gold gate all cs ps ss k) n (flat_map match_lines sections ++ lines)
  match_leads [] at cs ps ss lines k n all good room next = next n at all k (sym (append-nil all)) (omega arith)
  match_leads (s ∷ sections) at cs ps ss lines k n all good room next =
      let g : IsGoodMatchSection s = good.0 in
      let title = title_match in
      let tail : List (List ℕ) = flat_map match_lines sections ++ lines in
      let start : MatchSection = record { top = s.top; rules = [] } in
      let rest = match_rules s.top all [] s.rules cs ps ss tail k (n + 1) g.rules (omega (arith, room))
      (λ m end j e f. match_leads sections (Some section.Match) cs ps ss lines j m end good.1 (omega (arith, room, f))
      (λ l now last i e2 f2. next l now last i (e2 ∙ ap (λ (x : List MatchSection). x ++ sections) e
      ∙ append_assoc all (s ∷ []) sections) (omega (arith, f, f2))))
      (all ++ start ∷ []) refl in
      let first = heading_leads P (st at gold gate all cs ps ss k) n section.Match (codes "match") (s.top ∷ [])
      (map match_line s.rules ++ tail) title.known (title.name, (g.top.0, tt)) g.top.1 refl refl rest in
      subst (λ (ls : List (List ℕ)). Leads P (st at gold gate all cs ps ss k) n ls)
      (sym (append_assoc (match_lines s) (flat_map match_lines sections) lines)) first

  -- ---- sections of collect rules

  collect_rules : (top : List ℕ) (before : List CollectSection) (sofar rules : List CollectRule)
      (ms : List MatchSection) (ps : List PartSection) (ss : List StrategySection) (lines : List (List ℕ)) (k n : ℕ)
      → AllOf IsGoodCollect rules → k + length rules ≤ MOST_RULES
      → ((m : ℕ) (all : List CollectSection) (j : ℕ) → all ≡ before ++ record {
        top = top;
        rules = sofar ++ rules;
      } ∷ [] → j ≡ k + length rules
      → Leads P (st (Some section.Collect) gold gate ms all ps ss j) m lines)
      → (all : List CollectSection) → all ≡ before ++ record { top = top; rules = sofar } ∷ []
      → Leads P (st (Some section.Collect) gold gate ms all ps ss k) n (map collect_line rules ++ lines)
  collect_rules top before sofar [] ms ps ss lines k n good room next all is =
      next n all k (is ∙ ap (λ (rs : List CollectRule). before ++ record { top = top; rules = rs } ∷ [])
      (sym (append-nil sofar))) (omega arith)
  collect_rules top before sofar (rule ∷ rules) ms ps ss lines k n good room next all is =
      let g : IsGoodCollect rule = good.0 in
      let key = key_collect g.key in
      let said : CollectRule = collect_rule_of g.key g.words in
      let printed : collect_line rule ≡ spaced (collect_word g.key ∷ g.words) = ap collect_line (sym g.is)
      ∙ collect_line_is g.key g.words g.fits in
      let more : List CollectRule = sofar ++ said ∷ [] in
      let whole : more ++ rules ≡ sofar ++ rule ∷ rules = append_assoc sofar (said ∷ []) rules
      ∙ ap (λ (r : CollectRule). sofar ++ r ∷ rules) g.is in
      let add : CollectSection → CollectSection = λ s. record { top = s.top; rules = s.rules ++ said ∷ [] } in
      let rest = collect_rules top before more rules ms ps ss lines (k + 1) (n + 1) good.1 (omega (arith, room))
      (λ m end j e f. next m end j
      (e ∙ ap (λ (rs : List CollectRule). before ++ record { top = top; rules = rs } ∷ []) whole)
      (omega (arith, f)))
      (on_last add all) (on_last_is add before all (record { top = top; rules = sofar }) is) in
      subst (λ (line : List ℕ). Leads P (st (Some section.Collect) gold gate ms all ps ss k) n
      (line ∷ (map collect_line rules ++ lines))) (sym printed)
      (entry_leads P (st (Some section.Collect) gold gate ms all ps ss k) n section.Collect (keyword.Collect g.key)
      (collect_word g.key) g.words (map collect_line rules ++ lines)
      refl key.known key.first (key.name, g.names) g.fits refl (lt-leb MOST_RULES k (omega (arith, room))) rest)

  pub collect_leads : (sections : List CollectSection) (at : Option SectionKind) (ms : List MatchSection)
      (ps : List PartSection) (ss : List StrategySection) (lines : List (List ℕ)) (k n : ℕ)
      (all : List CollectSection) → AllOf IsGoodCollectSection sections → k + collect_count sections ≤ MOST_RULES
      → ((m : ℕ) (now : Option SectionKind) (end : List CollectSection) (j : ℕ) → end ≡ all ++ sections
      → j ≡ k + collect_count sections → Leads P (st now gold gate ms end ps ss j) m lines)
      → Leads P (st at gold gate ms all ps ss k) n (flat_map collect_lines sections ++ lines)
  collect_leads [] at ms ps ss lines k n all good room next = next n at all k (sym (append-nil all)) (omega arith)
  collect_leads (s ∷ sections) at ms ps ss lines k n all good room next =
      let g : IsGoodCollectSection s = good.0 in
      let title = title_collect in
      let tail : List (List ℕ) = flat_map collect_lines sections ++ lines in
      let start : CollectSection = record { top = s.top; rules = [] } in
      let rest = collect_rules s.top all [] s.rules ms ps ss tail k (n + 1) g.rules (omega (arith, room))
      (λ m end j e f. collect_leads sections (Some section.Collect) ms ps ss lines j m end good.1
      (omega (arith, room, f))
      (λ l now last i e2 f2. next l now last i (e2 ∙ ap (λ (x : List CollectSection). x ++ sections) e
      ∙ append_assoc all (s ∷ []) sections) (omega (arith, f, f2))))
      (all ++ start ∷ []) refl in
      let first = heading_leads P (st at gold gate ms all ps ss k) n section.Collect (codes "collect") (s.top ∷ [])
      (map collect_line s.rules ++ tail) title.known (title.name, (g.top.0, tt)) g.top.1 refl refl rest in
      subst (λ (ls : List (List ℕ)). Leads P (st at gold gate ms all ps ss k) n ls)
      (sym (append_assoc (collect_lines s) (flat_map collect_lines sections) lines)) first

  -- ---- sections of partition rules

  part_rules : (top : List ℕ) (before : List PartSection) (sofar rules : List PartRule) (ms : List MatchSection)
      (cs : List CollectSection) (ss : List StrategySection) (lines : List (List ℕ)) (k n : ℕ)
      → AllOf IsGoodPart rules → k + length rules ≤ MOST_RULES
      → ((m : ℕ) (all : List PartSection) (j : ℕ) → all ≡ before ++ record { top = top; rules = sofar ++ rules } ∷ []
      → j ≡ k + length rules → Leads P (st (Some section.Partition) gold gate ms cs all ss j) m lines)
      → (all : List PartSection) → all ≡ before ++ record { top = top; rules = sofar } ∷ []
      → Leads P (st (Some section.Partition) gold gate ms cs all ss k) n (map part_line rules ++ lines)
  part_rules top before sofar [] ms cs ss lines k n good room next all is =
      next n all k (is ∙ ap (λ (rs : List PartRule). before ++ record { top = top; rules = rs } ∷ [])
      (sym (append-nil sofar))) (omega arith)
  part_rules top before sofar (rule ∷ rules) ms cs ss lines k n good room next all is =
      let g : IsGoodPart rule = good.0 in
      let key = key_part g.key in
      let said : PartRule = part_rule_of g.key g.words in
      let printed : part_line rule ≡ spaced (part_word g.key ∷ g.words) = ap part_line (sym g.is)
      ∙ part_line_is g.key g.words g.fits in
      let more : List PartRule = sofar ++ said ∷ [] in
      let whole : more ++ rules ≡ sofar ++ rule ∷ rules = append_assoc sofar (said ∷ []) rules
      ∙ ap (λ (r : PartRule). sofar ++ r ∷ rules) g.is in
      let add : PartSection → PartSection = λ s. record { top = s.top; rules = s.rules ++ said ∷ [] } in
      let rest = part_rules top before more rules ms cs ss lines (k + 1) (n + 1) good.1 (omega (arith, room))
      (λ m end j e f. next m end j
      (e ∙ ap (λ (rs : List PartRule). before ++ record { top = top; rules = rs } ∷ []) whole) (omega (arith, f)))
      (on_last add all) (on_last_is add before all (record { top = top; rules = sofar }) is) in
      subst (λ (line : List ℕ). Leads P (st (Some section.Partition) gold gate ms cs all ss k) n
      (line ∷ (map part_line rules ++ lines))) (sym printed)
      (entry_leads P (st (Some section.Partition) gold gate ms cs all ss k) n section.Partition
      (keyword.Partition g.key) (part_word g.key) g.words (map part_line rules ++ lines)
      refl key.known key.first (key.name, g.names) g.fits refl (lt-leb MOST_RULES k (omega (arith, room))) rest)

  pub part_leads : (sections : List PartSection) (at : Option SectionKind) (ms : List MatchSection)
      (cs : List CollectSection) (ss : List StrategySection) (lines : List (List ℕ)) (k n : ℕ)
      (all : List PartSection) → AllOf IsGoodPartSection sections → k + part_count sections ≤ MOST_RULES
      → ((m : ℕ) (now : Option SectionKind) (end : List PartSection) (j : ℕ) → end ≡ all ++ sections
      → j ≡ k + part_count sections → Leads P (st now gold gate ms cs end ss j) m lines)
      → Leads P (st at gold gate ms cs all ss k) n (flat_map part_lines sections ++ lines)
  part_leads [] at ms cs ss lines k n all good room next = next n at all k (sym (append-nil all)) (omega arith)
  part_leads (s ∷ sections) at ms cs ss lines k n all good room next =
      let g : IsGoodPartSection s = good.0 in
      let title = title_partition in
      let tail : List (List ℕ) = flat_map part_lines sections ++ lines in
      let start : PartSection = record { top = s.top; rules = [] } in
      let rest = part_rules s.top all [] s.rules ms cs ss tail k (n + 1) g.rules (omega (arith, room))
      (λ m end j e f. part_leads sections (Some section.Partition) ms cs ss lines j m end good.1
      (omega (arith, room, f))
      (λ l now last i e2 f2. next l now last i (e2 ∙ ap (λ (x : List PartSection). x ++ sections) e
      ∙ append_assoc all (s ∷ []) sections) (omega (arith, f, f2))))
      (all ++ start ∷ []) refl in
      let first = heading_leads P (st at gold gate ms cs all ss k) n section.Partition (codes "partition")
      (s.top ∷ []) (map part_line s.rules ++ tail) title.known (title.name, (g.top.0, tt)) g.top.1 refl refl rest in
      subst (λ (ls : List (List ℕ)). Leads P (st at gold gate ms cs all ss k) n ls)
      (sym (append_assoc (part_lines s) (flat_map part_lines sections) lines)) first

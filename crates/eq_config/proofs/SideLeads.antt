-- Printed sides lead on from a draft that has no section of that side yet: they are its side then.
use Rattle.std.proofs.Common.{◌≡◌, ℕ, ◌+◌, ◌≤◌, List, [], ◌∷◌, ◌++◌, length, Option, Some, None, refl, sym, subst, ◌∙◌, arith, append_assoc}
use Rattle.std.specs.Prelude.{map, codes}
use Rattle.std.proofs.lemmas.Bool.{le-ltb}
use Rattle.std.proofs.lemmas.List.{append-nil, length-append}
use Rattle.std.proofs.lemmas.List.Elements.{All-nil, All-cons}
use Rattle.eq_config.specs.declared.config.MatchSection.{MatchSection}
use Rattle.eq_config.specs.declared.config.CollectSection.{CollectSection}
use Rattle.eq_config.specs.declared.config.PartSection.{PartSection}
use Rattle.eq_config.specs.declared.draft.Draft.{Draft}
use Rattle.eq_config.specs.declared.keyword.Keyword.TheVariants as keyword
use Rattle.eq_config.specs.declared.limits.TheConstants.{MOST_FILES}
use Rattle.eq_config.specs.declared.said.Role.TheVariants.{Gold, Gate}
use Rattle.eq_config.specs.declared.said.SectionKind.{SectionKind}
use Rattle.eq_config.specs.declared.said.SectionKind.TheVariants as section
use Rattle.eq_config.specs.declared.section.SideSection.{SideSection}
use Rattle.eq_config.specs.declared.section.StrategySection.{StrategySection}
use Rattle.eq_config.specs.Words.{IsFileWord}
use Rattle.eq_config.specs.Entries.{IsFileLine}
use Rattle.eq_config.specs.Printing.{file_line, top_line, side_lines}
use Rattle.eq_config.specs.inner.Drafts.{no_side}
use Rattle.eq_config.proofs.GoodDrafts.{AreGoodFiles}
use Rattle.eq_config.proofs.GoodSaids.{AllOf, IsGoodFile, IsGoodTop}
use Rattle.eq_config.proofs.Keys.{name_by, title_side, key_files, key_top}
use Rattle.eq_config.proofs.Leading.{Leads, entry_leads, heading_leads}
use Rattle.eq_config.proofs.RuleLeads.{st}

-- one file fits on a line
file_fits : (f : List ℕ) → ¬ ¬ IsFileWord f → ¬ ¬ IsFileLine (f ∷ [])
file_fits f fits none =
    fits (λ file. none (record { some = omega arith; files = All-cons IsFileWord f [] file (All-nil IsFileWord) }))

module _ (P : Draft → Type 0) (ms : List MatchSection) (cs : List CollectSection) (ps : List PartSection)
    (ss : List StrategySection) (k : ℕ) where
  -- ---- gold

  gold_files_lead : (line : ℕ) (sofar files : List (List ℕ)) (gate : SideSection) (lines : List (List ℕ)) (n : ℕ)
      → AllOf IsGoodFile files → length sofar + length files ≤ MOST_FILES
      → ((m : ℕ) (all : List (List ℕ)) → all ≡ sofar ++ files
      → Leads P (st (Some (section.Design Gold)) (record { line = Some line; files = all; top = None }) gate ms cs
      ps ss k) m lines)
      → Leads P (st (Some (section.Design Gold)) (record { line = Some line; files = sofar; top = None }) gate ms cs
      ps ss k) n (map file_line files ++ lines)
  gold_files_lead line sofar [] gate lines n good room next = next n sofar (sym (append-nil sofar))
  gold_files_lead line sofar (f ∷ files) gate lines n good room next =
      let key = key_files Gold in
      let rest = gold_files_lead line (sofar ++ f ∷ []) files gate lines (n + 1) good.1
      (omega (arith, room, length-append sofar (f ∷ [])))
      (λ m all e. next m all (e ∙ append_assoc sofar (f ∷ []) files)) in
      entry_leads P (st (Some (section.Design Gold)) (record { line = Some line; files = sofar; top = None }) gate ms
      cs ps ss k) n (section.Design Gold) (keyword.Files Gold) (codes "read_verilog") (f ∷ [])
      (map file_line files ++ lines)
      refl key.known key.first (key.name, (good.0.0, tt)) (file_fits f good.0.1) refl
      (le-ltb MOST_FILES (length sofar + 1) (omega (arith, room))) rest

  pub gold_leads : (files : List (List ℕ)) (top : List ℕ) (at : Option SectionKind) (gate : SideSection)
      (lines : List (List ℕ)) (n : ℕ) → AreGoodFiles files → IsGoodTop top
      → ((m line : ℕ) → Leads P (st (Some (section.Design Gold))
      (record { line = Some line; files = files; top = Some top }) gate ms cs ps ss k) m lines)
      → Leads P (st at no_side gate ms cs ps ss k) n (side_lines (codes "gold")
      (record { files = files; top = top }) ++ lines)
  gold_leads files top at gate lines n good named next =
      let title = title_side Gold in
      let key = key_top Gold in
      let last : List (List ℕ) = top_line top ∷ lines in
      let rest = gold_files_lead (n + 1) [] files gate last (n + 1) good.all (omega (arith, good.few))
      (λ m all e.
      entry_leads P (st (Some (section.Design Gold)) (record { line = Some (n + 1); files = all; top = None }) gate ms
      cs ps ss k) m (section.Design Gold) (keyword.Top Gold) (codes "prep") (codes "-top" ∷ top ∷ []) lines
      refl key.known key.first (key.name, (name_by _ _ refl, (named.0, tt)))
      (λ no. named.1 (λ short. no (refl, short))) refl refl
      (subst (λ (fs : List (List ℕ)). Leads P (st (Some (section.Design Gold))
      (record { line = Some (n + 1); files = fs; top = Some top }) gate ms cs ps ss k) (m + 1) lines) (sym e)
      (next (m + 1) (n + 1)))) in
      heading_leads P (st at no_side gate ms cs ps ss k) n (section.Design Gold) (codes "gold") []
      ((map file_line files ++ top_line top ∷ []) ++ lines)
      title.known (title.name, tt) (λ no. no refl) refl refl
      (subst (λ (ls : List (List ℕ)). Leads P (st (Some (section.Design Gold))
      (record { line = Some (n + 1); files = []; top = None }) gate ms cs ps ss k) (n + 1) ls)
      (sym (append_assoc (map file_line files) (top_line top ∷ []) lines)) rest)

  -- ---- gate

  gate_files_lead : (line : ℕ) (sofar files : List (List ℕ)) (gold : SideSection) (lines : List (List ℕ)) (n : ℕ)
      → AllOf IsGoodFile files → length sofar + length files ≤ MOST_FILES
      → ((m : ℕ) (all : List (List ℕ)) → all ≡ sofar ++ files
      → Leads P (st (Some (section.Design Gate)) gold (record { line = Some line; files = all; top = None }) ms cs
      ps ss k) m lines)
      → Leads P (st (Some (section.Design Gate)) gold (record { line = Some line; files = sofar; top = None }) ms cs
      ps ss k) n (map file_line files ++ lines)
  gate_files_lead line sofar [] gold lines n good room next = next n sofar (sym (append-nil sofar))
  gate_files_lead line sofar (f ∷ files) gold lines n good room next =
      let key = key_files Gate in
      let rest = gate_files_lead line (sofar ++ f ∷ []) files gold lines (n + 1) good.1
      (omega (arith, room, length-append sofar (f ∷ [])))
      (λ m all e. next m all (e ∙ append_assoc sofar (f ∷ []) files)) in
      entry_leads P (st (Some (section.Design Gate)) gold (record { line = Some line; files = sofar; top = None }) ms
      cs ps ss k) n (section.Design Gate) (keyword.Files Gate) (codes "read_verilog") (f ∷ [])
      (map file_line files ++ lines)
      refl key.known key.first (key.name, (good.0.0, tt)) (file_fits f good.0.1) refl
      (le-ltb MOST_FILES (length sofar + 1) (omega (arith, room))) rest

  pub gate_leads : (files : List (List ℕ)) (top : List ℕ) (at : Option SectionKind) (gold : SideSection)
      (lines : List (List ℕ)) (n : ℕ) → AreGoodFiles files → IsGoodTop top
      → ((m line : ℕ) → Leads P (st (Some (section.Design Gate)) gold
      (record { line = Some line; files = files; top = Some top }) ms cs ps ss k) m lines)
      → Leads P (st at gold no_side ms cs ps ss k) n (side_lines (codes "gate")
      (record { files = files; top = top }) ++ lines)
  gate_leads files top at gold lines n good named next =
      let title = title_side Gate in
      let key = key_top Gate in
      let last : List (List ℕ) = top_line top ∷ lines in
      let rest = gate_files_lead (n + 1) [] files gold last (n + 1) good.all (omega (arith, good.few))
      (λ m all e.
      entry_leads P (st (Some (section.Design Gate)) gold (record { line = Some (n + 1); files = all; top = None }) ms
      cs ps ss k) m (section.Design Gate) (keyword.Top Gate) (codes "prep") (codes "-top" ∷ top ∷ []) lines
      refl key.known key.first (key.name, (name_by _ _ refl, (named.0, tt)))
      (λ no. named.1 (λ short. no (refl, short))) refl refl
      (subst (λ (fs : List (List ℕ)). Leads P (st (Some (section.Design Gate)) gold
      (record { line = Some (n + 1); files = fs; top = Some top }) ms cs ps ss k) (m + 1) lines) (sym e)
      (next (m + 1) (n + 1)))) in
      heading_leads P (st at gold no_side ms cs ps ss k) n (section.Design Gate) (codes "gate") []
      ((map file_line files ++ top_line top ∷ []) ++ lines)
      title.known (title.name, tt) (λ no. no refl) refl refl
      (subst (λ (ls : List (List ℕ)). Leads P (st (Some (section.Design Gate)) gold
      (record { line = Some (n + 1); files = []; top = None }) ms cs ps ss k) (n + 1) ls)
      (sym (append_assoc (map file_line files) (top_line top ∷ []) lines)) rest)

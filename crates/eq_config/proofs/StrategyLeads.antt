-- Printed strategies lead on from any draft: they add themselves to its strategies, with their defaults.
use Rattle.std.proofs.Common.{◌≡◌, ℕ, ◌+◌, ◌-◌, ◌^◌, ◌<◌, ◌≤◌, Bool, true, false, ◌||◌, List, [], ◌∷◌, ◌++◌, length, get_or, Option, Some, None, refl, sym, ap, subst, ◌∙◌, arith, append_assoc}
use Rattle.std.specs.Prelude.{map, codes, unwrap_or, slice_get, is_some}
use Rattle.std.specs.Fmt.{decimal}
use Rattle.std.specs.Int.{IsInRange}
use Rattle.std.specs.List.{flat_map, list_any}
use Rattle.std.proofs.lemmas.Bool.{lt-leb}
use Rattle.std.proofs.lemmas.Fmt.{digits_decimal, digits_value-decimal, decimal_nonempty}
use Rattle.std.proofs.lemmas.List.{append-nil, length-append, map-append}
use Rattle.std.proofs.lemmas.List.Elements.{All-from_get_or}
use Rattle.std.proofs.lemmas.List.Folds.{list_any-append}
use Rattle.std.specs.Str.{bytes_eq}
use Rattle.eq_names.specs.Name.{IsNameByte, IsName}
use Rattle.eq_config.specs.declared.config.MatchSection.{MatchSection}
use Rattle.eq_config.specs.declared.config.CollectSection.{CollectSection}
use Rattle.eq_config.specs.declared.config.PartSection.{PartSection}
use Rattle.eq_config.specs.declared.config.Strategy.{Strategy}
use Rattle.eq_config.specs.declared.draft.Draft.{Draft}
use Rattle.eq_config.specs.declared.keyword.Keyword.TheVariants as keyword
use Rattle.eq_config.specs.declared.limits.TheConstants.{MOST_RULES, MOST_STRATEGIES, MOST_DEPTH, MOST_CONFLICTS, DEFAULT_DEPTH, DEFAULT_CONFLICTS}
use Rattle.eq_config.specs.declared.said.SectionKind.{SectionKind}
use Rattle.eq_config.specs.declared.said.SectionKind.TheVariants as section
use Rattle.eq_config.specs.declared.section.SideSection.{SideSection}
use Rattle.eq_config.specs.declared.section.StrategySection.{StrategySection}
use Rattle.eq_config.specs.Words.{IsNumber, value_of}
use Rattle.eq_config.specs.Limits.{last_passes, passes}
use Rattle.eq_config.specs.Sections.{on_last, begun, with_use, with_depth, with_conflicts, with_apply}
use Rattle.eq_config.specs.Configs.{strategy_of}
use Rattle.eq_config.specs.Printing.{spaced, apply_line, strategy_lines}
use Rattle.eq_config.proofs.GoodDrafts.{OfSome, IsGoodStrategy, is_named, AreFresh, apply_count}
use Rattle.eq_config.proofs.GoodSaids.{AllOf, IsGoodPattern, IsGoodNumber}
use Rattle.eq_config.proofs.Growing.{on_last_is}
use Rattle.eq_config.proofs.Keys.{name_by, title_strategy, key_use, key_depth, key_conflicts, key_apply}
use Rattle.eq_config.proofs.Leading.{Leads, entry_leads, heading_leads}
use Rattle.eq_config.proofs.Numerals.{own}
use Rattle.eq_config.proofs.RuleLeads.{st}

-- ---- numbers

decimal_name : (n : ℕ) → n < 2 ^ 64 → IsName (decimal n)
decimal_name n fits = record {
  some = λ e. let none = ap (λ (w : List ℕ). length w) e in absurd (omega (arith, none, decimal_nonempty n fits));
  bytes = All-from_get_or IsNameByte (decimal n) 0 (λ i lt. seen (get_or (decimal n) i 0)
      (digits_decimal own n fits i lt));
}
  where
    seen : (b : ℕ) → IsInRange 48 57 b → IsNameByte b
    seen b h = grind arith

decimal_value : (n : ℕ) → n < 2 ^ 64 → value_of (decimal n) ≡ n
decimal_value n fits = digits_value-decimal own n fits

decimal_number : (most n : ℕ) → n < 2 ^ 64 → IsGoodNumber most n → IsNumber most (decimal n)
decimal_number most n fits good =
    let is : value_of (decimal n) ≡ n = decimal_value n fits in
    let low = good.0 in
    let high = good.1 in
    record { spelled = ap decimal (sym is); some = omega arith; within = omega arith }

good_or : (most other : ℕ) (n : Option ℕ) → OfSome (IsGoodNumber most) n → IsGoodNumber most other
    → IsGoodNumber most (unwrap_or n other)
good_or most other None good or = or
good_or most other (Some n) good or = good

-- ---- the last strategy

last_push : (test : StrategySection → Bool) (xs : List StrategySection) (x : StrategySection)
    → last_passes test (xs ++ x ∷ []) ≡ test x
last_push test xs x =
    let place : length (xs ++ x ∷ []) - 1 ≡ length xs = omega (arith, length-append xs (x ∷ [])) in
    ap (λ (n : ℕ). passes test (slice_get (xs ++ x ∷ []) n)) place ∙ ap (passes test) (last xs)
  where
    last : (ys : List StrategySection) → slice_get (ys ++ x ∷ []) (length ys) ≡ Some x
    last [] = refl
    last (y ∷ ys) = last ys

last_is : (test : StrategySection → Bool) (all before : List StrategySection) (s : StrategySection)
    → all ≡ before ++ s ∷ [] → test s ≡ false → last_passes test all ≡ false
last_is test all before s is no' = ap (last_passes test) is ∙ last_push test before s ∙ no'

-- ---- the lines of a strategy

abbrev with_all : StrategySection → List (List ℕ) → StrategySection
with_all s patterns = record {
  line = s.line;
  name = s.name;
  used = s.used;
  depth = s.depth;
  conflicts = s.conflicts;
  apply = s.apply ++ patterns;
}

-- a strategy as it is read again, with the line of its heading
abbrev pub printed_section : ℕ → StrategySection → StrategySection
printed_section line s = record {
  line = line;
  name = s.name;
  used = true;
  depth = Some (unwrap_or s.depth DEFAULT_DEPTH);
  conflicts = Some (unwrap_or s.conflicts DEFAULT_CONFLICTS);
  apply = s.apply;
}

module _ (P : Draft → Type 0) (gold gate : SideSection) (ms : List MatchSection) (cs : List CollectSection)
    (ps : List PartSection) where
  apply_leads : (before : List StrategySection) (s : StrategySection) (patterns lines : List (List ℕ)) (k n : ℕ)
      → AllOf IsGoodPattern patterns → k + length patterns ≤ MOST_RULES
      → ((m : ℕ) (all : List StrategySection) (j : ℕ) → all ≡ before ++ with_all s patterns ∷ []
      → j ≡ k + length patterns → Leads P (st (Some section.Strategy) gold gate ms cs ps all j) m lines)
      → (all : List StrategySection) → all ≡ before ++ s ∷ []
      → Leads P (st (Some section.Strategy) gold gate ms cs ps all k) n (map apply_line patterns ++ lines)
  apply_leads before s [] lines k n good room next all is =
      next n all k (is ∙ ap
      (λ (a : List (List ℕ)). before ++ record {
        line = s.line;
        name = s.name;
        used = s.used;
        depth = s.depth;
        conflicts = s.conflicts;
        apply = a;
      } ∷ []) (sym (append-nil s.apply))) (omega arith)
  apply_leads before s (p ∷ patterns) lines k n good room next all is =
      let rest = apply_leads before (with_apply p s) patterns lines (k + 1) (n + 1) good.1 (omega (arith, room))
      (λ m end j e f. next m end j
      (e ∙ ap (λ (a : List (List ℕ)). before ++ record {
        line = s.line;
        name = s.name;
        used = s.used;
        depth = s.depth;
        conflicts = s.conflicts;
        apply = a;
      } ∷ []) (append_assoc s.apply (p ∷ []) patterns))
      (omega (arith, f)))
      (on_last (with_apply p) all) (on_last_is (with_apply p) before all s is) in
      entry_leads P (st (Some section.Strategy) gold gate ms cs ps all k) n section.Strategy keyword.Apply
      (codes "apply") (p ∷ []) (map apply_line patterns ++ lines)
      refl key_apply.known key_apply.first (key_apply.name, (good.0.0, tt)) good.0.1 refl
      (lt-leb MOST_RULES k (omega (arith, room))) rest

  strategy_leads : (s : StrategySection) (at : Option SectionKind) (all : List StrategySection)
      (lines : List (List ℕ)) (k n : ℕ) → IsGoodStrategy s → is_named s.name all ≡ false
      → length all < MOST_STRATEGIES → k + length s.apply ≤ MOST_RULES
      → ((m line : ℕ) (end : List StrategySection) (j : ℕ) → end ≡ all ++ printed_section line s ∷ []
      → j ≡ k + length s.apply → Leads P (st (Some section.Strategy) gold gate ms cs ps end j) m lines)
      → Leads P (st at gold gate ms cs ps all k) n (strategy_lines (strategy_of s) ++ lines)
  strategy_leads s at all lines k n good new few room next =
      let depth : ℕ = unwrap_or s.depth DEFAULT_DEPTH in
      let conflicts : ℕ = unwrap_or s.conflicts DEFAULT_CONFLICTS in
      let deep = good_or MOST_DEPTH DEFAULT_DEPTH s.depth good.depth (omega arith, omega arith) in
      let many = good_or MOST_CONFLICTS DEFAULT_CONFLICTS s.conflicts good.conflicts (omega arith, omega arith) in
      let deep-fits : depth < 2 ^ 64 = omega (arith, deep.1) in
      let many-fits : conflicts < 2 ^ 64 = omega (arith, many.1) in
      let d : ℕ = value_of (decimal depth) in
      let c : ℕ = value_of (decimal conflicts) in
      let s0 : StrategySection = begun (n + 1) s.name in
      let all0 : List StrategySection = all ++ s0 ∷ [] in
      let all1 : List StrategySection = on_last with_use all0 in
      let s1 : StrategySection = with_use s0 in
      let is1 : all1 ≡ all ++ s1 ∷ [] = on_last_is with_use all all0 s0 refl in
      let all2 : List StrategySection = on_last (with_depth d) all1 in
      let s2 : StrategySection = with_depth d s1 in
      let is2 : all2 ≡ all ++ s2 ∷ [] = on_last_is (with_depth d) all all1 s1 is1 in
      let all3 : List StrategySection = on_last (with_conflicts c) all2 in
      let s3 : StrategySection = with_conflicts c s2 in
      let is3 : all3 ≡ all ++ s3 ∷ [] = on_last_is (with_conflicts c) all all2 s2 is2 in
      let done : with_all s3 s.apply ≡ printed_section (n + 1) s =
      λ i. record {
        line = n + 1;
        name = s.name;
        used = true;
        depth = Some (decimal_value depth deep-fits i);
        conflicts = Some (decimal_value conflicts many-fits i);
        apply = s.apply;
      } in
      let tail : List (List ℕ) = map apply_line s.apply ++ lines in
      let last : List (List ℕ) = spaced (codes "conflicts" ∷ decimal conflicts ∷ []) ∷ tail in
      let more : List (List ℕ) = spaced (codes "depth" ∷ decimal depth ∷ []) ∷ last in
      let rest = apply_leads all s3 s.apply lines k (n + 1 + 1 + 1 + 1) good.apply room
      (λ m end j e f. next m (n + 1) end j (e ∙ ap (λ (t : StrategySection). all ++ t ∷ []) done) f) all3 is3 in
      let fourth = entry_leads P (st (Some section.Strategy) gold gate ms cs ps all2 k)
      (n + 1 + 1 + 1) section.Strategy keyword.Conflicts (codes "conflicts") (decimal conflicts ∷ []) tail
      refl key_conflicts.known key_conflicts.first (key_conflicts.name, (decimal_name conflicts many-fits, tt))
      (λ no. no (decimal_number MOST_CONFLICTS conflicts many-fits many))
      (last_is (λ s. is_some s.conflicts) all2 all s2 is2 refl) refl rest in
      let third = entry_leads P (st (Some section.Strategy) gold gate ms cs ps all1 k)
      (n + 1 + 1) section.Strategy keyword.Depth (codes "depth") (decimal depth ∷ []) last
      refl key_depth.known key_depth.first (key_depth.name, (decimal_name depth deep-fits, tt))
      (λ no. no (decimal_number MOST_DEPTH depth deep-fits deep))
      (last_is (λ s. is_some s.depth) all1 all s1 is1 refl) refl fourth in
      let second = entry_leads P (st (Some section.Strategy) gold gate ms cs ps all0 k)
      (n + 1) section.Strategy keyword.Use (codes "use") (codes "sat" ∷ []) more
      refl key_use.known key_use.first (key_use.name, (name_by _ _ refl, tt)) (λ no. no refl)
      (last_is (λ s. s.used) all0 all s0 refl refl) refl third in
      heading_leads P (st at gold gate ms cs ps all k) n section.Strategy (codes "strategy") (s.name ∷ [])
      (spaced (codes "use" ∷ codes "sat" ∷ []) ∷ more)
      title_strategy.known (title_strategy.name, (good.name.0, tt)) good.name.1 new
      (lt-leb MOST_STRATEGIES (length all) few) second

  -- what was printed before has the same names as what it was printed of
  same_names : (line : ℕ) (before all : List StrategySection) (s : StrategySection)
      → ((name : List ℕ) → is_named name all ≡ is_named name before)
      → (name : List ℕ) → is_named name (all ++ printed_section line s ∷ []) ≡ is_named name (before ++ s ∷ [])
  same_names line before all s same name =
      let p : StrategySection → Bool = λ t. bytes_eq t.name name in
      list_any-append p all (printed_section line s ∷ []) ∙ ap (λ (b : Bool). b || list_any p (s ∷ [])) (same name)
      ∙ sym (list_any-append p before (s ∷ []))

  used_push : (line : ℕ) (all : List StrategySection) (s : StrategySection) → AllOf (λ t. t.used ≡ true) all
      → AllOf (λ t. t.used ≡ true) (all ++ printed_section line s ∷ [])
  used_push line all s h = Rattle.eq_config.proofs.GoodDrafts.all_push (λ t. t.used ≡ true) all
      (printed_section line s) h refl

  pub strategies_leads : (todo before : List StrategySection) (at : Option SectionKind) (all : List StrategySection)
      (lines : List (List ℕ)) (k n : ℕ) → AllOf IsGoodStrategy todo → AreFresh before todo
      → ((name : List ℕ) → is_named name all ≡ is_named name before) → AllOf (λ t. t.used ≡ true) all
      → length all + length todo ≤ MOST_STRATEGIES → k + apply_count todo ≤ MOST_RULES
      → ((m : ℕ) (now : Option SectionKind) (end : List StrategySection) (j : ℕ)
      → map strategy_of end ≡ map strategy_of all ++ map strategy_of todo → AllOf (λ t. t.used ≡ true) end
      → Leads P (st now gold gate ms cs ps end j) m lines)
      → Leads P (st at gold gate ms cs ps all k) n (flat_map strategy_lines (map strategy_of todo) ++ lines)
  strategies_leads [] before at all lines k n good fresh same used few room next =
      next n at all k (sym (append-nil (map strategy_of all))) used
  strategies_leads (s ∷ todo) before at all lines k n good fresh same used few room next =
      let tail : List (List ℕ) = flat_map strategy_lines (map strategy_of todo) in
      let first = strategy_leads s at all (tail ++ lines) k n good.0 (same s.name ∙ fresh.0) (omega (arith, few))
      (omega (arith, room))
      (λ m line end j e f.
      let P' : List StrategySection → Type 0 = λ xs. Leads P (st (Some section.Strategy) gold gate ms cs ps xs j) m
      (tail ++ lines) in
      subst P' (sym e)
      (strategies_leads todo (before ++ s ∷ []) (Some section.Strategy)
      (all ++ printed_section line s ∷ []) lines j m good.1 fresh.1 (same_names line before all s same)
      (used_push line all s used)
      (omega (arith, few, length-append all (printed_section line s ∷ []))) (omega (arith, room, f))
      (λ l now last i e2 u. next l now last i
      (e2 ∙ ap (λ (xs : List Strategy). xs ++ map strategy_of todo)
      (map-append strategy_of all (printed_section line s ∷ []))
      ∙ append_assoc (map strategy_of all) (strategy_of s ∷ []) (map strategy_of todo)) u))) in
      subst (λ (ls : List (List ℕ)). Leads P (st at gold gate ms cs ps all k) n ls)
      (sym (append_assoc (strategy_lines (strategy_of s)) tail lines)) first

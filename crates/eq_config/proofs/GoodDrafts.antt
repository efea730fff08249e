-- What lines without a fault say together can be written again, within the limits.
use Rattle.std.proofs.Common.{◌≡◌, ℕ, ◌+◌, ◌≤◌, Bool, false, List, [], ◌∷◌, ◌++◌, length, Option, Some, None, refl, sym, ap, ◌∙◌, arith, append_assoc}
use Rattle.std.specs.List.{list_any}
use Rattle.std.specs.Str.{bytes_eq}
use Rattle.std.proofs.lemmas.Bool.{ltb-false, leb-false}
use Rattle.std.proofs.lemmas.List.{length-append, append-nil}
use Rattle.eq_config.specs.declared.config.MatchSection.{MatchSection}
use Rattle.eq_config.specs.declared.config.CollectSection.{CollectSection}
use Rattle.eq_config.specs.declared.config.PartSection.{PartSection}
use Rattle.eq_config.specs.declared.draft.Draft.{Draft}
use Rattle.eq_config.specs.declared.limits.TheConstants.{MOST_FILES, MOST_STRATEGIES, MOST_RULES, MOST_DEPTH, MOST_CONFLICTS}
use Rattle.eq_config.specs.declared.said.Role.TheVariants.{Gold, Gate}
use Rattle.eq_config.specs.declared.said.Heading.TheVariants as heading
use Rattle.eq_config.specs.declared.said.Entry.TheVariants as entry
use Rattle.eq_config.specs.declared.said.Said.{Said}
use Rattle.eq_config.specs.declared.said.Said.TheVariants.{Heading, Entry}
use Rattle.eq_config.specs.declared.section.StrategySection.{StrategySection}
use Rattle.eq_config.specs.Sections.{on_last, files_after, top_after, matches_after, collects_after, partitions_after, strategies_after, rules_after, with_use, with_depth, with_conflicts, with_apply}
use Rattle.eq_config.specs.inner.Drafts.{draft_of, draft_after, is_twice, is_too_many}
use Rattle.eq_config.proofs.GoodSaids.{AllOf, IsGoodFile, IsGoodTop, IsGoodPattern, IsGoodName, IsGoodNumber, IsGoodMatch, IsGoodCollect, IsGoodPart, IsGoodSaid}

-- ---- lists

module _ {A : Type 0} where
  pub all_push : (P : A → Type 0) (xs : List A) (x : A) → AllOf P xs → P x → AllOf P (xs ++ x ∷ [])
  all_push P [] x h p = (p, tt)
  all_push P (y ∷ xs) x h p = (h.0, all_push P xs x h.1 p)

  all_append : (P : A → Type 0) (xs ys : List A) → AllOf P xs → AllOf P ys → AllOf P (xs ++ ys)
  all_append P [] ys h k = k
  all_append P (x ∷ xs) ys h k = (h.0, all_append P xs ys h.1 k)

  all_on_last : (P : A → Type 0) (change : A → A) (xs : List A) → ((x : A) → P x → P (change x)) → AllOf P xs
      → AllOf P (on_last change xs)
  all_on_last P change [] keeps h = tt
  all_on_last P change (x ∷ []) keeps h = (keeps x h.0, tt)
  all_on_last P change (x ∷ y ∷ xs) keeps h = (h.0, all_on_last P change (y ∷ xs) keeps h.1)

  -- a sum over a list
  abbrev pub total : (A → ℕ) → List A → ℕ
  total f [] = 0
  total f (x ∷ xs) = f x + total f xs

  total_push : (f : A → ℕ) (xs : List A) (x : A) → total f (xs ++ x ∷ []) ≡ total f xs + f x
  total_push f [] x = omega arith
  total_push f (y ∷ xs) x = omega (arith, total_push f xs x)

  total_on_last : (f : A → ℕ) (change : A → A) (more : ℕ) (xs : List A) → ((x : A) → f (change x) ≤ f x + more)
      → total f (on_last change xs) ≤ total f xs + more
  total_on_last f change more [] grows = omega arith
  total_on_last f change more (x ∷ []) grows = omega (arith, grows x)
  total_on_last f change more (x ∷ y ∷ xs) grows = omega (arith, total_on_last f change more (y ∷ xs) grows)

  length_on_last : (change : A → A) (xs : List A) → length (on_last change xs) ≡ length xs
  length_on_last change [] = refl
  length_on_last change (x ∷ []) = omega arith
  length_on_last change (x ∷ y ∷ xs) = omega (arith, length_on_last change (y ∷ xs))

-- a fact of a value, where there is one
abbrev pub OfSome : {A : Type 0} → (A → Type 0) → Option A → Type 0
OfSome P None = Unit {0}
OfSome P (Some x) = P x

-- ---- sides

pub record AreGoodFiles (files : List (List ℕ)) : Type 0 where
  pub all : AllOf IsGoodFile files
  pub few : length files ≤ MOST_FILES

gold_files : (d : Draft) (said : Said) → AreGoodFiles d.gold.files → IsGoodSaid said → is_too_many d said ≡ false
    → AreGoodFiles (files_after Gold d.gold.files said)
gold_files d (Entry (entry.Files Gold more)) h good few = record {
  all = all_append IsGoodFile d.gold.files more h.all good;
  few = omega (arith, length-append d.gold.files more, ltb-false MOST_FILES (length d.gold.files + length more) few);
}
gold_files d _ h good few = h

gate_files : (d : Draft) (said : Said) → AreGoodFiles d.gate.files → IsGoodSaid said → is_too_many d said ≡ false
    → AreGoodFiles (files_after Gate d.gate.files said)
gate_files d (Entry (entry.Files Gate more)) h good few = record {
  all = all_append IsGoodFile d.gate.files more h.all good;
  few = omega (arith, length-append d.gate.files more, ltb-false MOST_FILES (length d.gate.files + length more) few);
}
gate_files d _ h good few = h

gold_top : (top : Option (List ℕ)) (said : Said) → OfSome IsGoodTop top → IsGoodSaid said
    → OfSome IsGoodTop (top_after Gold top said)
gold_top top (Entry (entry.Top Gold name)) h good = good
gold_top top _ h good = h

gate_top : (top : Option (List ℕ)) (said : Said) → OfSome IsGoodTop top → IsGoodSaid said
    → OfSome IsGoodTop (top_after Gate top said)
gate_top top (Entry (entry.Top Gate name)) h good = good
gate_top top _ h good = h

-- ---- sections of rules

pub record IsGoodMatchSection (s : MatchSection) : Type 0 where
  pub top : IsGoodPattern s.top
  pub rules : AllOf IsGoodMatch s.rules

matches_good : (all : List MatchSection) (said : Said) → AllOf IsGoodMatchSection all → IsGoodSaid said
    → AllOf IsGoodMatchSection (matches_after all said)
matches_good all (Heading line (heading.Match top)) h good =
    all_push IsGoodMatchSection all (record { top = top; rules = [] }) h (record { top = good; rules = tt })
matches_good all (Entry (entry.Match rule)) h good =
    all_on_last IsGoodMatchSection (λ s. record { top = s.top; rules = s.rules ++ rule ∷ [] }) all
    (λ s g. record { top = g.top; rules = all_push IsGoodMatch s.rules rule g.rules good }) h
matches_good all _ h good = h

pub record IsGoodCollectSection (s : CollectSection) : Type 0 where
  pub top : IsGoodPattern s.top
  pub rules : AllOf IsGoodCollect s.rules

collects_good : (all : List CollectSection) (said : Said) → AllOf IsGoodCollectSection all → IsGoodSaid said
    → AllOf IsGoodCollectSection (collects_after all said)
collects_good all (Heading line (heading.Collect top)) h good =
    all_push IsGoodCollectSection all (record { top = top; rules = [] }) h (record { top = good; rules = tt })
collects_good all (Entry (entry.Collect rule)) h good =
    all_on_last IsGoodCollectSection (λ s. record { top = s.top; rules = s.rules ++ rule ∷ [] }) all
    (λ s g. record { top = g.top; rules = all_push IsGoodCollect s.rules rule g.rules good }) h
collects_good all _ h good = h

pub record IsGoodPartSection (s : PartSection) : Type 0 where
  pub top : IsGoodPattern s.top
  pub rules : AllOf IsGoodPart s.rules

parts_good : (all : List PartSection) (said : Said) → AllOf IsGoodPartSection all → IsGoodSaid said
    → AllOf IsGoodPartSection (partitions_after all said)
parts_good all (Heading line (heading.Partition top)) h good =
    all_push IsGoodPartSection all (record { top = top; rules = [] }) h (record { top = good; rules = tt })
parts_good all (Entry (entry.Partition rule)) h good =
    all_on_last IsGoodPartSection (λ s. record { top = s.top; rules = s.rules ++ rule ∷ [] }) all
    (λ s g. record { top = g.top; rules = all_push IsGoodPart s.rules rule g.rules good }) h
parts_good all _ h good = h

-- ---- strategies

pub record IsGoodStrategy (s : StrategySection) : Type 0 where
  pub name : IsGoodName s.name
  pub depth : OfSome (IsGoodNumber MOST_DEPTH) s.depth
  pub conflicts : OfSome (IsGoodNumber MOST_CONFLICTS) s.conflicts
  pub apply : AllOf IsGoodPattern s.apply

strategies_good : (all : List StrategySection) (said : Said) → AllOf IsGoodStrategy all → IsGoodSaid said
    → AllOf IsGoodStrategy (strategies_after all said)
strategies_good all (Heading line (heading.Strategy name)) h good =
    all_push IsGoodStrategy all _ h (record { name = good; depth = tt; conflicts = tt; apply = tt })
strategies_good all (Entry entry.Use) h good = all_on_last IsGoodStrategy with_use all
    (λ s g. record { name = g.name; depth = g.depth; conflicts = g.conflicts; apply = g.apply }) h
strategies_good all (Entry (entry.Depth n)) h good = all_on_last IsGoodStrategy (with_depth n) all
    (λ s g. record { name = g.name; depth = good; conflicts = g.conflicts; apply = g.apply }) h
strategies_good all (Entry (entry.Conflicts n)) h good = all_on_last IsGoodStrategy (with_conflicts n) all
    (λ s g. record { name = g.name; depth = g.depth; conflicts = good; apply = g.apply }) h
strategies_good all (Entry (entry.Apply p)) h good =
    all_on_last IsGoodStrategy (with_apply p) all
    (λ s g. record {
      name = g.name;
      depth = g.depth;
      conflicts = g.conflicts;
      apply = all_push IsGoodPattern s.apply p g.apply good;
    }) h
strategies_good all _ h good = h

few_strategies : (d : Draft) (said : Said) → length d.strategies ≤ MOST_STRATEGIES → is_too_many d said ≡ false
    → length (strategies_after d.strategies said) ≤ MOST_STRATEGIES
few_strategies d (Heading line (heading.Strategy name)) h few =
    omega (
      arith,
      length-append d.strategies (Rattle.eq_config.specs.Sections.begun line name ∷ []),
      leb-false MOST_STRATEGIES (length d.strategies) few,
    )
few_strategies d (Entry entry.Use) h few = omega (arith, h, length_on_last with_use d.strategies)
few_strategies d (Entry (entry.Depth n)) h few = omega (arith, h, length_on_last (with_depth n) d.strategies)
few_strategies d (Entry (entry.Conflicts n)) h few = omega (arith, h, length_on_last (with_conflicts n) d.strategies)
few_strategies d (Entry (entry.Apply p)) h few = omega (arith, h, length_on_last (with_apply p) d.strategies)
few_strategies d _ h few = h

-- ---- the names of strategies

abbrev pub is_named : List ℕ → List StrategySection → Bool
is_named name all = list_any (λ s. bytes_eq s.name name) all

-- each strategy has another name than those before it
abbrev pub AreFresh : List StrategySection → List StrategySection → Type 0
AreFresh before [] = Unit {0}
AreFresh before (s ∷ more) = (is_named s.name before ≡ false) × AreFresh (before ++ s ∷ []) more

fresh_push : (before all : List StrategySection) (s : StrategySection) → AreFresh before all
    → is_named s.name (before ++ all) ≡ false → AreFresh before (all ++ s ∷ [])
fresh_push before [] s h new = (ap (is_named s.name) (sym (append-nil before)) ∙ new, tt)
fresh_push before (t ∷ all) s h new = (
  h.0,
  fresh_push (before ++ t ∷ []) all s h.1
      (ap (is_named s.name) (append_assoc before (t ∷ []) all) ∙ new),
)

fresh_on_last : (change : StrategySection → StrategySection) → ((s : StrategySection) → (change s).name ≡ s.name)
    → (before all : List StrategySection) → AreFresh before all
    → AreFresh before (on_last change all)
fresh_on_last change keeps before [] h = h
fresh_on_last change keeps before (s ∷ []) h = (ap (λ (name : List ℕ). is_named name before) (keeps s) ∙ h.0, tt)
fresh_on_last change keeps before (s ∷ t ∷ all) h = (h.0, fresh_on_last change keeps (before ++ s ∷ []) (t ∷ all) h.1)

fresh_names : (d : Draft) (said : Said) → AreFresh [] d.strategies → is_twice d said ≡ false
    → AreFresh [] (strategies_after d.strategies said)
fresh_names d (Heading line (heading.Strategy name)) h once = fresh_push [] d.strategies _ h once
fresh_names d (Entry entry.Use) h once = fresh_on_last with_use (λ s. refl) [] d.strategies h
fresh_names d (Entry (entry.Depth n)) h once = fresh_on_last (with_depth n) (λ s. refl) [] d.strategies h
fresh_names d (Entry (entry.Conflicts n)) h once = fresh_on_last (with_conflicts n) (λ s. refl) [] d.strategies h
fresh_names d (Entry (entry.Apply p)) h once = fresh_on_last (with_apply p) (λ s. refl) [] d.strategies h
fresh_names d _ h once = h

-- ---- how many rules there are

abbrev pub match_count : List MatchSection → ℕ
match_count all = total (λ s. length s.rules) all

abbrev pub collect_count : List CollectSection → ℕ
collect_count all = total (λ s. length s.rules) all

abbrev pub part_count : List PartSection → ℕ
part_count all = total (λ s. length s.rules) all

abbrev pub apply_count : List StrategySection → ℕ
apply_count all = total (λ s. length s.apply) all

abbrev pub rule_count : Draft → ℕ
rule_count d = match_count d.matches + (collect_count d.collects + (part_count d.partitions + apply_count d.strategies))

counted : (d : Draft) (said : Said) → rule_count d ≤ d.rules
    → rule_count (draft_after d said) ≤ rules_after d.rules said
counted d (Heading line (heading.Match top)) h =
    omega (arith, h, total_push (λ (s : MatchSection). length s.rules) d.matches (record { top = top; rules = [] }))
counted d (Heading line (heading.Collect top)) h =
    omega (arith, h, total_push (λ (s : CollectSection). length s.rules) d.collects (record { top = top; rules = [] }))
counted d (Heading line (heading.Partition top)) h =
    omega (arith, h, total_push (λ (s : PartSection). length s.rules) d.partitions (record { top = top; rules = [] }))
counted d (Heading line (heading.Strategy name)) h =
    omega (
      arith,
      h,
      total_push (λ (s : StrategySection). length s.apply) d.strategies
          (Rattle.eq_config.specs.Sections.begun line name),
    )
counted d (Entry (entry.Match rule)) h =
    omega (
      arith,
      h,
      total_on_last (λ (s : MatchSection). length s.rules)
          (λ s. record { top = s.top; rules = s.rules ++ rule ∷ [] }) 1 d.matches
          (λ s. omega (arith, length-append s.rules (rule ∷ []))),
    )
counted d (Entry (entry.Collect rule)) h =
    omega (
      arith,
      h,
      total_on_last (λ (s : CollectSection). length s.rules)
          (λ s. record { top = s.top; rules = s.rules ++ rule ∷ [] }) 1 d.collects
          (λ s. omega (arith, length-append s.rules (rule ∷ []))),
    )
counted d (Entry (entry.Partition rule)) h =
    omega (
      arith,
      h,
      total_on_last (λ (s : PartSection). length s.rules)
          (λ s. record { top = s.top; rules = s.rules ++ rule ∷ [] }) 1 d.partitions
          (λ s. omega (arith, length-append s.rules (rule ∷ []))),
    )
counted d (Entry entry.Use) h =
    omega (arith, h, total_on_last (λ (s : StrategySection). length s.apply) with_use 0 d.strategies (λ s. omega arith))
counted d (Entry (entry.Depth n)) h =
    omega (
      arith,
      h,
      total_on_last (λ (s : StrategySection). length s.apply) (with_depth n) 0 d.strategies
          (λ s. omega arith),
    )
counted d (Entry (entry.Conflicts n)) h =
    omega (
      arith,
      h,
      total_on_last (λ (s : StrategySection). length s.apply) (with_conflicts n) 0 d.strategies
          (λ s. omega arith),
    )
counted d (Entry (entry.Apply p)) h =
    omega (
      arith,
      h,
      total_on_last (λ (s : StrategySection). length s.apply) (with_apply p) 1 d.strategies
          (λ s. omega (arith, length-append s.apply (p ∷ []))),
    )
counted d _ h = h

few_rules : (d : Draft) (said : Said) → d.rules ≤ MOST_RULES → is_too_many d said ≡ false
    → rules_after d.rules said ≤ MOST_RULES
few_rules d (Entry (entry.Match rule)) h few = omega (arith, leb-false MOST_RULES d.rules few)
few_rules d (Entry (entry.Collect rule)) h few = omega (arith, leb-false MOST_RULES d.rules few)
few_rules d (Entry (entry.Partition rule)) h few = omega (arith, leb-false MOST_RULES d.rules few)
few_rules d (Entry (entry.Apply p)) h few = omega (arith, leb-false MOST_RULES d.rules few)
few_rules d _ h few = h

-- ---- all of it

pub record IsGood (d : Draft) : Type 0 where
  pub gold_files : AreGoodFiles d.gold.files
  pub gold_top : OfSome IsGoodTop d.gold.top
  pub gate_files : AreGoodFiles d.gate.files
  pub gate_top : OfSome IsGoodTop d.gate.top
  pub matches : AllOf IsGoodMatchSection d.matches
  pub collects : AllOf IsGoodCollectSection d.collects
  pub partitions : AllOf IsGoodPartSection d.partitions
  pub strategies : AllOf IsGoodStrategy d.strategies
  pub few : length d.strategies ≤ MOST_STRATEGIES
  pub fresh : AreFresh [] d.strategies
  pub counted : rule_count d ≤ d.rules
  pub rules : d.rules ≤ MOST_RULES

pub good_start : IsGood (draft_of [])
unfolding draft_of
good_start = record {
  gold_files = record { all = tt; few = omega arith };
  gold_top = tt;
  gate_files = record { all = tt; few = omega arith };
  gate_top = tt;
  matches = tt;
  collects = tt;
  partitions = tt;
  strategies = tt;
  few = omega arith;
  fresh = tt;
  counted = omega arith;
  rules = omega arith;
}

-- a line more without a fault
pub good_more : (d : Draft) (said : Said) → IsGood d → IsGoodSaid said → is_twice d said ≡ false
    → is_too_many d said ≡ false → IsGood (draft_after d said)
good_more d said h good once few = record {
  gold_files = gold_files d said h.gold_files good few;
  gold_top = gold_top d.gold.top said h.gold_top good;
  gate_files = gate_files d said h.gate_files good few;
  gate_top = gate_top d.gate.top said h.gate_top good;
  matches = matches_good d.matches said h.matches good;
  collects = collects_good d.collects said h.collects good;
  partitions = parts_good d.partitions said h.partitions good;
  strategies = strategies_good d.strategies said h.strategies good;
  few = few_strategies d said h.few few;
  fresh = fresh_names d said h.fresh once;
  counted = counted d said h.counted;
  rules = few_rules d said h.rules few;
}

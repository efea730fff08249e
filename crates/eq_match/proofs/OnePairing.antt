-- A configuration says one list of pairs.
use Rattle.std.proofs.Common.{◌≡◌, ◌==◌, ℕ, zero, suc, Bool, false, cond, List, [], ◌∷◌, ◌++◌, length, Option, Some, refl, sym, ap, subst, ◌∙◌, inl, inr}
use Rattle.eq_names.specs.declared.span.Span.{Span}
use Rattle.eq_names.specs.Patterns.{AreCaptures}
use Rattle.eq_names.specs.Templates.{IsFilled}
use Rattle.eq_net.specs.Net.{IsNet, Parts, name_at}
use Rattle.eq_config.specs.declared.config.Config.{Config}
use Rattle.eq_config.specs.declared.config.MatchRule.{MatchRule}
use Rattle.eq_config.specs.declared.config.MatchRule.TheVariants.{GoldMatch, GateMatch, GoldNo, GateNo}
use Rattle.eq_config.specs.declared.config.MatchSection.{MatchSection}
use Rattle.eq_match.specs.declared.types.Pair.{Pair}
use Rattle.eq_match.specs.declared.types.Partner.{Partner}
use Rattle.eq_match.specs.NetPairs.{AtEach, GateMatchAt, GoldMatchAt, IsFilling, IsFirstPairing, IsNamed, IsPairing, IsPartnerNamed, LeadsFrom, Loses, Pairing, RuleMakes, RulesMake, SamePairs, SectionMakes, SectionsMake, paired, without}
use Rattle.eq_match.specs.Pairs.{ArePairs, bits_of_net, bits_of_nets}
use Rattle.eq_match.proofs.Numbered.{same_net}
use Rattle.eq_match.proofs.Twins.{twin_names, twin_there}

-- a step gives the same pairs from the same pairs
abbrev pub IsStep : (Pairing → Pairing → Type 0) → Type 0
IsStep step = (p q r s : Pairing) → SamePairs p q → step p r → step q s → SamePairs r s

same_after : (p q r s : Pairing) → SamePairs p q → SamePairs r p → SamePairs s q → SamePairs r s
same_after p q r s pq rp sq k = rp k ∙ pq k ∙ sym (sq k)

same_paired : (p q : Pairing) (k : ℕ) (x : Partner) → SamePairs p q → SamePairs (paired p k x) (paired q k x)
same_paired p q k x same g = ap (λ (o : Option Partner). cond (g == k) (Some x) (without x.net o)) (same g)

lost_once : (gone went : ℕ → Type 0) (p q r s : Pairing) → SamePairs p q → ((k : ℕ) → gone k → went k) →
    ((k : ℕ) → went k → gone k) → Loses gone p r → Loses went q s → SamePairs r s
lost_once gone went p q r s same to from a b k = elim (a k) [
  | inl x ↦ (elim (b k) [
    | inl y ↦ x.1 ∙ sym y.1
    | inr y ↦ absurd (y.0 (to k x.0))
  ])
  | inr x ↦ (elim (b k) [
    | inl y ↦ absurd (x.0 (from k y.0))
    | inr y ↦ x.1 ∙ same k ∙ sym y.1
  ])
]

each_once : (step : ℕ → Pairing → Pairing → Type 0) → ((k : ℕ) → IsStep (step k)) → (n : ℕ) → IsStep (AtEach step n)
each_once step once zero p q r s same a b = same_after p q r s same a b
each_once step once (suc n) p q r s same a b = once n a.0 b.0 r s (each_once step once n p q a.0 b.0 same a.1 b.1) a.2
    b.2

module _ (gold gate : Parts) (gold_is : IsNet gold) (gate_is : IsNet gate)
    (one_capture : (pattern name : List ℕ) (s t : List Span) → AreCaptures pattern name s → AreCaptures pattern name t
    → s ≡ t)
    (one_filling : (template name : List ℕ) (spans : List Span) (s t : List ℕ) → IsFilled template name spans s →
    IsFilled template name spans t → s ≡ t) where
  filled_once : (pattern template name s t : List ℕ) → IsFilling pattern template name s → IsFilling pattern template
      name t → s ≡ t
  filled_once pattern template name s t a b =
      let P : List Span → Type 0 = λ spans. IsFilled template name spans t in
      one_filling template name a.spans s t a.filled (subst P (one_capture pattern name b.spans a.spans b.captured
      a.captured) b.filled)

  leads_once : (n m : Parts) → IsNet m → (pattern template : List ℕ) (k h i : ℕ) → LeadsFrom n m pattern template k h →
      LeadsFrom n m pattern template k i → h ≡ i
  leads_once n m is pattern template k h i a b = same_net m.nets is.names h i a.there.there b.there.there
      (filled_once pattern template (name_at n.nets k) (name_at m.nets h) (name_at m.nets i) a.named b.named)

  first_once : (p q : Pairing) → IsFirstPairing gold gate p → IsFirstPairing gold gate q → SamePairs p q
  first_once p q a b k = elim (a k) [
    | inl x ↦ (elim (b k) [
      | inl y ↦
          let one : x.0 ≡ y.0 = same_net gate.nets gate_is.names x.0 y.0 (twin_there gold gate k x.0 x.1)
          (twin_there gold gate k y.0 y.1) (sym (twin_names gold gate k x.0 x.1) ∙ twin_names gold gate k y.0 y.1) in
          let plain : ℕ → Option Partner = λ h. Some (record { net = h; inverted = false }) in
          x.2 ∙ ap plain one ∙ sym y.2
      | inr y ↦ absurd (y.0 x.0 x.1)
    ])
    | inr x ↦ (elim (b k) [
      | inl y ↦ absurd (x.0 y.0 y.1)
      | inr y ↦ x.1 ∙ sym y.1
    ])
  ]

  gold_once : (pattern template : List ℕ) (inverted : Bool) (k : ℕ) → IsStep (GoldMatchAt gold gate pattern template
      inverted k)
  gold_once pattern template inverted k p q r s same (inl a) (inl b) =
      let made : ℕ → Partner = λ h. record { net = h; inverted = inverted } in
      let one : a.0 ≡ b.0 = leads_once gold gate gate_is pattern template k a.0 b.0 a.1 b.1 in
      let P : ℕ → Type 0 = λ h. SamePairs r (paired p k (made h)) in
      same_after (paired p k (made b.0)) (paired q k (made b.0)) r s (same_paired p q k (made b.0) same) (subst P one
      a.2) b.2
  gold_once pattern template inverted k p q r s same (inl a) (inr b) = absurd (b.0 a.0 a.1)
  gold_once pattern template inverted k p q r s same (inr a) (inl b) = absurd (a.0 b.0 b.1)
  gold_once pattern template inverted k p q r s same (inr a) (inr b) = same_after p q r s same a.1 b.1

  gate_once : (pattern template : List ℕ) (inverted : Bool) (h : ℕ) → IsStep (GateMatchAt gold gate pattern template
      inverted h)
  gate_once pattern template inverted h p q r s same (inl a) (inl b) =
      let made : Partner = record { net = h; inverted = inverted } in
      let one : a.0 ≡ b.0 = leads_once gate gold gold_is pattern template h a.0 b.0 a.1 b.1 in
      let P : ℕ → Type 0 = λ k. SamePairs r (paired p k made) in
      same_after (paired p b.0 made) (paired q b.0 made) r s (same_paired p q b.0 made same) (subst P one a.2) b.2
  gate_once pattern template inverted h p q r s same (inl a) (inr b) = absurd (b.0 a.0 a.1)
  gate_once pattern template inverted h p q r s same (inr a) (inl b) = absurd (a.0 b.0 b.1)
  gate_once pattern template inverted h p q r s same (inr a) (inr b) = same_after p q r s same a.1 b.1

  rule_once : (rule : MatchRule) → IsStep (RuleMakes gold gate rule)
  rule_once (GoldMatch pattern template inverted) p q r s same a b = each_once (GoldMatchAt gold gate pattern template
      inverted)
      (gold_once pattern template inverted) (length gold.nets) p q r s same a b
  rule_once (GateMatch pattern template inverted) p q r s same a b = each_once (GateMatchAt gold gate pattern template
      inverted)
      (gate_once pattern template inverted) (length gate.nets) p q r s same a b
  rule_once (GoldNo pattern) p q r s same a b = lost_once (IsNamed gold pattern) (IsNamed gold pattern) p q r s same (λ
      k h. h) (λ k h. h) a b
  rule_once (GateNo pattern) p q r s same a b = lost_once (λ k. IsPartnerNamed gate pattern (p k)) (λ k. IsPartnerNamed
      gate pattern (q k))
      p q r s same (λ k. subst (IsPartnerNamed gate pattern) (same k)) (λ k. subst (IsPartnerNamed gate pattern) (sym
      (same k))) a b

  rules_once : (rules : List MatchRule) → IsStep (RulesMake gold gate rules)
  rules_once [] p q r s same a b = same_after p q r s same a b
  rules_once (rule ∷ rules) p q r s same a b = rules_once rules a.0 b.0 r s (rule_once rule p q a.0 b.0 same a.1 b.1)
      a.2 b.2

  section_once : (top : List ℕ) (x : MatchSection) → IsStep (SectionMakes gold gate top x)
  section_once top x p q r s same (inl a) (inl b) = rules_once x.rules p q r s same a.1 b.1
  section_once top x p q r s same (inl a) (inr b) = absurd (b.0 a.0)
  section_once top x p q r s same (inr a) (inl b) = absurd (a.0 b.0)
  section_once top x p q r s same (inr a) (inr b) = same_after p q r s same a.1 b.1

  sections_once : (top : List ℕ) (sections : List MatchSection) → IsStep (SectionsMake gold gate top sections)
  sections_once top [] p q r s same a b = same_after p q r s same a b
  sections_once top (x ∷ sections) p q r s same a b = sections_once top sections a.0 b.0 r s (section_once top x p q
      a.0 b.0 same a.1 b.1) a.2 b.2

  pairing_once : (c : Config) (p q : Pairing) → IsPairing gold gate c p → IsPairing gold gate c q → SamePairs p q
  pairing_once c p q a b = sections_once c.gold.top c.matches a.first b.first p q (first_once a.first b.first
      a.first_is b.first_is)
      a.lines b.lines

  same_bits : (p q : Pairing) → SamePairs p q → (n : ℕ) → bits_of_nets gold p n ≡ bits_of_nets gold q n
  same_bits p q same zero = refl
  same_bits p q same (suc n) = ap (λ (xs : List Pair). xs ++ bits_of_net gold n (p n)) (same_bits p q same n)
      ∙ ap (λ (o : Option Partner). bits_of_nets gold q n ++ bits_of_net gold n o) (same n)

  pub pairs_once : (c : Config) (ps qs : List Pair) → ArePairs gold gate c ps → ArePairs gold gate c qs → ps ≡ qs
  pairs_once c ps qs a b = a.bits_are ∙ same_bits a.nets b.nets (pairing_once c a.nets b.nets a.nets_are b.nets_are)
      (length gold.nets)
      ∙ sym b.bits_are

-- Pairs of nets are ports of one name or nets inside, one to one, whatever lines are read.
use Rattle.std.proofs.Common.{◌≡◌, ◌≢◌, ℕ, zero, suc, ◌<◌, ◌⊎◌, Bool, false, cond, List, [], ◌∷◌, length, Option, Some, None, refl, sym, ap, subst, ◌∙◌, inl, inr}
use Rattle.std.proofs.lemmas.Bool.Decides.{eqb_tells}
use Rattle.eq_net.specs.Net.{IsNet, Parts, name_at, net_at}
use Rattle.eq_config.specs.declared.config.Config.{Config}
use Rattle.eq_config.specs.declared.config.MatchRule.{MatchRule}
use Rattle.eq_config.specs.declared.config.MatchRule.TheVariants.{GoldMatch, GateMatch, GoldNo, GateNo}
use Rattle.eq_config.specs.declared.config.MatchSection.{MatchSection}
use Rattle.eq_match.specs.declared.types.Partner.{Partner}
use Rattle.eq_match.specs.NetPairs.{AreOnePort, AreTwins, AtEach, GateMatchAt, GoldMatchAt, IsFirstPairing, IsNamed, IsPairing, IsPartnerNamed, Loses, Pairing, RuleMakes, RulesMake, SamePairs, SectionMakes, SectionsMake, paired, without}
use Rattle.eq_match.specs.Seen.{HaveOneWidth, HaveSamePorts}
use Rattle.eq_match.specs.inner.Soundness.{AreInside, IsMatched, IsSound}
use Rattle.eq_match.proofs.Linked.{without_other, without_same}
use Rattle.eq_match.proofs.Numbered.{same_net}
use Rattle.eq_match.proofs.Twins.{twin_here, twin_names, twin_there}

-- ports of one name have one direction and one width
pub port_like : (gold gate : Parts) → IsNet gate → HaveSamePorts gold gate → (k h : ℕ) → AreOnePort gold gate k h →
    ((net_at gate.nets h).dir ≡ (net_at gold.nets k).dir) × HaveOneWidth gold k gate h
port_like gold gate is same k h port =
    let s = same.gold_ports k port.gold_there port.gold_port in
    let one : s.0 ≡ h = same_net gate.nets is.names s.0 h s.1 port.gate_there (s.2 ∙ port.names) in
    (ap (λ (i : ℕ). (net_at gate.nets i).dir) (sym one) ∙ s.3, subst (λ (i : ℕ). HaveOneWidth gold k gate i) one s.4)

-- ---- before any line

module _ (gold gate : Parts) (p : Pairing) (first : IsFirstPairing gold gate p) where
  first_is : (k : ℕ) (q : Partner) → p k ≡ Some q → AreTwins gold gate k q.net × (q.inverted ≡ false)
  first_is k q e = elim (first k) [
    | inl one ↦
        let two : ◌≡◌ {A = Option Partner} (Some (record { net = one.0; inverted = false })) (Some q) = sym one.2 ∙ e in
        let is : record { net = one.0; inverted = false } ≡ q = cc in
        (subst (λ (x : Partner). AreTwins gold gate k x.net) is one.1, sym (ap (λ (x : Partner). x.inverted) is))
    | inr none ↦ (let two : ◌≡◌ {A = Option Partner} None (Some q) = sym none.1 ∙ e in absurd (cc))
  ]

  module _ (gold_is : IsNet gold) (gate_is : IsNet gate) (same : HaveSamePorts gold gate) where
    twins_width : (k h : ℕ) → AreTwins gold gate k h → HaveOneWidth gold k gate h
    twins_width k h (inl t) = (port_like gold gate gate_is same k h t).1
    twins_width k h (inr t) = t.widths

    twins_sound : (k : ℕ) (q : Partner) → AreTwins gold gate k q.net → q.inverted ≡ false → IsSound gold gate k q
    twins_sound k q (inl t) e = inl (t, e)
    twins_sound k q (inr t) e = inr (record { gold_inside = t.gold_seen.inside; gate_inside = t.gate_seen.inside })

    port_paired : (k h : ℕ) → AreOnePort gold gate k h → p k ≡ Some (record { net = h; inverted = false })
    port_paired k h port = elim (first k) [
      | inl one ↦
          let e : one.0 ≡ h = same_net gate.nets gate_is.names one.0 h (twin_there gold gate k one.0 one.1)
          port.gate_there
          (sym (twin_names gold gate k one.0 one.1) ∙ port.names) in
          let plain : ℕ → Option Partner = λ i. Some (record { net = i; inverted = false }) in
          one.2 ∙ ap plain e
      | inr none ↦ absurd (none.0 h (inl port))
    ]

    pub first_matched : IsMatched gold gate p
    first_matched = record {
      gold_there = λ k q e. twin_here gold gate k q.net (first_is k q e).0;
      gate_there = λ k q e. twin_there gold gate k q.net (first_is k q e).0;
      widths = λ k q e. twins_width k q.net (first_is k q e).0;
      sound = λ k q e. twins_sound k q (first_is k q e).0 (first_is k q e).1;
      once = λ j k q r e f s. same_net gold.nets gold_is.names j k (twin_here gold gate j q.net (first_is j q e).0)
          (twin_here gold gate k r.net (first_is k r f).0)
          (twin_names gold gate j q.net (first_is j q e).0 ∙ ap (λ (i : ℕ). name_at gate.nets i) s
          ∙ sym (twin_names gold gate k r.net (first_is k r f).0));
      ports = port_paired;
    }

-- ---- a pair comes

module _ (gold gate : Parts) (p r : Pairing) (k : ℕ) (q : Partner) (same : SamePairs r (paired p k q)) where
  abbrev Was : ℕ → Partner → Type 0
  Was g s = ((g ≡ k) × (s ≡ q)) ⊎ ((g ≢ k) × (p g ≡ Some s) × (s.net ≢ q.net))

  kept_is : (g : ℕ) → g ≢ k → (o : Option Partner) (s : Partner) → p g ≡ o → without q.net o ≡ Some s → Was g s
  kept_is g ne None s at e = (let two : ◌≡◌ {A = Option Partner} None (Some s) = e in absurd (cc))
  kept_is g ne (Some t) s at e = elim (eqb_tells t.net q.net) [
    | inl one ↦ (let two : ◌≡◌ {A = Option Partner} None (Some s) = sym (without_same q.net t one.1) ∙ e in absurd (cc))
    | inr apart ↦
        let two : ◌≡◌ {A = Option Partner} (Some t) (Some s) = sym (without_other q.net t apart.1) ∙ e in
        let is : t ≡ s = cc in
        inr (ne, at ∙ two, subst (λ (x : Partner). x.net ≢ q.net) is apart.1)
  ]

  here : r k ≡ Some q
  here = same k ∙ (elim (eqb_tells k k) [
    | inl eq ↦ ap (λ (b : Bool). cond b (Some q) (without q.net (p k))) eq.0
    | inr ne ↦ absurd (ne.1 refl)
  ])

  far : (g : ℕ) → g ≢ k → r g ≡ without q.net (p g)
  far g ne = same g ∙ (elim (eqb_tells g k) [
    | inl eq ↦ absurd (ne eq.1)
    | inr apart ↦ ap (λ (b : Bool). cond b (Some q) (without q.net (p g))) apart.0
  ])

  paired_is : (g : ℕ) (s : Partner) → r g ≡ Some s → Was g s
  paired_is g s e = elim (eqb_tells g k) [
    | inl one ↦
        let two : ◌≡◌ {A = Option Partner} (Some s) (Some q) = sym e ∙ ap r one.1 ∙ here in
        inl (one.1, cc)
    | inr apart ↦ kept_is g apart.1 (p g) s refl (sym (far g apart.1) ∙ e)
  ]

  -- what holds of the new pair and of each other holds of all
  each : (P : ℕ → Partner → Type 0) → P k q → ((g : ℕ) (s : Partner) → p g ≡ Some s → P g s) → (g : ℕ) (s : Partner) →
      r g ≡ Some s → P g s
  each P new old g s e = elim (paired_is g s e) [
    | inl now ↦ subst (λ (x : Partner). P g x) (sym now.1) (subst (λ (i : ℕ). P i q) (sym now.0) new)
    | inr was ↦ old g s was.1
  ]

  once : IsMatched gold gate p → (i j : ℕ) (s t : Partner) → r i ≡ Some s → r j ≡ Some t → s.net ≡ t.net → i ≡ j
  once is i j s t e f one = elim (paired_is i s e) [
    | inl a ↦ (elim (paired_is j t f) [
      | inl b ↦ a.0 ∙ sym b.0
      | inr b ↦ absurd (b.2 (sym one ∙ ap (λ (x : Partner). x.net) a.1))
    ])
    | inr a ↦ (elim (paired_is j t f) [
      | inl b ↦ absurd (a.2 (one ∙ ap (λ (x : Partner). x.net) b.1))
      | inr b ↦ is.once i j s t a.1 b.1 one
    ])
  ]

  pub paired_matched : k < length gold.nets → q.net < length gate.nets → HaveOneWidth gold k gate q.net →
      AreInside gold gate k q.net → IsMatched gold gate p → IsMatched gold gate r
  paired_matched lk lq width inside is = record {
    gold_there = each (λ g s. g < length gold.nets) lk is.gold_there;
    gate_there = each (λ g s. s.net < length gate.nets) lq is.gate_there;
    widths = each (λ g s. HaveOneWidth gold g gate s.net) width is.widths;
    sound = each (λ g s. IsSound gold gate g s) (inr inside) is.sound;
    once = once is;
    ports = λ g h port.
        let ne : g ≢ k = λ e. port.gold_port (ap (λ (i : ℕ). (net_at gold.nets i).dir) e ∙ inside.gold_inside) in
        let nh : h ≢ q.net = λ e. port.gate_port (ap (λ (i : ℕ). (net_at gate.nets i).dir) e ∙ inside.gate_inside) in
        far g ne ∙ ap (without q.net) (is.ports g h port)
        ∙ without_other q.net (record { net = h; inverted = false }) nh;
  }

-- ---- pairs go

module _ (gold gate : Parts) (p r : Pairing) (gone : ℕ → Type 0) (loses : Loses gone p r) where
  stayed : (k : ℕ) (q : Partner) → r k ≡ Some q → p k ≡ Some q
  stayed k q e = elim (loses k) [
    | inl a ↦ (let two : ◌≡◌ {A = Option Partner} None (Some q) = sym a.1 ∙ e in absurd (cc))
    | inr a ↦ sym a.1 ∙ e
  ]

  pub lost_matched : IsMatched gold gate p → ((k h : ℕ) → AreOnePort gold gate k h → ¬ gone k) → IsMatched gold gate r
  lost_matched is keeps = record {
    gold_there = λ k q e. is.gold_there k q (stayed k q e);
    gate_there = λ k q e. is.gate_there k q (stayed k q e);
    widths = λ k q e. is.widths k q (stayed k q e);
    sound = λ k q e. is.sound k q (stayed k q e);
    once = λ j k q s e f. is.once j k q s (stayed j q e) (stayed k s f);
    ports = λ k h port. elim (loses k) [
      | inl a ↦ absurd (keeps k h port a.0)
      | inr a ↦ a.1 ∙ is.ports k h port
    ];
  }

module _ (gold gate : Parts) where
  pub same_matched : (p r : Pairing) → SamePairs r p → IsMatched gold gate p → IsMatched gold gate r
  same_matched p r same is = lost_matched gold gate p r (λ k. ⊥) (λ k. inr (λ h. h, same k)) is (λ k h port gone. gone)

  gold_matched : (pattern template : List ℕ) (inverted : Bool) (k : ℕ) (p r : Pairing) →
      GoldMatchAt gold gate pattern template inverted k p r → IsMatched gold gate p → IsMatched gold gate r
  gold_matched pattern template inverted k p r (inl a) is = paired_matched gold gate p r k (record {
    net = a.0;
    inverted = inverted;
  })
      a.2 a.1.here.there a.1.there.there a.1.widths (record {
        gold_inside = a.1.here.inside;
        gate_inside =
            a.1.there.inside;
      }) is
  gold_matched pattern template inverted k p r (inr a) is = same_matched p r a.1 is

  gate_matched : (pattern template : List ℕ) (inverted : Bool) (h : ℕ) (p r : Pairing) →
      GateMatchAt gold gate pattern template inverted h p r → IsMatched gold gate p → IsMatched gold gate r
  gate_matched pattern template inverted h p r (inl a) is = paired_matched gold gate p r a.0 (record {
    net = h;
    inverted = inverted;
  })
      a.2 a.1.there.there a.1.here.there (sym a.1.widths) (record {
        gold_inside = a.1.there.inside;
        gate_inside =
            a.1.here.inside;
      }) is
  gate_matched pattern template inverted h p r (inr a) is = same_matched p r a.1 is

  each_matched : (step : ℕ → Pairing → Pairing → Type 0) →
      ((k : ℕ) (p r : Pairing) → step k p r → IsMatched gold gate p → IsMatched gold gate r) →
      (n : ℕ) (p r : Pairing) → AtEach step n p r → IsMatched gold gate p → IsMatched gold gate r
  each_matched step keeps zero p r same is = same_matched p r same is
  each_matched step keeps (suc n) p r s is = keeps n s.0 r s.2 (each_matched step keeps n p s.0 s.1 is)

  no_port_named : (p : Pairing) (pattern : List ℕ) → IsMatched gold gate p → (k h : ℕ) → AreOnePort gold gate k h →
      IsPartnerNamed gate pattern (p k) → ⊥
  no_port_named p pattern is k h port named =
      let n : IsNamed gate pattern h = subst (IsPartnerNamed gate pattern) (is.ports k h port) named in
      port.gate_port n.0.inside

  rule_matched : (rule : MatchRule) (p r : Pairing) → RuleMakes gold gate rule p r → IsMatched gold gate p → IsMatched
      gold gate r
  rule_matched (GoldMatch pattern template inverted) p r makes is =
      each_matched (GoldMatchAt gold gate pattern template inverted) (gold_matched pattern template inverted) (length
      gold.nets) p r makes is
  rule_matched (GateMatch pattern template inverted) p r makes is =
      each_matched (GateMatchAt gold gate pattern template inverted) (gate_matched pattern template inverted) (length
      gate.nets) p r makes is
  rule_matched (GoldNo pattern) p r makes is = lost_matched gold gate p r (IsNamed gold pattern) makes is
      (λ k h port named. port.gold_port named.0.inside)
  rule_matched (GateNo pattern) p r makes is = lost_matched gold gate p r (λ k. IsPartnerNamed gate pattern (p k))
      makes is
      (no_port_named p pattern is)

  rules_matched : (rules : List MatchRule) (p r : Pairing) → RulesMake gold gate rules p r → IsMatched gold gate p →
      IsMatched gold gate r
  rules_matched [] p r same is = same_matched p r same is
  rules_matched (rule ∷ rules) p r m is = rules_matched rules m.0 r m.2 (rule_matched rule p m.0 m.1 is)

  section_matched : (top : List ℕ) (s : MatchSection) (p r : Pairing) → SectionMakes gold gate top s p r → IsMatched
      gold gate p → IsMatched gold gate r
  section_matched top s p r (inl a) is = rules_matched s.rules p r a.1 is
  section_matched top s p r (inr a) is = same_matched p r a.1 is

  sections_matched : (top : List ℕ) (sections : List MatchSection) (p r : Pairing) → SectionsMake gold gate top
      sections p r →
      IsMatched gold gate p → IsMatched gold gate r
  sections_matched top [] p r same is = same_matched p r same is
  sections_matched top (s ∷ sections) p r m is = sections_matched top sections m.0 r m.2 (section_matched top s p m.0
      m.1 is)

  pub pairing_matched : IsNet gold → IsNet gate → HaveSamePorts gold gate → (c : Config) (p : Pairing) → IsPairing gold
      gate c p →
      IsMatched gold gate p
  pairing_matched gold_is gate_is same c p is = sections_matched c.gold.top c.matches is.first p is.lines
      (first_matched gold gate is.first is.first_is gold_is gate_is same)

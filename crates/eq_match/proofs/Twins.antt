-- The pairs before any line is read, net by net.
use Rattle.std.proofs.Common.{◌≡◌, ◌≢◌, ℕ, ◌+◌, ◌<◌, Bool, false, cond, List, AllPairs, Option, Some, None, length, slice_index_or, refl, sym, ap, subst, ◌∙◌, inl, inr, arith}
use Rattle.std.proofs.lemmas.Bool.{cases_lt}
use Rattle.std.proofs.lemmas.Bool.Decides.{eqb_tells}
use Rattle.eq_net.specs.Net.{Parts, name_at, net_at}
use Rattle.eq_match.specs.declared.types.Partner.{Partner}
use Rattle.eq_match.specs.NetPairs.{AreTwins, IsFirstPairing, Pairing, SamePairs, paired, without}
use Rattle.eq_match.specs.inner.Finding.{AreTwinNets, IsFirst, IsFirstTo}
use Rattle.eq_match.specs.inner.Indexing.{IsIndex}
use Rattle.eq_match.proofs.Linked.{without_other}
use Rattle.eq_match.proofs.Numbered.{same_net}

module _ (gold gate : Parts) (gold_names gate_names : List (List ℕ)) (gold_seen gate_seen : List Bool)
    (here : IsIndex gold gold_names gold_seen) (there : IsIndex gate gate_names gate_seen) (k h : ℕ)
    (lk : k < length gold.nets) (lh : h < length gate.nets) (names : name_at gold.nets k ≡ name_at gate.nets h) where
  pub twins_to : AreTwinNets (net_at gold.nets k) (slice_index_or gold_seen k false) (net_at gate.nets h)
      (slice_index_or gate_seen h false) → AreTwins gold gate k h
  twins_to (inl t) = inl (record {
    gold_there = lk;
    gate_there = lh;
    gold_port = t.gold_port;
    gate_port = t.gate_port;
    names = names;
  })
  twins_to (inr t) = inr (record {
    gold_seen = (here.tells.tells k lk).0 t.gold_is;
    gate_seen = (there.tells.tells h lh).0 t.gate_is;
    gold_chosen = t.gold_chosen;
    gate_chosen = t.gate_chosen;
    names = names;
    widths = t.widths;
  })

  pub twins_from : AreTwins gold gate k h → AreTwinNets (net_at gold.nets k) (slice_index_or gold_seen k false)
      (net_at gate.nets h) (slice_index_or gate_seen h false)
  twins_from (inl t) = inl (record { gold_port = t.gold_port; gate_port = t.gate_port })
  twins_from (inr t) = inr (record {
    gold_is = (here.tells.tells k lk).1 t.gold_seen;
    gate_is = (there.tells.tells h lh).1 t.gate_seen;
    gold_chosen = t.gold_chosen;
    gate_chosen = t.gate_chosen;
    widths = t.widths;
  })

pub twin_names : (gold gate : Parts) (k h : ℕ) → AreTwins gold gate k h → name_at gold.nets k ≡ name_at gate.nets h
twin_names gold gate k h (inl t) = t.names
twin_names gold gate k h (inr t) = t.names

pub twin_here : (gold gate : Parts) (k h : ℕ) → AreTwins gold gate k h → k < length gold.nets
twin_here gold gate k h (inl t) = t.gold_there
twin_here gold gate k h (inr t) = t.gold_seen.there

pub twin_there : (gold gate : Parts) (k h : ℕ) → AreTwins gold gate k h → h < length gate.nets
twin_there gold gate k h (inl t) = t.gate_there
twin_there gold gate k h (inr t) = t.gate_seen.there

module _ (gold gate : Parts) (apart : AllPairs (λ a b. a.name ≢ b.name) gold.nets) (p : Pairing) (k : ℕ) where
  -- a net that comes later is no twin of a net that has one
  kept : (h i : ℕ) → AreTwins gold gate k h → i ≢ k → (o : Option Partner) → IsFirst gold gate i o →
      IsFirst gold gate i (without h o)
  kept h i twins other o (inr none) = inr (none.0, ap (without h) none.1)
  kept h i twins other o (inl one) = inl (
    one.0,
    one.1,
    ap (without h) one.2
        ∙ without_other h (record { net = one.0; inverted = false }) (λ same. other
        (same_net gold.nets apart i k (twin_here gold gate i one.0 one.1) (twin_here gold gate k h twins)
        (twin_names gold gate i one.0 one.1 ∙ ap (λ (j : ℕ). name_at gate.nets j) same ∙ sym (twin_names gold gate k h
        twins)))),
  )

  pub first_next : (h : ℕ) (q : Pairing) → IsFirstTo gold gate k p → AreTwins gold gate k h →
      SamePairs q (paired p k (record { net = h; inverted = false })) → IsFirstTo gold gate (k + 1) q
  first_next h q is twins same =
      let new : Partner = record { net = h; inverted = false } in
      let here : q k ≡ Some new = same k ∙ (elim (eqb_tells k k) [
        | inl eq ↦ ap (λ (b : Bool). cond b (Some new) (without h (p k))) eq.0
        | inr ne ↦ absurd (ne.1 refl)
      ]) in
      let far : (i : ℕ) → i ≢ k → q i ≡ without h (p i) = λ i ne. same i ∙ (elim (eqb_tells i k) [
        | inl eq ↦ absurd (ne eq.1)
        | inr apart ↦ ap (λ (b : Bool). cond b (Some new) (without h (p i))) apart.0
      ]) in
      record {
        below = λ i lt. elim (cases_lt i k) [
          | inl less ↦
              let ne : i ≢ k = λ e. omega arith in
              subst (IsFirst gold gate i) (sym (far i ne)) (kept h i twins ne (p i) (is.below i less))
          | inr ge ↦
              let e : k ≡ i = omega arith in
              let P : ℕ → Type 0 = λ j. IsFirst gold gate j (q j) in
              subst P e (inl (h, twins, here))
        ];
        above = λ i le.
            let ne : i ≢ k = λ e. omega arith in
            far i ne ∙ ap (without h) (is.above i (omega arith));
      }

  pub first_skip : IsFirstTo gold gate k p → ((h : ℕ) → ¬ AreTwins gold gate k h) → IsFirstTo gold gate (k + 1) p
  first_skip is none = record {
    below = λ i lt. elim (cases_lt i k) [
      | inl less ↦ is.below i less
      | inr ge ↦
          let e : k ≡ i = omega arith in
          let P : ℕ → Type 0 = λ j. IsFirst gold gate j (p j) in
          subst P e (inr (none, is.above k (omega arith)))
    ];
    above = λ i le. is.above i (omega arith);
  }

pub first_all : (gold gate : Parts) (p : Pairing) → IsFirstTo gold gate (length gold.nets) p → IsFirstPairing gold gate
    p
first_all gold gate p is k = elim (cases_lt k (length gold.nets)) [
  | inl less ↦ is.below k less
  | inr past ↦ inr (λ h t. let lt = twin_here gold gate k h t in omega arith, is.above k past)
]

pub first_none : (gold gate : Parts) (p : Pairing) → SamePairs p (λ k. None) → IsFirstTo gold gate 0 p
first_none gold gate p none = record { below = λ k lt. absurd (omega arith); above = λ k le. none k }

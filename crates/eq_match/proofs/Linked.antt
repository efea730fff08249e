-- A pair that goes from a table, on both sides.
use Rattle.std.proofs.Common.{◌≡◌, ◌≢◌, ℕ, ◌<◌, Bool, cond, List, length, Option, Some, None, slice_index_or, set, refl, sym, ap, ◌∙◌, inl, inr, get_or-set_same, get_or-set_other}
use Rattle.std.proofs.Math.ListN.{length-set}
use Rattle.std.proofs.lemmas.Bool.{cases_lt}
use Rattle.std.proofs.lemmas.Bool.Decides.{eqb_tells}
use Rattle.std.proofs.lemmas.List.{get_or_default, get_or_past}
use Rattle.eq_match.specs.declared.types.Partner.{Partner}
use Rattle.eq_match.specs.NetPairs.{without}
use Rattle.eq_match.specs.inner.Tables.{IsTable, owner_of, pairing_of}

-- what a list has at a place stands within it
pub within : {A : Type 0} (xs : List (Option A)) (k : ℕ) (x : A) → slice_index_or xs k None ≡ Some x → k < length xs
within xs k x is = elim (cases_lt k (length xs)) [
  | inl less ↦ less
  | inr past ↦ (let none = sym (get_or_past xs k None past) ∙ is in absurd (cc))
]

-- what is read at a place, whatever the default is
pub read_at : {A : Type 0} (xs : List A) (k : ℕ) (x d : A) → x ≡ slice_index_or xs k x → k < length xs → slice_index_or
    xs k d ≡ x
read_at xs k x d is lt = get_or_default xs k d x lt ∙ sym is

pub without_other : (h : ℕ) (p : Partner) → p.net ≢ h → without h (Some p) ≡ Some p
without_other h p other = elim (eqb_tells p.net h) [
  | inl same ↦ absurd (other same.1)
  | inr apart ↦ ap (λ (b : Bool). cond b None (Some p)) apart.0
]

pub without_same : (h : ℕ) (p : Partner) → p.net ≡ h → without h (Some p) ≡ None
without_same h p same = elim (eqb_tells p.net h) [
  | inl here ↦ ap (λ (b : Bool). cond b None (Some p)) here.0
  | inr apart ↦ absurd (apart.1 same)
]

module _ (n m : ℕ) (partners : List (Option Partner)) (owners : List (Option ℕ)) (is : IsTable n m partners owners)
    (k : ℕ) (p : Partner) (at : pairing_of partners k ≡ Some p) where
  now : List (Option Partner)
  now = set partners k None

  then_owners : List (Option ℕ)
  then_owners = set owners p.net None

  owned : owner_of owners p.net ≡ Some k
  owned = is.linked.there k p at

  here : pairing_of now k ≡ None
  unfolding now
  here = get_or-set_same partners k None None (within partners k p at)

  other : (j : ℕ) → j ≢ k → pairing_of now j ≡ pairing_of partners j
  unfolding now
  other j apart = get_or-set_other partners k j None None apart

  there_here : owner_of then_owners p.net ≡ None
  unfolding then_owners
  there_here = get_or-set_same owners p.net None None (within owners p.net k owned)

  there_other : (h : ℕ) → h ≢ p.net → owner_of then_owners h ≡ owner_of owners h
  unfolding then_owners
  there_other h apart = get_or-set_other owners p.net h None None apart

  forth : (j : ℕ) (q : Partner) → pairing_of now j ≡ Some q → owner_of then_owners q.net ≡ Some j
  forth j q e = elim (eqb_tells j k) [
    | inl same ↦ (let none : pairing_of now j ≡ None = ap (λ (i : ℕ). pairing_of now i) same.1 ∙ here in absurd (let z
        = sym none ∙ e in cc))
    | inr apart ↦
        let before : pairing_of partners j ≡ Some q = sym (other j apart.1) ∙ e in
        let own = is.linked.there j q before in
        elim (eqb_tells q.net p.net) [
          | inl same ↦
              let two : ◌≡◌ {A = Option ℕ} (Some k) (Some j) = sym owned ∙ ap (λ (i : ℕ). owner_of owners i) (sym
              same.1) ∙ own in
              absurd (apart.1 (cc))
          | inr far ↦ there_other q.net far.1 ∙ own
        ]
  ]

  back : (j h : ℕ) → owner_of then_owners h ≡ Some j → (q : Partner) × (pairing_of now j ≡ Some q) × (q.net ≡ h)
  back j h e = elim (eqb_tells h p.net) [
    | inl same ↦ (let none : owner_of then_owners h ≡ None = ap (λ (i : ℕ). owner_of then_owners i) same.1 ∙ there_here
        in absurd (let z = sym none ∙ e in cc))
    | inr apart ↦
        let before = is.linked.back j h (sym (there_other h apart.1) ∙ e) in
        elim (eqb_tells j k) [
          | inl same ↦
              let two : ◌≡◌ {A = Option Partner} (Some p) (Some before.0) = sym at ∙ ap (λ (i : ℕ). pairing_of partners
              i) (sym same.1) ∙ before.1 in
              let one : p ≡ before.0 = cc in
              absurd (apart.1 (sym before.2 ∙ sym (ap (λ (x : Partner). x.net) one)))
          | inr far ↦ (before.0, other j far.1 ∙ before.1, before.2)
        ]
  ]

  -- the pair goes on both sides
  pub unlinked : IsTable n m (set partners k None) (set owners p.net None)
  unfolding now then_owners
  unlinked = record {
    gold_size = length-set partners k None ∙ is.gold_size;
    gate_size = length-set owners p.net None ∙ is.gate_size;
    linked = record { there = forth; back = back };
  }

  kept : (j : ℕ) → j ≢ k → (o : Option Partner) → pairing_of partners j ≡ o → o ≡ without p.net o
  kept j apart None e = refl
  kept j apart (Some q) e =
      sym (without_other p.net q (λ same.
      let own = is.linked.there j q e in
      let two : ◌≡◌ {A = Option ℕ} (Some k) (Some j) = sym owned ∙ ap (λ (i : ℕ). owner_of owners i) (sym same) ∙ own in
      apart (cc)))

  -- no other pair had its net of gate
  pub without_here : (j : ℕ) → pairing_of (set partners k None) j ≡ without p.net (pairing_of partners j)
  unfolding now
  without_here j = elim (eqb_tells j k) [
    | inl same ↦ ap (λ (i : ℕ). pairing_of now i) same.1 ∙ here ∙ sym (ap (λ (o : Option Partner). without p.net o)
        (ap (λ (i : ℕ). pairing_of partners i) same.1 ∙ at) ∙ without_same p.net p refl)
    | inr apart ↦ other j apart.1 ∙ kept j apart.1 (pairing_of partners j) refl
  ]

-- a table for as many nets as another has is one for as many as that one is for
pub resized : (n m : ℕ) (ps qs : List (Option Partner)) (os us : List (Option ℕ)) → IsTable n m ps os →
    IsTable (length ps) (length os) qs us → IsTable n m qs us
resized n m ps qs os us was is = record {
  gold_size = is.gold_size ∙ was.gold_size;
  gate_size = is.gate_size ∙ was.gate_size;
  linked = is.linked;
}

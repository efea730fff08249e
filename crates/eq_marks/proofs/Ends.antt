-- Where plain copies lead: among n bits they end in fewer than n steps, or never.
use Rattle.std.proofs.Common.{◌≡◌, ℕ, zero, suc, ◌+◌, ◌-◌, ◌<◌, ◌≤◌, Option, Some, None, refl, arith, sym, ap, subst, ◌∙◌, ◌⊎◌, inl, inr}
use Rattle.std.proofs.lemmas.Bool.{cases_lt}
use Rattle.eq_net.specs.Meaning.{if_there}
use Rattle.eq_verilog.specs.Clocks.{end_of}
use Rattle.eq_marks.proofs.Pigeons.{IsOneToOne, pigeonhole}

pub cases_option : {A : Type 0} (o : Option A) → (o ≡ None) ⊎ ((a : A) × (o ≡ Some a))
cases_option None = inl refl
cases_option (Some a) = inr (a, refl)

none_some : {A : Type 0} (a : A) → ◌≡◌ {A = Option A} None (Some a) → ⊥
none_some a e = absurd (cc)

module _ (copy : ℕ → Option ℕ) where
  -- the end, where the next bit is known
  pub end_next : (k b : ℕ) (o : Option ℕ) → copy b ≡ o → end_of copy (suc k) b ≡ if_there (Some b) (end_of copy k) o
  end_next k b o is = ap (if_there (Some b) (end_of copy k)) is

  -- more steps don't move an end
  longer : (k b e : ℕ) → end_of copy k b ≡ Some e → end_of copy (suc k) b ≡ Some e
  longer zero b e is = absurd (none_some e is)
  longer (suc k) b e is = elim (cases_option (copy b)) [
    | inl none ↦ end_next (suc k) b None none ∙ sym (end_next k b None none) ∙ is
    | inr some ↦ end_next (suc k) b (Some some.0) some.1 ∙ longer k some.0 e (sym (end_next k b (Some some.0) some.1) ∙
        is)
  ]

  longer_by : (d k b e : ℕ) → end_of copy k b ≡ Some e → end_of copy (d + k) b ≡ Some e
  longer_by zero k b e is = ap (λ n. end_of copy n b) (let z : 0 + k ≡ k = omega arith in z) ∙ is
  longer_by (suc d) k b e is = ap (λ n. end_of copy n b) (let z : suc d + k ≡ suc (d + k) = omega arith in z) ∙ longer
      (d + k) b e (longer_by d k b e is)

  -- the bit after i steps
  abbrev walk : ℕ → ℕ → ℕ
  walk zero b = b
  walk (suc i) b = if_there b (walk i) (copy b)

  -- what needs exactly k + 1 steps
  abbrev Takes : ℕ → ℕ → ℕ → Type 0
  Takes k b e = (end_of copy (suc k) b ≡ Some e) × (end_of copy k b ≡ None)

  -- the bit after a step needs one step less
  takes_less : (k b e : ℕ) → Takes (suc k) b e → (d : ℕ) × (copy b ≡ Some d) × Takes k d e
  takes_less k b e t = elim (cases_option (copy b)) [
    | inl none ↦ absurd (none_some b (sym t.1 ∙ end_next k b None none))
    | inr some ↦ (
      some.0,
      some.1,
      (
        sym (end_next (suc k) b (Some some.0) some.1) ∙ t.0,
        sym (end_next k b (Some some.0)
            some.1) ∙ t.1,
      ),
    )
  ]

  takes_on : (k b e i : ℕ) → i ≤ k → Takes k b e → Takes (k - i) (walk i b) e
  takes_on k b e zero le t = subst (λ n. Takes n b e) (let z : k ≡ k - 0 = omega arith in z) t
  takes_on zero b e (suc i) le t = absurd (omega arith)
  takes_on (suc k) b e (suc i) le t =
      let less = takes_less k b e t in
      let at : walk (suc i) b ≡ walk i less.0 = ap (if_there b (walk i)) less.1 in
      let count : k - i ≡ suc k - suc i = omega arith in
      subst (λ x. Takes (suc k - suc i) x e) (sym at) (subst (λ n. Takes n (walk i less.0) e) count (takes_on k less.0
      e i (omega arith) less.2))

  -- later bits of a walk are others
  apart : (k b e i j : ℕ) → i < j → j ≤ k → Takes k b e → walk i b ≡ walk j b → ⊥
  apart k b e i j lt le t same =
      let ti = takes_on k b e i (omega arith) t in
      let tj = takes_on k b e j le t in
      let here : end_of copy (suc (k - j)) (walk i b) ≡ Some e = ap (end_of copy (suc (k - j))) same ∙ tj.0 in
      let more : ((k - i) - suc (k - j)) + suc (k - j) ≡ k - i = omega arith in
      none_some e (sym ti.1 ∙ sym (ap (λ n. end_of copy n (walk i b)) more) ∙ longer_by ((k - i) - suc (k - j)) (suc (k
      - j)) (walk i b) e here)

  module _ (n : ℕ) (inside : (b d : ℕ) → b < n → copy b ≡ Some d → d < n) where
    within : (i b : ℕ) → b < n → walk i b < n
    within zero b lt = lt
    within (suc i) b lt = elim (cases_option (copy b)) [
      | inl none ↦ subst (λ x. x < n) (sym (ap (if_there b (walk i)) none)) lt
      | inr some ↦ subst (λ x. x < n) (sym (ap (if_there b (walk i)) some.1)) (within i some.0 (inside b some.0 lt
          some.1))
    ]

    one_to_one : (k b e : ℕ) → Takes k b e → IsOneToOne (λ i. walk i b) (suc k)
    one_to_one k b e t i j li lj same = elim (cases_lt i j) [
      | inl less ↦ absurd (apart k b e i j less (omega arith) t same)
      | inr ge ↦ (elim (cases_lt j i) [
        | inl less ↦ absurd (apart k b e j i less (omega arith) t (sym same))
        | inr le ↦ omega arith
      ])
    ]

    few_steps : (k b e : ℕ) → b < n → Takes k b e → k < n
    few_steps k b e lt t = omega (
      arith,
      pigeonhole (suc k) n (λ i. walk i b) (λ i li. within i b lt) (one_to_one k b e
          t),
    )

    -- n steps are enough
    enough : (b : ℕ) → b < n → end_of copy (suc n) b ≡ end_of copy n b
    enough b lt = elim (cases_option (end_of copy n b)) [
      | inr some ↦ longer n b some.0 some.1 ∙ sym some.1
      | inl none ↦ (elim (cases_option (end_of copy (suc n) b)) [
        | inl nothing ↦ nothing ∙ sym none
        | inr some ↦ absurd (let less = few_steps n b some.0 lt (some.1, none) in omega arith)
      ])
    ]

    -- a bit leads where the bit leads of which it is a copy
    pub end_same : (b d : ℕ) → b < n → copy b ≡ Some d → end_of copy n b ≡ end_of copy n d
    end_same b d lt is = sym (enough b lt) ∙ end_next n b (Some d) is

    -- a bit that is no copy is its end
    pub end_here : (b : ℕ) → b < n → copy b ≡ None → end_of copy n b ≡ Some b
    end_here b lt is = sym (enough b lt) ∙ end_next n b None is

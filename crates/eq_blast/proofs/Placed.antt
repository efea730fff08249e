-- A node of the plan is made: it has a place, a copy of it is added, and all that was made before stays as it is.
use Rattle.std.proofs.Common.{◌≡◌, ℕ, ◌<◌, ◌+◌, ◌-◌, List, true, false, Option, Some, None, set, length, refl, arith, sym, ap, subst, ◌∙◌, ◌⊎◌, inl, inr, get_or-set_other, get_or-set_same}
use Rattle.std.proofs.Math.ListN.{length-set}
use Rattle.std.proofs.lemmas.Bool.{cases_lt}
use Rattle.std.proofs.lemmas.List.Sums.{sum_by-set}
use Rattle.eq_bits.specs.declared.node.Node.{Node}
use Rattle.eq_bits.specs.Node.{node_at}
use Rattle.eq_bits.specs.Shared.{is_gate}
use Rattle.eq_blast.specs.inner.Sorting.{IsCopy, IsCopyAdded, IsPlacing, is_made, is_there, new_of, number_or_zero, one_if_open, open_count, place_of, waits_for}
use Rattle.eq_blast.proofs.Waiting.{copy_kind, same_copy, waits_less}

pub same_or_not : (a b : ℕ) → (a ≡ b) ⊎ (a ≡ b → ⊥)
same_or_not a b =
    elim (cases_lt a b) [
      | inl less ↦ inr (λ e. omega arith)
      | inr more ↦ (elim (cases_lt b a) [
        | inl greater ↦ inr (λ e. omega arith)
        | inr not_greater ↦ inl (omega arith)
      ])
    ]

open_is_one : (p : Option ℕ) → is_there p ≡ false → one_if_open p ≡ 1
open_is_one None e = refl
open_is_one (Some k) e = absurd (cc)

module _ (plan : List Node) (places : List (Option ℕ)) (nodes new : List Node) (left m number : ℕ)
    (is : IsPlacing plan places nodes left) (lt : m < length plan) (open_m : is_made places m ≡ false)
    (ready : waits_for (is_made places) (node_at plan m) ≡ None)
    (added : IsCopyAdded (new_of places) (node_at plan m) nodes new number) where
  now : List (Option ℕ)
  now = set places m (Some number)

  here : place_of now m ≡ Some number
  unfolding now
  here = get_or-set_same places m (Some number) None (let e = is.count in omega arith)

  other : (a : ℕ) → (a ≡ m → ⊥) → place_of now a ≡ place_of places a
  unfolding now
  other a apart = get_or-set_other places m a (Some number) None apart

  not_m : (a : ℕ) → is_made places a ≡ true → a ≡ m → ⊥
  not_m a made same =
      let P : ℕ → Type 0 = λ x. is_made places x ≡ false in
      let f : is_made places a ≡ false = subst P (sym same) open_m in
      let t : true ≡ false = sym made ∙ f in absurd (cc)

  still_made : (a : ℕ) → is_made places a ≡ true → is_made now a ≡ true
  still_made a made = ap is_there (other a (not_m a made)) ∙ made

  same_new : (a : ℕ) → is_made places a ≡ true → new_of now a ≡ new_of places a
  same_new a made = ap number_or_zero (other a (not_m a made))

  new_m : new_of now m ≡ number
  new_m = ap number_or_zero here

  made_m : is_made now m ≡ true
  made_m = ap is_there here

  -- what is made is the node or was made before
  cases_made : (a : ℕ) → is_made now a ≡ true → (a ≡ m) ⊎ (is_made places a ≡ true)
  cases_made a made =
      elim (same_or_not a m) [
        | inl same ↦ inl same
        | inr apart ↦ inr (sym (ap is_there (other a apart)) ∙ made)
      ]

  plain : is_gate (node_at plan m) ≡ false → number ≡ length nodes
  plain gate = added.2.alone (copy_kind (new_of places) (node_at plan m) added.0 added.1 ∙ gate)

  old_there : (a : ℕ) → is_made places a ≡ true → new_of now a < length nodes
  old_there a made = (let e = same_new a made in let f = is.there a made in omega arith)

  old_node : (a : ℕ) → is_made places a ≡ true → node_at new (new_of now a) ≡ node_at nodes (new_of places a)
  old_node a made = ap (node_at new) (same_new a made) ∙ added.2.old_stays (new_of places a) (is.there a made)

  new_node : node_at new (new_of now m) ≡ added.0
  new_node = ap (node_at new) new_m ∙ added.2.is

  there_now : (a : ℕ) → (a ≡ m) ⊎ (is_made places a ≡ true) → new_of now a < length new
  there_now a (inl same) = (let P : ℕ → Type 0 = λ x. new_of now x < length new in
      subst P (sym same) (let e = new_m in let f = added.2.there in omega arith))
  there_now a (inr made) = (let e = old_there a made in let f = added.2.no_less in omega arith)

  ready_now : (a : ℕ) → (a ≡ m) ⊎ (is_made places a ≡ true) → waits_for (is_made now) (node_at plan a) ≡ None
  ready_now a (inl same) = (let P : ℕ → Type 0 = λ x. waits_for (is_made now) (node_at plan x) ≡ None in
      subst P (sym same) (waits_less (is_made places) (is_made now) still_made (node_at plan m) ready))
  ready_now a (inr made) = waits_less (is_made places) (is_made now) still_made (node_at plan a) (is.ready a made)

  copied_now : (a : ℕ) → (a ≡ m) ⊎ (is_made places a ≡ true) →
      IsCopy (new_of now) (node_at plan a) (node_at new (new_of now a))
  copied_now a (inl same) =
      let P : ℕ → Type 0 = λ x. IsCopy (new_of now) (node_at plan x) (node_at new (new_of now x)) in
      let Q : Node → Type 0 = λ x. IsCopy (new_of now) (node_at plan m) x in
      subst P (sym same) (subst Q (sym new_node)
      (same_copy (is_made places) (new_of places) (new_of now) same_new (node_at plan m) added.0 ready added.1))
  copied_now a (inr made) =
      let Q : Node → Type 0 = λ x. IsCopy (new_of now) (node_at plan a) x in
      subst Q (sym (old_node a made)) (same_copy (is_made places) (new_of places) (new_of now) same_new (node_at plan a)
      (node_at nodes (new_of places a)) (is.ready a made) (is.copies a made))

  -- an old node other than a gate has a number of its own
  never : (b : ℕ) → is_made places b ≡ true → new_of now m ≡ new_of now b → number ≡ length nodes → ⊥
  never b made same end = (let e = new_m in let f = old_there b made in omega arith)

  apart_now : (a b : ℕ) → (a ≡ m) ⊎ (is_made places a ≡ true) → (b ≡ m) ⊎ (is_made places b ≡ true) →
      new_of now a ≡ new_of now b → is_gate (node_at plan a) ≡ false → a ≡ b
  apart_now a b (inl x) (inl y) same gate = x ∙ sym y
  apart_now a b (inl x) (inr y) same gate =
      let P : ℕ → Type 0 = λ k. is_gate (node_at plan k) ≡ false in
      let Q : ℕ → Type 0 = λ k. new_of now k ≡ new_of now b in
      absurd (never b y (subst Q x same) (plain (subst P x gate)))
  apart_now a b (inr x) (inl y) same gate =
      let Q : ℕ → Type 0 = λ k. new_of now a ≡ new_of now k in
      let met : new_of now a ≡ new_of now m = subst Q y same in
      let old_kind : is_gate (node_at new (new_of now a)) ≡ false = ap is_gate (old_node a x)
      ∙ copy_kind (new_of places) (node_at plan a) (node_at nodes (new_of places a)) (is.copies a x) ∙ gate in
      let new_kind : is_gate added.0 ≡ false = sym (ap is_gate new_node)
      ∙ ap (λ (k : ℕ). is_gate (node_at new k)) (sym met) ∙ old_kind in
      absurd (never a x (sym met) (added.2.alone new_kind))
  apart_now a b (inr x) (inr y) same gate = is.apart a b x y (sym (same_new a x) ∙ same ∙ same_new b y) gate

  only_now : (k : ℕ) → k < length new → is_gate (node_at new k) ≡ false →
      (a : ℕ) × (is_made now a ≡ true) × (new_of now a ≡ k)
  only_now k less gate =
      elim (cases_lt k (length nodes)) [
        | inl old ↦ (
            let t = is.only k old (sym (ap is_gate (added.2.old_stays k old)) ∙ gate) in
            (t.0, still_made t.0 t.1, same_new t.0 t.1 ∙ t.2))
        | inr more ↦ (
            let end : number ≡ length nodes = added.2.alone (sym (ap is_gate (added.2.last k more less)) ∙ gate) in
            (m, made_m, (let e = new_m in let f = added.2.one_more in omega arith)))
      ]

  fewer : open_count now + 1 ≡ open_count places
  unfolding now
  fewer =
      let e = sum_by-set one_if_open places m (Some number) None (let c = is.count in omega arith) in
      let f = open_is_one (place_of places m) open_m in
      omega arith

  -- there is one to make
  pub some_left : 0 < left
  some_left = (let e = fewer in let f = is.still in omega arith)

  pub made_more : IsPlacing plan (set places m (Some number)) new (left - 1)
  unfolding now
  made_more = record {
    count = (let e = length-set places m (Some number) in let f = is.count in omega arith);
    still = (let e = fewer in let f = is.still in omega arith);
    room = (let e = added.2.one_more in let f = is.room in let g = some_left in omega arith);
    there = λ a made. there_now a (cases_made a made);
    ready = λ a made. ready_now a (cases_made a made);
    copies = λ a made. copied_now a (cases_made a made);
    apart = λ a b made_a made_b. apart_now a b (cases_made a made_a) (cases_made b made_b);
    only = only_now;
  }

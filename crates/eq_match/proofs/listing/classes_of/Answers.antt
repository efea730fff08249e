use Rattle.std.proofs.Common.{◌≡◌, ℕ, ◌<◌, ◌≤◌, ◌+◌, List, Option, Some, Bool, true, false, length, set, get_or, arith, sym, ap, subst, ◌∙◌}
use Rattle.std.proofs.Math.ListN.{length-set}
use Rattle.std.proofs.lemmas.Bool.{not_from_false, not_from_true}
use Rattle.std.proofs.lemmas.List.{get_or_default}
use Rattle.eq_match.specs.declared.types.Pair.{Pair}
use Rattle.eq_match.specs.Groups.{is_held}
use Rattle.eq_match.specs.Leaders.{AreLeaders, leader_at}
use Rattle.eq_match.specs.Pairs.{no_pair}
use Rattle.eq_match.specs.inner.Begun.{AreBegun, added}
use Rattle.eq_match.specs.inner.Leading.{first_at, first_or}
use Rattle.eq_match.proofs.ListSteps.{passed_over, put_in}
use Rattle.eq_match.proofs.Lists.{count, rank_le}
use Rattle.eq_match.proofs.listing.classes_of.Goals as goal
use Rattle.eq_match.proofs.listing.classes_of.Goals.{then-not-pair+in_ok-add, else-not-pair}

few_lists : (held : ℕ → Bool) (leaders : List ℕ) (i : ℕ) (slots : List (Option ℕ)) (lists : List (List ℕ)) →
    AreBegun held leaders i slots lists → length lists ≤ i
few_lists held leaders i slots lists is =
    let e = ap length is.lists_are ∙ count held leaders i i in let r = rank_le held leaders i in omega arith

input_at : (pairs : List Pair) (i : ℕ) (d : Pair) → i < length pairs → (get_or pairs i no_pair).input ≡ (get_or pairs i d).input
input_at pairs i d h = ap (λ p. p.input) (get_or_default pairs i no_pair d h)

module _ (pairs : List Pair) (division leaders : List ℕ) (i : ℕ) (d : Pair) (slots now : List (Option ℕ))
    (lists more : List (List ℕ)) (is : AreBegun (is_held pairs) division i slots lists) (inside : i < length pairs)
    (bound : length slots ≡ length pairs) (lead : AreLeaders division) (leaders_are : leaders ≡ division) where
  put : (slot : ℕ) → length division ≡ length pairs → (get_or pairs i d).input ≡ false →
      slot ≡ first_or (first_at slots (get_or leaders i 0)) (length lists) → now ≡ set slots (get_or leaders i 0) (Some slot) →
      more ≡ added lists slot i → (begun : AreBegun (is_held pairs) division (i + 1) now more) × (length now ≡ length pairs)
  put slot count inner slot_is now_is more_is =
      let within : leader_at division i < length slots = (let b = lead.before i (omega arith) in omega arith) in
      let held : is_held pairs i ≡ true = not_from_false _ (input_at pairs i d inside ∙ inner) in
      let same = ap (λ ls. get_or ls i 0) leaders_are in (
        subst (λ ls. AreBegun (is_held pairs) division (i + 1) ls more)
            (sym (now_is ∙ ap (λ l. set slots l (Some slot)) same))
            (subst (λ ls. AreBegun (is_held pairs) division (i + 1) (set slots (leader_at division i) (Some slot)) ls) (sym more_is)
            (put_in (is_held pairs) division i slots lists is slot held within
            (slot_is ∙ ap (λ l. first_or (first_at slots l) (length lists)) same))),
        ap length now_is ∙ length-set slots (get_or leaders i 0) (Some slot) ∙ bound,
      )

  pass : (get_or pairs i d).input ≡ true → AreBegun (is_held pairs) division (i + 1) slots lists
  pass input = passed_over (is_held pairs) division i slots lists is (not_from_true _ (input_at pairs i d inside ∙ input))

pub overflow_cast-len : goal.overflow_cast-len
overflow_cast-len c =
    let few = c.leaders-leaders.ensures.leaders.few in
    let le = few_lists _ _ _ _ _ c.loop-position.invariant.begun in
    let same = c.requires in omega arith

pub loop-position-preserved : goal.loop-position-preserved
loop-position-preserved c = elim c.if-not-pair.branch [
  | then-not-pair+in_ok-add w ↦ (let p = put _ _ _ _ _ _ _ _ _ c.loop-position.invariant.begun c.loop-position-test.true
      c.loop-position.invariant.bound c.leaders-leaders.ensures.leaders c.leaders-leaders.ensures.value _ c.requires
      w.if-not-pair.true (w.first_of-slot.ensures.found ∙ ap (first_or (first_at c.loop-position.slots.items (get_or
      c.leaders-leaders.result.now c.loop-position.position 0))) (w.len.ensures ∙ c.loop-position.lists.ok.0)) (ap (λ v. v.items) w.slots-is ∙ w.first_of-slot.ensures.kept)
      (ap (λ v. v.items) w.lists-is ∙ w.in_ok-add.ensures) in
      record { begun = p.0; bound = p.1 })
  | else-not-pair w ↦ record {
    begun = subst (λ s. AreBegun (is_held c.args.pairs.now) c.args.division.now (c.loop-position.position + 1) s.items
        c.if-not-pair.lists.items) (sym w.slots-is)
        (subst (λ s. AreBegun (is_held c.args.pairs.now) c.args.division.now (c.loop-position.position + 1)
        c.loop-position.slots.items s.items) (sym w.lists-is)
        (pass _ _ _ _ _ _ c.loop-position.slots.items _ c.loop-position.lists.items c.loop-position.invariant.begun c.loop-position-test.true
        c.loop-position.invariant.bound c.leaders-leaders.ensures.leaders c.leaders-leaders.ensures.value w.if-not-pair.false));
    bound = ap (λ s. length s.items) w.slots-is ∙ c.loop-position.invariant.bound;
  }
]

-- Lists of entries: one more, and one less.
use Rattle.std.proofs.Common.{◌≡◌, ℕ, ◌<◌, ◌≤◌, suc, zero, inl, inr, List, [], ◌∷◌, ◌++◌, length, get_or, set, slice_get, Some, arith, refl, sym, ap, ◌∙◌, subst, get_or-set_same, get_or-set_other}
use Rattle.std.specs.Prelude.{Contains}
use Rattle.std.proofs.lemmas.Bool.{cases_eq}
use Rattle.std.proofs.lemmas.List.{length-set, length_push}
use Rattle.std.proofs.lemmas.List.Elements.{Contains-push, Contains-push_cases, Contains-append_left}
use Rattle.eq_cdcl.specs.inner.Listing.{IsAdded, IsOneLess}
use Rattle.eq_cdcl.specs.declared.watches.Watch.{Watch}
use Rattle.eq_cdcl.proofs.Places.{member_place, place_member, push_old, push_last, element_at}
use Rattle.eq_cdcl.proofs.Moving.{set_here, set_there}

set_at : (xs : List Watch) (n : ℕ) (x : Watch) → n < length xs → slice_get (set xs n x) n ≡ Some x
set_at [] n x h = absurd (omega arith)
set_at (y ∷ xs) zero x h = refl
set_at (y ∷ xs) (suc n) x h = set_at xs n x (omega arith)

before_last : (rest : List Watch) (last : Watch) (j : ℕ) → j < length rest → slice_get rest j ≡ slice_get (rest ++ last ∷ []) j
before_last rest last j lt = let at = element_at rest j lt in at.1 ∙ sym (push_old rest (last ∷ []) j at.0 at.1)

-- the last entry comes into the place of the one that goes
pub one_less_set : (rest : List Watch) (last : Watch) (i : ℕ) → i < length rest → IsOneLess (rest ++ last ∷ []) (set rest i last) i
one_less_set rest last i h = record {
  shorter = omega (arith, length-set rest i last, length_push rest last);
  before = λ j lt. set_there rest i j last (λ e. absurd (omega arith)) ∙ before_last rest last j (omega arith);
  kept = λ v member. elim (Contains-push_cases rest last v member) [
    | inl old ↦
        let at = member_place rest v old in
        elim (cases_eq at.0 i) [
          | inl is ↦ inr (ap (λ n. slice_get (rest ++ last ∷ []) n) (sym is) ∙ push_old rest (last ∷ []) at.0 v at.1)
          | inr ne ↦ inl (place_member (set rest i last) at.0 v (set_there rest i at.0 last ne ∙ at.1))
        ]
    | inr is ↦ inl (subst (Contains (set rest i last)) is (place_member (set rest i last) i last (set_at rest i last h)))
  ];
  only = λ v member.
      let at = member_place (set rest i last) v member in
      elim (cases_eq at.0 i) [
        | inl is ↦ subst (Contains (rest ++ last ∷ [])) (set_here rest i last v (ap (λ n. slice_get (set rest i last) n) (sym is) ∙ at.1)) (Contains-push rest last)
        | inr ne ↦ Contains-append_left rest (last ∷ []) v (place_member rest at.0 v (sym (set_there rest i at.0 last ne) ∙ at.1))
      ];
}

-- the last entry goes
pub one_less_end : (rest : List Watch) (last : Watch) (i : ℕ) → length rest ≤ i → i < length (rest ++ last ∷ []) → IsOneLess (rest ++ last ∷ []) rest i
one_less_end rest last i past within =
    let end : length rest ≡ i = omega (arith, length_push rest last) in
    record {
      shorter = omega (arith, length_push rest last);
      before = λ j lt. before_last rest last j (omega arith);
      kept = λ v member. elim (Contains-push_cases rest last v member) [
        | inl old ↦ inl old
        | inr is ↦ inr (ap (λ n. slice_get (rest ++ last ∷ []) n) (sym end) ∙ push_last rest last ∙ ap Some is)
      ];
      only = λ v member. Contains-append_left rest (last ∷ []) v member;
    }

-- an entry at the end of one list
pub added_set : (lists : List (List Watch)) (at : ℕ) (w : Watch) (new : List Watch) → at < length lists → new ≡ get_or lists at [] ++ w ∷ [] → IsAdded lists (set lists at new) at w
added_set lists at w new h is =
    let here : get_or (set lists at new) at [] ≡ get_or lists at [] ++ w ∷ [] = get_or-set_same lists at new [] h ∙ is in
    record {
      same = length-set lists at new;
      there = subst (λ (ws : List Watch). Contains ws w) (sym here) (Contains-push (get_or lists at []) w);
      kept = λ v old. subst (λ (ws : List Watch). Contains ws v) (sym here) (Contains-append_left (get_or lists at []) (w ∷ []) v old);
      only = λ v member. Contains-push_cases (get_or lists at []) w v (subst (λ (ws : List Watch). Contains ws v) here member);
      others = λ k ne. get_or-set_other lists at k new [] ne;
    }

-- Numbers come to a list, unless they are there.
use Rattle.std.proofs.Common.{◌≡◌, ℕ, ◌<◌, List, [], ◌∷◌, ◌++◌, Bool, cond, nat_eq, Contains, arith, sym, ap, subst, ◌∙◌, inl, inr, Result, Ok, Err, OnOk}
use Rattle.std.specs.List.{list_any}
use Rattle.std.proofs.lemmas.Bool.{cases_Bool, eqb-true}
use Rattle.std.proofs.lemmas.List.{append-nil, append_assoc}
use Rattle.std.proofs.lemmas.List.Elements.{Contains-append_left, Contains-append_right, Contains-append_cases, Contains-push_cases}
use Rattle.std.proofs.lemmas.Map.Views.{Contains-from_any}
use Rattle.indexmap.specs.IndexSet.{insert_key}
use Rattle.eq_cone.specs.inner.Cones.{Reached}

pub contains_nothing : (r : ℕ) → Contains {X = ℕ} [] r → ⊥
contains_nothing r c = (let lt : c.0 < 0 = c.1 in omega arith)

pub contains_one : (m r : ℕ) → Contains (m ∷ []) r → m ≡ r
contains_one m r c =
    elim (Contains-push_cases [] m r c) [
      | inl none ↦ absurd (contains_nothing r none)
      | inr same ↦ same
    ]

pub reached_one : (old new : List ℕ) (m : ℕ) → new ≡ insert_key nat_eq old m → Reached old new (m ∷ [])
reached_one old new m e =
    elim (cases_Bool (list_any (nat_eq m) old)) [
      | inl known ↦ (
          let same : new ≡ old = e ∙ ap (λ (b : Bool). cond {A = List ℕ} b old (old ++ m ∷ [])) known in
          record {
            more = [];
            is = same ∙ sym (append-nil old);
            has = λ r c. subst (λ (l : List ℕ). Contains l r) (sym same)
                (subst (λ (x : ℕ). Contains old x) (contains_one m r c)
                (Contains-from_any (λ x y. eqb-true x y) m old known));
            only = λ r c. absurd (contains_nothing r c);
          })
      | inr new_one ↦ (
          let grown : new ≡ old ++ m ∷ [] =
          e ∙ ap (λ (b : Bool). cond {A = List ℕ} b old (old ++ m ∷ [])) new_one in
          record {
            more = m ∷ [];
            is = grown;
            has = λ r c. subst (λ (l : List ℕ). Contains l r) (sym grown) (Contains-append_right old (m ∷ []) r c);
            only = λ r c. c;
          })
    ]

pub still_there : (old new ms : List ℕ) → Reached old new ms → (r : ℕ) → Contains old r → Contains new r
still_there old new ms reached r c =
    subst (λ (l : List ℕ). Contains l r) (sym reached.is) (Contains-append_left old reached.more r c)

pub reached_both : (a b c xs ys : List ℕ) → Reached a b xs → Reached b c ys → Reached a c (xs ++ ys)
reached_both a b c xs ys first second = record {
  more = first.more ++ second.more;
  is = second.is ∙ ap (λ (l : List ℕ). l ++ second.more) first.is ∙ append_assoc a first.more second.more;
  has = λ r h. elim (Contains-append_cases xs ys r h) [
    | inl here ↦ still_there b c ys second r (first.has r here)
    | inr there ↦ second.has r there
  ];
  only = λ r h. elim (Contains-append_cases first.more second.more r h) [
    | inl here ↦ Contains-append_left xs ys r (first.only r here)
    | inr there ↦ Contains-append_right xs ys r (second.only r there)
  ];
}

pub reached_both_ok : {T E : Type 0} (result : Result T E) (a b c xs ys : List ℕ) → Reached a b xs →
    OnOk result (Reached b c ys) → OnOk result (Reached a c (xs ++ ys))
reached_both_ok (Ok x) a b c xs ys first second = reached_both a b c xs ys first second
reached_both_ok (Err e) a b c xs ys first second = tt

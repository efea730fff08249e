-- Trails with their slots: what a slot says, one literal more, one literal less.
use Rattle.std.proofs.Common.{◌≡◌, ◌≢◌, ℕ, ◌<◌, ◌≤◌, ◌↔◌, suc, zero, inl, inr, Bool, true, false, not, cond, List, [], ◌∷◌, ◌++◌, length, set, get_or, slice_get, Some, IsTrue, arith, refl, sym, ap, ◌∙◌, subst, get_or-set_same, get_or-set_other}
use Rattle.std.specs.Prelude.{All, Contains}
use Rattle.std.proofs.lemmas.Bool.{cases_eq}
use Rattle.std.proofs.lemmas.List.{length-set, length_push}
use Rattle.std.proofs.lemmas.List.Elements.{All-push, All-contains, Contains-push}
use Rattle.std.proofs.lemmas.List.Sums.{sum_by-set, count_by-le-length}
use Rattle.std.proofs.lemmas.Option.{slice_get_within}
use Rattle.eq_proof.specs.Literal.{Literal, negation, literal_is}
use Rattle.eq_proof.specs.Sets.{IsFalse, HasNoValue}
use Rattle.eq_cdcl.specs.inner.Slots.{IsTrail, HasValue, value_of, holds_of, is_taken}
use Rattle.eq_cdcl.specs.declared.trail.Reason.{Reason}
use Rattle.eq_cdcl.specs.declared.trail.Slot.{Slot}
use Rattle.eq_cdcl.specs.declared.trail.Slot.TheVariants.{Open, Taken}
use Rattle.eq_cdcl.proofs.Places.{member_place, place_member, push_cases, push_old, push_last}

abbrev place_of : Slot → ℕ
place_of Open = 0
place_of (Taken place sign) = place

abbrev sign_of : Slot → Bool
sign_of Open = true
sign_of (Taken place sign) = sign

-- a member's slot
member_taken : (slots : List Slot) (lits : List Literal) (reasons : List Reason) (l : Literal) → IsTrail slots lits reasons → Contains lits l → (place : ℕ) × (get_or slots l.var Open ≡ Taken place l.positive)
member_taken slots lits reasons l t h = let at = member_place lits l h in (at.0, t.taken at.0 l at.1)

taken_member : (slots : List Slot) (lits : List Literal) (reasons : List Reason) (l : Literal) (place : ℕ) → IsTrail slots lits reasons → get_or slots l.var Open ≡ Taken place l.positive → Contains lits l
taken_member slots lits reasons l place t e = place_member lits place l (t.listed l.var place l.positive e)

valued : (lits : List Literal) (l : Literal) (s : Slot) (p : Bool) → (Contains lits l → (place : ℕ) × (s ≡ Taken place p)) → ((place : ℕ) → s ≡ Taken place p → Contains lits l) → (IsFalse lits l → (place : ℕ) × (s ≡ Taken place (not p))) → ((place : ℕ) → s ≡ Taken place (not p) → IsFalse lits l)
    → HasValue lits l (value_of s p)
valued lits l Open p a b c d = (λ h. let e = (a h).1 in absurd (cc), λ h. let e = (c h).1 in absurd (cc))
valued lits l (Taken q true) true a b c d = (b q refl, λ h. let e : true ≡ false = ap sign_of (c h).1 in absurd (cc))
valued lits l (Taken q true) false a b c d = (d q refl, λ h. let e : true ≡ false = ap sign_of (a h).1 in absurd (cc))
valued lits l (Taken q false) true a b c d = (d q refl, λ h. let e : false ≡ true = ap sign_of (a h).1 in absurd (cc))
valued lits l (Taken q false) false a b c d = (b q refl, λ h. let e : false ≡ true = ap sign_of (c h).1 in absurd (cc))

-- what the slot of a literal's variable says of the literal
pub slot_value : (slots : List Slot) (lits : List Literal) (reasons : List Reason) (l : Literal) → IsTrail slots lits reasons → HasValue lits l (value_of (get_or slots l.var Open) l.positive)
slot_value slots lits reasons l t =
    valued lits l (get_or slots l.var Open) l.positive
    (λ h. member_taken slots lits reasons l t h) (λ place e. taken_member slots lits reasons l place t e)
    (λ h. member_taken slots lits reasons (negation l) t h) (λ place e. taken_member slots lits reasons (negation l) place t e)

held : (s : Slot) (P : Type 0) → (P → (place : ℕ) × (s ≡ Taken place true)) → ((place : ℕ) → s ≡ Taken place true → P) → IsTrue (holds_of s) ↔ P
held Open P a b = (λ e. absurd (cc), λ p. let e = (a p).1 in absurd (cc))
held (Taken q true) P a b = (λ e. b q refl, λ p. refl)
held (Taken q false) P a b = (λ e. absurd (cc), λ p. let e : false ≡ true = ap sign_of (a p).1 in absurd (cc))

pub slot_holds : (slots : List Slot) (lits : List Literal) (reasons : List Reason) (var : ℕ) → IsTrail slots lits reasons → IsTrue (holds_of (get_or slots var Open)) ↔ Contains lits (record { var = var; positive = true })
slot_holds slots lits reasons var t =
    let l : Literal = record { var = var; positive = true } in
    held (get_or slots var Open) (Contains lits l) (λ h. member_taken slots lits reasons l t h) (λ place e. taken_member slots lits reasons l place t e)

-- the variable of a literal without value has an open slot
unslotted : (slots : List Slot) (lits : List Literal) (reasons : List Reason) (l : Literal) → IsTrail slots lits reasons → HasNoValue lits l → get_or slots l.var Open ≡ Open
unslotted slots lits reasons l t none = open_slot (get_or slots l.var Open) l.positive (λ place e. none.0 (taken_member slots lits reasons l place t e)) (λ place e. none.1 (taken_member slots lits reasons (negation l) place t e)) where
  open_slot : (s : Slot) (p : Bool) → ((place : ℕ) → s ≡ Taken place p → ⊥) → ((place : ℕ) → s ≡ Taken place (not p) → ⊥) → s ≡ Open
  open_slot Open p a b = refl
  open_slot (Taken q true) true a b = absurd (a q refl)
  open_slot (Taken q true) false a b = absurd (b q refl)
  open_slot (Taken q false) true a b = absurd (b q refl)
  open_slot (Taken q false) false a b = absurd (a q refl)

-- one literal more
pub trail_extended : (slots : List Slot) (lits : List Literal) (reasons : List Reason) (l : Literal) (reason : Reason) → IsTrail slots lits reasons → l.var < length slots → HasNoValue lits l
    → IsTrail (set slots l.var (Taken (length lits) l.positive)) (lits ++ l ∷ []) (reasons ++ reason ∷ [])
trail_extended slots lits reasons l reason t within none =
    let here_slot = Taken (length lits) l.positive in
    let new = set slots l.var here_slot in
    let len : length new ≡ length slots = length-set slots l.var here_slot in
    let was_open : get_or slots l.var Open ≡ Open = unslotted slots lits reasons l t none in
    let here : get_or new l.var Open ≡ here_slot = get_or-set_same slots l.var here_slot Open within in
    let there : (v : ℕ) → v ≢ l.var → get_or new v Open ≡ get_or slots v Open = λ v ne. get_or-set_other slots l.var v here_slot Open ne in
    record {
      same = omega (arith, t.same, length_push lits l, length_push reasons reason);
      taken = λ place m e. elim (push_cases lits l place m e) [
        | inl old ↦
            let was = t.taken place m old in
            let ne : m.var ≢ l.var = λ same. let f : Taken place m.positive ≡ Open = sym was ∙ ap (λ v. get_or slots v Open) same ∙ was_open in cc in
            there m.var ne ∙ was
        | inr last ↦
            let P : Literal → Type 0 = λ m. get_or new m.var Open ≡ Taken place m.positive in
            subst P last.1 (here ∙ ap (λ n. Taken n l.positive) (sym last.0))
      ];
      listed = λ var place sign e. elim (cases_eq var l.var) [
        | inl same ↦
            let f : here_slot ≡ Taken place sign = sym here ∙ ap (λ v. get_or new v Open) (sym same) ∙ e in
            let p : length lits ≡ place = ap place_of f in
            let q : l.positive ≡ sign = ap sign_of f in
            let is : l ≡ record { var = var; positive = sign } = literal_is l (record { var = var; positive = sign }) (sym same) q in
            ap (λ n. slice_get (lits ++ l ∷ []) n) (sym p) ∙ push_last lits l ∙ ap Some is
        | inr ne ↦ push_old lits (l ∷ []) place (record { var = var; positive = sign }) (t.listed var place sign (sym (there var ne) ∙ e))
      ];
      within = let Q : ℕ → Type 0 = λ n. All (λ m. m.var < n) (lits ++ l ∷ []) in subst Q (sym len) (All-push (λ m. m.var < length slots) lits l t.within within);
      counted =
          let sums = sum_by-set (λ m. cond (is_taken m) 1 0) slots l.var here_slot Open within in
          let less : cond {A = ℕ} (is_taken (get_or slots l.var Open)) 1 0 ≡ 0 = ap (λ s. cond {A = ℕ} (is_taken s) 1 0) was_open in
          omega (arith, t.counted, length_push lits l);
    }

-- one literal less
pub trail_shortened : (slots : List Slot) (lits : List Literal) (reasons rest : List Reason) (l : Literal) → IsTrail slots (lits ++ l ∷ []) reasons → length rest ≡ length lits → IsTrail (set slots l.var Open) lits rest
trail_shortened slots lits reasons rest l t same =
    let new = set slots l.var Open in
    let len : length new ≡ length slots = length-set slots l.var Open in
    let within : l.var < length slots = All-contains (λ m. m.var < length slots) (lits ++ l ∷ []) l t.within (Contains-push lits l) in
    let last : get_or slots l.var Open ≡ Taken (length lits) l.positive = t.taken (length lits) l (push_last lits l) in
    let gone : get_or new l.var Open ≡ Open = get_or-set_same slots l.var Open Open within in
    let there : (v : ℕ) → v ≢ l.var → get_or new v Open ≡ get_or slots v Open = λ v ne. get_or-set_other slots l.var v Open Open ne in
    record {
      same = same;
      taken = λ place m e.
          let was = t.taken place m (push_old lits (l ∷ []) place m e) in
          let below = slice_get_within lits place m e in
          let ne : m.var ≢ l.var = λ v. let f : place ≡ length lits = ap place_of (sym was ∙ ap (λ v. get_or slots v Open) v ∙ last) in absurd (omega arith) in
          there m.var ne ∙ was;
      listed = λ var place sign e. elim (cases_eq var l.var) [
        | inl v ↦ let f : Taken place sign ≡ Open = sym e ∙ ap (λ v. get_or new v Open) v ∙ gone in absurd (cc)
        | inr ne ↦ elim (push_cases lits l place (record { var = var; positive = sign }) (t.listed var place sign (sym (there var ne) ∙ e))) [
          | inl old ↦ old
          | inr is ↦ absurd (ne (ap (λ (a : Literal). a.var) (sym is.1)))
        ]
      ];
      within = λ k d h.
          let P : Literal → Type 0 = λ m. m.var < length slots in
          let below : P (get_or lits k d) = All-contains P (lits ++ l ∷ []) (get_or lits k d) t.within (place_member (lits ++ l ∷ []) k (get_or lits k d) (push_old lits (l ∷ []) k (get_or lits k d) (slice_get_here lits k d h))) in
          omega arith;
      counted =
          let sums = sum_by-set (λ m. cond (is_taken m) 1 0) slots l.var Open Open within in
          let more : cond {A = ℕ} (is_taken (get_or slots l.var Open)) 1 0 ≡ 1 = ap (λ s. cond {A = ℕ} (is_taken s) 1 0) last in
          omega (arith, t.counted, length_push lits l);
    }
  where
    slice_get_here : (xs : List Literal) (k : ℕ) (d : Literal) → k < length xs → slice_get xs k ≡ Some (get_or xs k d)
    slice_get_here [] k d h = absurd (omega arith)
    slice_get_here (x ∷ xs) zero d h = refl
    slice_get_here (x ∷ xs) (suc k) d h = slice_get_here xs k d (omega arith)

-- no more literals than variables
pub trail_fits : (slots : List Slot) (lits : List Literal) (reasons : List Reason) → IsTrail slots lits reasons → length lits ≤ length slots
trail_fits slots lits reasons t = omega (arith, t.counted, count_by-le-length is_taken slots)

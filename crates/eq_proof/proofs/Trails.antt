-- Trails with their marks: what a mark says, one literal more, one literal less.
use Rattle.std.proofs.Common.{◌≡◌, ◌≢◌, ℕ, ◌<◌, ◌≤◌, ◌⊎◌, inl, inr, Bool, true, false, not, cond, List, [], ◌∷◌, ◌++◌, length, set, get_or, arith, refl, sym, ap, ◌∙◌, subst, get_or-set_same, get_or-set_other}
use Rattle.std.specs.Prelude.{All, Contains}
use Rattle.std.proofs.lemmas.Bool.{cases_eq}
use Rattle.std.proofs.lemmas.List.{length-set, length_push, get_or_append_left, get_or_push}
use Rattle.std.proofs.lemmas.List.Elements.{All-push, All-contains, Contains-get_or, Contains-append_left, Contains-push, Contains-push_cases}
use Rattle.std.proofs.lemmas.List.Quantifiers.{all_pairs_push}
use Rattle.std.proofs.lemmas.List.Sums.{sum_by-set, count_by-le-length}
use Rattle.eq_proof.specs.Literal.{Literal, negation, literal_is}
use Rattle.eq_proof.specs.Sets.{IsFalse, HasNoValue, IsConsistent}
use Rattle.eq_proof.specs.Marks.{IsTrail, HasValue, mark_of, value_of, is_assigned}
use Rattle.eq_proof.specs.declared.trail.Mark.{Mark}
use Rattle.eq_proof.specs.declared.trail.Mark.TheVariants.{Open, Positive, Negative}

-- literals of one variable are the same or each other's negation
pub same_variable : (a b : Literal) → a.var ≡ b.var → (a ≡ b) ⊎ (a ≡ negation b)
same_variable a b e = signs a.positive b.positive (λ same. literal_is a b e same) (λ other. literal_is a (negation b) e other) where
  signs : (p q : Bool) → (p ≡ q → a ≡ b) → (p ≡ not q → a ≡ negation b) → (a ≡ b) ⊎ (a ≡ negation b)
  signs true true f g = inl (f refl)
  signs true false f g = inr (g refl)
  signs false true f g = inr (g refl)
  signs false false f g = inl (f refl)

same_mark : (p q : Bool) → mark_of p ≡ mark_of q → p ≡ q
same_mark true true e = refl
same_mark false false e = refl
same_mark true false e = absurd (cc)
same_mark false true e = absurd (cc)

marked_assigned : (p : Bool) → is_assigned (mark_of p) ≡ true
marked_assigned true = refl
marked_assigned false = refl

not_open : (p : Bool) → Open ≡ mark_of p → ⊥
not_open true e = absurd (cc)
not_open false e = absurd (cc)

valued : (trail : List Literal) (l : Literal) (m : Mark) (p : Bool) → (Contains trail l → m ≡ mark_of p) → (m ≡ mark_of p → Contains trail l) → (IsFalse trail l → m ≡ mark_of (not p)) → (m ≡ mark_of (not p) → IsFalse trail l)
    → HasValue trail l (value_of m p)
valued trail l Open p a b c d = (λ h. not_open p (a h), λ h. not_open (not p) (c h))
valued trail l Positive true a b c d = (b refl, λ h. let e = c h in absurd (cc))
valued trail l Positive false a b c d = (d refl, λ h. let e = a h in absurd (cc))
valued trail l Negative true a b c d = (d refl, λ h. let e = a h in absurd (cc))
valued trail l Negative false a b c d = (b refl, λ h. let e = c h in absurd (cc))

-- what the mark of a literal's variable says of the literal
pub trail_value : (marks : List Mark) (trail : List Literal) (l : Literal) → IsTrail marks trail → l.var < length marks → HasValue trail l (value_of (get_or marks l.var Open) l.positive)
trail_value marks trail l t within = valued trail l (get_or marks l.var Open) l.positive (t.marked l) (t.listed l within) (t.marked (negation l)) (t.listed (negation l) within)

-- the variable of a literal without value isn't marked
pub unmarked : (marks : List Mark) (trail : List Literal) (l : Literal) → IsTrail marks trail → l.var < length marks → HasNoValue trail l → get_or marks l.var Open ≡ Open
unmarked marks trail l t within none = open_mark (get_or marks l.var Open) l.positive (λ e. none.0 (t.listed l within e)) (λ e. none.1 (t.listed (negation l) within e)) where
  open_mark : (m : Mark) (p : Bool) → (m ≡ mark_of p → ⊥) → (m ≡ mark_of (not p) → ⊥) → m ≡ Open
  open_mark Open p a b = refl
  open_mark Positive true a b = absurd (a refl)
  open_mark Positive false a b = absurd (b refl)
  open_mark Negative true a b = absurd (b refl)
  open_mark Negative false a b = absurd (a refl)

-- a member's variable isn't that of a literal without value
apart_from : (trail : List Literal) (l m : Literal) → HasNoValue trail l → Contains trail m → m.var ≢ l.var
apart_from trail l m none in_trail e =
    elim (same_variable m l e) [
      | inl same ↦ none.0 (subst (Contains trail) same in_trail)
      | inr other ↦ none.1 (subst (Contains trail) other in_trail)
    ]

-- one literal more
pub trail_assigned : (marks : List Mark) (trail : List Literal) (l : Literal) → IsTrail marks trail → l.var < length marks → HasNoValue trail l → IsTrail (set marks l.var (mark_of l.positive)) (trail ++ l ∷ [])
trail_assigned marks trail l t within none =
    let new = set marks l.var (mark_of l.positive) in
    let len : length new ≡ length marks = length-set marks l.var (mark_of l.positive) in
    let here : get_or new l.var Open ≡ mark_of l.positive = get_or-set_same marks l.var (mark_of l.positive) Open within in
    let there : (m : Literal) → m.var ≢ l.var → get_or new m.var Open ≡ get_or marks m.var Open = λ m ne. get_or-set_other marks l.var m.var (mark_of l.positive) Open ne in
    record {
      apart = all_pairs_push (λ a b. a.var ≢ b.var) trail l t.apart (λ k d h. apart_from trail l (get_or trail k d) none (Contains-get_or trail k d h));
      within = let Q : ℕ → Type 0 = λ n. All (λ m. m.var < n) (trail ++ l ∷ []) in subst Q (sym len) (All-push (λ m. m.var < length marks) trail l t.within within);
      marked = λ m h. elim (Contains-push_cases trail l m h) [
        | inl old ↦ there m (apart_from trail l m none old) ∙ t.marked m old
        | inr is ↦ let R : Literal → Type 0 = λ m. get_or new m.var Open ≡ mark_of m.positive in subst R is here
      ];
      listed = λ m h e. elim (cases_eq m.var l.var) [
        | inl same ↦
            let signs : mark_of l.positive ≡ mark_of m.positive = sym here ∙ ap (λ v. get_or new v Open) (sym same) ∙ e in
            let is : l ≡ m = literal_is l m (sym same) (same_mark l.positive m.positive signs) in
            subst (Contains (trail ++ l ∷ [])) is (Contains-push trail l)
        | inr ne ↦ Contains-append_left trail (l ∷ []) m (t.listed m (omega arith) (sym (there m ne) ∙ e))
      ];
      counted =
          let was : is_assigned (get_or marks l.var Open) ≡ false = ap is_assigned (unmarked marks trail l t within none) in
          let now = marked_assigned l.positive in
          let sums = sum_by-set (λ m. cond (is_assigned m) 1 0) marks l.var (mark_of l.positive) Open within in
          let less : cond {A = ℕ} (is_assigned (get_or marks l.var Open)) 1 0 ≡ 0 = ap (λ b. cond {A = ℕ} b 1 0) was in
          let more : cond {A = ℕ} (is_assigned (mark_of l.positive)) 1 0 ≡ 1 = ap (λ b. cond {A = ℕ} b 1 0) now in
          omega (arith, t.counted, length_push trail l);
    }

-- one literal less
pub trail_popped : (marks : List Mark) (trail : List Literal) (l : Literal) → IsTrail marks (trail ++ l ∷ []) → IsTrail (set marks l.var Open) trail
trail_popped marks trail l t =
    let new = set marks l.var Open in
    let len : length new ≡ length marks = length-set marks l.var Open in
    let total = length_push trail l in
    let within : l.var < length marks = All-contains (λ m. m.var < length marks) (trail ++ l ∷ []) l t.within (Contains-push trail l) in
    let there : (m : Literal) → m.var ≢ l.var → get_or new m.var Open ≡ get_or marks m.var Open = λ m ne. get_or-set_other marks l.var m.var Open Open ne in
    let earlier : (m : Literal) → Contains trail m → m.var ≢ l.var = λ m h.
    let first : get_or (trail ++ l ∷ []) h.0 m ≡ m = get_or_append_left trail (l ∷ []) m h.0 h.1 ∙ h.2 in
    let last : get_or (trail ++ l ∷ []) (length trail) m ≡ l = get_or_push trail l m (length trail) refl in
    let apart = t.apart h.0 (length trail) m h.1 (omega arith) in
    λ e. apart (ap (λ (a : Literal). a.var) first ∙ e ∙ ap (λ (a : Literal). a.var) (sym last)) in
    record {
      apart = λ i j d lt h.
          let a = get_or_append_left trail (l ∷ []) d i (omega arith) in
          let b = get_or_append_left trail (l ∷ []) d j h in
          λ e. t.apart i j d lt (omega arith) (ap (λ (m : Literal). m.var) a ∙ e ∙ ap (λ (m : Literal). m.var) (sym b));
      within = λ k d h.
          let a = ap (λ (m : Literal). m.var) (get_or_append_left trail (l ∷ []) d k h) in
          let below = t.within k d (omega arith) in
          omega arith;
      marked = λ m h. there m (earlier m h) ∙ t.marked m (Contains-append_left trail (l ∷ []) m h);
      listed = λ m h e. elim (cases_eq m.var l.var) [
        | inl same ↦ absurd (not_open m.positive (sym (get_or-set_same marks l.var Open Open within) ∙ ap (λ v. get_or new v Open) (sym same) ∙ e))
        | inr ne ↦ elim (Contains-push_cases trail l m (t.listed m (omega arith) (sym (there m ne) ∙ e))) [
          | inl old ↦ old
          | inr is ↦ absurd (ne (ap (λ (a : Literal). a.var) (sym is)))
        ]
      ];
      counted =
          let sums = sum_by-set (λ m. cond (is_assigned m) 1 0) marks l.var Open Open within in
          let was : is_assigned (get_or marks l.var Open) ≡ true = ap is_assigned (t.marked l (Contains-push trail l)) ∙ marked_assigned l.positive in
          let more : cond {A = ℕ} (is_assigned (get_or marks l.var Open)) 1 0 ≡ 1 = ap (λ b. cond {A = ℕ} b 1 0) was in
          omega (arith, t.counted);
    }

-- no more literals than variables
pub trail_room : (marks : List Mark) (trail : List Literal) → IsTrail marks trail → length trail ≤ length marks
trail_room marks trail t = omega (arith, t.counted, count_by-le-length is_assigned marks)

-- no literal beside its negation
pub trail_consistent : (marks : List Mark) (trail : List Literal) → IsTrail marks trail → IsConsistent trail
trail_consistent marks trail t l member other = signs_apart l.positive (sym (t.marked l member) ∙ t.marked (negation l) other) where
  signs_apart : (p : Bool) → mark_of p ≡ mark_of (not p) → ⊥
  signs_apart true e = absurd (cc)
  signs_apart false e = absurd (cc)

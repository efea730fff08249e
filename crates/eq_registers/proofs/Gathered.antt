-- The entries between which a condition chooses, place by place; and the bits of the condition.
use Rattle.std.proofs.Common.{◌≡◌, ℕ, suc, ◌+◌, ◌<◌, true, false, List, [], ◌∷◌, ◌++◌, length, length-append, slice_get, slice_set, Some, refl, arith, sym, ap, subst, ◌∙◌, inl, inr}
use Rattle.std.proofs.lemmas.Bool.{cases_Bool, cases_lt, false≢true}
use Rattle.std.proofs.lemmas.Option.{none-some, same_Some, slice_get_within}
use Rattle.eq_net.specs.declared.types.WordBit.{WordBit}
use Rattle.eq_registers.specs.inner.Writing.{entry}
use Rattle.eq_registers.specs.inner.Choosing.{IsGathered, IsTaken, IsWhole, is_new}
use Rattle.eq_registers.proofs.Placed.{get_either, get_end, get_front, length-set, set_other, set_same, some_at}

-- ---- the bits of a word

pub whole_none : (word : ℕ) (bits : List WordBit) → bits ≡ [] → IsWhole word bits 0
whole_none word bits none = subst (λ (bs : List WordBit). IsWhole word bs 0) (sym none) (record {
  size = refl;
  at = λ j b e. absurd (none-some b e);
  there = λ j lt. absurd (omega arith);
})

module _ (word n : ℕ) (bits : List WordBit) (so_far : IsWhole word bits n) where
  abbrev More : List WordBit
  More = bits ++ entry word n ∷ []

  more_size : length More ≡ n + 1
  more_size = (let e = length-append bits (entry word n ∷ []) in let size = so_far.size in omega (arith, e, size))

  more_there : (j : ℕ) → j < n + 1 → slice_get More j ≡ Some (entry word j)
  more_there j lt = elim (cases_lt j n) [
    | inl less ↦ get_front bits (entry word n ∷ []) j (entry word j) (so_far.there j less)
    | inr more ↦ (
        let size = so_far.size in
        let same : j ≡ length bits = omega (arith, lt, more, size) in
        let last : n ≡ j = omega (arith, lt, more) in
        ap (λ (i : ℕ). slice_get More i) same ∙ get_end bits (entry word n) ∙ ap (λ (i : ℕ). Some (entry word i)) last)
  ]

  whole_next : IsWhole word More (n + 1)
  whole_next = record {
    size = more_size;
    at = λ j b e.
        let inside = slice_get_within More j b e in
        let size = more_size in
        sym (same_Some (entry word j) b (sym (more_there j (omega (arith, inside, size))) ∙ e));
    there = more_there;
  }

pub whole_more : (word n : ℕ) (bits new : List WordBit) → IsWhole word bits n → new ≡ bits ++ entry word n ∷ [] →
    IsWhole word new (n + 1)
whole_more word n bits new so_far added =
    subst (λ (bs : List WordBit). IsWhole word bs (n + 1)) (sym added) (whole_next word n bits so_far)

-- ---- one place more

module _ (condition number : ℕ) (firsts before : List WordBit) where
  abbrev Gathered : List WordBit → List WordBit → List WordBit → ℕ → Type 0
  Gathered after ones others n = IsGathered condition number firsts before after ones others n

  pub gathered_none : (ones others : List WordBit) → ones ≡ [] → others ≡ [] → Gathered before ones others 0
  gathered_none ones others first second =
      subst (λ (xs : List WordBit). Gathered before xs others 0) (sym first)
      (subst (λ (ys : List WordBit). Gathered before [] ys 0) (sym second) (record {
        size = refl;
        even = refl;
        few = omega arith;
        chosen = λ p x y lt e f is. absurd (omega arith);
        passed = λ p x y lt e f is. absurd (omega arith);
        rest = λ p le. refl;
        from_firsts = λ k x e. absurd (none-some x e);
        from_others = λ k y e. absurd (none-some y e);
      }))

  module _ (mid ones others : List WordBit) (n : ℕ) (x y : WordBit) (so_far : Gathered mid ones others n)
      (one : slice_get firsts n ≡ Some x) (other : slice_get before n ≡ Some y) where
    -- the entry in the table is still that of before
    pub still : slice_get mid n ≡ Some y
    still = so_far.rest n (omega arith) ∙ other

    -- which of two entries stand at the place
    these : (u w : WordBit) (p : ℕ) → n ≡ p → slice_get firsts p ≡ Some u → slice_get before p ≡ Some w →
        (x ≡ u) × (y ≡ w)
    these u w p same e f = (
      same_Some x u (sym one ∙ ap (λ (i : ℕ). slice_get firsts i) same ∙ e),
      same_Some y w (sym other ∙ ap (λ (i : ℕ). slice_get before i) same ∙ f),
    )

    new_same : (u w : WordBit) → (x ≡ u) × (y ≡ w) → is_new condition x y ≡ is_new condition u w
    new_same u w is = ap (λ (i : WordBit). is_new condition i y) is.0 ∙ ap (λ (i : WordBit). is_new condition u i) is.1

    abbrev Ones : List WordBit
    Ones = ones ++ x ∷ []

    abbrev Others : List WordBit
    Others = others ++ y ∷ []

    abbrev Set : List WordBit
    Set = slice_set mid n (entry number (length ones))

    set_here : slice_get Set n ≡ Some (entry number (length ones))
    set_here = set_same mid n (entry number (length ones)) (slice_get_within mid n y still)

    set_apart : (p : ℕ) → (n ≡ p → ⊥) → slice_get Set p ≡ slice_get mid p
    set_apart p apart = set_other mid n p (entry number (length ones)) apart

    taken_even : length Others ≡ length Ones
    taken_even =
        (let a = length-append ones (x ∷ []) in
        let b = length-append others (y ∷ []) in
        let even = so_far.even in
        omega (arith, a, b, even))

    last_other : slice_get Others (length ones) ≡ Some y
    last_other = ap (λ (i : ℕ). slice_get Others i) (sym so_far.even) ∙ get_end others y

    -- a bit between the entries
    pub gathered_taken : is_new condition x y ≡ true → Gathered Set Ones Others (suc n)
    gathered_taken new = record {
      size = length-set mid n (entry number (length ones)) ∙ so_far.size;
      even = taken_even;
      few = (let a = length-append ones (x ∷ []) in let few = so_far.few in omega (arith, a, few));
      chosen = λ p u w lt e f is. elim (cases_lt p n) [
        | inl less ↦
            let had = so_far.chosen p u w less e f is in (
              had.0,
              set_apart p (λ i. absurd (omega (arith, i, less))) ∙ had.1,
              get_front ones (x ∷ []) had.0 u had.2,
              get_front others (y ∷ []) had.0 w had.3,
            )
        | inr more ↦ (
            let same : n ≡ p = omega (arith, lt, more) in
            let are = these u w p same e f in (
              length ones,
              ap (λ (i : ℕ). slice_get Set i) (sym same) ∙ set_here,
              get_end ones x ∙ ap (λ (i : WordBit). Some i) are.0,
              last_other ∙ ap (λ (i : WordBit). Some i) are.1,
            ))
      ];
      passed = λ p u w lt e f is. elim (cases_lt p n) [
        | inl less ↦ set_apart p (λ i. absurd (omega (arith, i, less))) ∙ so_far.passed p u w less e f is
        | inr more ↦ (
            let same : n ≡ p = omega (arith, lt, more) in
            absurd (false≢true (sym is ∙ sym (new_same u w (these u w p same e f)) ∙ new)))
      ];
      rest = λ p le. set_apart p (λ i. absurd (omega (arith, i, le))) ∙ so_far.rest p (omega (arith, le));
      from_firsts = λ k u e. elim (get_either ones x k u e) [
        | inl old ↦ so_far.from_firsts k u old
        | inr same ↦ (n, one ∙ ap (λ (i : WordBit). Some i) same)
      ];
      from_others = λ k w e. elim (get_either others y k w e) [
        | inl old ↦ so_far.from_others k w old
        | inr same ↦ (n, other ∙ ap (λ (i : WordBit). Some i) same)
      ];
    }

    -- none between them
    pub gathered_passed : is_new condition x y ≡ false → Gathered mid ones others (suc n)
    gathered_passed old = record {
      size = so_far.size;
      even = so_far.even;
      few = (let few = so_far.few in omega (arith, few));
      chosen = λ p u w lt e f is. elim (cases_lt p n) [
        | inl less ↦ so_far.chosen p u w less e f is
        | inr more ↦ (
            let same : n ≡ p = omega (arith, lt, more) in
            absurd (false≢true (sym old ∙ new_same u w (these u w p same e f) ∙ is)))
      ];
      passed = λ p u w lt e f is. elim (cases_lt p n) [
        | inl less ↦ so_far.passed p u w less e f is
        | inr more ↦ (
            let same : n ≡ p = omega (arith, lt, more) in
            ap (λ (i : ℕ). slice_get mid i) (sym same) ∙ still
            ∙ ap (λ (i : WordBit). Some i) (these u w p same e f).1)
      ];
      rest = λ p le. so_far.rest p (omega (arith, le));
      from_firsts = so_far.from_firsts;
      from_others = so_far.from_others;
    }

  pub gathered_more : (mid after ones others nows mores : List WordBit) (n : ℕ) (x : WordBit) →
      Gathered mid ones others n → n < length firsts → length before ≡ length firsts → slice_get firsts n ≡ Some x →
      IsTaken condition number n x ones others mid nows mores after → Gathered after nows mores (suc n)
  gathered_more mid after ones others nows mores n x so_far inside size one step =
      let found = some_at before n (omega (arith, inside, size)) in
      let y = found.0 in
      let here = still mid ones others n x y so_far one found.1 in
      elim (cases_Bool (is_new condition x y)) [
        | inl new ↦
            let is = step.taken y here new in
            subst (λ (es : List WordBit). Gathered es nows mores (suc n)) (sym is.2)
            (subst (λ (xs : List WordBit). Gathered (slice_set mid n (entry number (length ones))) xs mores (suc n)) (sym is.0)
            (subst (λ (ys : List WordBit). Gathered (slice_set mid n (entry number (length ones))) (ones ++ x ∷ []) ys (suc n)) (sym is.1)
            (gathered_taken mid ones others n x y so_far one found.1 new)))
        | inr old ↦
            let is = step.passed y here old in
            subst (λ (es : List WordBit). Gathered es nows mores (suc n)) (sym is.2)
            (subst (λ (xs : List WordBit). Gathered mid xs mores (suc n)) (sym is.0)
            (subst (λ (ys : List WordBit). Gathered mid ones ys (suc n)) (sym is.1)
            (gathered_passed mid ones others n x y so_far one found.1 old)))
      ]

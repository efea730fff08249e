-- The first place where the pieces up to the next `*` fit is as good as each later one: the next `*` reaches back.
use Rattle.std.proofs.Common.{◌≡◌, ℕ, ◌+◌, ◌<◌, ◌≤◌, true, List, [], ◌∷◌, ◌++◌, length, take, drop, refl, sym, ap, subst, ◌∙◌, arith, inl, inr}
use Rattle.std.proofs.lemmas.Bool.{cases_lt, false≢true}
use Rattle.std.proofs.lemmas.List.{length-drop, drop-drop, take-append-drop, nil_from_length}
use Rattle.eq_names.specs.declared.piece.Piece.{Piece}
use Rattle.eq_names.specs.Pieces.{is_run}
use Rattle.eq_names.specs.Divisions.{IsDivided}
use Rattle.eq_names.specs.inner.Segments.{fits, segment_len, IsFirstPlace, IsNowhere, IsLastPlace, IsRunBefore, HasNoRunBefore}
use Rattle.eq_names.proofs.Fitting.{AreBytes, fits_within, split, join, reaches_back, segment_bytes, segment_ends}

-- ---- a segment and a `*` behind it

module _ (seg tail : List Piece) (each : AreBytes seg) where
  in_segment : (name : List ℕ) (m : ℕ) → IsDivided (seg ++ tail) (drop m name) →
      (fits seg (drop m name) ≡ true) × IsDivided tail (drop (m + length seg) name)
  in_segment name m d =
      let parts = split seg tail (drop m name) each d in
      (parts.0, subst (λ (l : List ℕ). IsDivided tail l) (drop-drop (length seg) m name) parts.1)

  pub middle_some : (p : Piece) (qs : List Piece) (name : List ℕ) (n : ℕ) → tail ≡ p ∷ qs → is_run p ≡ true →
      IsFirstPlace seg name n → IsRunBefore (seg ++ tail) name n
  middle_some p qs name n is run first = record {
    within = first.within;
    none_before = λ m below d. false≢true (sym (first.none_before m below) ∙ (in_segment name m d).0);
    kept = λ m within d. elim (cases_lt m n) [
      | inl below ↦ absurd (false≢true (sym (first.none_before m below) ∙ (in_segment name m d).0))
      | inr above ↦
          let parts = in_segment name m d in
          let room = fits_within seg (drop m name) parts.0 in
          let later = subst (λ (t : List Piece). IsDivided t (drop (m + length seg) name)) is parts.1 in
          let earlier = reaches_back p qs name (n + length seg) (m + length seg) run (omega arith) (omega (
            arith,
            room,
            within,
            length-drop m name,
          )) later in
          let here = subst (λ (t : List Piece). IsDivided t (drop (n + length seg) name)) (sym is) earlier in
          join seg tail (drop n name) first.here (subst (λ (l : List ℕ). IsDivided tail l) (sym (drop-drop
          (length seg) n name)) here)
    ];
  }

  pub middle_none : (name : List ℕ) → IsNowhere seg name → HasNoRunBefore (seg ++ tail) name
  middle_none name nowhere m within d = false≢true (sym (nowhere m within) ∙ (in_segment name m d).0)

-- ---- a segment that ends the pattern

append_nil : (ps : List Piece) → ps ++ [] ≡ ps
append_nil [] = refl
append_nil (p ∷ ps) = ap (λ (qs : List Piece). p ∷ qs) (append_nil ps)

nothing_left : (name : List ℕ) → IsDivided [] name → name ≡ []
nothing_left name ([], d) = d
nothing_left name (n ∷ ns, d) = absurd d

module _ (seg : List Piece) (each : AreBytes seg) where
  at_the_end : (name : List ℕ) (m : ℕ) → m ≤ length name → IsDivided seg (drop m name) → IsLastPlace seg name m
  at_the_end name m within d =
      let parts = in_segment seg [] each name m (subst (λ (ps : List Piece). IsDivided ps (drop m name)) (sym
      (append_nil seg)) d) in
      let room = fits_within seg (drop m name) parts.0 in
      let none = ap (λ (l : List ℕ). length l) (nothing_left (drop (m + length seg) name) parts.1) in
      record {
        ends = omega (
          arith,
          room,
          none,
          within,
          length-drop m name,
          length-drop (m + length seg) name,
        );
        here = parts.0;
      }

  pub last_some : (name : List ℕ) (n : ℕ) → IsLastPlace seg name n → IsRunBefore seg name n
  last_some name n last =
      let ends = last.ends in
      record {
        within = omega (arith, ends);
        none_before = λ m below d. let other = (at_the_end name m (omega (
          arith,
          ends,
          below,
        )) d).ends in absurd (omega (arith, ends, other, below));
        kept = λ m within d.
            let other = (at_the_end name m within d).ends in
            let same : m ≡ n = omega (arith, ends, other) in
            subst (λ (k : ℕ). IsDivided seg (drop k name)) same d;
      }

  pub last_none : (name : List ℕ) → ((n : ℕ) → IsLastPlace seg name n → ⊥) → HasNoRunBefore seg name
  last_none name none m within d = none m (at_the_end name m within d)

-- ---- pieces by their first segment

module _ (ps : List Piece) (name : List ℕ) where
  abbrev Front : List Piece
  Front = take (segment_len ps) ps

  abbrev Tail : List Piece
  Tail = drop (segment_len ps) ps

  whole : Front ++ Tail ≡ ps
  whole = take-append-drop (segment_len ps) ps

  pub run_before-some : (n : ℕ) → segment_len ps < length ps → IsFirstPlace Front name n → IsRunBefore ps name n
  run_before-some n inner first =
      elim (segment_ends ps) [
        | inl end ↦
            let none = ap (λ (qs : List Piece). length qs) end in
            absurd (omega (arith, none, inner, length-drop (segment_len ps) ps))
        | inr (p, qs, is, run) ↦ subst (λ (qs : List Piece). IsRunBefore qs name n) whole (middle_some Front Tail
            (segment_bytes ps) p qs name n is run first)
      ]

  pub run_before-none : IsNowhere Front name → HasNoRunBefore ps name
  run_before-none nowhere = subst (λ (qs : List Piece). HasNoRunBefore qs name) whole (middle_none Front Tail
      (segment_bytes ps) name nowhere)

  all_bytes : length ps ≤ segment_len ps → AreBytes ps
  all_bytes all =
      let none : length (drop (segment_len ps) ps) ≡ 0 = omega (arith, all, length-drop (segment_len ps) ps) in
      let front : Front ≡ ps = sym (append_nil Front) ∙ ap (λ (qs : List Piece). Front ++ qs) (sym (nil_from_length
      (drop (segment_len ps) ps) none)) ∙ whole in
      subst AreBytes front (segment_bytes ps)

  pub run_last-some : (n : ℕ) → length ps ≤ segment_len ps → IsLastPlace ps name n → IsRunBefore ps name n
  run_last-some n all last = last_some ps (all_bytes all) name n last

  pub run_last-none : length ps ≤ segment_len ps → ((n : ℕ) → IsLastPlace ps name n → ⊥) → HasNoRunBefore ps name
  run_last-none all none = last_none ps (all_bytes all) name none

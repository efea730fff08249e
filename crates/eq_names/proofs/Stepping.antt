-- One piece of the walk: its run, what is left behind it, and its span.
use Rattle.std.proofs.Common.{◌≡◌, ℕ, suc, ◌+◌, ◌-◌, ◌<◌, ◌≤◌, Bool, true, false, cond, List, [], ◌∷◌, ◌++◌, length, take, drop, get_or, Option, Some, None, refl, sym, ap, subst, ◌∙◌, arith, inl, inr, drop-cons, add-one}
use Rattle.std.specs.Prelude.{IfSome, IfNone}
use Rattle.std.proofs.lemmas.Bool.{cases_Bool, cases_lt, true≢false, false≢true}
use Rattle.std.proofs.lemmas.List.{length-drop, drop-drop, nil_from_length, take_rest}
use Rattle.eq_names.specs.declared.piece.Piece.{Piece}
use Rattle.eq_names.specs.declared.span.Span.{Span}
use Rattle.eq_names.specs.Pieces.{takes_byte, is_run}
use Rattle.eq_names.specs.Divisions.{Takes, Divides, IsDivided, AreSpans, span_of}
use Rattle.eq_names.specs.inner.Segments.{fits, byte_run, IsRunBefore, HasNoRunBefore, IsFirstRun, HasNoRun}
use Rattle.eq_names.proofs.Fitting.{fits-short, one_byte}

-- ---- answers

pub map_some : (o : Option ℕ) (P Q : ℕ → Type 0) → ((n : ℕ) → P n → Q n) → IfSome o P → IfSome o Q
map_some None P Q f h = tt
map_some (Some n) P Q f h = f n h

pub map_none : (o : Option ℕ) (A B : Type 0) → (A → B) → IfNone o A → IfNone o B
map_none None A B f h = f h
map_none (Some n) A B f h = tt

-- ---- the first run

-- where too few bytes are left the pieces don't fit
pub fits-late : (seg : List Piece) (name : List ℕ) (m : ℕ) → m ≤ length name → length name < m + length seg →
    fits seg (drop m name) ≡ false
fits-late seg name m within h =
    elim (cases_lt (length (drop m name)) (length seg)) [
      | inl short ↦ fits-short seg (drop m name) short
      | inr long ↦ past seg name m within h long
    ]
  where
    past : (seg : List Piece) (name : List ℕ) (m : ℕ) → m ≤ length name → length name < m + length seg →
        length seg ≤ length (drop m name) → fits seg (drop m name) ≡ false
    past seg name m within h long = absurd (omega (arith, within, h, long, length-drop m name))

pub star_some : (p : Piece) (after : List Piece) (name : List ℕ) → is_run p ≡ true → (n : ℕ) →
    IsRunBefore after name n → IsFirstRun p after name n
star_some p after name run n r = record {
  within = r.within;
  takes = inl run;
  shortest = λ m below t d. r.none_before m below d;
  kept = kept p after name n r;
}
  where
    kept : (p : Piece) (after : List Piece) (name : List ℕ) (n : ℕ) → IsRunBefore after name n →
        IsDivided (p ∷ after) name → IsDivided after (drop n name)
    kept p after name n r ([], d) = absurd d
    kept p after name n r (m ∷ ms, d) = r.kept m d.0 (ms, d.2)

pub star_none : (p : Piece) (after : List Piece) (name : List ℕ) → HasNoRunBefore after name → HasNoRun p after name
star_none p after name none ([], d) = d
star_none p after name none (m ∷ ms, d) = none m d.0 (ms, d.2)

byte_kept : (p : Piece) (after : List Piece) (b : ℕ) (bs : List ℕ) → is_run p ≡ false →
    IsDivided (p ∷ after) (b ∷ bs) → (takes_byte p b ≡ true) × IsDivided after bs
byte_kept p after b bs other ([], d) = absurd d
byte_kept p after b bs other (m ∷ ms, d) =
    let o = one_byte p m (b ∷ bs) other d.0 d.1 in
    let same : o.0 ≡ b = sym (ap (λ (l : List ℕ). get_or l 0 0) o.2) in (
      subst (λ (x : ℕ). takes_byte p x ≡ true) same o.4,
      (
        ms,
        subst (λ (k : ℕ). Divides after ms (drop k
            (b ∷ bs))) o.3 d.2,
      ),
    )

no_bytes : (p : Piece) (after : List Piece) → is_run p ≡ false → HasNoRun p after []
no_bytes p after other ([], d) = d
no_bytes p after other (m ∷ ms, d) =
    let o = one_byte p m [] other d.0 d.1 in
    let none = ap (λ (l : List ℕ). length l) o.2 in
    absurd (omega arith)

empty_taken : (p : Piece) (name : List ℕ) → is_run p ≡ false → Takes p (take 0 name) → ⊥
empty_taken p name other (inl run) = absurd (true≢false (sym run ∙ other))
empty_taken p name other (inr t) = let none = ap (λ (l : List ℕ). length l) t.1 in absurd (omega arith)

pub byte_some : (p : Piece) (after : List Piece) (name : List ℕ) → is_run p ≡ false →
    IfSome (byte_run p name) (IsFirstRun p after name)
byte_some p after [] other = tt
byte_some p after (b ∷ bs) other =
    elim (cases_Bool (takes_byte p b)) [
      | inl takes ↦ subst (λ (x : Bool). IfSome {T = ℕ} (cond x (Some 1) None) (IsFirstRun p after (b ∷ bs)))
          (sym takes) (record {
            within = omega arith;
            takes = inr (b, refl, takes);
            shortest = λ m below t d.
                let zero_is : m ≡ 0 = omega arith in
                empty_taken p (b ∷ bs) other (subst (λ (k : ℕ). Takes p (take k (b ∷ bs))) zero_is t);
            kept = λ d. (byte_kept p after b bs other d).1;
          })
      | inr not_taken ↦ subst (λ (x : Bool). IfSome {T = ℕ} (cond x (Some 1) None) (IsFirstRun p after (b ∷ bs)))
          (sym not_taken) tt
    ]

pub byte_none : (p : Piece) (after : List Piece) (name : List ℕ) → is_run p ≡ false →
    IfNone (byte_run p name) (HasNoRun p after name)
byte_none p after [] other = no_bytes p after other
byte_none p after (b ∷ bs) other =
    elim (cases_Bool (takes_byte p b)) [
      | inl takes ↦ subst (λ (x : Bool). IfNone {T = ℕ} (cond x (Some 1) None) (HasNoRun p after (b ∷ bs)))
          (sym takes) tt
      | inr not_taken ↦ subst (λ (x : Bool). IfNone {T = ℕ} (cond x (Some 1) None) (HasNoRun p after (b ∷ bs)))
          (sym not_taken)
          (λ d. false≢true (sym not_taken ∙ (byte_kept p after b bs other d).0))
    ]

-- ---- what is left

-- a run that is divided goes on where the rest is divided
goes_on : (p : Piece) (after : List Piece) (name : List ℕ) (n : ℕ) → IsFirstRun p after name n →
    IsDivided after (drop n name) → IsDivided (p ∷ after) name
goes_on p after name n r d = (n ∷ d.0, (r.within, r.takes, d.1))

-- the spans of the rest, behind the span of the first piece
spans_on : (p : Piece) (after : List Piece) (name : List ℕ) (at n : ℕ) (more : List Span) →
    IsFirstRun p after name n → AreSpans after (drop n name) (at + n) more →
    AreSpans (p ∷ after) name at (span_of p at n ++ more)
spans_on p after name at n more r s = record {
  lens = n ∷ s.lens;
  divides = (r.within, r.takes, s.divides);
  shortest = (r.shortest, s.shortest);
  spans_are = ap (λ (l : List Span). span_of p at n ++ l) s.spans_are;
}

module _ (pieces : List Piece) (name : List ℕ) (i at n : ℕ) (p : Piece) (inside : i < length pieces)
    (is : p ≡ get_or pieces i p) (within : at ≤ length name) where
  abbrev Behind : List Piece
  Behind = take (length pieces - (i + 1)) (drop (i + 1) pieces)

  abbrev Left : List ℕ
  Left = take (length name - at) (drop at name)

  here : drop i pieces ≡ p ∷ drop (i + 1) pieces
  here = rw add-one (drop-cons pieces i p inside ∙ ap (λ (q : Piece). q ∷ drop (suc i) pieces) (sym is))

  behind : Behind ≡ drop (i + 1) pieces
  behind = take_rest pieces (i + 1)

  left : Left ≡ drop at name
  left = take_rest name at

  plain : IsFirstRun p Behind Left n → IsFirstRun p (drop (i + 1) pieces) (drop at name) n
  plain r = subst (λ (l : List ℕ). IsFirstRun p (drop (i + 1) pieces) l n) left (subst (λ
      (ps : List Piece). IsFirstRun p ps Left n) behind r)

  pub run_within : IsFirstRun p Behind Left n → at + n ≤ length name
  run_within r = let room = (plain r).within in omega (arith, room, within, length-drop at name)

  pub still_divided : IsFirstRun p Behind Left n → IsDivided (drop i pieces) (drop at name) →
      IsDivided (drop (i + 1) pieces) (drop (at + n) name)
  still_divided r d =
      let d' = subst (λ (ps : List Piece). IsDivided ps (drop at name)) here d in
      subst (λ (l : List ℕ). IsDivided (drop (i + 1) pieces) l) (drop-drop n at name) ((plain r).kept d')

  pub was_divided : IsFirstRun p Behind Left n → IsDivided (drop (i + 1) pieces) (drop (at + n) name) →
      IsDivided (drop i pieces) (drop at name)
  was_divided r d =
      let d' = subst (λ (l : List ℕ). IsDivided (drop (i + 1) pieces) l) (sym (drop-drop n at name)) d in
      subst (λ (ps : List Piece). IsDivided ps (drop at name)) (sym here) (goes_on p (drop (i + 1) pieces)
      (drop at name) n (plain r) d')

  pub never_divided : HasNoRun p Behind Left → IsDivided (drop i pieces) (drop at name) → ⊥
  never_divided none d =
      let none' = subst (λ (l : List ℕ). HasNoRun p (drop (i + 1) pieces) l) left (subst (λ
      (ps : List Piece). HasNoRun p ps Left) behind none) in
      none' (subst (λ (ps : List Piece). IsDivided ps (drop at name)) here d)

  pub more_spans : (more : List Span) → IsFirstRun p Behind Left n →
      AreSpans (drop (i + 1) pieces) (drop (at + n) name) (at + n) more →
      AreSpans (drop i pieces) (drop at name) at (span_of p at n ++ more)
  more_spans more r s =
      let s' = subst (λ (l : List ℕ). AreSpans (drop (i + 1) pieces) l (at + n) more) (sym (drop-drop n at name)) s in
      subst (λ (ps : List Piece). AreSpans ps (drop at name) at (span_of p at n ++ more)) (sym here) (spans_on p
      (drop (i + 1) pieces) (drop at name) at n more (plain r) s')

-- ---- the end

module _ (pieces : List Piece) (name : List ℕ) (at : ℕ) (within : at ≤ length name) where
  none_left : drop (length pieces) pieces ≡ []
  none_left = nil_from_length (drop (length pieces) pieces) (omega (arith, length-drop (length pieces) pieces))

  pub ends_divided : at ≡ length name → IsDivided (drop (length pieces) pieces) (drop at name)
  ends_divided end =
      let empty : drop at name ≡ [] = nil_from_length (drop at name) (omega (arith, end, length-drop at name)) in
      subst (λ (ps : List Piece). IsDivided ps (drop at name)) (sym none_left) ([], empty)

  pub all_taken : IsDivided (drop (length pieces) pieces) (drop at name) → at ≡ length name
  all_taken d = taken (subst (λ (ps : List Piece). IsDivided ps (drop at name)) none_left d)
    where
      taken : IsDivided [] (drop at name) → at ≡ length name
      taken ([], e) = let none = ap (λ (l : List ℕ). length l) e in omega (arith, none, within, length-drop at name)
      taken (m ∷ ms, e) = absurd e

  pub no_more_spans : at ≡ length name → AreSpans (drop (length pieces) pieces) (drop at name) at []
  no_more_spans end =
      let empty : drop at name ≡ [] = nil_from_length (drop at name) (omega (arith, end, length-drop at name)) in
      subst (λ (ps : List Piece). AreSpans ps (drop at name) at []) (sym none_left)
      (record { lens = []; divides = empty; shortest = tt; spans_are = refl })

-- Captures: one list at most, as many as the wilds, and within the name.
use Rattle.std.proofs.Common.{◌≡◌, ℕ, ◌+◌, ◌≤◌, Bool, cond, List, [], ◌∷◌, length, drop, Option, Some, None, Result, Ok, Err, refl, sym, ap, subst, ◌∙◌, arith, inl, inr, length-append}
use Rattle.std.specs.Prelude.{All, IfOk, IfSome, count_by}
use Rattle.std.proofs.lemmas.Bool.{cases_Bool, cases_order}
use Rattle.std.proofs.lemmas.List.{length-drop}
use Rattle.std.proofs.lemmas.List.Sums.{sum_by-cons}
use Rattle.std.proofs.lemmas.List.Elements.{All-nil, All-cons, All-append}
use Rattle.eq_names.specs.declared.piece.Piece.{Piece}
use Rattle.eq_names.specs.declared.span.Span.{Span}
use Rattle.eq_names.specs.Pieces.{is_wild}
use Rattle.eq_names.specs.Divisions.{Divides, IsShortest, AreSpans, span_of, wild_spans}
use Rattle.eq_names.specs.Patterns.{piece_at, Matches, AreCaptures, HasWilds}
use Rattle.eq_names.specs.Templates.{IsSpanOf}
use Rattle.eq_names.proofs.Wholes.{one_list}

-- ---- one list at most

pub one_division : (ps : List Piece) (ms ns : List ℕ) (name : List ℕ) → Divides ps ms name → IsShortest ps ms name →
    Divides ps ns name → IsShortest ps ns name → ms ≡ ns
one_division [] [] [] name a x b y = refl
one_division [] [] (n ∷ ns) name a x b y = absurd b
one_division [] (m ∷ ms) ns name a x b y = absurd a
one_division (p ∷ ps) [] ns name a x b y = absurd a
one_division (p ∷ ps) (m ∷ ms) [] name a x b y = absurd b
one_division (p ∷ ps) (m ∷ ms) (n ∷ ns) name a x b y =
    elim (cases_order m n) [
      | inl same ↦
          let there : Divides ps ns (drop m name) = subst (λ (k : ℕ). Divides ps ns (drop k name)) (sym same) b.2 in
          let least : IsShortest ps ns (drop m name) = subst (λ (k : ℕ). IsShortest ps ns (drop k name))
          (sym same) y.1 in
          let rest = one_division ps ms ns (drop m name) a.2 x.1 there least in
          λ i. same i ∷ rest i
      | inr (inl below) ↦ absurd (y.0 m below a.1 (ms, a.2))
      | inr (inr above) ↦ absurd (x.0 n above b.1 (ns, b.2))
    ]

pub one_capture : (pattern name : List ℕ) (s t : List Span) → AreCaptures pattern name s →
    AreCaptures pattern name t → s ≡ t
one_capture pattern name s t a b =
    let same = one_list piece_at pattern b.pieces a.pieces b.are_pieces a.are_pieces in
    let there = subst (λ (ps : List Piece). AreSpans ps name 0 t) same b.are_spans in
    let lens = one_division a.pieces a.are_spans.lens there.lens name a.are_spans.divides a.are_spans.shortest there.divides there.shortest in
    a.are_spans.spans_are ∙ ap (λ (ns : List ℕ). wild_spans a.pieces ns 0) lens ∙ sym there.spans_are

pub captured_matches : (pattern name : List ℕ) (s : List Span) → AreCaptures pattern name s → Matches pattern name
captured_matches pattern name s a = record {
  pieces = a.pieces;
  are_pieces = a.are_pieces;
  divided =
      (a.are_spans.lens, a.are_spans.divides);
}

-- ---- as many as the wilds

one_count : (p : Piece) (at n : ℕ) → length (span_of p at n) ≡ cond (is_wild p) 1 0
one_count p at n = elim (cases_Bool (is_wild p)) [
  | inl wild ↦ subst (λ (b : Bool). ◌≡◌ {A = ℕ} (length {A = Span} (cond b
      (record { start = at; end = at + n } ∷ []) [])) (cond b 1 0)) (sym wild) refl
  | inr other ↦ subst (λ (b : Bool). ◌≡◌ {A = ℕ} (length {A = Span} (cond b
      (record { start = at; end = at + n } ∷ []) [])) (cond b 1 0)) (sym other) refl
]

spans_count : (ps : List Piece) (ns : List ℕ) (name : List ℕ) (at : ℕ) → Divides ps ns name →
    length (wild_spans ps ns at) ≡ count_by is_wild ps
spans_count [] [] name at d = refl
spans_count [] (n ∷ ns) name at d = absurd d
spans_count (p ∷ ps) [] name at d = absurd d
spans_count (p ∷ ps) (n ∷ ns) name at d =
    let one = one_count p at n in
    let rest = spans_count ps ns (drop n name) (at + n) d.2 in
    length-append (span_of p at n) (wild_spans ps ns (at + n)) ∙ (λ i. one i + rest i)
    ∙ sym (sum_by-cons (λ (q : Piece). cond (is_wild q) 1 0) p ps)

pub captures_count : (pattern name : List ℕ) (s : List Span) → AreCaptures pattern name s → (wilds : ℕ) →
    HasWilds pattern wilds → length s ≡ wilds
captures_count pattern name s a wilds h =
    let same = one_list piece_at pattern a.pieces h.pieces a.are_pieces h.are_pieces in
    ap (λ (l : List Span). length l) a.are_spans.spans_are
    ∙ spans_count a.pieces a.are_spans.lens name 0 a.are_spans.divides
    ∙ ap (λ (ps : List Piece). count_by is_wild ps) same ∙ sym h.wilds_are

pub one_count_of_wilds : (pattern : List ℕ) (m n : ℕ) → HasWilds pattern m → HasWilds pattern n → m ≡ n
one_count_of_wilds pattern m n a b =
    a.wilds_are ∙ ap (λ (ps : List Piece). count_by is_wild ps)
    (one_list piece_at pattern a.pieces b.pieces a.are_pieces b.are_pieces) ∙ sym b.wilds_are

-- ---- within the name

span_within : (whole : List ℕ) (p : Piece) (at n : ℕ) → at + n ≤ length whole → All (IsSpanOf whole) (span_of p at n)
span_within whole p at n room = elim (cases_Bool (is_wild p)) [
  | inl wild ↦ subst (λ (b : Bool). All (IsSpanOf whole) (cond b (record { start = at; end = at + n } ∷ []) []))
      (sym wild)
      (All-cons (IsSpanOf whole) (record { start = at; end = at + n }) []
      (record { ordered = omega arith; within = room }) (All-nil (IsSpanOf whole)))
  | inr other ↦ subst (λ (b : Bool). All (IsSpanOf whole) (cond b (record { start = at; end = at + n } ∷ []) []))
      (sym other) (All-nil (IsSpanOf whole))
]

spans_within : (whole : List ℕ) (ps : List Piece) (ns : List ℕ) (name : List ℕ) (at : ℕ) →
    at + length name ≤ length whole → Divides ps ns name → All (IsSpanOf whole) (wild_spans ps ns at)
spans_within whole [] [] name at room d = All-nil (IsSpanOf whole)
spans_within whole [] (n ∷ ns) name at room d = absurd d
spans_within whole (p ∷ ps) [] name at room d = absurd d
spans_within whole (p ∷ ps) (n ∷ ns) name at room d =
    let here = d.0 in
    All-append (IsSpanOf whole) (span_of p at n) (wild_spans ps ns (at + n)) (span_within whole p at n (omega (
      arith,
      here,
      room,
    )))
    (spans_within whole ps ns (drop n name) (at + n) (omega (arith, here, room, length-drop n name)) d.2)

pub captures_within : (pattern name : List ℕ) (s : List Span) → AreCaptures pattern name s → All (IsSpanOf name) s
captures_within pattern name s a =
    subst (λ (l : List Span). All (IsSpanOf name) l) (sym a.are_spans.spans_are)
    (spans_within name a.pieces a.are_spans.lens name 0 (omega arith) a.are_spans.divides)

-- ---- the same of what is found

pub found_as : {E : Type 0} (r : Result (Option (List Span)) E) (P Q : List Span → Type 0) → ((s : List Span) → P s →
    Q s) → IfOk r (λ found. IfSome found P) → IfOk r (λ found. IfSome found Q)
found_as (Ok None) P Q f h = tt
found_as (Ok (Some s)) P Q f h = f s h
found_as (Err e) P Q f h = tt

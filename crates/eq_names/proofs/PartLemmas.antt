-- Parts of templates: how they are read, and what holds of them.
use Rattle.std.proofs.Common.{◌≡◌, ◌≢◌, ℕ, ◌+◌, ◌-◌, ◌<◌, ◌≤◌, Bool, true, false, ◌||◌, ◌&&◌, cond, eqb, List, [], ◌∷◌, ◌++◌, length, drop, take, get_or, ◌⊎◌, Option, Some, None, Result, Ok, Err, refl, sym, ap, subst, ◌∙◌, arith, inl, inr}
use Rattle.std.specs.Prelude.{All, IfOk, IfErr, IfSome, IfNone, nat_le, slice_get}
use Rattle.std.proofs.lemmas.List.Elements.{All-head, All-drop, All-take, All-nil, All-cons, All-append}
use Rattle.std.proofs.lemmas.Bool.{cases_Bool, true≢false, or_cases, and_parts, eqb-true, leb-true}
use Rattle.std.proofs.lemmas.List.{take_rest, drop-drop, length-drop}
use Rattle.eq_names.specs.Name.{IsNameByte}
use Rattle.eq_names.specs.declared.fault.TplErr.{TplErr}
use Rattle.eq_names.specs.declared.fault.TplErr.TheVariants as error
use Rattle.eq_names.specs.declared.part.Part.{Part}
use Rattle.eq_names.specs.declared.part.Part.TheVariants.{Byte, Wild}
use Rattle.eq_names.specs.declared.span.Span.{Span}
use Rattle.eq_names.specs.Reading.{IsFront, ArePiecesOf}
use Rattle.eq_names.specs.Templates.{escaped, part_at, IsTemplate, HasTemplateFault, ExplainsTemplate, IsTemplateOrNoMemory, captured, part_text, parts_text, IsFilled}
use Rattle.eq_names.specs.inner.Parts.{IsPartOf, ArePartsOf}
use Rattle.eq_names.proofs.Wholes.{front_push, one_fault, never_both, empty_has_no_fault}

abbrev Answer : Type 0
Answer = Result (Part × ℕ) TplErr

-- ---- two numbers of wilds read the same parts

same_answer : (p q : Part) (m n : ℕ) → ◌≡◌ {A = Answer} (Ok (p, m)) (Ok (q, n)) → (p ≡ q) × (m ≡ n)
same_answer p q m n e =
    let pair : ◌≡◌ {A = Part × ℕ} (p, m) (q, n) = cc in
    (ap (λ (x : Part × ℕ). x.0) pair, ap (λ (x : Part × ℕ). x.1) pair)

digit : (wilds b : ℕ) → Answer
digit wilds b = cond (nat_le (b - 48) wilds) (Ok (Wild (b - 48), 2)) (Err (error.NoCapture (b - 48)))

digit_found : (wilds b : ℕ) (p : Part) (n : ℕ) → digit wilds b ≡ Ok (p, n) →
    (p ≡ Wild (b - 48)) × (n ≡ 2) × (nat_le (b - 48) wilds ≡ true)
unfolding digit
digit_found wilds b p n e = elim (cases_Bool (nat_le (b - 48) wilds)) [
  | inl fits ↦
      let here : ◌≡◌ {A = Answer} (Ok (p, n)) (Ok (Wild (b - 48), 2)) = sym e
      ∙ ap (λ (x : Bool). cond x (Ok (Wild (b - 48), 2)) (Err (error.NoCapture (b - 48)))) fits in
      let same = same_answer p (Wild (b - 48)) n 2 here in
      (same.0, same.1, fits)
  | inr over ↦
      let here : ◌≡◌ {A = Answer} (Ok (p, n)) (Err (error.NoCapture (b - 48))) = sym e
      ∙ ap (λ (x : Bool). cond x (Ok (Wild (b - 48), 2)) (Err (error.NoCapture (b - 48)))) over in
      absurd (cc)
]

-- what an escaped byte is found to be
abbrev IsEscape : ℕ → ℕ → Part → ℕ → Type 0
IsEscape wilds b p n =
    (((eqb b 37 || eqb b 126) ≡ true) × (p ≡ Byte b) × (n ≡ 2))
    ⊎ (((eqb b 37 || eqb b 126) ≡ false) × ((nat_le 49 b && nat_le b 57) ≡ true) × (p ≡ Wild (b - 48)) × (n ≡ 2) ×
    (nat_le (b - 48) wilds ≡ true))

escape_found : (wilds b : ℕ) (p : Part) (n : ℕ) → escaped wilds b ≡ Ok (p, n) → IsEscape wilds b p n
unfolding digit
escape_found wilds b p n e = elim (cases_Bool (eqb b 37 || eqb b 126)) [
  | inl itself ↦
      let here : ◌≡◌ {A = Answer} (Ok (p, n)) (Ok (Byte b, 2)) = sym e
      ∙ ap (λ (x : Bool). cond x (Ok (Byte b, 2)) (cond (nat_le 49 b && nat_le b 57) (digit wilds b)
      (Err error.BadPercent))) itself in
      let same = same_answer p (Byte b) n 2 here in
      inl (itself, same.0, same.1)
  | inr other ↦
      let there : ◌≡◌ {A = Answer} (Ok (p, n)) (cond (nat_le 49 b && nat_le b 57) (digit wilds b)
      (Err error.BadPercent)) =
      sym e ∙ ap (λ (x : Bool). cond x (Ok (Byte b, 2)) (cond (nat_le 49 b && nat_le b 57) (digit wilds b)
      (Err error.BadPercent))) other in
      elim (cases_Bool (nat_le 49 b && nat_le b 57)) [
        | inl number ↦
            let here : ◌≡◌ {A = Answer} (digit wilds b) (Ok (p, n)) = sym (there
            ∙ ap (λ (x : Bool). cond x (digit wilds b) (Err error.BadPercent)) number) in
            let found = digit_found wilds b p n here in
            inr (other, number, found.0, found.1, found.2)
        | inr none ↦
            let here : ◌≡◌ {A = Answer} (Ok (p, n)) (Err error.BadPercent) = there
            ∙ ap (λ (x : Bool). cond x (digit wilds b) (Err error.BadPercent)) none in
            absurd (cc)
      ]
]

-- what a part at the front is found to be
abbrev IsFound : ℕ → List ℕ → Part → ℕ → Type 0
IsFound wilds text p n =
    ((eqb (get_or text 0 0) 37 ≡ true) × IsEscape wilds (get_or text 1 0) p n)
    ⊎ ((eqb (get_or text 0 0) 37 ≡ false) × (p ≡ Byte (get_or text 0 0)) × (n ≡ 1))

part_found : (wilds : ℕ) (text : List ℕ) (p : Part) (n : ℕ) → part_at wilds text ≡ Ok (p, n) → IsFound wilds text p n
part_found wilds text p n e = elim (cases_Bool (eqb (get_or text 0 0) 37)) [
  | inl percent ↦
      let here : ◌≡◌ {A = Answer} (escaped wilds (get_or text 1 0)) (Ok (p, n)) =
      sym (ap (λ (x : Bool). cond x (escaped wilds (get_or text 1 0)) (Ok (Byte (get_or text 0 0), 1))) percent) ∙ e in
      inl (percent, escape_found wilds (get_or text 1 0) p n here)
  | inr other ↦
      let here : ◌≡◌ {A = Answer} (Ok (p, n)) (Ok (Byte (get_or text 0 0), 1)) =
      sym e ∙ ap (λ (x : Bool). cond x (escaped wilds (get_or text 1 0)) (Ok (Byte (get_or text 0 0), 1))) other in
      let same = same_answer p (Byte (get_or text 0 0)) n 1 here in
      inr (other, same.0, same.1)
]

same_escape : (v w b : ℕ) (p q : Part) (m n : ℕ) → IsEscape v b p m → IsEscape w b q n → (p ≡ q) × (m ≡ n)
same_escape v w b p q m n (inl x) (inl y) = (x.1 ∙ sym y.1, x.2 ∙ sym y.2)
same_escape v w b p q m n (inl x) (inr y) = absurd (true≢false (sym x.0 ∙ y.0))
same_escape v w b p q m n (inr x) (inl y) = absurd (true≢false (sym y.0 ∙ x.0))
same_escape v w b p q m n (inr x) (inr y) = (x.2 ∙ sym y.2, x.3 ∙ sym y.3)

same_found : (v w : ℕ) (text : List ℕ) (p q : Part) (m n : ℕ) → IsFound v text p m → IsFound w text q n →
    (p ≡ q) × (m ≡ n)
same_found v w text p q m n (inl x) (inl y) = same_escape v w (get_or text 1 0) p q m n x.1 y.1
same_found v w text p q m n (inl x) (inr y) = absurd (true≢false (sym x.0 ∙ y.0))
same_found v w text p q m n (inr x) (inl y) = absurd (true≢false (sym y.0 ∙ x.0))
same_found v w text p q m n (inr x) (inr y) = (x.1 ∙ sym y.1, x.2 ∙ sym y.2)

pub same_parts : (v w : ℕ) (ps qs : List Part) (text : List ℕ) → IsFront (part_at v) ps text [] →
    IsFront (part_at w) qs text [] → ps ≡ qs
same_parts v w [] [] text a b = refl
same_parts v w [] (q ∷ qs) text a b = absurd (b.0 a)
same_parts v w (p ∷ ps) [] text a b = absurd (a.0 b)
same_parts v w (p ∷ ps) (q ∷ qs) text a b =
    let head = same_found v w text p q a.1.0 b.1.0 (part_found v text p a.1.0 a.1.1)
    (part_found w text q b.1.0 b.1.1) in
    let tail = same_parts v w ps qs (drop a.1.0 text) a.1.2 (subst (λ (n : ℕ). IsFront (part_at w) qs
    (drop n text) []) (sym head.1) b.1.2) in
    λ i. head.0 i ∷ tail i

-- ---- what holds of each part

module _ (wilds : ℕ) where
  escape_fits : (b : ℕ) (p : Part) (n : ℕ) → IsEscape wilds b p n → IsPartOf wilds p
  escape_fits b p n (inl x) = subst (λ (q : Part). IsPartOf wilds q) (sym x.1) (itself b x.0)
    where
      itself : (b : ℕ) → (eqb b 37 || eqb b 126) ≡ true → IsNameByte b
      itself b e = elim (or_cases (eqb b 37) (eqb b 126) e) [
        | inl x ↦ let is = eqb-true b 37 x in (omega arith, omega arith)
        | inr x ↦ let is = eqb-true b 126 x in (omega arith, omega arith)
      ]
  escape_fits b p n (inr x) =
      let range = and_parts (nat_le 49 b) (nat_le b 57) x.1 in
      let low : 49 ≤ b = leb-true 49 b range.0 in
      let few : b - 48 ≤ wilds = leb-true (b - 48) wilds x.4 in
      subst (λ (q : Part). IsPartOf wilds q) (sym x.2) (omega arith, few)

  found_fits : (text : List ℕ) (p : Part) (n : ℕ) → text ≢ [] → All IsNameByte text → IsFound wilds text p n →
      IsPartOf wilds p
  found_fits text p n some all (inl x) = escape_fits (get_or text 1 0) p n x.1
  found_fits [] p n some all (inr x) = absurd (some refl)
  found_fits (b ∷ bs) p n some all (inr x) = subst (λ (q : Part). IsPartOf wilds q) (sym x.1)
      (All-head IsNameByte b bs all)

  parts_fit : (ps : List Part) (text : List ℕ) → All IsNameByte text → IsFront (part_at wilds) ps text [] →
      ArePartsOf wilds ps
  parts_fit [] text all front = tt
  parts_fit (p ∷ ps) text all front = (
    found_fits text p front.1.0 front.0 all (part_found wilds text p front.1.0 front.1.1),
    parts_fit ps (drop front.1.0 text) (All-drop IsNameByte front.1.0 text all) front.1.2,
  )

pub parts_are : (v w : ℕ) (text : List ℕ) (ps : List Part) → All IsNameByte text → ArePiecesOf (part_at v) text ps →
    IsTemplate text w → ArePiecesOf (part_at w) text ps × ArePartsOf w ps
parts_are v w text ps all are t =
    let same = same_parts v w ps t.0 text are.whole t.1.whole in
    let here = subst (λ (qs : List Part). ArePiecesOf (part_at w) text qs) (sym same) t.1 in
    (here, parts_fit w ps text all here.whole)

-- ---- what is filled

captured_bytes : (name : List ℕ) (o : Option Span) → All IsNameByte name → All IsNameByte (captured name o)
captured_bytes name None all = All-nil IsNameByte
captured_bytes name (Some s) all = All-take IsNameByte (s.end - s.start) (drop s.start name)
    (All-drop IsNameByte s.start name all)

part_bytes : (wilds : ℕ) (name : List ℕ) (spans : List Span) (p : Part) → All IsNameByte name → IsPartOf wilds p →
    All IsNameByte (part_text name spans p)
part_bytes wilds name spans (Byte b) all is = All-cons IsNameByte b [] is (All-nil IsNameByte)
part_bytes wilds name spans (Wild number) all is = captured_bytes name (slice_get spans (number - 1)) all

pub text_bytes : (wilds : ℕ) (name : List ℕ) (spans : List Span) (ps : List Part) → All IsNameByte name →
    ArePartsOf wilds ps → All IsNameByte (parts_text name spans ps)
text_bytes wilds name spans [] all are = All-nil IsNameByte
text_bytes wilds name spans (p ∷ ps) all are =
    All-append IsNameByte (part_text name spans p) (parts_text name spans ps)
    (part_bytes wilds name spans p all are.0) (text_bytes wilds name spans ps all are.1)

pub is_filled : (v : ℕ) (text name : List ℕ) (spans : List Span) (ps : List Part) (out : List ℕ) →
    All IsNameByte text → ArePiecesOf (part_at v) text ps → IsTemplate text (length spans) →
    out ≡ parts_text name spans ps → IsFilled text name spans out
is_filled v text name spans ps out all are t is =
    record { parts = ps; are_parts = (parts_are v (length spans) text ps all are t).0; text_is = is }

pub filled_some : (o : Option (List ℕ)) (text name : List ℕ) (spans : List Span) (out : List ℕ) →
    IsFilled text name spans out → IfSome o (λ n. (n ≡ out) × (n ≢ [])) →
    IfSome o (λ n. (n ≢ []) × IsFilled text name spans n)
filled_some None text name spans out f h = tt
filled_some (Some n) text name spans out f h = (h.1, subst (λ (t : List ℕ). IsFilled text name spans t) (sym h.0) f)

pub filled_none : (o : Option (List ℕ)) (text name : List ℕ) (spans : List Span) (out : List ℕ) →
    IsFilled text name spans out → IfNone o (out ≡ []) → IfNone o (IsFilled text name spans [])
filled_none None text name spans out f h = subst (λ (t : List ℕ). IsFilled text name spans t) h f
filled_none (Some n) text name spans out f h = tt

-- ---- reading

pub front_more : (wilds : ℕ) (ps : List Part) (p : Part) (len at : ℕ) (text : List ℕ) → at < length text →
    IsFront (part_at wilds) ps text (drop at text) →
    part_at wilds (take (length text - at) (drop at text)) ≡ Ok (p, len) →
    IsFront (part_at wilds) (ps ++ p ∷ []) text (drop (at + len) text)
front_more wilds ps p len at text inside front found =
    subst (λ (l : List ℕ). IsFront (part_at wilds) (ps ++ p ∷ []) text l) (drop-drop len at text)
    (front_push (part_at wilds) ps p len text (drop at text) front (more_left text at inside) (ap (part_at wilds)
    (sym (take_rest text at)) ∙ found))
  where
    more_left : (text : List ℕ) (at : ℕ) → at < length text → drop at text ≢ []
    more_left text at inside none =
        let is = ap (λ (l : List ℕ). length l) none in
        absurd (omega (arith, is, inside, length-drop at text))

-- ---- a text is a template or has one fault

pub no_fault : (text : List ℕ) (wilds : ℕ) (f : TplErr) → IsTemplate text wilds → HasTemplateFault text wilds f → ⊥
no_fault text wilds f h (inl empty) = h.1.some empty.0
no_fault text wilds f h (inr bad) = never_both (part_at wilds) text h.0 f h.1 bad

pub same_fault : (text : List ℕ) (wilds : ℕ) (f g : TplErr) → HasTemplateFault text wilds f →
    HasTemplateFault text wilds g → f ≡ g
same_fault text wilds f g (inl a) (inl b) = a.1 ∙ sym b.1
same_fault text wilds f g (inl a) (inr b) = absurd (empty_has_no_fault (part_at wilds) text g a.0 b)
same_fault text wilds f g (inr a) (inl b) = absurd (empty_has_no_fault (part_at wilds) text f b.0 a)
same_fault text wilds f g (inr a) (inr b) = one_fault (part_at wilds) text f g a b

pub only_ok : (text : List ℕ) (wilds : ℕ) (r : Result (List ℕ) TplErr) →
    IfOk r (λ t. (t ≡ text) × IsTemplate text wilds) → IfErr r (ExplainsTemplate text wilds) →
    IsTemplate text wilds → IsTemplateOrNoMemory r (Ok text)
only_ok text wilds (Ok t) ok err h = inl (ap (λ (t : List ℕ). Ok t) ok.0)
only_ok text wilds (Err e) ok (inl memory) h = inr (ap (λ (f : TplErr). Err f) memory)
only_ok text wilds (Err e) ok (inr fault) h = absurd (no_fault text wilds e h fault)

pub only_fault : (text : List ℕ) (wilds : ℕ) (r : Result (List ℕ) TplErr) →
    IfOk r (λ t. (t ≡ text) × IsTemplate text wilds) → IfErr r (ExplainsTemplate text wilds) → (f : TplErr) →
    HasTemplateFault text wilds f → IsTemplateOrNoMemory r (Err f)
only_fault text wilds (Ok t) ok err f bad = absurd (no_fault text wilds f ok.1 bad)
only_fault text wilds (Err e) ok (inl memory) f bad = inr (ap (λ (f : TplErr). Err f) memory)
only_fault text wilds (Err e) ok (inr fault) f bad = inl (ap (λ (f : TplErr). Err f)
    (same_fault text wilds e f fault bad))

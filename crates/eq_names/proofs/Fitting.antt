-- Pieces that take one byte each: where they fit, and how a division goes through them.
use Rattle.std.proofs.Common.{◌≡◌, ℕ, zero, suc, ◌+◌, ◌-◌, ◌<◌, ◌≤◌, Bool, true, false, ◌&&◌, cond, List, [], ◌∷◌, ◌++◌, length, take, drop, get_or, ◌⊎◌, refl, sym, ap, subst, ◌∙◌, arith, inl, inr, drop-cons, add-one}
use Rattle.std.specs.Prelude.{⊤}
use Rattle.std.proofs.lemmas.Bool.{cases_Bool, true≢false, false≢true, and_parts}
use Rattle.std.proofs.lemmas.List.{length-take-le, length-drop, drop-drop}
use Rattle.eq_names.specs.declared.piece.Piece.{Piece}
use Rattle.eq_names.specs.Pieces.{takes_byte, is_run}
use Rattle.eq_names.specs.Divisions.{Takes, Divides, IsDivided}
use Rattle.eq_names.specs.inner.Segments.{fits, segment_len}

-- no piece is `*`
abbrev pub AreBytes : List Piece → Type 0
AreBytes [] = ⊤
AreBytes (p ∷ ps) = (is_run p ≡ false) × AreBytes ps

and_both : (a b : Bool) → a ≡ true → b ≡ true → (a && b) ≡ true
and_both true true x y = refl
and_both true false x y = y
and_both false b x y = x

and_second : (a b : Bool) → b ≡ false → (a && b) ≡ false
and_second true b e = e
and_second false b e = refl

and_first : (a b : Bool) → a ≡ false → (a && b) ≡ false
and_first true b e = absurd (true≢false e)
and_first false b e = refl

and_true : (a b : Bool) → a ≡ true → (a && b) ≡ b
and_true true b e = refl
and_true false b e = absurd (false≢true e)

-- ---- fits

pub fits-short : (seg : List Piece) (name : List ℕ) → length name < length seg → fits seg name ≡ false
fits-short [] name h = absurd (omega arith)
fits-short (p ∷ ps) [] h = refl
fits-short (p ∷ ps) (b ∷ bs) h = and_second (takes_byte p b) (fits ps bs) (fits-short ps bs (omega arith))

pub fits_within : (seg : List Piece) (name : List ℕ) → fits seg name ≡ true → length seg ≤ length name
fits_within [] name h = omega arith
fits_within (p ∷ ps) [] h = absurd (false≢true h)
fits_within (p ∷ ps) (b ∷ bs) h = let inner = fits_within ps bs (and_parts (takes_byte p b)
    (fits ps bs) h).1 in omega arith

-- one piece more
fits-at : (seg : List Piece) (name : List ℕ) (i : ℕ) (p : Piece) (b : ℕ) → i < length seg → i < length name →
    p ≡ get_or seg i p → b ≡ get_or name i 0 →
    fits (drop i seg) (drop i name) ≡ (takes_byte p b && fits (drop (i + 1) seg) (drop (i + 1) name))
fits-at seg name i p b within inside is be =
    let left : drop i seg ≡ p ∷ drop (i + 1) seg = rw add-one (drop-cons seg i p within
    ∙ ap (λ (q : Piece). q ∷ drop (suc i) seg) (sym is)) in
    let right : drop i name ≡ b ∷ drop (i + 1) name = rw add-one (drop-cons name i 0 inside
    ∙ ap (λ (c : ℕ). c ∷ drop (suc i) name) (sym be)) in
    (λ k. fits (left k) (right k))

pub fits-yes : (seg : List Piece) (name : List ℕ) (i : ℕ) (p : Piece) (b : ℕ) → i < length seg → i < length name →
    p ≡ get_or seg i p → b ≡ get_or name i 0 → takes_byte p b ≡ true →
    fits (drop i seg) (drop i name) ≡ fits (drop (i + 1) seg) (drop (i + 1) name)
fits-yes seg name i p b within inside is be takes = fits-at seg name i p b within inside is be
    ∙ and_true (takes_byte p b) (_) takes

pub fits-no : (seg : List Piece) (name : List ℕ) (i : ℕ) (p : Piece) (b : ℕ) → i < length seg → i < length name →
    p ≡ get_or seg i p → b ≡ get_or name i 0 → takes_byte p b ≡ false →
    fits (drop i seg) (drop i name) ≡ false
fits-no seg name i p b within inside is be other = fits-at seg name i p b within inside is be
    ∙ and_first (takes_byte p b) (_) other

-- ---- divisions through pieces that take one byte each

-- a piece that isn't `*` takes one byte
pub one_byte : (p : Piece) (n : ℕ) (name : List ℕ) → is_run p ≡ false → n ≤ length name → Takes p (take n name) →
    (b : ℕ) × (rest : List ℕ) × (name ≡ b ∷ rest) × (n ≡ 1) × (takes_byte p b ≡ true)
one_byte p n name other within (inl run) = absurd (true≢false (sym run ∙ other))
one_byte p n [] other within (inr t) =
    let one = ap (λ (l : List ℕ). length l) t.1 in
    let none : length (take {A = ℕ} n []) ≡ n = length-take-le n [] within in
    let zero_is : n ≤ 0 = within in
    let one_is : length (take {A = ℕ} n []) ≡ 1 = one in
    absurd (omega (arith, none, one_is, zero_is))
one_byte p zero (x ∷ xs) other within (inr t) =
    let one = ap (λ (l : List ℕ). length l) t.1 in
    absurd (omega arith)
one_byte p (suc n) (x ∷ xs) other within (inr t) =
    let one = ap (λ (l : List ℕ). length l) t.1 in
    let many = length-take-le (suc n) (x ∷ xs) within in
    let same : t.0 ≡ x = sym (ap (λ (l : List ℕ). get_or l 0 0) t.1) in
    (x, xs, refl, omega arith, subst (λ (b : ℕ). takes_byte p b ≡ true) same t.2)

pub split : (seg tail : List Piece) (name : List ℕ) → AreBytes seg → IsDivided (seg ++ tail) name →
    (fits seg name ≡ true) × IsDivided tail (drop (length seg) name)
split [] tail name each h = (refl, h)
split (p ∷ ps) tail name each ([], d) = absurd d
split (p ∷ ps) tail [] each (n ∷ ns, d) =
    let o = one_byte p n [] each.0 d.0 d.1 in
    let none = ap (λ (l : List ℕ). length l) o.2 in
    absurd (omega arith)
split (p ∷ ps) tail (x ∷ xs) each (n ∷ ns, d) =
    let o = one_byte p n (x ∷ xs) each.0 d.0 d.1 in
    let same : o.0 ≡ x = sym (ap (λ (l : List ℕ). get_or l 0 0) o.2) in
    let rest : Divides (ps ++ tail) ns xs = subst (λ (k : ℕ). Divides (ps ++ tail) ns (drop k (x ∷ xs))) o.3 d.2 in
    let inner = split ps tail xs each.1 (ns, rest) in
    (and_both (takes_byte p x) (fits ps xs) (subst (λ (b : ℕ). takes_byte p b ≡ true) same o.4) inner.0, inner.1)

pub join : (seg tail : List Piece) (name : List ℕ) → fits seg name ≡ true → IsDivided tail (drop (length seg) name) →
    IsDivided (seg ++ tail) name
join [] tail name f h = h
join (p ∷ ps) tail [] f h = absurd (false≢true f)
join (p ∷ ps) tail (x ∷ xs) f h =
    let parts = and_parts (takes_byte p x) (fits ps xs) f in
    let r = join ps tail xs parts.1 h in
    (1 ∷ r.0, (omega arith, inr (x, refl, parts.0), r.1))

-- a `*` reaches further back
pub reaches_back : (p : Piece) (ps : List Piece) (name : List ℕ) (i j : ℕ) → is_run p ≡ true → i ≤ j →
    j ≤ length name → IsDivided (p ∷ ps) (drop j name) → IsDivided (p ∷ ps) (drop i name)
reaches_back p ps name i j run le within ([], d) = absurd d
reaches_back p ps name i j run le within (n ∷ ns, d) =
    let len : ℕ = n + (j - i) in
    let inside = d.0 in
    let same : drop n (drop j name) ≡ drop len (drop i name) = drop-drop n j name
    ∙ ap (λ (k : ℕ). drop k name) (omega arith) ∙ sym (drop-drop len i name) in (
      len ∷ ns,
      (
        omega (arith, inside, length-drop i name, length-drop j name),
        inl run,
        subst (λ (l : List ℕ). Divides ps ns l) same d.2,
      ),
    )

-- ---- segments

pub segment_bytes : (ps : List Piece) → AreBytes (take (segment_len ps) ps)
segment_bytes [] = tt
segment_bytes (p ∷ ps) =
    elim (cases_Bool (is_run p)) [
      | inl run ↦ subst (λ (b : Bool). AreBytes (take (cond b 0 (1 + segment_len ps)) (p ∷ ps))) (sym run) tt
      | inr other ↦
          let one : 1 + segment_len ps ≡ suc (segment_len ps) = omega arith in
          subst (λ (b : Bool). AreBytes (take (cond b 0 (1 + segment_len ps)) (p ∷ ps))) (sym other)
          (subst (λ (k : ℕ). AreBytes (take k (p ∷ ps))) (sym one) (other, segment_bytes ps))
    ]

-- behind a segment the pieces end, or a `*` comes
abbrev pub EndsOrRuns : List Piece → List Piece → Type 0
EndsOrRuns ps tail = (tail ≡ []) ⊎ ((p : Piece) × (qs : List Piece) × (tail ≡ p ∷ qs) × (is_run p ≡ true))

pub segment_ends : (ps : List Piece) → EndsOrRuns ps (drop (segment_len ps) ps)
segment_ends [] = inl refl
segment_ends (p ∷ ps) =
    elim (cases_Bool (is_run p)) [
      | inl run ↦ subst (λ (b : Bool). EndsOrRuns (p ∷ ps) (drop (cond b 0 (1 + segment_len ps)) (p ∷ ps))) (sym run)
          (inr (p, ps, refl, run))
      | inr other ↦
          let one : 1 + segment_len ps ≡ suc (segment_len ps) = omega arith in
          subst (λ (b : Bool). EndsOrRuns (p ∷ ps) (drop (cond b 0 (1 + segment_len ps)) (p ∷ ps))) (sym other)
          (subst (λ (k : ℕ). EndsOrRuns (p ∷ ps) (drop k (p ∷ ps))) (sym one) (segment_ends ps))
    ]

-- A text read by a rule has one list of pieces, or one first fault, and not both.
use Rattle.std.proofs.Common.{◌≡◌, ◌≢◌, ℕ, zero, suc, ◌<◌, ◌≤◌, ◌⊎◌, List, [], ◌∷◌, ◌++◌, length, drop, Result, Ok, Err, refl, sym, ap, subst, ◌∙◌, arith, inl, inr}
use Rattle.std.proofs.lemmas.Bool.{cases_lt}
use Rattle.std.proofs.lemmas.List.{length-drop, nil_from_length}
use Rattle.eq_names.specs.Reading.{Rule, IsFront, ArePiecesOf, HasFirstFault}

module _ {P F : Type 0} (rule : Rule P F) where
  -- the next piece goes to the end of a front
  pub front_push : (ps : List P) (p : P) (len : ℕ) (text rest : List ℕ) → IsFront rule ps text rest → rest ≢ [] →
      rule rest ≡ Ok (p, len) → IsFront rule (ps ++ p ∷ []) text (drop len rest)
  front_push [] p len text rest front more found =
      subst (λ (t : List ℕ). IsFront rule (p ∷ []) t (drop len rest)) (sym front) (more, (len, found, refl))
  front_push (q ∷ qs) p len text rest front more found =
      (front.0, (front.1.0, front.1.1, front_push qs p len (drop front.1.0 text) rest front.1.2 more found))

  same_found : (text : List ℕ) (p q : P) (m n : ℕ) → rule text ≡ Ok (p, m) → rule text ≡ Ok (q, n) → (p ≡ q) × (m ≡ n)
  same_found text p q m n a b =
      let both : ◌≡◌ {A = Result (P × ℕ) F} (Ok (p, m)) (Ok (q, n)) = sym a ∙ b in
      let pair : ◌≡◌ {A = P × ℕ} (p, m) (q, n) = cc in
      (ap (λ (x : P × ℕ). x.0) pair, ap (λ (x : P × ℕ). x.1) pair)

  not_both_found : (text : List ℕ) (p : P) (n : ℕ) (f : F) → rule text ≡ Ok (p, n) → rule text ≡ Err f → ⊥
  not_both_found text p n f a b =
      let both : ◌≡◌ {A = Result (P × ℕ) F} (Ok (p, n)) (Err f) = sym a ∙ b in
      absurd (cc)

  pub same_pieces : (ps qs : List P) (text : List ℕ) → IsFront rule ps text [] → IsFront rule qs text [] → ps ≡ qs
  same_pieces [] [] text a b = refl
  same_pieces [] (q ∷ qs) text a b = absurd (b.0 a)
  same_pieces (p ∷ ps) [] text a b = absurd (a.0 b)
  same_pieces (p ∷ ps) (q ∷ qs) text a b =
      let head = same_found text p q a.1.0 b.1.0 a.1.1 b.1.1 in
      let tail = same_pieces ps qs (drop a.1.0 text) a.1.2 (subst (λ (n : ℕ). IsFront rule qs (drop n text) [])
      (sym head.1) b.1.2) in
      λ i. head.0 i ∷ tail i

  same_fault : (ps qs : List P) (text rest others : List ℕ) (f g : F) → IsFront rule ps text rest → rest ≢ [] →
      rule rest ≡ Err f → IsFront rule qs text others → others ≢ [] → rule others ≡ Err g → f ≡ g
  same_fault [] [] text rest others f g a more bad b most worse =
      let here : rest ≡ others = sym a ∙ b in
      let both : ◌≡◌ {A = Result (P × ℕ) F} (Err f) (Err g) = sym bad ∙ ap rule here ∙ worse in
      cc
  same_fault [] (q ∷ qs) text rest others f g a more bad b most worse = absurd (not_both_found text q b.1.0 f b.1.1
      (ap rule a ∙ bad))
  same_fault (p ∷ ps) [] text rest others f g a more bad b most worse = absurd (not_both_found text p a.1.0 g a.1.1
      (ap rule b ∙ worse))
  same_fault (p ∷ ps) (q ∷ qs) text rest others f g a more bad b most worse =
      let head = same_found text p q a.1.0 b.1.0 a.1.1 b.1.1 in
      same_fault ps qs (drop a.1.0 text) rest others f g a.1.2 more bad (subst (λ (n : ℕ). IsFront rule qs
      (drop n text) others) (sym head.1) b.1.2) most worse

  pieces_and_fault : (ps qs : List P) (text rest : List ℕ) (f : F) → IsFront rule ps text [] →
      IsFront rule qs text rest → rest ≢ [] → rule rest ≡ Err f → ⊥
  pieces_and_fault [] [] text rest f a b more bad = more (sym b ∙ a)
  pieces_and_fault [] (q ∷ qs) text rest f a b more bad = b.0 a
  pieces_and_fault (p ∷ ps) [] text rest f a b more bad = not_both_found text p a.1.0 f a.1.1 (ap rule b ∙ bad)
  pieces_and_fault (p ∷ ps) (q ∷ qs) text rest f a b more bad =
      let head = same_found text p q a.1.0 b.1.0 a.1.1 b.1.1 in
      pieces_and_fault ps qs (drop a.1.0 text) rest f a.1.2 (subst (λ (n : ℕ). IsFront rule qs (drop n text) rest)
      (sym head.1) b.1.2) more bad

  -- a text is that of one list of pieces at most
  pub one_list : (text : List ℕ) (ps qs : List P) → ArePiecesOf rule text ps → ArePiecesOf rule text qs → ps ≡ qs
  one_list text ps qs a b = same_pieces ps qs text a.whole b.whole

  -- it has one first fault at most
  pub one_fault : (text : List ℕ) (f g : F) → HasFirstFault rule text f → HasFirstFault rule text g → f ≡ g
  one_fault text f g a b = same_fault a.pieces b.pieces text a.rest b.rest f g a.front a.more a.fault_is b.front b.more b.fault_is

  -- it has not both
  pub never_both : (text : List ℕ) (ps : List P) (f : F) → ArePiecesOf rule text ps → HasFirstFault rule text f → ⊥
  never_both text ps f a b = pieces_and_fault ps b.pieces text b.rest f a.whole b.front b.more b.fault_is

  -- an empty text has neither
  pub empty_has_no_fault : (text : List ℕ) (f : F) → text ≡ [] → HasFirstFault rule text f → ⊥
  empty_has_no_fault text f none b = empty b.pieces b.front
    where
      empty : (ps : List P) → IsFront rule ps text b.rest → ⊥
      empty [] front = b.more (sym front ∙ none)
      empty (p ∷ ps) front = front.0 none

  -- ---- each text has one of both

  abbrev Moves : Type 0
  Moves = (text : List ℕ) (p : P) (len : ℕ) → rule text ≡ Ok (p, len) → 0 < len

  found_or_fault : (r : Result (P × ℕ) F) → ((p : P) × (len : ℕ) × (r ≡ Ok (p, len))) ⊎ ((f : F) × (r ≡ Err f))
  found_or_fault (Ok found) = inl (found.0, found.1, refl)
  found_or_fault (Err f) = inr (f, refl)

  abbrev FrontOrFault : List ℕ → Type 0
  FrontOrFault text = ((ps : List P) × IsFront rule ps text []) ⊎ ((f : F) × HasFirstFault rule text f)

  some_left : (text : List ℕ) → 0 < length text → text ≢ []
  some_left text some none = let is = ap (λ (l : List ℕ). length l) none in absurd (omega arith)

  front_or_fault : Moves → (n : ℕ) (text : List ℕ) → length text ≤ n → FrontOrFault text
  front_or_fault moves zero text le = inl ([], nil_from_length text (omega arith))
  front_or_fault moves (suc n) text le =
      elim (cases_lt 0 (length text)) [
        | inr none ↦ inl ([], nil_from_length text (omega arith))
        | inl some ↦ elim (found_or_fault (rule text)) [
          | inr bad ↦ inr (bad.0, record { pieces = []; rest = text; front = refl; more = some_left text some; fault_is = bad.1 })
          | inl found ↦
              let moved = moves text found.0 found.1 found.2 in
              elim (front_or_fault moves n (drop found.1 text) (omega (arith, moved, length-drop found.1 text))) [
                | inl whole ↦ inl (found.0 ∷ whole.0, (some_left text some, (found.1, found.2, whole.1)))
                | inr bad ↦
                    let b = bad.1 in
                    inr (
                      bad.0,
                      record {
                        pieces = found.0 ∷ b.pieces;
                        rest = b.rest;
                        front = (
                          some_left text some,
                          (found.1, found.2, b.front),
                        );
                        more = b.more;
                        fault_is = b.fault_is;
                      },
                    )
              ]
        ]
      ]

  pub pieces_or_fault : Moves → (text : List ℕ) → text ≢ [] → ((ps : List P) × ArePiecesOf rule text ps) ⊎
      ((f : F) × HasFirstFault rule text f)
  pieces_or_fault moves text some =
      elim (front_or_fault moves (length text) text (omega arith)) [
        | inl whole ↦ inl (whole.0, record { some = some; whole = whole.1 })
        | inr bad ↦ inr bad
      ]

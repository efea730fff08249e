-- What waits and what was found are fronts of expressions.
use Rattle.std.proofs.Common.{◌≡◌, ℕ, zero, suc, List, [], ◌∷◌, ◌++◌, Option, Some, None, refl, sym, ap, subst, ◌∙◌, inl, inr, append_assoc}
use Rattle.std.proofs.lemmas.List.{append-nil}
use Rattle.eq_vlex.specs.declared.mark.Mark.{Mark}
use Rattle.eq_vlex.specs.declared.mark.Mark.TheVariants as mark
use Rattle.eq_vlex.specs.declared.token.TokenKind.{TokenKind}
use Rattle.eq_vlex.specs.declared.token.TokenKind.TheVariants as token
use Rattle.eq_vparse.specs.declared.tree.UnOp.{UnOp}
use Rattle.eq_vparse.specs.declared.tree.BinOp.{BinOp}
use Rattle.eq_vparse.specs.declared.tree.Expr.{Expr}
use Rattle.eq_vparse.specs.declared.pending.Pending.{Pending}
use Rattle.eq_vparse.specs.declared.pending.Pending.TheVariants.{Group, Operator, Left, Choice, Otherwise, Parts, Repeated}
use Rattle.eq_vparse.specs.Operators.{unary_of, binary_of}
use Rattle.eq_vparse.specs.Phrases.{Phrase, const, net, bit, part, grouped, concat, repeat, unary, binary, cond as cond_phrase, Phrases, last, before, tokens_of, all_tokens_of, IsGrouped, AreGrouped, primary, shape}
use Rattle.eq_vparse.specs.Rules.{Rule, ◌>>=◌, AreMany, separated, mark as mark_rule}
use Rattle.eq_vparse.proofs.Shapes.{flat, body, tail_rule, closed}
use Rattle.eq_vparse.proofs.Sound.{PartsOf, Waits, Has}

abbrev TailSentence : List TokenKind → Type 0
TailSentence ws = (o : Option (Unit {0})) × (tail_rule flat).sentence ws o

abbrev pub TailFront : List TokenKind → Type 0
TailFront ws = (tail_rule flat).front ws

body_sentence : (us ws : List TokenKind) → (primary flat).sentence us tt → TailSentence ws → flat.sentence (us ++ ws) tt
body_sentence us ws p t = closed.sentence (us ++ ws) tt ([], us ++ ws, [], refl, refl, (us, ws, tt, refl, p, (ws, [], t.0, sym (append-nil ws), t.1, (refl, refl))))

body_front : (us ws : List TokenKind) → (primary flat).sentence us tt → TailFront ws → flat.front (us ++ ws)
body_front us ws p t = closed.front (us ++ ws) (inr ([], us ++ ws, [], refl, refl, inr (us, ws, tt, refl, p, inl t)))

pub primary_front : (us : List TokenKind) → (primary flat).front us → flat.front us
primary_front us p = closed.front us (inr ([], us, [], refl, refl, inl p))

pub empty_front : flat.front []
empty_front = (1, inl ([], [], [], refl, refl, inl refl))

unary_sentence : (m : Mark) (o : UnOp) (ws : List TokenKind) → unary_of m ≡ Some o → (n : ℕ) → (shape n).sentence ws tt → flat.sentence (token.Mark m ∷ ws) tt
unary_sentence m o ws e zero h = absurd h
unary_sentence m o ws e (suc n) h =
    (suc n, (token.Mark m ∷ h.0, h.1, tt ∷ h.2, ap (λ (us : List TokenKind). token.Mark m ∷ us) h.3, (token.Mark m ∷ [], h.0, refl, (m, o, e, refl), h.4), h.5))

shape_unary : (m : Mark) (o : UnOp) (ws : List TokenKind) → unary_of m ≡ Some o → (n : ℕ) → (shape n).front ws → flat.front (token.Mark m ∷ ws)
shape_unary m o ws e zero h = absurd h
shape_unary m o ws e (suc n) h = elim h [
  | inl x ↦ (suc n, inl (token.Mark m ∷ x.0, x.1, tt ∷ x.2, ap (λ (us : List TokenKind). token.Mark m ∷ us) x.3, (token.Mark m ∷ [], x.0, refl, (m, o, e, refl), x.4), x.5))
  | inr x ↦ (suc n, inr (token.Mark m ∷ x.0, x.1, tt ∷ x.2, ap (λ (us : List TokenKind). token.Mark m ∷ us) x.3, (token.Mark m ∷ [], x.0, refl, (m, o, e, refl), x.4), x.5))
]

pub unary_front : (m : Mark) (o : UnOp) (ws : List TokenKind) → unary_of m ≡ Some o → flat.front ws → flat.front (token.Mark m ∷ ws)
unary_front m o ws e h = shape_unary m o ws e h.0 h.1

-- ---- phrases

abbrev comma_rule : Rule (Unit {0})
comma_rule = mark_rule mark.Comma >>= λ _. flat

no_tail : TailSentence []
no_tail = (None, refl)

whole : (p : Phrase) → flat.sentence (tokens_of p ++ []) tt → flat.sentence (tokens_of p) tt
whole p h = let P : List TokenKind → Type 0 = λ ts. flat.sentence ts tt in subst P (append-nil (tokens_of p)) h

mutual
  phrase_sentence : (p : Phrase) (ws : List TokenKind) → IsGrouped p → TailSentence ws → flat.sentence (tokens_of p ++ ws) tt
  phrase_sentence (const c) ws g t = body_sentence (tokens_of (const c)) ws (inl (token.Sized c ∷ [], [], c, refl, refl, (refl, refl))) t
  phrase_sentence (net n) ws g t = body_sentence (tokens_of (net n)) ws (inr (inl (token.Word n ∷ [], [], n, refl, refl, (refl, refl)))) t
  phrase_sentence (bit n d) ws g t =
      body_sentence (tokens_of (bit n d)) ws
      (inr (inr (inl (token.Word n ∷ [], _, n, refl, refl, (token.Mark mark.LeftBracket ∷ [], _, tt, refl, refl, (token.Decimal d ∷ [], token.Mark mark.RightBracket ∷ [], d, refl, refl, refl)))))) t
  phrase_sentence (part n l r) ws g t =
      body_sentence (tokens_of (part n l r)) ws
      (inr (inr (inr (inl (
        token.Word n ∷ [],
        _,
        n,
        refl,
        refl,
        (
          token.Mark mark.LeftBracket ∷ [],
          _,
          tt,
          refl,
          refl,
          (
            token.Decimal l ∷ [],
            _,
            l,
            refl,
            refl,
            (
              token.Mark mark.Colon ∷ [],
              _,
              tt,
              refl,
              refl,
              (token.Decimal r ∷ [], token.Mark mark.RightBracket ∷ [], r, refl, refl, refl),
            ),
          ),
        ),
      ))))) t
  phrase_sentence (grouped p) ws g t =
      body_sentence (tokens_of (grouped p)) ws
      (inr (inr (inr (inr (inl (token.Mark mark.LeftParen ∷ [], tokens_of p ++ token.Mark mark.RightParen ∷ [], tt, refl, refl, (tokens_of p, token.Mark mark.RightParen ∷ [], tt, refl, whole p (phrase_sentence p [] g no_tail), refl))))))) t
  phrase_sentence (concat qs) ws g t =
      let parts = phrases_sentence qs g in
      body_sentence (tokens_of (concat qs)) ws
      (inr (inr (inr (inr (inr (inl (
        token.Mark mark.LeftBrace ∷ [],
        all_tokens_of qs ++ token.Mark mark.RightBrace ∷ [],
        tt,
        refl,
        refl,
        (all_tokens_of qs, token.Mark mark.RightBrace ∷ [], parts.0, refl, parts.1, refl),
      ))))))) t
  phrase_sentence (repeat d qs) ws g t =
      let parts = phrases_sentence qs g in
      let end : List TokenKind = token.Mark mark.RightBrace ∷ token.Mark mark.RightBrace ∷ [] in
      body_sentence (tokens_of (repeat d qs)) ws
      (inr (inr (inr (inr (inr (inr (
        token.Mark mark.LeftBrace ∷ [],
        _,
        tt,
        refl,
        refl,
        (
          token.Decimal d ∷ [],
          _,
          d,
          refl,
          refl,
          (
            token.Mark mark.LeftBrace ∷ [],
            all_tokens_of qs ++ end,
            tt,
            refl,
            refl,
            (all_tokens_of qs, end, parts.0, refl, parts.1, (token.Mark mark.RightBrace ∷ [], token.Mark mark.RightBrace ∷ [], tt, refl, refl, refl)),
          ),
        ),
      ))))))) t
  phrase_sentence (unary m o p) ws g t = let h = phrase_sentence p ws g.1 t in unary_sentence m o (tokens_of p ++ ws) g.0 h.0 h.1
  phrase_sentence (binary m o p q) ws g t =
      let P : List TokenKind → Type 0 = λ ts. flat.sentence ts tt in
      let right = phrase_sentence q ws g.2 t in
      subst P (sym (append_assoc (tokens_of p) (token.Mark m ∷ tokens_of q) ws))
      (phrase_sentence p (token.Mark m ∷ (tokens_of q ++ ws)) g.1 (Some tt, inl (token.Mark m ∷ [], tokens_of q ++ ws, tt, refl, (m, o, g.0, refl), right)))
  phrase_sentence (cond_phrase c p q) ws g t =
      let P : List TokenKind → Type 0 = λ ts. flat.sentence ts tt in
      let rest = tokens_of p ++ token.Mark mark.Colon ∷ tokens_of q in
      let right = phrase_sentence q ws g.2 t in
      subst P (sym (append_assoc (tokens_of c) (token.Mark mark.Question ∷ rest) ws))
      (phrase_sentence c (token.Mark mark.Question ∷ (rest ++ ws)) g.0 (
        Some tt,
        inr (
          token.Mark mark.Question ∷ [],
          rest ++ ws,
          tt,
          refl,
          refl,
          (tokens_of p, token.Mark mark.Colon ∷ (tokens_of q ++ ws), tt, append_assoc (tokens_of p) (token.Mark mark.Colon ∷ tokens_of q) ws, whole p (phrase_sentence p [] g.1 no_tail), (token.Mark mark.Colon ∷ [], tokens_of q ++ ws, tt, refl, refl, right)),
        ),
      ))

  phrases_sentence : (qs : Phrases) → AreGrouped qs → (all : List (Unit {0})) × (separated flat).sentence (all_tokens_of qs) all
  phrases_sentence (last p) g = (tt ∷ [], (tokens_of p, [], tt, sym (append-nil (tokens_of p)), whole p (phrase_sentence p [] g no_tail), ([], [], [], refl, refl, (refl, refl))))
  phrases_sentence (before p qs) g =
      let more = commas_sentence qs g.1 in
      let rest = token.Mark mark.Comma ∷ all_tokens_of qs in
      (tt ∷ more.0, (tokens_of p, rest, tt, refl, whole p (phrase_sentence p [] g.0 no_tail), (rest, [], more.0, sym (append-nil rest), more.1, (refl, refl))))

  commas_sentence : (qs : Phrases) → AreGrouped qs → (all : List (Unit {0})) × AreMany comma_rule (token.Mark mark.Comma ∷ all_tokens_of qs) all
  commas_sentence (last p) g =
      (tt ∷ [], (token.Mark mark.Comma ∷ tokens_of p, [], sym (append-nil (token.Mark mark.Comma ∷ tokens_of p)), (token.Mark mark.Comma ∷ [], tokens_of p, tt, refl, refl, whole p (phrase_sentence p [] g no_tail)), refl))
  commas_sentence (before p qs) g =
      let more = commas_sentence qs g.1 in
      (tt ∷ more.0, (token.Mark mark.Comma ∷ tokens_of p, token.Mark mark.Comma ∷ all_tokens_of qs, refl, (token.Mark mark.Comma ∷ [], tokens_of p, tt, refl, refl, whole p (phrase_sentence p [] g.0 no_tail)), more.1))

phrase_whole : (p : Phrase) → IsGrouped p → flat.sentence (tokens_of p) tt
phrase_whole p g = whole p (phrase_sentence p [] g no_tail)

-- ---- what stands behind a phrase

pub binary_tail : (m : Mark) (o : BinOp) (ws : List TokenKind) → binary_of m ≡ Some o → flat.front ws → TailFront (token.Mark m ∷ ws)
binary_tail m o ws e h = inr (inl (inr (token.Mark m ∷ [], ws, tt, refl, (m, o, e, refl), h)))

pub choice_tail : (ws : List TokenKind) → flat.front ws → TailFront (token.Mark mark.Question ∷ ws)
choice_tail ws h = inr (inr (inr (token.Mark mark.Question ∷ [], ws, tt, refl, refl, inl h)))

otherwise_tail : (q : Phrase) (ws : List TokenKind) → IsGrouped q → flat.front ws → TailFront (token.Mark mark.Question ∷ (tokens_of q ++ token.Mark mark.Colon ∷ ws))
otherwise_tail q ws g h =
    inr (inr (inr (token.Mark mark.Question ∷ [], _, tt, refl, refl, inr (tokens_of q, token.Mark mark.Colon ∷ ws, tt, refl, phrase_whole q g, inr (token.Mark mark.Colon ∷ [], ws, tt, refl, refl, h)))))

joined : (f a b ws : List TokenKind) → f ≡ a ++ b → flat.front (a ++ (b ++ ws)) → flat.front (f ++ ws)
joined f a b ws e h = let P : List TokenKind → Type 0 = λ us. flat.front us in subst P (sym (ap (λ (us : List TokenKind). us ++ ws) e ∙ append_assoc a b ws)) h

-- what may stand behind a phrase may stand behind its last primary
pub phrase_front : (p : Phrase) (ws : List TokenKind) → IsGrouped p → TailFront ws → flat.front (tokens_of p ++ ws)
phrase_front (const c) ws g t = body_front (tokens_of (const c)) ws (inl (token.Sized c ∷ [], [], c, refl, refl, (refl, refl))) t
phrase_front (net n) ws g t = body_front (tokens_of (net n)) ws (inr (inl (token.Word n ∷ [], [], n, refl, refl, (refl, refl)))) t
phrase_front (bit n d) ws g t =
    body_front (tokens_of (bit n d)) ws
    (inr (inr (inl (token.Word n ∷ [], _, n, refl, refl, (token.Mark mark.LeftBracket ∷ [], _, tt, refl, refl, (token.Decimal d ∷ [], token.Mark mark.RightBracket ∷ [], d, refl, refl, refl)))))) t
phrase_front (part n l r) ws g t =
    body_front (tokens_of (part n l r)) ws
    (inr (inr (inr (inl (
      token.Word n ∷ [],
      _,
      n,
      refl,
      refl,
      (
        token.Mark mark.LeftBracket ∷ [],
        _,
        tt,
        refl,
        refl,
        (
          token.Decimal l ∷ [],
          _,
          l,
          refl,
          refl,
          (
            token.Mark mark.Colon ∷ [],
            _,
            tt,
            refl,
            refl,
            (token.Decimal r ∷ [], token.Mark mark.RightBracket ∷ [], r, refl, refl, refl),
          ),
        ),
      ),
    ))))) t
phrase_front (grouped p) ws g t =
    body_front (tokens_of (grouped p)) ws
    (inr (inr (inr (inr (inl (token.Mark mark.LeftParen ∷ [], tokens_of p ++ token.Mark mark.RightParen ∷ [], tt, refl, refl, (tokens_of p, token.Mark mark.RightParen ∷ [], tt, refl, phrase_whole p g, refl))))))) t
phrase_front (concat qs) ws g t =
    let parts = phrases_sentence qs g in
    body_front (tokens_of (concat qs)) ws
    (inr (inr (inr (inr (inr (inl (
      token.Mark mark.LeftBrace ∷ [],
      all_tokens_of qs ++ token.Mark mark.RightBrace ∷ [],
      tt,
      refl,
      refl,
      (all_tokens_of qs, token.Mark mark.RightBrace ∷ [], parts.0, refl, parts.1, refl),
    ))))))) t
phrase_front (repeat d qs) ws g t =
    let parts = phrases_sentence qs g in
    let end : List TokenKind = token.Mark mark.RightBrace ∷ token.Mark mark.RightBrace ∷ [] in
    body_front (tokens_of (repeat d qs)) ws
    (inr (inr (inr (inr (inr (inr (
      token.Mark mark.LeftBrace ∷ [],
      _,
      tt,
      refl,
      refl,
      (
        token.Decimal d ∷ [],
        _,
        d,
        refl,
        refl,
        (
          token.Mark mark.LeftBrace ∷ [],
          all_tokens_of qs ++ end,
          tt,
          refl,
          refl,
          (all_tokens_of qs, end, parts.0, refl, parts.1, (token.Mark mark.RightBrace ∷ [], token.Mark mark.RightBrace ∷ [], tt, refl, refl, refl)),
        ),
      ),
    ))))))) t
phrase_front (unary m o p) ws g t = unary_front m o (tokens_of p ++ ws) g.0 (phrase_front p ws g.1 t)
phrase_front (binary m o p q) ws g t =
    let P : List TokenKind → Type 0 = λ ts. flat.front ts in
    subst P (sym (append_assoc (tokens_of p) (token.Mark m ∷ tokens_of q) ws)) (phrase_front p (token.Mark m ∷ (tokens_of q ++ ws)) g.1 (binary_tail m o (tokens_of q ++ ws) g.0 (phrase_front q ws g.2 t)))
phrase_front (cond_phrase c p q) ws g t =
    let P : List TokenKind → Type 0 = λ ts. flat.front ts in
    let rest = tokens_of p ++ token.Mark mark.Colon ∷ tokens_of q in
    let colon = append_assoc (tokens_of p) (token.Mark mark.Colon ∷ tokens_of q) ws in
    subst P (sym (append_assoc (tokens_of c) (token.Mark mark.Question ∷ rest) ws))
    (phrase_front c (token.Mark mark.Question ∷ (rest ++ ws)) g.0 (let Q : List TokenKind → Type 0 = λ ts. TailFront (token.Mark mark.Question ∷ ts) in subst Q (sym colon) (otherwise_tail p (tokens_of q ++ ws) g.1 (phrase_front q ws g.2 t))))

-- ---- what waits

pub group_front : (ws : List TokenKind) → flat.front ws → flat.front (token.Mark mark.LeftParen ∷ ws)
group_front ws h = primary_front (token.Mark mark.LeftParen ∷ ws) (inr (inr (inr (inr (inl (inr (token.Mark mark.LeftParen ∷ [], ws, tt, refl, refl, inl h)))))))

-- parts, of which the last may be a front
pub part_front : (ws : List TokenKind) → flat.front ws → (separated flat).front ws
part_front ws h = inl h

more_front : (qs : Phrases) (ws : List TokenKind) → AreGrouped qs → flat.front ws → (separated flat).front (all_tokens_of qs ++ token.Mark mark.Comma ∷ ws)
more_front (last p) ws g h =
    inr (tokens_of p, token.Mark mark.Comma ∷ ws, tt, refl, phrase_whole p g, inl ([], token.Mark mark.Comma ∷ ws, [], refl, refl, inr (token.Mark mark.Comma ∷ [], ws, tt, refl, refl, h)))
more_front (before p qs) ws g h =
    let more = commas_sentence qs g.1 in
    let rest = token.Mark mark.Comma ∷ (all_tokens_of qs ++ token.Mark mark.Comma ∷ ws) in
    inr (
      tokens_of p,
      rest,
      tt,
      append_assoc (tokens_of p) (token.Mark mark.Comma ∷ all_tokens_of qs) (token.Mark mark.Comma ∷ ws),
      phrase_whole p g.0,
      inl (token.Mark mark.Comma ∷ all_tokens_of qs, token.Mark mark.Comma ∷ ws, more.0, refl, more.1, inr (token.Mark mark.Comma ∷ [], ws, tt, refl, refl, h)),
    )

pub braces_front : (ws : List TokenKind) → (separated flat).front ws → flat.front (token.Mark mark.LeftBrace ∷ ws)
braces_front ws h = primary_front (token.Mark mark.LeftBrace ∷ ws) (inr (inr (inr (inr (inr (inl (inr (token.Mark mark.LeftBrace ∷ [], ws, tt, refl, refl, inl h))))))))

pub repeat_front : (n : ℕ) (ws : List TokenKind) → (separated flat).front ws → flat.front (token.Mark mark.LeftBrace ∷ token.Decimal n ∷ token.Mark mark.LeftBrace ∷ ws)
repeat_front n ws h =
    primary_front _ (inr (inr (inr (inr (inr (inr (inr (token.Mark mark.LeftBrace ∷ [], _, tt, refl, refl, inr (token.Decimal n ∷ [], _, n, refl, refl, inr (token.Mark mark.LeftBrace ∷ [], ws, tt, refl, refl, inl h))))))))))

-- behind its parts and the first brace
pub repeat_end_front : (n : ℕ) (qs : Phrases) → AreGrouped qs
    → flat.front (token.Mark mark.LeftBrace ∷ token.Decimal n ∷ token.Mark mark.LeftBrace ∷ (all_tokens_of qs ++ token.Mark mark.RightBrace ∷ []))
repeat_end_front n qs g =
    let parts = phrases_sentence qs g in
    primary_front _ (inr (inr (inr (inr (inr (inr (inr (
      token.Mark mark.LeftBrace ∷ [],
      _,
      tt,
      refl,
      refl,
      inr (
        token.Decimal n ∷ [],
        _,
        n,
        refl,
        refl,
        inr (
          token.Mark mark.LeftBrace ∷ [],
          _,
          tt,
          refl,
          refl,
          inr (all_tokens_of qs, token.Mark mark.RightBrace ∷ [], parts.0, refl, parts.1, inl (inr (tt, refl))),
        ),
      ),
    ))))))))

parts_front : (o : Option Phrases) (es : List Expr) (body ws : List TokenKind) → PartsOf o es body → flat.front ws → (separated flat).front (body ++ ws)
parts_front None es body ws h front = let P : List TokenKind → Type 0 = λ ts. (separated flat).front ts in subst P (sym (ap (λ (us : List TokenKind). us ++ ws) h.1)) (part_front ws front)
parts_front (Some qs) es body ws h front =
    let P : List TokenKind → Type 0 = λ ts. (separated flat).front ts in
    subst P (sym (ap (λ (us : List TokenKind). us ++ ws) h.2 ∙ append_assoc (all_tokens_of qs) (token.Mark mark.Comma ∷ []) ws)) (more_front qs ws h.0 front)

-- an expression may go on behind what waits
pub waits_front : (ps : List Pending) (f ws : List TokenKind) → Waits ps f → flat.front ws → flat.front (f ++ ws)
waits_front [] f ws h front = let P : List TokenKind → Type 0 = λ us. flat.front (us ++ ws) in subst P (sym h) front
waits_front (Group ∷ ps) f ws h front = joined f h.0 (token.Mark mark.LeftParen ∷ []) ws h.2 (waits_front ps h.0 (token.Mark mark.LeftParen ∷ ws) h.1 (group_front ws front))
waits_front (Operator o ∷ ps) f ws h front = joined f h.0 (token.Mark h.1 ∷ []) ws h.4 (waits_front ps h.0 (token.Mark h.1 ∷ ws) h.2 (unary_front h.1 o ws h.3 front))
waits_front (Left o a ∷ ps) f ws h front =
    let t = tokens_of h.2 in
    let m = token.Mark h.1 in
    joined f h.0 (t ++ m ∷ []) ws h.9 (let P : List TokenKind → Type 0 = λ us. flat.front (h.0 ++ us) in
    subst P (sym (append_assoc t (m ∷ []) ws)) (waits_front ps h.0 (t ++ m ∷ ws) h.3 (phrase_front h.2 (m ∷ ws) h.5 (binary_tail h.1 o ws h.4 front))))
waits_front (Choice c ∷ ps) f ws h front =
    let t = tokens_of h.1 in
    let q = token.Mark mark.Question in
    joined f h.0 (t ++ q ∷ []) ws h.7 (let P : List TokenKind → Type 0 = λ us. flat.front (h.0 ++ us) in
    subst P (sym (append_assoc t (q ∷ []) ws)) (waits_front ps h.0 (t ++ q ∷ ws) h.2 (phrase_front h.1 (q ∷ ws) h.3 (choice_tail ws front))))
waits_front (Otherwise c a ∷ ps) f ws h front =
    let t = tokens_of h.1 in
    let u = tokens_of h.2 in
    let q = token.Mark mark.Question in
    let colon = token.Mark mark.Colon in
    joined f h.0 (t ++ q ∷ (u ++ colon ∷ [])) ws h.10 (let P : List TokenKind → Type 0 = λ us. flat.front (h.0 ++ us) in
    subst P (sym (append_assoc t (q ∷ (u ++ colon ∷ [])) ws ∙ ap (λ (us : List TokenKind). t ++ q ∷ us) (append_assoc u (colon ∷ []) ws)))
    (waits_front ps h.0 (t ++ q ∷ (u ++ colon ∷ ws)) h.3 (phrase_front h.1 (q ∷ (u ++ colon ∷ ws)) h.4 (otherwise_tail h.2 ws h.5 front))))
waits_front (Parts es ∷ ps) f ws h front =
    joined f h.0 (token.Mark mark.LeftBrace ∷ h.1) ws h.5 (waits_front ps h.0 (token.Mark mark.LeftBrace ∷ (h.1 ++ ws)) h.3 (braces_front (h.1 ++ ws) (parts_front h.2 es h.1 ws h.4 front)))
waits_front (Repeated n es ∷ ps) f ws h front =
    joined f h.0 (token.Mark mark.LeftBrace ∷ token.Decimal n ∷ token.Mark mark.LeftBrace ∷ h.1) ws h.5
    (waits_front ps h.0 (token.Mark mark.LeftBrace ∷ token.Decimal n ∷ token.Mark mark.LeftBrace ∷ (h.1 ++ ws)) h.3 (repeat_front n (h.1 ++ ws) (parts_front h.2 es h.1 ws h.4 front)))

-- and something may stand behind what was found
pub has_front : (ps : List Pending) (x : Expr) (front : List TokenKind) (k : ℕ) (ws : List TokenKind) → Has ps x front k → TailFront ws → flat.front (front ++ ws)
has_front ps x front k ws h t = joined front h.before (tokens_of h.phrase) ws h.parts (waits_front ps h.before (tokens_of h.phrase ++ ws) h.waits (phrase_front h.phrase ws h.grouping t))

pub nothing_behind : TailFront []
nothing_behind = inl refl

-- The fronts of expressions: what may follow what.
use Rattle.std.proofs.Common.{◌≡◌, ℕ, zero, suc, List, [], ◌∷◌, ◌++◌, Option, Some, refl, ap, ◌∙◌, inl, inr, arith}
use Rattle.std.proofs.lemmas.List.{append-nil}
use Rattle.eq_vlex.specs.declared.mark.Mark.{Mark}
use Rattle.eq_vlex.specs.declared.mark.Mark.TheVariants as mark
use Rattle.eq_vlex.specs.declared.token.Constant.{Constant}
use Rattle.eq_vlex.specs.declared.token.TokenKind.{TokenKind}
use Rattle.eq_vlex.specs.declared.token.TokenKind.TheVariants as token
use Rattle.eq_vparse.specs.declared.tree.UnOp.TheVariants as un
use Rattle.eq_vparse.specs.declared.tree.BinOp.TheVariants as bin
use Rattle.eq_vparse.specs.Operators.{unary_of, binary_of}
use Rattle.eq_vparse.specs.Phrases.{operator, primary, shape}
use Rattle.eq_vparse.specs.Rules.{Rule, ◌>>=◌, ◌or◌, give, maybe, many, separated, name, decimal, sized, mark as mark_rule}
use Rattle.eq_vparse.proofs.Ruled.{Sub, sub_same, sub_nothing, sub_or, sub_bind, sub_maybe, sub_many, sub_separated, Live, live_one, live_give, live_or, live_bind, live_maybe, live_many, live_separated, Rises, Within, within_same, within_or, within_bind, within_maybe, within_many}

-- what stands behind a primary
abbrev pub tail_rule : Rule (Unit {0}) → Rule (Option (Unit {0}))
tail_rule inner = maybe ((operator binary_of >>= λ _. inner) or (do
  _ ← mark_rule mark.Question
  _ ← inner
  _ ← mark_rule mark.Colon
  inner))

-- a shape of shapes
abbrev pub body : Rule (Unit {0}) → Rule (Unit {0})
body inner = do
  _ ← many (operator unary_of)
  _ ← primary inner
  _ ← tail_rule inner
  give tt

sub_primary : (g h : Rule (Unit {0})) → Sub g h → Sub (primary g) (primary h)
sub_primary g h s =
    sub_or _ _ _ _ (sub_same _) (sub_or _ _ _ _ (sub_same _) (sub_or _ _ _ _ (sub_same _) (sub_or _ _ _ _ (sub_same _) (sub_or _ _ _ _ (sub_bind _ _ _ _ (sub_same _) (λ _. sub_bind _ _ _ _ s (λ _. sub_same _)))
    (sub_or _ _ _ _ (sub_bind _ _ _ _ (sub_same _) (λ _. sub_bind _ _ _ _ (sub_separated g h s) (λ _. sub_same _)))
    (sub_bind _ _ _ _ (sub_same _) (λ _. sub_bind _ _ _ _ (sub_same _) (λ _. sub_bind _ _ _ _ (sub_same _) (λ _. sub_bind _ _ _ _ (sub_separated g h s) (λ _. sub_same _))))))))))

sub_tail : (g h : Rule (Unit {0})) → Sub g h → Sub (tail_rule g) (tail_rule h)
sub_tail g h s = sub_maybe _ _ (sub_or _ _ _ _ (sub_bind _ _ _ _ (sub_same _) (λ _. s)) (sub_bind _ _ _ _ (sub_same _) (λ _. sub_bind _ _ _ _ s (λ _. sub_bind _ _ _ _ (sub_same _) (λ _. s)))))

pub sub_body : (g h : Rule (Unit {0})) → Sub g h → Sub (body g) (body h)
sub_body g h s = sub_bind _ _ _ _ (sub_same _) (λ _. sub_bind _ _ _ _ (sub_primary g h s) (λ _. sub_bind _ _ _ _ (sub_tail g h s) (λ _. sub_same _)))

pub shapes_rise : Rises shape
shapes_rise zero n le = sub_nothing (shape n)
shapes_rise (suc m) zero le = absurd (omega arith)
shapes_rise (suc m) (suc n) le = sub_body (shape m) (shape n) (shapes_rise m n (omega arith))

-- ---- each front of a shape goes on

live_operator : {O : Type 0} (of : Mark → Option O) (m : Mark) (o : O) → of m ≡ Some o → Live (operator of)
live_operator of m o e = record {
  some = (token.Mark m ∷ [], tt, (m, o, e, refl));
  goes_on = λ ts x. elim x [
    | inl is ↦ (token.Mark m ∷ [], tt, (m, o, e, ap (λ (us : List TokenKind). us ++ token.Mark m ∷ []) is))
    | inr h ↦ ([], tt, (h.0, h.1, h.2, append-nil ts ∙ h.3))
  ];
}

any_constant : Constant
any_constant = record { size = 1; value = 0 }

live_mark : (m : Mark) → Live (mark_rule m)
live_mark m = live_one (λ _. token.Mark m) tt

live_primary : (g : Rule (Unit {0})) → Live g → Live (primary g)
live_primary g s =
    live_or _ _ (live_bind _ _ (live_one token.Sized any_constant) (λ _. live_give tt))
    (live_or _ _ (live_bind _ _ (live_one token.Word []) (λ _. live_give tt))
    (live_or _ _ (live_bind _ _ (live_one token.Word []) (λ _. live_bind _ _ (live_mark mark.LeftBracket) (λ _. live_bind _ _ (live_one token.Decimal 0) (λ _. live_mark mark.RightBracket))))
    (live_or _ _ (live_bind _ _ (live_one token.Word []) (λ _. live_bind _ _ (live_mark mark.LeftBracket) (λ _. live_bind _ _ (live_one token.Decimal 0) (λ _.
    live_bind _ _ (live_mark mark.Colon) (λ _. live_bind _ _ (live_one token.Decimal 0) (λ _. live_mark mark.RightBracket))))))
    (live_or _ _ (live_bind _ _ (live_mark mark.LeftParen) (λ _. live_bind _ _ s (λ _. live_mark mark.RightParen)))
    (live_or _ _ (live_bind _ _ (live_mark mark.LeftBrace) (λ _. live_bind _ _ (live_separated g s) (λ _. live_mark mark.RightBrace)))
    (live_bind _ _ (live_mark mark.LeftBrace) (λ _. live_bind _ _ (live_one token.Decimal 0) (λ _. live_bind _ _ (live_mark mark.LeftBrace) (λ _.
    live_bind _ _ (live_separated g s) (λ _. live_bind _ _ (live_mark mark.RightBrace) (λ _. live_mark mark.RightBrace)))))))))))

live_tail : (g : Rule (Unit {0})) → Live g → Live (tail_rule g)
live_tail g s =
    live_maybe _ (live_or _ _ (live_bind _ _ (live_operator binary_of mark.Plus bin.Add refl) (λ _. s)) (live_bind _ _ (live_mark mark.Question) (λ _. live_bind _ _ s (λ _. live_bind _ _ (live_mark mark.Colon) (λ _. s)))))

pub live_body : (g : Rule (Unit {0})) → Live g → Live (body g)
live_body g s = live_bind _ _ (live_many _ (live_operator unary_of mark.Tilde un.Not refl)) (λ _. live_bind _ _ (live_primary g s) (λ _. live_bind _ _ (live_tail g s) (λ _. live_give tt)))

-- ---- a shape of any depth

abbrev pub flat : Rule (Unit {0})
flat = record { sentence = λ ts a. (n : ℕ) × (shape n).sentence ts a; front = λ ts. (n : ℕ) × (shape n).front ts }

within_flat : Within flat shape
within_flat = record { sentence = λ ts a h. h; front = λ ts h. h }

-- a rule that is the union of rules that grow
record Grown {A : Type 0} (g : Rule A) (c : ℕ → Rule A) : Type 0 where
  within : Within g c
  rises : Rises c

module _ {A : Type 0} where
  grown_same : (g : Rule A) → Grown g (λ _. g)
  grown_same g = record { within = within_same g; rises = λ m n le. sub_same g }

  grown_or : (g h : Rule A) (c d : ℕ → Rule A) → Grown g c → Grown h d → Grown (g or h) (λ n. c n or d n)
  grown_or g h c d s t = record { within = within_or g h c d s.within t.within; rises = λ m n le. sub_or (c m) (d m) (c n) (d n) (s.rises m n le) (t.rises m n le) }

  grown_bind : {B : Type 0} (g : Rule A) (f : A → Rule B) (c : ℕ → Rule A) (d : ℕ → A → Rule B) → Grown g c → ((a : A) → Grown (f a) (λ n. d n a)) → Grown (g >>= f) (λ n. c n >>= d n)
  grown_bind g f c d s t = record {
    within = within_bind g f c d s.within (λ a. (t a).within) s.rises (λ a. (t a).rises);
    rises = λ m n le. sub_bind (c m) (c n) (d m) (d n) (s.rises m n le) (λ a. (t a).rises m n le);
  }

  grown_maybe : (g : Rule A) (c : ℕ → Rule A) → Grown g c → Grown (maybe g) (λ n. maybe (c n))
  grown_maybe g c s = record { within = within_maybe g c s.within; rises = λ m n le. sub_maybe (c m) (c n) (s.rises m n le) }

  grown_many : (g : Rule A) (c : ℕ → Rule A) → Grown g c → Grown (many g) (λ n. many (c n))
  grown_many g c s = record { within = within_many g c s.within s.rises; rises = λ m n le. sub_many (c m) (c n) (s.rises m n le) }

grown_separated : {A : Type 0} (g : Rule A) (c : ℕ → Rule A) → Grown g c → Grown (separated g) (λ n. separated (c n))
grown_separated g c s =
    grown_bind g _ c (λ n a. many (mark_rule mark.Comma >>= λ _. c n) >>= λ rest. give (a ∷ rest)) s
    (λ a. grown_bind _ _ (λ n. many (mark_rule mark.Comma >>= λ _. c n)) (λ n rest. give (a ∷ rest))
    (grown_many _ (λ n. mark_rule mark.Comma >>= λ _. c n) (grown_bind _ _ (λ _. mark_rule mark.Comma) (λ n _. c n) (grown_same (mark_rule mark.Comma)) (λ _. s)))
    (λ rest. grown_same (give (a ∷ rest))))

module _ (g : Rule (Unit {0})) (c : ℕ → Rule (Unit {0})) (s : Grown g c) where
  grown_paren : Grown (mark_rule mark.LeftParen >>= λ _. g >>= λ _. mark_rule mark.RightParen) (λ n. mark_rule mark.LeftParen >>= λ _. c n >>= λ _. mark_rule mark.RightParen)
  grown_paren = grown_bind _ _ (λ _. mark_rule mark.LeftParen) (λ n _. c n >>= λ _. mark_rule mark.RightParen) (grown_same _)
      (λ _. grown_bind _ _ c (λ n _. mark_rule mark.RightParen) s (λ _. grown_same _))

  grown_braces : Grown (mark_rule mark.LeftBrace >>= λ _. separated g >>= λ _. mark_rule mark.RightBrace) (λ n. mark_rule mark.LeftBrace >>= λ _. separated (c n) >>= λ _. mark_rule mark.RightBrace)
  grown_braces = grown_bind _ _ (λ _. mark_rule mark.LeftBrace) (λ n _. separated (c n) >>= λ _. mark_rule mark.RightBrace) (grown_same _)
      (λ _. grown_bind _ _ (λ n. separated (c n)) (λ n _. mark_rule mark.RightBrace) (grown_separated g c s) (λ _. grown_same _))

  abbrev repeat_rule : Rule (Unit {0}) → Rule (Unit {0})
  repeat_rule inner = do
    _ ← mark_rule mark.LeftBrace
    _ ← decimal
    _ ← mark_rule mark.LeftBrace
    _ ← separated inner
    _ ← mark_rule mark.RightBrace
    mark_rule mark.RightBrace

  grown_repeat : Grown (repeat_rule g) (λ n. repeat_rule (c n))
  grown_repeat =
      grown_bind _ _ (λ _. mark_rule mark.LeftBrace) (λ n _. decimal >>= λ _. mark_rule mark.LeftBrace >>= λ _. separated (c n) >>= λ _. mark_rule mark.RightBrace >>= λ _. mark_rule mark.RightBrace) (grown_same _)
      (λ _. grown_bind _ _ (λ _. decimal) (λ n _. mark_rule mark.LeftBrace >>= λ _. separated (c n) >>= λ _. mark_rule mark.RightBrace >>= λ _. mark_rule mark.RightBrace) (grown_same _)
      (λ _. grown_bind _ _ (λ _. mark_rule mark.LeftBrace) (λ n _. separated (c n) >>= λ _. mark_rule mark.RightBrace >>= λ _. mark_rule mark.RightBrace) (grown_same _)
      (λ _. grown_bind _ _ (λ n. separated (c n)) (λ n _. mark_rule mark.RightBrace >>= λ _. mark_rule mark.RightBrace) (grown_separated g c s) (λ _. grown_same _))))

  grown_primary : Grown (primary g) (λ n. primary (c n))
  grown_primary =
      grown_or _ _ (λ _. sized >>= λ _. give tt) (λ n. _) (grown_same _)
      (grown_or _ _ (λ _. name >>= λ _. give tt) (λ n. _) (grown_same _)
      (grown_or _ _ (λ _. _) (λ n. _) (grown_same _)
      (grown_or _ _ (λ _. _) (λ n. _) (grown_same _)
      (grown_or _ _ (λ n. mark_rule mark.LeftParen >>= λ _. c n >>= λ _. mark_rule mark.RightParen) (λ n. _) grown_paren
      (grown_or _ _ (λ n. mark_rule mark.LeftBrace >>= λ _. separated (c n) >>= λ _. mark_rule mark.RightBrace) (λ n. repeat_rule (c n)) grown_braces grown_repeat)))))

  grown_tail : Grown (tail_rule g) (λ n. tail_rule (c n))
  grown_tail =
      grown_maybe _ (λ n. (operator binary_of >>= λ _. c n) or (mark_rule mark.Question >>= λ _. c n >>= λ _. mark_rule mark.Colon >>= λ _. c n))
      (grown_or _ _ (λ n. operator binary_of >>= λ _. c n) (λ n. mark_rule mark.Question >>= λ _. c n >>= λ _. mark_rule mark.Colon >>= λ _. c n)
      (grown_bind _ _ (λ _. operator binary_of) (λ n _. c n) (grown_same _) (λ _. s))
      (grown_bind _ _ (λ _. mark_rule mark.Question) (λ n _. c n >>= λ _. mark_rule mark.Colon >>= λ _. c n) (grown_same _)
      (λ _. grown_bind _ _ c (λ n _. mark_rule mark.Colon >>= λ _. c n) s (λ _. grown_bind _ _ (λ _. mark_rule mark.Colon) (λ n _. c n) (grown_same _) (λ _. s)))))

  grown_body : Grown (body g) (λ n. body (c n))
  grown_body =
      grown_bind _ _ (λ _. many (operator unary_of)) (λ n _. primary (c n) >>= λ _. tail_rule (c n) >>= λ _. give tt) (grown_same _)
      (λ _. grown_bind _ _ (λ n. primary (c n)) (λ n _. tail_rule (c n) >>= λ _. give tt) grown_primary
      (λ _. grown_bind _ _ (λ n. tail_rule (c n)) (λ n _. give tt) grown_tail (λ _. grown_same _)))

-- a shape of flat ones is flat
pub closed : Sub (body flat) flat
closed =
    let g = (grown_body flat shape (record { within = within_flat; rises = shapes_rise })).within in
    record {
      sentence = λ ts a h. (let x = g.sentence ts a h in (suc x.0, x.1));
      front = λ ts h. (let x = g.front ts h in (suc x.0, x.1));
    }

-- Rules of rules: what holds of parts holds of the whole.
use Rattle.std.proofs.Common.{ℕ, ◌+◌, ◌≤◌, List, [], ◌∷◌, ◌++◌, Option, Some, None, refl, sym, ap, subst, ◌∙◌, inl, inr, append_assoc, arith}
use Rattle.std.proofs.lemmas.List.{append-nil}
use Rattle.eq_vlex.specs.declared.token.TokenKind.{TokenKind}
use Rattle.eq_vparse.specs.Rules.{Rule, one, ◌>>=◌, ◌or◌, give, nothing, maybe, IsMaybe, many, AreMany, separated, mark}
use Rattle.eq_vlex.specs.declared.mark.Mark.TheVariants.{Comma}

-- ---- one rule has all that another has

pub record Sub {A : Type 0} (g h : Rule A) : Type 0 where
  pub sentence : (ts : List TokenKind) (a : A) → g.sentence ts a → h.sentence ts a
  pub front : (ts : List TokenKind) → g.front ts → h.front ts

module _ {A : Type 0} where
  pub sub_same : (g : Rule A) → Sub g g
  sub_same g = record { sentence = λ ts a h. h; front = λ ts h. h }

  pub sub_nothing : (g : Rule A) → Sub nothing g
  sub_nothing g = record { sentence = λ ts a h. absurd h; front = λ ts h. absurd h }

  pub sub_then : (f g h : Rule A) → Sub f g → Sub g h → Sub f h
  sub_then f g h s t = record { sentence = λ ts a x. t.sentence ts a (s.sentence ts a x); front = λ ts x. t.front ts (s.front ts x) }

  pub sub_or : (g h g2 h2 : Rule A) → Sub g g2 → Sub h h2 → Sub (g or h) (g2 or h2)
  sub_or g h g2 h2 s t = record {
    sentence = λ ts a x. elim x [
      | inl y ↦ inl (s.sentence ts a y)
      | inr y ↦ inr (t.sentence ts a y)
    ];
    front = λ ts x. elim x [
      | inl y ↦ inl (s.front ts y)
      | inr y ↦ inr (t.front ts y)
    ];
  }

  pub sub_bind : {B : Type 0} (g h : Rule A) (f e : A → Rule B) → Sub g h → ((a : A) → Sub (f a) (e a)) → Sub (g >>= f) (h >>= e)
  sub_bind g h f e s t = record {
    sentence = λ ts b x. (x.0, x.1, x.2, x.3, s.sentence x.0 x.2 x.4, (t x.2).sentence x.1 b x.5);
    front = λ ts x. elim x [
      | inl y ↦ inl (s.front ts y)
      | inr y ↦ inr (y.0, y.1, y.2, y.3, s.sentence y.0 y.2 y.4, (t y.2).front y.1 y.5)
    ];
  }

  sub_is_maybe : (g h : Rule A) → Sub g h → (ts : List TokenKind) (o : Option A) → IsMaybe g ts o → IsMaybe h ts o
  sub_is_maybe g h s ts None x = x
  sub_is_maybe g h s ts (Some a) x = s.sentence ts a x

  pub sub_maybe : (g h : Rule A) → Sub g h → Sub (maybe g) (maybe h)
  sub_maybe g h s = record {
    sentence = λ ts o x. sub_is_maybe g h s ts o x;
    front = λ ts x. elim x [
      | inl y ↦ inl y
      | inr y ↦ inr (s.front ts y)
    ];
  }

  sub_are_many : (g h : Rule A) → Sub g h → (all : List A) (ts : List TokenKind) → AreMany g ts all → AreMany h ts all
  sub_are_many g h s [] ts x = x
  sub_are_many g h s (a ∷ rest) ts x = (x.0, x.1, x.2, s.sentence x.0 a x.3, sub_are_many g h s rest x.1 x.4)

  pub sub_many : (g h : Rule A) → Sub g h → Sub (many g) (many h)
  sub_many g h s = record {
    sentence = λ ts all x. sub_are_many g h s all ts x;
    front = λ ts x. (x.0, x.1, x.2, x.3, sub_are_many g h s x.2 x.0 x.4, s.front x.1 x.5);
  }

pub sub_separated : {A : Type 0} (g h : Rule A) → Sub g h → Sub (separated g) (separated h)
sub_separated g h s =
    sub_bind g h _ _ s (λ a. sub_bind _ _ _ _ (sub_many _ _ (sub_bind (mark Comma) (mark Comma) (λ _. g) (λ _. h) (sub_same (mark Comma)) (λ _. s))) (λ rest. sub_same (give (a ∷ rest))))

-- ---- each front of a rule goes on to a sentence, and there is one

pub record Live {A : Type 0} (g : Rule A) : Type 0 where
  pub some : (ts : List TokenKind) × (a : A) × g.sentence ts a
  pub goes_on : (ts : List TokenKind) → g.front ts → (us : List TokenKind) × (a : A) × g.sentence (ts ++ us) a

module _ {A : Type 0} where
  pub live_one : (make : A → TokenKind) → A → Live (one make)
  live_one make a = record {
    some = (make a ∷ [], a, refl);
    goes_on = λ ts x. elim x [
      | inl e ↦ (make a ∷ [], a, ap (λ (us : List TokenKind). us ++ make a ∷ []) e)
      | inr y ↦ ([], y.0, append-nil ts ∙ y.1)
    ];
  }

  pub live_give : (a : A) → Live (give a)
  live_give a = record { some = ([], a, (refl, refl)); goes_on = λ ts e. ([], a, (append-nil ts ∙ e, refl)) }

  pub live_or : (g h : Rule A) → Live g → Live h → Live (g or h)
  live_or g h s t = record {
    some = (s.some.0, s.some.1, inl s.some.2);
    goes_on = λ ts x. elim x [
      | inl y ↦ (let z = s.goes_on ts y in (z.0, z.1, inl z.2))
      | inr y ↦ (let z = t.goes_on ts y in (z.0, z.1, inr z.2))
    ];
  }

  pub live_bind : {B : Type 0} (g : Rule A) (f : A → Rule B) → Live g → ((a : A) → Live (f a)) → Live (g >>= f)
  live_bind g f s t = record {
    some = (let x = s.some in let y = (t x.1).some in (x.0 ++ y.0, y.1, (x.0, y.0, x.1, refl, x.2, y.2)));
    goes_on = λ ts x. elim x [
      | inl h ↦ (let z = s.goes_on ts h in let y = (t z.1).some in (z.0 ++ y.0, y.1, (ts ++ z.0, y.0, z.1, sym (append_assoc ts z.0 y.0), z.2, y.2)))
      | inr h ↦ (let y = (t h.2).goes_on h.1 h.5 in (y.0, y.1, (h.0, h.1 ++ y.0, h.2, ap (λ (us : List TokenKind). us ++ y.0) h.3 ∙ append_assoc h.0 h.1 y.0, h.4, y.2)))
    ];
  }

  pub live_maybe : (g : Rule A) → Live g → Live (maybe g)
  live_maybe g s = record {
    some = ([], None, refl);
    goes_on = λ ts x. elim x [
      | inl e ↦ ([], None, append-nil ts ∙ e)
      | inr h ↦ (let z = s.goes_on ts h in (z.0, Some z.1, z.2))
    ];
  }

  -- one more at the end
  many_more : (g : Rule A) (past : List A) (us vs : List TokenKind) (a : A) → AreMany g us past → g.sentence vs a → AreMany g (us ++ vs) (past ++ a ∷ [])
  many_more g [] us vs a h x = (vs, [], ap (λ (ws : List TokenKind). ws ++ vs) h ∙ sym (append-nil vs), x, refl)
  many_more g (b ∷ past) us vs a h x = (h.0, h.1 ++ vs, ap (λ (ws : List TokenKind). ws ++ vs) h.2 ∙ append_assoc h.0 h.1 vs, h.3, many_more g past h.1 vs a h.4 x)

  pub live_many : (g : Rule A) → Live g → Live (many g)
  live_many g s = record {
    some = ([], [], refl);
    goes_on = λ ts x. (let z = s.goes_on x.1 x.5 in (
      z.0,
      x.2 ++ z.1 ∷ [],
      let P : List TokenKind → Type 0 = λ us. AreMany g us (x.2 ++ z.1 ∷ []) in
          subst P (sym (ap (λ (us : List TokenKind). us ++ z.0) x.3 ∙ append_assoc x.0 x.1 z.0)) (many_more g x.2 x.0 (x.1 ++ z.0) z.1 x.4 z.2),
    ));
  }

pub live_separated : {A : Type 0} (g : Rule A) → Live g → Live (separated g)
live_separated g s = live_bind g _ s (λ a. live_bind _ _ (live_many _ (live_bind (mark Comma) (λ _. g) (live_one _ tt) (λ _. s))) (λ rest. live_give (a ∷ rest)))

-- ---- a rule is the union of rules that grow

abbrev pub Rises : {A : Type 0} → (ℕ → Rule A) → Type 0
Rises c = (m n : ℕ) → m ≤ n → Sub (c m) (c n)

pub record Within {A : Type 0} (g : Rule A) (c : ℕ → Rule A) : Type 0 where
  pub sentence : (ts : List TokenKind) (a : A) → g.sentence ts a → (n : ℕ) × (c n).sentence ts a
  pub front : (ts : List TokenKind) → g.front ts → (n : ℕ) × (c n).front ts

module _ {A : Type 0} where
  pub within_same : (g : Rule A) → Within g (λ _. g)
  within_same g = record { sentence = λ ts a h. (0, h); front = λ ts h. (0, h) }

  pub within_or : (g h : Rule A) (c d : ℕ → Rule A) → Within g c → Within h d → Within (g or h) (λ n. c n or d n)
  within_or g h c d s t = record {
    sentence = λ ts a x. elim x [
      | inl y ↦ (let z = s.sentence ts a y in (z.0, inl z.1))
      | inr y ↦ (let z = t.sentence ts a y in (z.0, inr z.1))
    ];
    front = λ ts x. elim x [
      | inl y ↦ (let z = s.front ts y in (z.0, inl z.1))
      | inr y ↦ (let z = t.front ts y in (z.0, inr z.1))
    ];
  }

  pub within_bind : {B : Type 0} (g : Rule A) (f : A → Rule B) (c : ℕ → Rule A) (d : ℕ → A → Rule B) → Within g c → ((a : A) → Within (f a) (λ n. d n a)) → Rises c → ((a : A) → Rises (λ n. d n a))
      → Within (g >>= f) (λ n. c n >>= d n)
  within_bind g f c d s t up over = record {
    sentence = λ ts b x. (let y = s.sentence x.0 x.2 x.4 in let z = (t x.2).sentence x.1 b x.5 in
        (y.0 + z.0, (x.0, x.1, x.2, x.3, (up y.0 (y.0 + z.0) (omega arith)).sentence x.0 x.2 y.1, (over x.2 z.0 (y.0 + z.0) (omega arith)).sentence x.1 b z.1)));
    front = λ ts x. elim x [
      | inl h ↦ (let y = s.front ts h in (y.0, inl y.1))
      | inr h ↦ (let y = s.sentence h.0 h.2 h.4 in let z = (t h.2).front h.1 h.5 in
          (y.0 + z.0, inr (h.0, h.1, h.2, h.3, (up y.0 (y.0 + z.0) (omega arith)).sentence h.0 h.2 y.1, (over h.2 z.0 (y.0 + z.0) (omega arith)).front h.1 z.1)))
    ];
  }

  within_is_maybe : (g : Rule A) (c : ℕ → Rule A) → Within g c → (ts : List TokenKind) (o : Option A) → IsMaybe g ts o → (n : ℕ) × IsMaybe (c n) ts o
  within_is_maybe g c s ts None x = (0, x)
  within_is_maybe g c s ts (Some a) x = s.sentence ts a x

  pub within_maybe : (g : Rule A) (c : ℕ → Rule A) → Within g c → Within (maybe g) (λ n. maybe (c n))
  within_maybe g c s = record {
    sentence = λ ts o x. within_is_maybe g c s ts o x;
    front = λ ts x. elim x [
      | inl e ↦ (0, inl e)
      | inr h ↦ (let z = s.front ts h in (z.0, inr z.1))
    ];
  }

  within_are_many : (g : Rule A) (c : ℕ → Rule A) → Within g c → Rises c → (all : List A) (ts : List TokenKind) → AreMany g ts all → (n : ℕ) × AreMany (c n) ts all
  within_are_many g c s up [] ts x = (0, x)
  within_are_many g c s up (a ∷ rest) ts x =
      let y = s.sentence x.0 a x.3 in
      let z = within_are_many g c s up rest x.1 x.4 in
      let n = y.0 + z.0 in
      (n, (x.0, x.1, x.2, (up y.0 n (omega arith)).sentence x.0 a y.1, (sub_many (c z.0) (c n) (up z.0 n (omega arith))).sentence x.1 rest z.1))

  pub within_many : (g : Rule A) (c : ℕ → Rule A) → Within g c → Rises c → Within (many g) (λ n. many (c n))
  within_many g c s up = record {
    sentence = λ ts all x. within_are_many g c s up all ts x;
    front = λ ts x. (let y = within_are_many g c s up x.2 x.0 x.4 in let z = s.front x.1 x.5 in
        (y.0 + z.0, (x.0, x.1, x.2, x.3, (sub_many (c y.0) (c (y.0 + z.0)) (up y.0 (y.0 + z.0) (omega arith))).sentence x.0 x.2 y.1, (up z.0 (y.0 + z.0) (omega arith)).front x.1 z.1)));
  }

-- When a reader and a rule agree: what is read is a sentence, and a sentence before what may follow it is read.
use Rattle.std.proofs.Common.{◌≡◌, ℕ, cond, List, [], ◌∷◌, ◌++◌, drop, Option, Some, None, refl, sym, ap, subst, ◌∙◌, inl, inr, append_assoc}
use Rattle.std.proofs.lemmas.Option.{same_Some}
use Rattle.std.proofs.lemmas.Bool.{cases_Bool}
use Rattle.eq_vlex.specs.declared.key.Key.{Key}
use Rattle.eq_vlex.specs.declared.mark.Mark.{Mark}
use Rattle.eq_vlex.specs.declared.token.TokenKind.{TokenKind}
use Rattle.eq_vlex.specs.declared.token.TokenKind.TheVariants as token
use Rattle.eq_vparse.specs.declared.stop.Stop.{Stop}
use Rattle.eq_vparse.specs.Tests.{is_mark, is_key}
use Rattle.eq_vparse.specs.Reading.{Reading, read, stopped, wrong, next, ◌>>=◌, done, name_at, decimal_at, sized_at, expect, expect_key}
use Rattle.eq_vparse.specs.Rules.{Rule, name, decimal, sized, key, mark, give}
use Rattle.eq_vparse.proofs.Standing.{mark_stands, mark_here, key_stands, key_here}

-- ---- readings

abbrev left_of : {A : Type 0} → Reading A → List TokenKind
left_of (read a r) = r
left_of (stopped e) = []

abbrev value_of : {A : Type 0} → Reading A → Option A
value_of (read a r) = Some a
value_of (stopped e) = None

pub same_value : {A : Type 0} (a b : A) (r s : List TokenKind) → read a r ≡ read b s → a ≡ b
same_value a b r s e = same_Some a b (ap value_of e)

pub same_left : {A : Type 0} (a b : A) (r s : List TokenKind) → read a r ≡ read b s → r ≡ s
same_left a b r s e = ap left_of e

pub never_read : {A : Type 0} (e : Stop) (a : A) (r : List TokenKind) → stopped e ≡ read a r → ⊥
never_read e a r is = absurd cc

-- what is read in two steps
pub next_read : {A B : Type 0} (o : Reading A) (f : A → List TokenKind → Reading B) (b : B) (r : List TokenKind) → next o f ≡ read b r
    → (a : A) × (m : List TokenKind) × (o ≡ read a m) × (f a m ≡ read b r)
next_read (read a m) f b r e = (a, m, refl, e)
next_read (stopped s) f b r e = absurd (never_read s b r e)

-- ---- agreement

abbrev pub Sound : {A : Type 0} → Rule A → (List TokenKind → Reading A) → Type 0
Sound g p = (ts : List TokenKind) (a : _) (r : List TokenKind) → p ts ≡ read a r → (us : List TokenKind) × (ts ≡ us ++ r) × g.sentence us a

abbrev pub Complete : {A : Type 0} → Rule A → (List TokenKind → Reading A) → (List TokenKind → Type 0) → Type 0
Complete g p F = (us : List TokenKind) (a : _) (r : List TokenKind) → g.sentence us a → F r → p (us ++ r) ≡ read a r

-- the same of a relation between tokens and values
abbrev pub SoundBy : {A : Type 0} → (List TokenKind → A → Type 0) → (List TokenKind → Reading A) → Type 0
SoundBy G p = (ts : List TokenKind) (a : _) (r : List TokenKind) → p ts ≡ read a r → (us : List TokenKind) × (ts ≡ us ++ r) × G us a

abbrev pub CompleteBy : {A : Type 0} → (List TokenKind → A → Type 0) → (List TokenKind → Reading A) → (List TokenKind → Type 0) → Type 0
CompleteBy G p F = (us : List TokenKind) (a : _) (r : List TokenKind) → G us a → F r → p (us ++ r) ≡ read a r

abbrev pub Chain : {A B : Type 0} → (List TokenKind → A → Type 0) → (A → List TokenKind → B → Type 0) → List TokenKind → B → Type 0
Chain G K ts b = (us : List TokenKind) × (vs : List TokenKind) × (a : _) × (ts ≡ us ++ vs) × G us a × K a vs b

-- whatever follows
abbrev pub Anything : List TokenKind → Type 0
Anything ts = Unit {0}

-- ---- one token

pub name_sound : Sound name name_at
unfolding name_at
name_sound [] a r e = absurd cc
name_sound (token.Word n ∷ ts) a r e = (token.Word n ∷ [], ap (λ (x : List TokenKind). token.Word n ∷ x) (same_left n a ts r e), ap (λ (x : List ℕ). token.Word x ∷ []) (same_value n a ts r e))
name_sound (token.Key k ∷ ts) a r e = absurd cc
name_sound (token.Mark m ∷ ts) a r e = absurd cc
name_sound (token.Decimal d ∷ ts) a r e = absurd cc
name_sound (token.Sized c ∷ ts) a r e = absurd cc

pub decimal_sound : Sound decimal decimal_at
unfolding decimal_at
decimal_sound [] a r e = absurd cc
decimal_sound (token.Decimal n ∷ ts) a r e = (token.Decimal n ∷ [], ap (λ (x : List TokenKind). token.Decimal n ∷ x) (same_left n a ts r e), ap (λ (x : ℕ). token.Decimal x ∷ []) (same_value n a ts r e))
decimal_sound (token.Key k ∷ ts) a r e = absurd cc
decimal_sound (token.Mark m ∷ ts) a r e = absurd cc
decimal_sound (token.Word d ∷ ts) a r e = absurd cc
decimal_sound (token.Sized c ∷ ts) a r e = absurd cc

pub sized_sound : Sound sized sized_at
unfolding sized_at
sized_sound [] a r e = absurd cc
sized_sound (token.Sized n ∷ ts) a r e = (token.Sized n ∷ [], ap (λ (x : List TokenKind). token.Sized n ∷ x) (same_left n a ts r e), ap (λ x. token.Sized x ∷ []) (same_value n a ts r e))
sized_sound (token.Key k ∷ ts) a r e = absurd cc
sized_sound (token.Mark m ∷ ts) a r e = absurd cc
sized_sound (token.Word d ∷ ts) a r e = absurd cc
sized_sound (token.Decimal c ∷ ts) a r e = absurd cc

pub name_complete : Complete name name_at Anything
unfolding name_at
name_complete us a r s f = rw s refl

pub decimal_complete : Complete decimal decimal_at Anything
unfolding decimal_at
decimal_complete us a r s f = rw s refl

pub sized_complete : Complete sized sized_at Anything
unfolding sized_at
sized_complete us a r s f = rw s refl

pub mark_sound : (m : Mark) → Sound (mark m) (expect m)
unfolding expect
mark_sound m ts a r e = elim (cases_Bool (is_mark m ts)) [
  | inl y ↦
      let at : read tt (drop 1 ts) ≡ read a r = subst (λ b. cond b (read tt (drop 1 ts)) (wrong ts) ≡ read a r) y e in
      (token.Mark m ∷ [], mark_stands m ts y ∙ ap (λ (x : List TokenKind). token.Mark m ∷ x) (same_left tt a _ r at), refl)
  | inr n ↦ absurd (never_read _ a r (subst (λ b. cond b (read tt (drop 1 ts)) (wrong ts) ≡ read a r) n e))
]

pub mark_complete : (m : Mark) → Complete (mark m) (expect m) Anything
unfolding expect
mark_complete m us a r s f = rw s (rw (mark_here m r) refl)

pub key_sound : (k : Key) → Sound (key k) (expect_key k)
unfolding expect_key
key_sound m ts a r e = elim (cases_Bool (is_key m ts)) [
  | inl y ↦
      let at : read tt (drop 1 ts) ≡ read a r = subst (λ b. cond b (read tt (drop 1 ts)) (wrong ts) ≡ read a r) y e in
      (token.Key m ∷ [], key_stands m ts y ∙ ap (λ (x : List TokenKind). token.Key m ∷ x) (same_left tt a _ r at), refl)
  | inr n ↦ absurd (never_read _ a r (subst (λ b. cond b (read tt (drop 1 ts)) (wrong ts) ≡ read a r) n e))
]

pub key_complete : (k : Key) → Complete (key k) (expect_key k) Anything
unfolding expect_key
key_complete m us a r s f = rw s (rw (key_here m r) refl)

-- ---- sequences

pub done_sound : {A : Type 0} (a : A) → Sound (give a) (done a)
done_sound a ts b r e = ([], same_left a b ts r e, (refl, sym (same_value a b ts r e)))

pub done_complete : {A : Type 0} (a : A) (F : List TokenKind → Type 0) → Complete (give a) (done a) F
done_complete a F us b r s f = rw (s.0, s.1) refl

pub then_sound : {A B : Type 0} (G : List TokenKind → A → Type 0) (K : A → List TokenKind → B → Type 0) (p : List TokenKind → Reading A) (q : A → List TokenKind → Reading B)
    → SoundBy G p → ((a : A) → SoundBy (K a) (q a)) → SoundBy (Chain G K) (p >>= q)
then_sound G K p q first then ts b r e =
    let n = next_read (p ts) q b r e in
    let h = first ts n.0 n.1 n.2 in
    let k = then n.0 n.1 b r n.3 in
    (h.0 ++ k.0, h.1 ∙ ap (λ (x : List TokenKind). h.0 ++ x) k.1 ∙ sym (append_assoc h.0 k.0 r), (h.0, k.0, n.0, refl, h.2, k.2))

-- what follows the first part is the second part and what follows that
pub then_complete : {A B : Type 0} (G : List TokenKind → A → Type 0) (K : A → List TokenKind → B → Type 0) (p : List TokenKind → Reading A) (q : A → List TokenKind → Reading B) (E F : List TokenKind → Type 0)
    → CompleteBy G p E → ((a : A) → CompleteBy (K a) (q a) F) → ((a : A) (vs : List TokenKind) (b : B) (r : List TokenKind) → K a vs b → F r → E (vs ++ r))
    → CompleteBy (Chain G K) (p >>= q) F
then_complete G K p q E F first then follows us b r s fr =
    let h = first s.0 s.2 (s.1 ++ r) s.4 (follows s.2 s.1 b r s.5 fr) in
    let k = then s.2 s.1 b r s.5 fr in
    rw (s.3, append_assoc s.0 s.1 r, h) k

-- the first part may be followed by anything
pub simply : {A B : Type 0} (G : List TokenKind → A → Type 0) (K : A → List TokenKind → B → Type 0) (p : List TokenKind → Reading A) (q : A → List TokenKind → Reading B) (F : List TokenKind → Type 0)
    → CompleteBy G p Anything → ((a : A) → CompleteBy (K a) (q a) F) → CompleteBy (Chain G K) (p >>= q) F
simply G K p q F first then = then_complete G K p q Anything F first then (λ a vs b r k fr. tt)

-- ---- lists that grow

-- what a reader puts behind what is there already
abbrev pub SoundInto : {S A : Type 0} → Rule A → (S → A → S) → (S → List TokenKind → Reading S) → Type 0
SoundInto g put p = (s : _) (ts : List TokenKind) (s' : _) (r : List TokenKind) → p s ts ≡ read s' r → (us : List TokenKind) × (a : _) × (ts ≡ us ++ r) × g.sentence us a × (s' ≡ put s a)

abbrev pub CompleteInto : {S A : Type 0} → Rule A → (S → A → S) → (S → List TokenKind → Reading S) → (List TokenKind → Type 0) → Type 0
CompleteInto g put p F = (s : _) (us : List TokenKind) (a : _) (r : List TokenKind) → g.sentence us a → F r → p s (us ++ r) ≡ read (put s a) r

-- all put behind what is there already, one after the other
abbrev pub put_all : {S A : Type 0} → (S → A → S) → S → List A → S
put_all put s [] = s
put_all put s (a ∷ rest) = put_all put (put s a) rest

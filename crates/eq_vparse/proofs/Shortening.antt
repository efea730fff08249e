-- Readers that leave fewer tokens, or no more tokens, than they are given.
use Rattle.std.proofs.Common.{◌≡◌, ℕ, zero, suc, ◌+◌, ◌<◌, ◌≤◌, Bool, true, false, cond, List, [], ◌∷◌, ◌++◌, length, drop, refl, ap, subst, ◌∙◌, inl, inr, length-append, arith, ◌⊎◌}
use Rattle.std.proofs.lemmas.Bool.{cases_Bool}
use Rattle.eq_vlex.specs.declared.key.Key.{Key}
use Rattle.eq_vlex.specs.declared.mark.Mark.{Mark}
use Rattle.eq_vlex.specs.declared.token.TokenKind.{TokenKind}
use Rattle.eq_vlex.specs.declared.token.TokenKind.TheVariants as token
use Rattle.eq_vparse.specs.declared.tree.Expr.{Expr}
use Rattle.eq_vparse.specs.declared.machine.State.{State}
use Rattle.eq_vparse.specs.declared.machine.Step.{Step}
use Rattle.eq_vparse.specs.declared.machine.Step.TheVariants.{More, Whole}
use Rattle.eq_vparse.specs.Tests.{is_key}
use Rattle.eq_vparse.specs.Reading.{Reading, read, stopped, next, ◌>>=◌, done, takes_key, expect, expect_key}
use Rattle.eq_vparse.specs.Looping.{Turn, again, ended, after, turned, iterate, loop, turn_until, repeat_until}
use Rattle.eq_vparse.specs.Machine.{step_at, turn_of, turn_at, expr_at}
use Rattle.eq_vparse.specs.TargetReading.{target_at}
use Rattle.eq_vparse.proofs.Standing.{key_stands}
use Rattle.eq_vparse.proofs.Agreement.{same_left, never_read, next_read, mark_sound, key_sound}
use Rattle.eq_vparse.proofs.Looping.{Progresses}
use Rattle.eq_vparse.proofs.Progress.{step_shorter, step_leaves, again-is}
use Rattle.eq_vparse.proofs.TargetTurns.{after_again, never_again}
use Rattle.eq_vparse.proofs.TargetSentences.{target_sound, target_long}

abbrev pub Shortens : {A : Type 0} → (List TokenKind → Reading A) → Type 0
Shortens p = (ts : List TokenKind) (a : _) (r : List TokenKind) → p ts ≡ read a r → length r < length ts

abbrev pub Keeps : {A : Type 0} → (List TokenKind → Reading A) → Type 0
Keeps p = (ts : List TokenKind) (a : _) (r : List TokenKind) → p ts ≡ read a r → length r ≤ length ts

pub shorter_keeps : {A : Type 0} (p : List TokenKind → Reading A) → Shortens p → Keeps p
shorter_keeps p h ts a r e = let less : length r < length ts = h ts a r e in omega arith

pub keeps_then : {A B : Type 0} (p : List TokenKind → Reading A) (f : A → List TokenKind → Reading B) → Keeps p → ((a : A) → Keeps (f a)) → Keeps (p >>= f)
keeps_then p f h g ts b r e =
    let n = next_read (p ts) f b r e in
    let first : length n.1 ≤ length ts = h ts n.0 n.1 n.2 in
    let then : length r ≤ length n.1 = g n.0 n.1 b r n.3 in
    omega arith

pub shortens_then : {A B : Type 0} (p : List TokenKind → Reading A) (f : A → List TokenKind → Reading B) → Shortens p → ((a : A) → Keeps (f a)) → Shortens (p >>= f)
shortens_then p f h g ts b r e =
    let n = next_read (p ts) f b r e in
    let first : length n.1 < length ts = h ts n.0 n.1 n.2 in
    let then : length r ≤ length n.1 = g n.0 n.1 b r n.3 in
    omega arith

pub then_shortens : {A B : Type 0} (p : List TokenKind → Reading A) (f : A → List TokenKind → Reading B) → Keeps p → ((a : A) → Shortens (f a)) → Shortens (p >>= f)
then_shortens p f h g ts b r e =
    let n = next_read (p ts) f b r e in
    let first : length n.1 ≤ length ts = h ts n.0 n.1 n.2 in
    let then : length r < length n.1 = g n.0 n.1 b r n.3 in
    omega arith

pub done_keeps : {A : Type 0} (a : A) → Keeps (done a)
done_keeps a ts b r e = let same : length ts ≡ length r = ap length (same_left a b ts r e) in omega arith

pub expect_shortens : (m : Mark) → Shortens (expect m)
expect_shortens m ts a r e =
    let h = mark_sound m ts a r e in
    let whole : ts ≡ token.Mark m ∷ r = h.1 ∙ ap (λ (x : List TokenKind). x ++ r) h.2 in
    let long : length ts ≡ suc (length r) = ap length whole in
    omega arith

pub expect_key_shortens : (k : Key) → Shortens (expect_key k)
expect_key_shortens k ts a r e =
    let h = key_sound k ts a r e in
    let whole : ts ≡ token.Key k ∷ r = h.1 ∙ ap (λ (x : List TokenKind). x ++ r) h.2 in
    let long : length ts ≡ suc (length r) = ap length whole in
    omega arith

-- ---- a test whether something stands there

-- the two ways in which a reading that begins with a key may go on
pub key_taken : {A : Type 0} (k : Key) (ts : List TokenKind) (f : Bool → List TokenKind → Reading A) (a : A) (r : List TokenKind) → next (takes_key k ts) f ≡ read a r
    → ((ts ≡ token.Key k ∷ drop 1 ts) × (f true (drop 1 ts) ≡ read a r)) ⊎ ((is_key k ts ≡ false) × (f false ts ≡ read a r))
unfolding takes_key
key_taken k ts f a r e = elim (cases_Bool (is_key k ts)) [
  | inl y ↦ inl (key_stands k ts y, subst (λ b. next (cond b (read true (drop 1 ts)) (read false ts)) f ≡ read a r) y e)
  | inr n ↦ inr (n, subst (λ b. next (cond b (read true (drop 1 ts)) (read false ts)) f ≡ read a r) n e)
]

-- ---- loops

abbrev left_of : {S A : Type 0} → Turn S A → List TokenKind
left_of (again s left) = left
left_of (ended o) = []

abbrev end_or : {S A : Type 0} → Turn S A → Reading A → Reading A
end_or (again s left) p = p
end_or (ended o) p = o

same_end : {S A : Type 0} (o p : Reading A) → ◌≡◌ {A = Turn S A} (ended o) (ended p) → o ≡ p
same_end o p e = ap (λ t. end_or t o) e

ended_never : {S A : Type 0} (s : S) (left : List TokenKind) (o : Reading A) → again s left ≡ ended o → ⊥
ended_never s left o e = absurd cc

-- a loop leaves no more tokens where its turns do
module _ {S A : Type 0} (step : S → List TokenKind → Turn S A) (on : (s : S) (ts : List TokenKind) (s' : S) (left : List TokenKind) → step s ts ≡ again s' left → length left ≤ length ts)
    (off : (s : S) (ts : List TokenKind) (a : A) (r : List TokenKind) → step s ts ≡ ended (read a r) → length r ≤ length ts) where
  turn_keeps : (n : ℕ) → ((s : S) → Keeps (iterate n step s)) → (s : S) (ts : List TokenKind) (turn : Turn S A) (a : A) (r : List TokenKind) → step s ts ≡ turn → turned turn (iterate n step) ≡ read a r
      → length r ≤ length ts
  turn_keeps n keeps s ts (again s' left) a r is h =
      let less : length left ≤ length ts = on s ts s' left is in
      let more : length r ≤ length left = keeps s' left a r h in
      omega arith
  turn_keeps n keeps s ts (ended o) a r is h = off s ts a r (is ∙ ap ended h)

  pub loop_keeps : (n : ℕ) (s : S) → Keeps (iterate n step s)
  loop_keeps zero s ts a r e = absurd (never_read _ a r e)
  loop_keeps (suc n) s ts a r e = turn_keeps n (loop_keeps n) s ts (step s ts) a r refl e

-- ---- expressions and targets

whole_is : (o : Reading Step) (x : Expr) (left : List TokenKind) → turn_of o ≡ ended (read x left) → (y : Expr) × (o ≡ read (Whole y) left)
whole_is (read (More s) m) x left e = absurd (ended_never s m _ e)
whole_is (read (Whole y) m) x left e = (y, ap (λ (z : List TokenKind). read (Whole y) z) (same_left y x m left (same_end {S = State} (read y m) (read x left) e)))
whole_is (stopped f) x left e = absurd (never_read f x left (same_end {S = State} (stopped f) (read x left) e))

turn_shorter : (s : State) (ts : List TokenKind) (s' : State) (left : List TokenKind) → turn_at s ts ≡ again s' left → length left ≤ length ts
turn_shorter s ts s' left e = let less : length left < length ts = step_shorter s ts s' left (again-is (step_at s ts) s' left e) in omega arith

turn_leaves : (s : State) (ts : List TokenKind) (x : Expr) (left : List TokenKind) → turn_at s ts ≡ ended (read x left) → length left ≤ length ts
turn_leaves s ts x left e = let w = whole_is (step_at s ts) x left e in step_leaves s ts w.0 left w.1

pub expr_keeps : (k : ℕ) → Keeps (expr_at k)
unfolding expr_at loop
expr_keeps k ts e r h = loop_keeps turn_at turn_shorter turn_leaves (suc (length ts)) _ ts e r h

pub target_shortens : (k : ℕ) → Shortens (target_at k)
target_shortens k ts t r e =
    let h = target_sound k ts t r e in
    let some : 1 ≤ length h.0 = target_long h.0 t h.2.0 in
    let long : length ts ≡ length h.0 + length r = ap length h.1 ∙ length-append h.0 r in
    omega arith

-- ---- lists up to a stop

-- a turn that goes on has read one more
until_more : {S : Type 0} (stops : List TokenKind → Bool) (p : S → List TokenKind → Reading S) (s : S) (ts : List TokenKind) (s' : S) (left : List TokenKind) → turn_until stops p s ts ≡ again s' left
    → (a : S) × (p s ts ≡ read a left)
until_more {S = S} stops p s ts s' left e = elim (cases_Bool (stops ts)) [
  | inl y ↦ absurd (never_again _ s' left (rw y at e))
  | inr n ↦
      let a = after_again (p s ts) again s' left (rw n at e) in
      let same : a.1 ≡ left = ap left_of a.3 in
      (a.0, a.2 ∙ ap (λ (x : List TokenKind). read a.0 x) same)
]

after_never : {S : Type 0} (o : Reading S) (a : S) (r : List TokenKind) → after o again ≡ ended (read a r) → ⊥
after_never (read b m) a r e = ended_never b m (read a r) e
after_never {S = S} (stopped x) a r e = never_read x a r (same_end {S = S} (stopped x) (read a r) e)

until_end : {S : Type 0} (stops : List TokenKind → Bool) (p : S → List TokenKind → Reading S) (s : S) (ts : List TokenKind) (a : S) (r : List TokenKind) → turn_until stops p s ts ≡ ended (read a r) → ts ≡ r
until_end {S = S} stops p s ts a r e = elim (cases_Bool (stops ts)) [
  | inl y ↦ same_left s a ts r (same_end {S = S} (read s ts) (read a r) (rw y at e))
  | inr n ↦ absurd (after_never (p s ts) a r (rw n at e))
]

pub until_keeps : {S : Type 0} (stops : List TokenKind → Bool) (p : S → List TokenKind → Reading S) → ((s : S) → Keeps (p s)) → (s : S) → Keeps (repeat_until stops p s)
unfolding loop
until_keeps stops p keeps s ts a r e = loop_keeps (turn_until stops p)
    (λ x us x' left h. (let m = until_more stops p x us x' left h in keeps x us m.0 left m.1))
    (λ x us b left h. (let same : length us ≡ length left = ap length (until_end stops p x us b left h) in omega arith))
    (suc (length ts)) s ts a r e

pub until_progresses : {S : Type 0} (stops : List TokenKind → Bool) (p : S → List TokenKind → Reading S) → ((s : S) → Shortens (p s)) → Progresses (turn_until stops p)
until_progresses stops p shortens s ts s' left e = let m = until_more stops p s ts s' left e in shortens s ts m.0 left m.1

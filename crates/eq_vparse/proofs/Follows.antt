-- Readers of parts that may be left out, and what is put behind what is there already.
use Rattle.std.proofs.Common.{◌≡◌, Bool, true, false, cond, List, [], ◌∷◌, ◌++◌, drop, Option, Some, None, refl, sym, ap, subst, ◌∙◌, append_assoc}
use Rattle.eq_vlex.specs.declared.key.Key.{Key}
use Rattle.eq_vlex.specs.declared.mark.Mark.{Mark}
use Rattle.eq_vlex.specs.declared.mark.Mark.TheVariants.{Comma, Semicolon, RightParen, Assign as Equals}
use Rattle.eq_vlex.specs.declared.token.TokenKind.{TokenKind}
use Rattle.eq_vlex.specs.declared.token.TokenKind.TheVariants as token
use Rattle.eq_vparse.specs.Tests.{is_mark, is_key}
use Rattle.eq_vparse.specs.Reading.{Reading, read, next, ◌>>=◌, done, name_at, decimal_at, sized_at, expect, expect_key, takes, takes_key, some_if, behind}
use Rattle.eq_vparse.specs.Rules.{Rule, name, decimal, sized, maybe, mark, key, give}
use Rattle.eq_vparse.specs.Rules as rule
use Rattle.eq_vparse.specs.Machine.{ends_expr, EndsExpr}
use Rattle.eq_vparse.proofs.Standing.{mark_stands, mark_here, key_stands, key_here}
use Rattle.eq_vparse.proofs.Turns.{took}
use Rattle.eq_vparse.proofs.Agreement.{Sound, Complete, SoundBy, CompleteBy, Chain, SoundInto, CompleteInto, next_read, same_value, same_left, Anything, name_complete, decimal_complete, sized_complete, mark_complete, key_complete}

-- ---- what follows

-- this mark comes next
abbrev pub Next : Mark → List TokenKind → Type 0
Next m ts = (rest : List TokenKind) × (ts ≡ token.Mark m ∷ rest)

abbrev pub NextKey : Key → List TokenKind → Type 0
NextKey k ts = (rest : List TokenKind) × (ts ≡ token.Key k ∷ rest)

-- a comma, `;` or `)` comes next
abbrev pub ends_entry : List TokenKind → Bool
ends_entry (token.Mark Comma ∷ ts) = true
ends_entry (token.Mark Semicolon ∷ ts) = true
ends_entry (token.Mark RightParen ∷ ts) = true
ends_entry ts = false

abbrev pub EndsEntry : List TokenKind → Type 0
EndsEntry ts = ends_entry ts ≡ true

pub entry_ends_expr : (ts : List TokenKind) → EndsEntry ts → EndsExpr ts
unfolding ends_expr
entry_ends_expr (token.Mark Comma ∷ ts) e = refl
entry_ends_expr (token.Mark Semicolon ∷ ts) e = refl
entry_ends_expr (token.Mark RightParen ∷ ts) e = refl
entry_ends_expr _ e = absurd cc

pub entry_no_equals : (ts : List TokenKind) → EndsEntry ts → is_mark Equals ts ≡ false
unfolding is_mark
entry_no_equals (token.Mark Comma ∷ ts) e = refl
entry_no_equals (token.Mark Semicolon ∷ ts) e = refl
entry_no_equals (token.Mark RightParen ∷ ts) e = refl
entry_no_equals _ e = absurd cc

pub next_mark : {B : Type 0} (m : Mark) (K : Unit {0} → List TokenKind → B → Type 0) (vs : List TokenKind) (b : B) (r : List TokenKind) → Chain (mark m).sentence K vs b → Next m (vs ++ r)
next_mark m K vs b r s = (s.1 ++ r, ap (λ (x : List TokenKind). x ++ r) s.3 ∙ ap (λ (x : List TokenKind). (x ++ s.1) ++ r) s.4)

pub next_key : {B : Type 0} (k : Key) (K : Unit {0} → List TokenKind → B → Type 0) (vs : List TokenKind) (b : B) (r : List TokenKind) → Chain (key k).sentence K vs b → NextKey k (vs ++ r)
next_key k K vs b r s = (s.1 ++ r, ap (λ (x : List TokenKind). x ++ r) s.3 ∙ ap (λ (x : List TokenKind). (x ++ s.1) ++ r) s.4)

-- ---- sequences that are read whole

-- completeness with a name for the whole list, so that antt finds the reader by itself
abbrev pub Completes : {A : Type 0} → (List TokenKind → A → Type 0) → (List TokenKind → Reading A) → (List TokenKind → Type 0) → Type 0
Completes G p F = (us : List TokenKind) (a : _) (r ts : List TokenKind) → G us a → F r → ts ≡ us ++ r → p ts ≡ read a r

pub completes : {A : Type 0} (G : List TokenKind → A → Type 0) (p : List TokenKind → Reading A) (F : List TokenKind → Type 0) → CompleteBy G p F → Completes G p F
completes G p F c us a r ts h f is = ap p is ∙ c us a r h f

pub completed : {A : Type 0} (G : List TokenKind → A → Type 0) (p : List TokenKind → Reading A) (F : List TokenKind → Type 0) → Completes G p F → CompleteBy G p F
completed G p F c us a r h f = c us a r (us ++ r) h f refl

pub chained : {A B : Type 0} (G : List TokenKind → A → Type 0) (K : A → List TokenKind → B → Type 0) (p : List TokenKind → Reading A) (q : A → List TokenKind → Reading B) (E F : List TokenKind → Type 0)
    → Completes G p E → ((a : A) → Completes (K a) (q a) F) → ((a : A) (vs : List TokenKind) (b : B) (r : List TokenKind) → K a vs b → F r → E (vs ++ r)) → Completes (Chain G K) (p >>= q) F
chained G K p q E F first then follows us b r ts s fr is =
    let whole : ts ≡ s.0 ++ (s.1 ++ r) = is ∙ ap (λ (x : List TokenKind). x ++ r) s.3 ∙ append_assoc s.0 s.1 r in
    let h : p ts ≡ read s.2 (s.1 ++ r) = first s.0 s.2 (s.1 ++ r) ts s.4 (follows s.2 s.1 b r s.5 fr) whole in
    ap (λ (o : Reading _). next o q) h ∙ then s.2 s.1 b r (s.1 ++ r) s.5 fr refl

-- the same where what may follow the first part hangs on its value
pub chained_on : {A B : Type 0} (G : List TokenKind → A → Type 0) (K : A → List TokenKind → B → Type 0) (p : List TokenKind → Reading A) (q : A → List TokenKind → Reading B) (E : A → List TokenKind → Type 0) (F : List TokenKind → Type 0)
    → ((us : List TokenKind) (a : A) (r ts : List TokenKind) → G us a → E a r → ts ≡ us ++ r → p ts ≡ read a r) → ((a : A) → Completes (K a) (q a) F)
    → ((a : A) (vs : List TokenKind) (b : B) (r : List TokenKind) → K a vs b → F r → E a (vs ++ r)) → Completes (Chain G K) (p >>= q) F
chained_on G K p q E F first then follows us b r ts s fr is =
    let whole : ts ≡ s.0 ++ (s.1 ++ r) = is ∙ ap (λ (x : List TokenKind). x ++ r) s.3 ∙ append_assoc s.0 s.1 r in
    let h : p ts ≡ read s.2 (s.1 ++ r) = first s.0 s.2 (s.1 ++ r) ts s.4 (follows s.2 s.1 b r s.5 fr) whole in
    ap (λ (o : Reading _). next o q) h ∙ then s.2 s.1 b r (s.1 ++ r) s.5 fr refl

-- the first part may be followed by anything
pub simply : {A B : Type 0} (G : List TokenKind → A → Type 0) (K : A → List TokenKind → B → Type 0) (p : List TokenKind → Reading A) (q : A → List TokenKind → Reading B) (F : List TokenKind → Type 0)
    → Completes G p Anything → ((a : A) → Completes (K a) (q a) F) → Completes (Chain G K) (p >>= q) F
simply G K p q F first then = chained G K p q Anything F first then (λ a vs b r k fr. tt)

pub given : {A : Type 0} (a : A) (F : List TokenKind → Type 0) → Completes (give a).sentence (done a) F
given a F us b r ts h f is = ap (done a) (is ∙ ap (λ (x : List TokenKind). x ++ r) h.0) ∙ ap (λ x. read x r) (sym h.1)

-- the last part: what may follow it may follow the sequence
pub at_last : {A B : Type 0} (G : List TokenKind → A → Type 0) (p : List TokenKind → Reading A) (f : A → B) (F : List TokenKind → Type 0) → Completes G p F → Completes (Chain G (λ a. (give (f a)).sentence)) (p >>= λ a. done (f a)) F
at_last G p f F c = chained G (λ a. (give (f a)).sentence) p (λ a. done (f a)) F F c (λ a. given (f a) F) (λ a vs b r k fr. subst F (ap (λ (x : List TokenKind). x ++ r) (sym k.0)) fr)

-- a part before a mark or a key
pub before_mark : {A B : Type 0} (m : Mark) (G : List TokenKind → A → Type 0) (L : A → Unit {0} → List TokenKind → B → Type 0) (p : List TokenKind → Reading A) (q : A → List TokenKind → Reading B) (F : List TokenKind → Type 0)
    → Completes G p (Next m) → ((a : A) → Completes (Chain (mark m).sentence (L a)) (q a) F) → Completes (Chain G (λ a. Chain (mark m).sentence (L a))) (p >>= q) F
before_mark m G L p q F first then = chained G (λ a. Chain (mark m).sentence (L a)) p q (Next m) F first then (λ a vs b r k fr. next_mark m (L a) vs b r k)

pub before_key : {A B : Type 0} (w : Key) (G : List TokenKind → A → Type 0) (L : A → Unit {0} → List TokenKind → B → Type 0) (p : List TokenKind → Reading A) (q : A → List TokenKind → Reading B) (F : List TokenKind → Type 0)
    → Completes G p (NextKey w) → ((a : A) → Completes (Chain (key w).sentence (L a)) (q a) F) → Completes (Chain G (λ a. Chain (key w).sentence (L a))) (p >>= q) F
before_key w G L p q F first then = chained G (λ a. Chain (key w).sentence (L a)) p q (NextKey w) F first then (λ a vs b r k fr. next_key w (L a) vs b r k)

-- single tokens, whatever follows
pub a_name : Completes name.sentence name_at Anything
a_name = completes name.sentence name_at Anything name_complete

pub a_decimal : Completes decimal.sentence decimal_at Anything
a_decimal = completes decimal.sentence decimal_at Anything decimal_complete

pub a_sized : Completes sized.sentence sized_at Anything
a_sized = completes sized.sentence sized_at Anything sized_complete

pub a_mark : (m : Mark) → Completes (mark m).sentence (expect m) Anything
a_mark m = completes (mark m).sentence (expect m) Anything (mark_complete m)

pub a_key : (k : Key) → Completes (key k).sentence (expect_key k) Anything
a_key k = completes (key k).sentence (expect_key k) Anything (key_complete k)

-- ---- what may be left out

some_sound : {A : Type 0} (g : Rule A) (p : List TokenKind → Reading A) → Sound g p → (m : Mark) (ts : List TokenKind) (b : Bool) (mid : List TokenKind) (a : Option A) (r : List TokenKind) → takes m ts ≡ read b mid → some_if p b mid ≡ read a r
    → (us : List TokenKind) × (ts ≡ us ++ r) × (maybe (rule.◌>>=◌ (mark m) (λ _. g))).sentence us a
some_sound g p sound m ts true mid a r t e =
    let k = next_read (p mid) (λ x. done (Some x)) a r e in
    let h = sound mid k.0 k.1 k.2 in
    let w = took m ts mid true t in
    let front : ts ≡ token.Mark m ∷ mid = mark_stands m ts w.0 ∙ ap (λ (x : List TokenKind). token.Mark m ∷ x) w.1 in
    let P : Option _ → Type 0 = λ x. (maybe (rule.◌>>=◌ (mark m) (λ _. g))).sentence (token.Mark m ∷ h.0) x in
    let end : k.1 ≡ r = same_left (Some k.0) a k.1 r k.3 in
    (token.Mark m ∷ h.0, front ∙ ap (λ (x : List TokenKind). token.Mark m ∷ x) (h.1 ∙ ap (λ (x : List TokenKind). h.0 ++ x) end), subst P (same_value (Some k.0) a k.1 r k.3) (token.Mark m ∷ [], h.0, tt, refl, refl, h.2))
some_sound g p sound m ts false mid a r t e =
    let w = took m ts mid false t in
    let P : Option _ → Type 0 = λ x. (maybe (rule.◌>>=◌ (mark m) (λ _. g))).sentence [] x in
    ([], w.1 ∙ same_left None a mid r e, subst P (same_value None a mid r e) refl)

pub behind_sound : {A : Type 0} (g : Rule A) (p : List TokenKind → Reading A) (m : Mark) → Sound g p → Sound (maybe (rule.◌>>=◌ (mark m) (λ _. g))) (behind m p)
behind_sound g p m sound ts a r e =
    let n = next_read (takes m ts) (some_if p) a r e in
    some_sound g p sound m ts n.0 n.1 a r n.2 n.3

pub behind_complete : {A : Type 0} (g : Rule A) (p : List TokenKind → Reading A) (m : Mark) (G F : List TokenKind → Type 0) → Complete g p G → ((ts : List TokenKind) → F ts → G ts) → ((ts : List TokenKind) → F ts → is_mark m ts ≡ false)
    → Complete (maybe (rule.◌>>=◌ (mark m) (λ _. g))) (behind m p) F
unfolding takes
behind_complete g p m G F complete follows none us None r s f = rw (s, none r f) refl
behind_complete g p m G F complete follows none us (Some x) r s f =
    rw (s.3, s.4, mark_here m (s.1 ++ r), complete s.1 x r s.5 (follows r f)) refl

-- ---- what is put behind what is there already

-- each sentence of the second relation is one of the first, with f of its value
abbrev pub Within : {A B : Type 0} → (A → B) → (List TokenKind → A → Type 0) → (List TokenKind → B → Type 0) → Type 0
Within f G H = (us : List TokenKind) (b : _) → H us b → (a : _) × G us a × (b ≡ f a)

-- and the other way round
abbrev pub Covers : {A B : Type 0} → (A → B) → (List TokenKind → A → Type 0) → (List TokenKind → B → Type 0) → Type 0
Covers f G H = (us : List TokenKind) (a : _) (b : _) → G us a → b ≡ f a → H us b

pub within_then : {X A B : Type 0} (f : A → B) (G : List TokenKind → X → Type 0) (K : X → List TokenKind → A → Type 0) (L : X → List TokenKind → B → Type 0) → ((x : X) → Within f (K x) (L x)) → Within f (Chain G K) (Chain G L)
within_then f G K L h us b s = (let k = h s.2 s.1 b s.5 in (k.0, (s.0, s.1, s.2, s.3, s.4, k.1), k.2))

pub covers_then : {X A B : Type 0} (f : A → B) (G : List TokenKind → X → Type 0) (K : X → List TokenKind → A → Type 0) (L : X → List TokenKind → B → Type 0) → ((x : X) → Covers f (K x) (L x)) → Covers f (Chain G K) (Chain G L)
covers_then f G K L h us a b s is = (s.0, s.1, s.2, s.3, s.4, h s.2 s.1 a b s.5 is)

pub within_give : {A B : Type 0} (f : A → B) (a : A) (b : B) → b ≡ f a → Within f (give a).sentence (give b).sentence
within_give f a b e us c s = (a, (s.0, refl), s.1 ∙ e)

pub covers_give : {A B : Type 0} (f : A → B) (a : A) (b : B) → b ≡ f a → Covers f (give a).sentence (give b).sentence
covers_give f a b e us c d s is = (s.0, is ∙ ap f s.1 ∙ sym e)

pub into_sound : {S A : Type 0} (g : Rule A) (put : S → A → S) (H : S → List TokenKind → S → Type 0) (p : S → List TokenKind → Reading S) → ((s : S) → Within (put s) g.sentence (H s)) → ((s : S) → SoundBy (H s) (p s)) → SoundInto g put p
into_sound g put H p within sound s ts s' r e =
    let h = sound s ts s' r e in
    let w = within s h.0 s' h.2 in
    (h.0, w.0, h.1, w.1, w.2)

pub into_complete : {S A : Type 0} (g : Rule A) (put : S → A → S) (H : S → List TokenKind → S → Type 0) (p : S → List TokenKind → Reading S) (F : List TokenKind → Type 0) → ((s : S) → Covers (put s) g.sentence (H s)) → ((s : S) → Completes (H s) (p s) F)
    → CompleteInto g put p F
into_complete g put H p F covers complete s us a r h fr = complete s us (put s a) r (us ++ r) (covers s us a (put s a) h refl) fr refl

-- ---- a key that may be left out

-- the key stands there, or nothing does
abbrev pub Skip : Key → List TokenKind → Bool → Type 0
Skip k us true = us ≡ token.Key k ∷ []
Skip k us false = us ≡ []

took_key_on : (k : Key) (ts : List TokenKind) (test : Bool) → is_key k ts ≡ test → (b : Bool) (r : List TokenKind) → cond test (read true (drop 1 ts)) (read false ts) ≡ read b r → (us : List TokenKind) × (ts ≡ us ++ r) × Skip k us b
took_key_on k ts true y b r e =
    let P : Bool → Type 0 = λ x. Skip k (token.Key k ∷ []) x in
    (token.Key k ∷ [], key_stands k ts y ∙ ap (λ (x : List TokenKind). token.Key k ∷ x) (same_left true b (drop 1 ts) r e), subst P (same_value true b (drop 1 ts) r e) refl)
took_key_on k ts false n b r e =
    let P : Bool → Type 0 = λ x. Skip k [] x in
    ([], same_left false b ts r e, subst P (same_value false b ts r e) refl)

pub skip_sound : (k : Key) → SoundBy (Skip k) (takes_key k)
unfolding takes_key
skip_sound k ts b r e = took_key_on k ts (is_key k ts) refl b r e

-- where the key is left out, it doesn't come next
abbrev pub NoKey : Key → Bool → List TokenKind → Type 0
NoKey k true ts = Unit {0}
NoKey k false ts = is_key k ts ≡ false

pub skip_complete : (k : Key) (us : List TokenKind) (b : Bool) (r ts : List TokenKind) → Skip k us b → NoKey k b r → ts ≡ us ++ r → takes_key k ts ≡ read b r
unfolding takes_key
skip_complete k us true r ts h f is = rw (is, h, key_here k r) refl
skip_complete k us false r ts h f is = rw (is, h, f) refl

skipped : (k : Key) (us : List TokenKind) (b : Bool) → Skip k us b → (a : Option (Unit {0})) × (maybe (key k)).sentence us a
skipped k us true h = (Some tt, h)
skipped k us false h = (None, h)

skips : (k : Key) (us : List TokenKind) (a : Option (Unit {0})) → (maybe (key k)).sentence us a → (b : Bool) × Skip k us b
skips k us (Some x) h = (true, h)
skips k us None h = (false, h)

pub within_skip : {A B : Type 0} (k : Key) (f : A → B) (K : List TokenKind → A → Type 0) (L : List TokenKind → B → Type 0) → Within f K L → Within f (Chain (maybe (key k)).sentence (λ _. K)) (Chain (Skip k) (λ _. L))
within_skip k f K L h us b s =
    let w = h s.1 b s.5 in
    let x = skipped k s.0 s.2 s.4 in
    (w.0, (s.0, s.1, x.0, s.3, x.1, w.1), w.2)

pub covers_skip : {A B : Type 0} (k : Key) (f : A → B) (K : List TokenKind → A → Type 0) (L : List TokenKind → B → Type 0) → Covers f K L → Covers f (Chain (maybe (key k)).sentence (λ _. K)) (Chain (Skip k) (λ _. L))
covers_skip k f K L h us a b s is =
    let x = skips k s.0 s.2 s.4 in
    (s.0, s.1, x.0, s.3, x.1, h s.1 a b s.5 is)

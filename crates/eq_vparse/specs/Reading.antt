-- Reading a phrase at the front of a list of tokens: what is read and what is left, or why reading stops.
use Rattle.std.specs.Prelude.{◌≡◌, ◌≢◌, ℕ, Bool, true, false, not, List, ◌∷◌, map, length, drop, Option, Some, None, Result, Ok, Err, if◌then◌else◌}
use Rattle.eq_vlex.specs.declared.key.Key.{Key}
use Rattle.eq_vlex.specs.declared.mark.Mark.{Mark}
use Rattle.eq_vlex.specs.declared.token.Constant.{Constant}
use Rattle.eq_vlex.specs.declared.token.Token.{Token}
use Rattle.eq_vlex.specs.declared.token.TokenKind.{TokenKind}
use Rattle.eq_vlex.specs.declared.token.TokenKind.TheVariants as token
use Rattle.eq_vparse.specs.Tests.{is_mark, is_key}
use Rattle.eq_vparse.specs.declared.stop.Stop.{Stop}
use Rattle.eq_vparse.specs.declared.stop.Stop.TheVariants as stop

-- tokens without their places
abbrev pub kinds : List Token → List TokenKind
kinds tokens = map (λ t. t.kind) tokens

pub data Reading (A : Type 0) : Type 0 where
  read : A → List TokenKind → Reading A
  stopped : Stop → Reading A

-- no sentence goes on at the front of these tokens
abbrev pub wrong : {A : Type 0} → List TokenKind → Reading A
wrong ts = stopped (stop.Syntax (length ts))

-- reading goes on with what was read, at what is left
abbrev pub next : {A B : Type 0} → Reading A → (A → List TokenKind → Reading B) → Reading B
next (read a left) f = f a left
next (stopped e) f = stopped e

infixl 10 ◌>>=◌
abbrev pub ◌>>=◌ : {A B : Type 0} → (List TokenKind → Reading A) → (A → List TokenKind → Reading B) → List TokenKind → Reading B
(p >>= f) ts = next (p ts) f

-- What a call answers is what is read, and the cursor then stands at what is left; want of memory says nothing.
abbrev pub Reads : {A : Type 0} → Result A Stop → List TokenKind → Reading A → Type 0
Reads (Ok a) left reading = reading ≡ read a left
Reads (Err e) left reading = e ≢ stop.Memory → reading ≡ stopped e

-- the same of a call that also puts what it reads into a list
abbrev pub Fills : {S : Type 0} → Result (Unit {0}) Stop → List TokenKind → S → Reading S → Type 0
Fills (Ok _) left all reading = reading ≡ read all left
Fills (Err e) left all reading = e ≢ stop.Memory → reading ≡ stopped e

-- ---- one token

unfoldable pub name_at : List TokenKind → Reading (List ℕ)
name_at (token.Word n ∷ ts) = read n ts
name_at ts = wrong ts

unfoldable pub decimal_at : List TokenKind → Reading ℕ
decimal_at (token.Decimal d ∷ ts) = read d ts
decimal_at ts = wrong ts

unfoldable pub sized_at : List TokenKind → Reading Constant
sized_at (token.Sized c ∷ ts) = read c ts
sized_at ts = wrong ts

abbrev pub done : {A : Type 0} → A → List TokenKind → Reading A
done a ts = read a ts

-- goes over a mark, and says whether it stood there
unfoldable pub takes : Mark → List TokenKind → Reading Bool
takes m ts = if is_mark m ts then read true (drop 1 ts) else read false ts

unfoldable pub takes_key : Key → List TokenKind → Reading Bool
takes_key k ts = if is_key k ts then read true (drop 1 ts) else read false ts

unfoldable pub expect : Mark → List TokenKind → Reading (Unit {0})
expect m ts = if is_mark m ts then read tt (drop 1 ts) else wrong ts

unfoldable pub expect_key : Key → List TokenKind → Reading (Unit {0})
expect_key k ts = if is_key k ts then read tt (drop 1 ts) else wrong ts

-- ---- what may be left out

abbrev pub some_if : {A : Type 0} → (List TokenKind → Reading A) → Bool → List TokenKind → Reading (Option A)
some_if p true = p >>= λ a. done (Some a)
some_if p false = done None

-- a mark and what stands behind it, or nothing
abbrev pub behind : {A : Type 0} → Mark → (List TokenKind → Reading A) → List TokenKind → Reading (Option A)
behind m p = takes m >>= some_if p

-- something up to a token that stops it, or nothing
abbrev pub unless : {A : Type 0} → (List TokenKind → Bool) → (List TokenKind → Reading A) → List TokenKind → Reading (Option A)
unless stops p ts = some_if p (not (stops ts)) ts

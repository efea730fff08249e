-- A reading turn by turn is what its first turn says, and then the reading from there.
use Rattle.std.proofs.Common.{◌≡◌, ℕ, zero, suc, ◌<◌, List, length, refl, arith}
use Rattle.eq_vlex.specs.declared.token.TokenKind.{TokenKind}
use Rattle.eq_vparse.specs.Reading.{Reading}
use Rattle.eq_vparse.specs.Looping.{Turn, again, ended, turned, iterate, loop}

-- each turn that goes on takes a token
abbrev pub Progresses : {S A : Type 0} → (S → List TokenKind → Turn S A) → Type 0
Progresses step = (s : _) (ts : List TokenKind) (later : _) (left : List TokenKind) → step s ts ≡ again later left → length left < length ts

module _ {S A : Type 0} where
  -- a turn followed by readings that say the same
  turned-same : (turn : Turn S A) (f g : S → List TokenKind → Reading A) → ((s : S) (left : List TokenKind) → turn ≡ again s left → f s left ≡ g s left) → turned turn f ≡ turned turn g
  turned-same (again s left) f g same = same s left refl
  turned-same (ended reading) f g same = refl

  -- with enough turns their number doesn't matter
  enough : (step : S → List TokenKind → Turn S A) → Progresses step → (m n : ℕ) (s : S) (ts : List TokenKind) → length ts < m → length ts < n → iterate m step s ts ≡ iterate n step s ts
  enough step progress zero n s ts few less = absurd (omega arith)
  enough step progress (suc m) zero s ts few less = absurd (omega arith)
  enough step progress (suc m) (suc n) s ts few less =
      turned-same (step s ts) (iterate m step) (iterate n step) (λ later left is. (let p = progress s ts later left is in enough step progress m n later left (omega arith) (omega arith)))

  pub loop-is : (step : S → List TokenKind → Turn S A) → Progresses step → (s : S) (ts : List TokenKind) → loop step s ts ≡ turned (step s ts) (loop step)
  unfolding loop
  loop-is step progress s ts =
      turned-same (step s ts) (iterate (length ts) step) (loop step) (λ later left is. (let p = progress s ts later left is in enough step progress (length ts) (suc (length left)) later left p (omega arith)))

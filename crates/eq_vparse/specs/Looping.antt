-- Reading turn by turn: each turn takes tokens and goes on, or ends the reading.
use Rattle.std.specs.Prelude.{ℕ, zero, suc, Bool, List, length, drop, if◌then◌else◌}
use Rattle.eq_vlex.specs.declared.mark.Mark.TheVariants.{Comma}
use Rattle.eq_vlex.specs.declared.token.TokenKind.{TokenKind}
use Rattle.eq_vparse.specs.Reading.{Reading, read, stopped, wrong}
use Rattle.eq_vparse.specs.Tests.{is_mark}

-- what one turn says: the state and the tokens to go on with, or the end
pub data Turn (S A : Type 0) : Type 0 where
  again : S → List TokenKind → Turn S A
  ended : Reading A → Turn S A

-- where a turn goes on, what follows decides
abbrev pub turned : {S A : Type 0} → Turn S A → (S → List TokenKind → Reading A) → Reading A
turned (again s left) goes = goes s left
turned (ended reading) goes = reading

-- at most so many turns
abbrev pub iterate : {S A : Type 0} → ℕ → (S → List TokenKind → Turn S A) → S → List TokenKind → Reading A
iterate zero step s ts = wrong ts
iterate (suc n) step s ts = turned (step s ts) (iterate n step)

-- as many turns as there may be where each one takes a token
unfoldable pub loop : {S A : Type 0} → (S → List TokenKind → Turn S A) → S → List TokenKind → Reading A
loop step s ts = iterate (suc (length ts)) step s ts

-- a turn that begins with a reading
abbrev pub after : {S A B : Type 0} → Reading A → (A → List TokenKind → Turn S B) → Turn S B
after (read a left) f = f a left
after (stopped e) f = ended (stopped e)

-- readings with commas between them, each of which puts something behind what is there already
abbrev pub comma_turn : {S : Type 0} → (S → List TokenKind → Reading S) → S → List TokenKind → Turn S S
comma_turn p s ts = after (p s ts) (λ more left. if is_mark Comma left then again more (drop 1 left) else ended (read more left))

abbrev pub comma_list : {S : Type 0} → (S → List TokenKind → Reading S) → S → List TokenKind → Reading S
comma_list p s ts = loop (comma_turn p) s ts

-- readings up to a token that stops them, which is not taken
abbrev pub turn_until : {S : Type 0} → (List TokenKind → Bool) → (S → List TokenKind → Reading S) → S → List TokenKind → Turn S S
turn_until stops p s ts = if stops ts then ended (read s ts) else after (p s ts) again

abbrev pub repeat_until : {S : Type 0} → (List TokenKind → Bool) → (S → List TokenKind → Reading S) → S → List TokenKind → Reading S
repeat_until stops p s ts = loop (turn_until stops p) s ts

-- What a test of the next token says of it.
use Rattle.std.proofs.Common.{◌≡◌, ℕ, true, List, [], ◌∷◌, get_or, drop, refl, sym, ap, ◌∙◌, arith}
use Rattle.std.specs.Prelude.{◌==◌}
use Rattle.std.proofs.lemmas.Bool.Decides.{nat_tests}
use Rattle.eq_vlex.specs.declared.key.Key.{Key}
use Rattle.eq_vlex.specs.declared.key.Key.TheVariants as key
use Rattle.eq_vlex.specs.declared.mark.Mark.{Mark}
use Rattle.eq_vlex.specs.declared.mark.Mark.TheVariants as mark
use Rattle.eq_vlex.specs.declared.token.TokenKind.{TokenKind}
use Rattle.eq_vlex.specs.declared.token.TokenKind.TheVariants as token
use Rattle.eq_vparse.specs.Tests.{mark_number, key_number, is_mark, is_key}

-- the marks and the keys in the order of their numbers
marks : List Mark
marks = mark.CaseEqual ∷ mark.CaseNotEqual ∷ mark.Equal ∷ mark.NotEqual ∷ mark.LessEqual ∷ mark.GreaterEqual ∷ mark.ShiftLeft ∷ mark.ShiftRight ∷ mark.LogicalAnd ∷ mark.LogicalOr ∷ mark.TildeAnd ∷ mark.TildeOr ∷ mark.TildeXor ∷ mark.XorTilde ∷ mark.LeftParen ∷ mark.RightParen ∷ mark.LeftBracket ∷ mark.RightBracket ∷ mark.LeftBrace ∷ mark.RightBrace ∷ mark.Semicolon ∷ mark.Comma ∷ mark.Dot ∷ mark.Colon ∷ mark.At ∷ mark.Assign ∷ mark.Question ∷ mark.Tilde ∷ mark.Exclamation ∷ mark.And ∷ mark.Or ∷ mark.Xor ∷ mark.Plus ∷ mark.Minus ∷ mark.Less ∷ mark.Greater ∷ []

keys : List Key
keys = key.Module ∷ key.Endmodule ∷ key.Input ∷ key.Output ∷ key.Wire ∷ key.Reg ∷ key.Assign ∷ key.Always ∷ key.Initial ∷ key.Posedge ∷ key.Begin ∷ key.End ∷ key.If ∷ key.Else ∷ key.And ∷ key.Nand ∷ key.Or ∷ key.Nor ∷ key.Xor ∷ key.Xnor ∷ key.Buf ∷ key.Not ∷ key.Reserved ∷ []

mark_back : (m : Mark) → get_or marks (mark_number m) mark.Comma ≡ m
unfolding marks
mark_back mark.CaseEqual = refl
mark_back _ = refl

key_back : (k : Key) → get_or keys (key_number k) key.End ≡ k
unfolding keys
key_back key.Module = refl
key_back _ = refl

number_test : (m n : ℕ) → (m == n) ≡ true → m ≡ n
number_test m n e = grind (arith, nat_tests)

pub same_mark : (m n : Mark) → (mark_number m == mark_number n) ≡ true → m ≡ n
same_mark m n e = sym (mark_back m) ∙ ap (λ i. get_or marks i mark.Comma) (number_test _ _ e) ∙ mark_back n

pub same_key : (j k : Key) → (key_number j == key_number k) ≡ true → j ≡ k
same_key j k e = sym (key_back j) ∙ ap (λ i. get_or keys i key.End) (number_test _ _ e) ∙ key_back k

number_same : (m : ℕ) → (m == m) ≡ true
number_same m = grind (arith, nat_tests)

-- the mark stands there
pub mark_stands : (m : Mark) (ts : List TokenKind) → is_mark m ts ≡ true → ts ≡ token.Mark m ∷ drop 1 ts
unfolding is_mark
mark_stands m [] e = absurd cc
mark_stands m (token.Mark n ∷ ts) e = ap (λ k. token.Mark k ∷ ts) (same_mark n m e)
mark_stands m (token.Word w ∷ ts) e = absurd cc
mark_stands m (token.Key k ∷ ts) e = absurd cc
mark_stands m (token.Decimal d ∷ ts) e = absurd cc
mark_stands m (token.Sized c ∷ ts) e = absurd cc

pub mark_here : (m : Mark) (ts : List TokenKind) → is_mark m (token.Mark m ∷ ts) ≡ true
unfolding is_mark
mark_here m ts = number_same (mark_number m)

pub key_stands : (k : Key) (ts : List TokenKind) → is_key k ts ≡ true → ts ≡ token.Key k ∷ drop 1 ts
unfolding is_key
key_stands k [] e = absurd cc
key_stands k (token.Key j ∷ ts) e = ap (λ i. token.Key i ∷ ts) (same_key j k e)
key_stands k (token.Word w ∷ ts) e = absurd cc
key_stands k (token.Mark m ∷ ts) e = absurd cc
key_stands k (token.Decimal d ∷ ts) e = absurd cc
key_stands k (token.Sized c ∷ ts) e = absurd cc

pub key_here : (k : Key) (ts : List TokenKind) → is_key k (token.Key k ∷ ts) ≡ true
unfolding is_key
key_here k ts = number_same (key_number k)

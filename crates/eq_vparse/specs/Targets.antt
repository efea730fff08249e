-- Targets as they are written (IEEE 1364-2005, A.8.5).
use Rattle.std.specs.Prelude.{ℕ, zero, suc, Bool, true, false, List, count_by}
use Rattle.eq_vlex.specs.declared.mark.Mark.TheVariants.{LeftBracket, RightBracket, LeftBrace, RightBrace, Colon}
use Rattle.eq_vlex.specs.declared.token.TokenKind.{TokenKind}
use Rattle.eq_vlex.specs.declared.token.TokenKind.TheVariants as token
use Rattle.eq_vparse.specs.declared.tree.Range.{Range}
use Rattle.eq_vparse.specs.declared.tree.Target.{Target}
use Rattle.eq_vparse.specs.declared.tree.Target.TheVariants.{Net, Bit, Part}
use Rattle.eq_vparse.specs.declared.tree.Target.TheViews.{Concat}
use Rattle.eq_vparse.specs.Rules.{Rule, ◌>>=◌, ◌or◌, name, decimal, mark, give, nothing, separated}

-- `[left:right]`
abbrev pub range : Rule Range
range = do
  _ ← mark LeftBracket
  l ← decimal
  _ ← mark Colon
  r ← decimal
  _ ← mark RightBracket
  give (record { left = l; right = r })

-- `[d]`
abbrev pub index : Rule ℕ
index = do
  _ ← mark LeftBracket
  d ← decimal
  _ ← mark RightBracket
  give d

-- targets in which at most so many stand in one another
abbrev pub target_up_to : ℕ → Rule Target
target_up_to zero = nothing
target_up_to (suc n) =
    (do
      w ← name
      give (Net w))
    or (do
      w ← name
      d ← index
      give (Bit w d))
    or (do
      w ← name
      r ← range
      give (Part w r.left r.right))
    or (do
      _ ← mark LeftBrace
      parts ← separated (target_up_to n)
      _ ← mark RightBrace
      give (Concat parts))

abbrev pub target : Rule Target
target = record {
  sentence = λ ts t. (n : ℕ) × (target_up_to n).sentence ts t;
  front = λ ts. (n : ℕ) × (target_up_to n).front ts;
}

-- the counted marks of a target are its `{`
abbrev pub is_brace : TokenKind → Bool
is_brace (token.Mark LeftBrace) = true
is_brace _ = false

abbrev pub braces : List TokenKind → ℕ
braces ts = count_by is_brace ts

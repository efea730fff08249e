-- Reading a target, with the parts so far of each `{` that is open.
use Rattle.std.specs.Prelude.{Bool, true, ◌≡◌, ◌≢◌, ◌==◌, ◌-◌, ℕ, List, [], ◌∷◌, ◌++◌, length, drop, reverse, Option, Some, None, Result, Ok, Err, if◌then◌else◌}
use Rattle.eq_vlex.specs.declared.mark.Mark.TheVariants.{LeftBracket, RightBracket, LeftBrace, RightBrace, Colon, Comma}
use Rattle.eq_vlex.specs.declared.token.TokenKind.{TokenKind}
use Rattle.eq_vlex.specs.declared.token.TokenKind.TheVariants as token
use Rattle.eq_vparse.specs.declared.stop.Stop.{Stop}
use Rattle.eq_vparse.specs.declared.stop.Stop.TheVariants as stop
use Rattle.eq_vparse.specs.declared.target.Braces.{Braces}
use Rattle.eq_vparse.specs.declared.tree.Range.{Range}
use Rattle.eq_vparse.specs.declared.tree.Target.{Target}
use Rattle.eq_vparse.specs.declared.tree.Target.TheVariants.{Net, Bit, Part}
use Rattle.eq_vparse.specs.declared.tree.Target.TheViews.{Concat}
use Rattle.eq_vparse.specs.Tests.{is_mark}
use Rattle.eq_vparse.specs.Reading.{Reading, read, stopped, ◌>>=◌, done, name_at, decimal_at, takes, expect}
use Rattle.eq_vparse.specs.Looping.{Turn, again, ended, after, loop}

-- ---- ranges and indices

unfoldable pub range_at : List TokenKind → Reading Range
range_at = do
  _ ← expect LeftBracket
  l ← decimal_at
  _ ← expect Colon
  r ← decimal_at
  _ ← expect RightBracket
  done (record { left = l; right = r })

unfoldable pub index_at : List TokenKind → Reading ℕ
index_at = do
  _ ← expect LeftBracket
  d ← decimal_at
  _ ← expect RightBracket
  done d

-- where `[` stands
unfoldable pub maybe_range_at : List TokenKind → Reading (Option Range)
maybe_range_at ts = if is_mark LeftBracket ts then (range_at >>= λ r. done (Some r)) ts else read None ts

unfoldable pub maybe_index_at : List TokenKind → Reading (Option ℕ)
maybe_index_at ts = if is_mark LeftBracket ts then (index_at >>= λ d. done (Some d)) ts else read None ts

-- ---- a part that is no concatenation

-- `l:r]` behind `[`, at `:`
unfoldable pub part_to : List ℕ → ℕ → List TokenKind → Reading Target
part_to n l = do
  _ ← expect Colon
  r ← decimal_at
  _ ← expect RightBracket
  done (Part n l r)

-- what stands behind `[`
unfoldable pub selected : List ℕ → List TokenKind → Reading Target
selected n = do
  d ← decimal_at
  alone ← takes RightBracket
  if alone then done (Bit n d) else part_to n d

unfoldable pub part_at : List TokenKind → Reading Target
part_at = do
  n ← name_at
  bracket ← takes LeftBracket
  if bracket then selected n else done (Net n)

-- a target may begin here
unfoldable pub begins_target : List TokenKind → Bool
begins_target (token.Word n ∷ ts) = true
begins_target ts = is_mark LeftBrace ts

-- ---- parts in their braces

-- the `{` that are open: how many more there may be, and the parts so far of each, the innermost first
pub record Braced : Type 0 where
  pub room : ℕ
  pub parts : List (List Target)

abbrev pub braced : Braces → Braced
braced b = record { room = b.room; parts = reverse b.parts }

-- A part is put behind those of the innermost `{`; `,` wants the next, and `}` makes a part of them all. Where no `{`
-- is open it is the whole target.
abbrev pub place : ℕ → Target → List (List Target) → List TokenKind → Turn Braced Target
place room t [] ts = ended (read t ts)
place room t (parts ∷ outer) ts = after (takes Comma ts) (λ more left.
    if more
    then again (record { room = room; parts = (parts ++ t ∷ []) ∷ outer }) left
    else after (expect RightBrace left) (λ _ rest. place room (Concat (parts ++ t ∷ [])) outer rest))

-- a part is wanted
unfoldable pub wanted : Braced → List TokenKind → Turn Braced Target
wanted b ts =
    if is_mark LeftBrace ts
    then if b.room == 0 then ended (stopped (stop.TooDeep (length ts))) else again (record { room = b.room - 1; parts = [] ∷ b.parts }) (drop 1 ts)
    else after (part_at ts) (λ t left. place b.room t b.parts left)

-- What a call answers is what a turn says: the end, or to go on with what the call leaves; want of memory says nothing.
abbrev pub Turns : {S A : Type 0} → Result (Option A) Stop → S → List TokenKind → Turn S A → Type 0
Turns (Ok None) s left turn = turn ≡ again s left
Turns (Ok (Some a)) s left turn = turn ≡ ended (read a left)
Turns (Err e) s left turn = e ≢ stop.Memory → turn ≡ ended (stopped e)

unfoldable pub target_at : ℕ → List TokenKind → Reading Target
target_at k ts = loop wanted (record { room = k; parts = [] }) ts

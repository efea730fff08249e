-- The first of several.
use Rattle.std.specs.Prelude.{ℕ, zero, suc, List, [], ◌∷◌, Bool, true, false, if◌then◌else◌, Option, Some, None, is_some, map}
use Rattle.std.specs.Option.{option_or}
use Rattle.eq_verilog.specs.Trees.{Name}
use Rattle.eq_verilog.specs.Declarations.{has}

-- the first that there is
abbrev pub first_of : {A : Type 0} → List (Option A) → Option A
first_of [] = None
first_of (o ∷ os) = option_or o (first_of os)

-- what f finds first in a list
abbrev pub first_found : {A B : Type 0} → (A → Option B) → List A → Option B
first_found f xs = first_of (map f xs)

-- the first number below n that passes
abbrev pub first_below : ℕ → (ℕ → Bool) → Option ℕ
first_below zero test = None
first_below (suc n) test = option_or (first_below n test) (if test n then Some n else None)

-- some number below n passes
abbrev pub one_below : ℕ → (ℕ → Bool) → Bool
one_below n test = is_some (first_below n test)

-- x where the test fails
abbrev pub unless : {A : Type 0} → Bool → A → Option A
unless true x = None
unless false x = Some x

-- the first name that is among those before it
abbrev pub again_after : List Name → List Name → Option Name
again_after seen [] = None
again_after seen (n ∷ ns) = if has seen n then Some n else again_after (n ∷ seen) ns

abbrev pub first_again : List Name → Option Name
first_again ns = again_after [] ns

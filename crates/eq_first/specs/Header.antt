-- Reading a header port by port, and finding a port by its name.
use Rattle.std.specs.Prelude.{◌≡◌, ℕ, suc, ◌-◌, ◌^◌, Bool, true, false, not, ◌&&◌, nat_lt, List, [], ◌∷◌, ◌++◌, length, codes, Option, Some, None, is_none, slice_get, bytes_eq, if◌then◌else◌}
use Rattle.std.specs.BTreeMap.{BTreeMap, get_by}
use Rattle.std.specs.Cmp.Lexicographic.{slice_cmp}
use Rattle.std.specs.Ordering.{nat_cmp}
use denote.Ref.{Bor}
use Rattle.eq_first.specs.declared.module.Direction.{Direction}
use Rattle.eq_first.specs.declared.module.Direction.TheVariants.{Input, Output}
use Rattle.eq_first.specs.declared.module.Port.{Port}
use Rattle.eq_first.specs.Lines.{◌>>=◌, is_short}
use Rattle.eq_first.specs.Reserved.{is_reserved}

-- the place of the first port with this name, where places are counted from n
abbrev pub place_from : ℕ → List Port → List ℕ → Option ℕ
place_from n [] name = None
place_from n (p ∷ ps) name = if bytes_eq name p.name then Some n else place_from (suc n) ps name

unfoldable pub place_of : List Port → List ℕ → Option ℕ
place_of ports name = place_from 0 ports name

-- the map has the place of each name
abbrev pub Knows : BTreeMap (Bor (List ℕ)) ℕ → List Port → Type 0
Knows places ports = (name : List ℕ) → get_by (λ k. slice_cmp nat_cmp name k.now) places ≡ place_of ports name

abbrev pub is_input : Direction → Bool
is_input Input = true
is_input Output = false

-- the place of the input with this name
unfoldable pub input_of : List Port → List ℕ → Option ℕ
input_of ports name = do
  n ← place_of ports name
  p ← slice_get ports n
  if is_input p.direction then Some n else None

-- the ports read so far, and the place of the output among them
pub record Head : Type 0 where
  pub ports : List Port
  pub output : Option ℕ

unfoldable pub direction_of : List ℕ → Option Direction
direction_of word = if bytes_eq word (codes "input") then Some Input else (if bytes_eq word (codes "output") then Some Output else None)

unfoldable pub is_plain : List ℕ → Bool
is_plain name = is_short name && not (is_reserved name)

-- a name that may come next
unfoldable pub new_name : List Port → List ℕ → Option (List ℕ)
new_name ports name = if is_plain name then (if nat_lt (length ports) (2 ^ 32 - 1) then (if is_none (place_of ports name) then Some name else None) else None) else None

-- the place of the output once the next port goes this way
abbrev pub output_with : Head → Direction → Option (Option ℕ)
output_with h Input = Some h.output
output_with h Output = if is_none h.output then Some (Some (length h.ports)) else None

-- which way a port goes that may come next, and where the output then is
unfoldable pub next_at : Head → List ℕ → List ℕ → Option (Direction × Option ℕ)
next_at h keyword name = do
  d ← direction_of keyword
  output ← output_with h d
  fresh ← new_name h.ports name
  Some (d, output)

-- one port more
unfoldable pub add_at : Head → List ℕ → List ℕ → Option Head
add_at h keyword name = do
  next ← next_at h keyword name
  Some (record { ports = h.ports ++ record { direction = next.0; name = name } ∷ []; output = next.1 })

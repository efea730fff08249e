-- Reading a configuration of the first form line by line.
use Rattle.std.specs.Prelude.{ℕ, ◌+◌, ◌-◌, ◌*◌, Bool, not, ◌&&◌, ◌||◌, ◌==◌, nat_lt, nat_le, List, [], ◌∷◌, length, take, drop, Option, Some, None, option_map, position, slice_index, codes, bytes_eq, if◌then◌else◌}
use Rattle.std.specs.List.{list_all}
use Rattle.eq_first.specs.declared.job.Side.{Side}
use Rattle.eq_first.specs.declared.job.Job.{Job}

infixl 10 ◌>>=◌
abbrev pub ◌>>=◌ : {A B : Type 0} → Option A → (A → Option B) → Option B
(Some x) >>= f = f x
None >>= f = None

-- the line at the front without its end, and what follows it
unfoldable pub line_at : List ℕ → Option (List ℕ × List ℕ)
line_at text = option_map (λ i. (take i text, drop (i + 1) text)) (position (λ b. b == 10) text)

-- what follows these bytes
unfoldable pub after : List ℕ → List ℕ → Option (List ℕ)
after words text = if bytes_eq (take (length words) text) words then Some (drop (length words) text) else None

-- what follows a line that begins so, after the rest of that line
unfoldable pub behind_at : List ℕ → List ℕ → Option (List ℕ × List ℕ)
behind_at words text = do
  line ← line_at text
  tail ← after words line.0
  Some (tail, line.1)

-- what follows this very line
unfoldable pub fixed_at : List ℕ → List ℕ → Option (List ℕ)
fixed_at words text = do
  tail ← behind_at words text
  if length tail.0 == 0 then Some tail.1 else None

abbrev pub is_name_byte : ℕ → Bool
is_name_byte b = nat_le 0x21 b && nat_le b 0x7E

unfoldable pub is_short : List ℕ → Bool
is_short name = nat_lt 0 (length name) && nat_le (length name) 1024 && list_all is_name_byte name

unfoldable pub is_file : List ℕ → Bool
is_file name = is_short name && not (slice_index name 0 == 45)

abbrev pub is_strategy_byte : ℕ → Bool
is_strategy_byte b = (nat_le 48 b && nat_le b 57) || ((nat_le 65 b && nat_le b 90) || ((nat_le 97 b && nat_le b 122) || ((b == 95) || (b == 45))))

unfoldable pub is_strategy : List ℕ → Bool
is_strategy name = nat_lt 0 (length name) && nat_le (length name) 1024 && list_all is_strategy_byte name

unfoldable pub side_at : List ℕ → Option (Side × List ℕ)
side_at text = do
  file ← behind_at (codes "read_verilog ") text
  top ← behind_at (codes "prep -top ") file.1
  if is_file file.0 then (if is_short top.0 then Some (record { file = file.0; top = top.0 }, top.1) else None) else None

-- the bytes before a `]` at the end
unfoldable pub unclosed : List ℕ → Option (List ℕ)
unclosed line = if nat_lt 0 (length line) && slice_index line (length line - 1) == 93 then Some (take (length line - 1) line) else None

unfoldable pub strategy_at : List ℕ → Option (List ℕ × List ℕ)
strategy_at text = do
  tail ← behind_at (codes "[strategy ") text
  name ← unclosed tail.0
  if is_strategy name then Some (name, tail.1) else None

-- 1 to 64 without a leading zero
unfoldable pub depth_of : List ℕ → Option ℕ
depth_of (a ∷ []) = if nat_le 49 a && nat_le a 57 then Some (a - 48) else None
depth_of (a ∷ b ∷ []) = if nat_le 49 a && nat_le a 54 && nat_le 48 b && nat_le b 57 && nat_le (10 * (a - 48) + (b - 48)) 64 then Some (10 * (a - 48) + (b - 48)) else None
depth_of _ = None

-- the last line, and nothing after it
unfoldable pub depth_at : List ℕ → Option ℕ
depth_at text = do
  line ← behind_at (codes "depth ") text
  number ← depth_of line.0
  if length line.1 == 0 then Some number else None

-- a heading and the two lines under it
unfoldable pub design_at : List ℕ → List ℕ → Option (Side × List ℕ)
design_at heading text = do
  rest ← fixed_at heading text
  side_at rest

unfoldable pub job_at : List ℕ → Option Job
job_at text = do
  gold ← design_at (codes "[gold]") text
  gate ← design_at (codes "[gate]") gold.1
  strategy ← strategy_at gate.1
  rest ← fixed_at (codes "use sat") strategy.1
  depth ← depth_at rest
  Some (record { gold = gold.0; gate = gate.0; strategy = strategy.0; depth = depth })

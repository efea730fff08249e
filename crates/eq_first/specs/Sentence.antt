-- Reading the tokens of a design.
use Rattle.std.specs.Prelude.{ℕ, ◌+◌, Bool, true, false, ◌==◌, nat_le, List, [], ◌∷◌, take, drop, Option, Some, None, option_map, position, count_by, bytes_eq, codes, if◌then◌else◌}
use Rattle.eq_first.specs.declared.module.Port.{Port}
use Rattle.eq_first.specs.declared.module.Expr.{Expr}
use Rattle.eq_first.specs.declared.module.Module.{Module}
use Rattle.eq_first.specs.declared.token.Mark.{Mark}
use Rattle.eq_first.specs.declared.token.Mark.TheVariants.{Open, Close, Comma, Semicolon, Equals}
use Rattle.eq_first.specs.Tokens.{Token, word, mark}
use Rattle.eq_first.specs.Phrases.{is_counted}
use Rattle.eq_first.specs.Lines.{◌>>=◌}
use Rattle.eq_first.specs.Header.{Head, place_of, is_plain, add_at}
use Rattle.eq_first.specs.Machine.{run, wanted}

-- what follows `module TOP (`
unfoldable pub opening_at : List ℕ → List Token → Option (List Token)
opening_at top (word k ∷ word n ∷ mark Open ∷ ts) = if bytes_eq k (codes "module") then (if bytes_eq n top then (if is_plain top then Some ts else None) else None) else None
opening_at top _ = None

-- a port's two words, and the mark behind them
pub record Entry : Type 0 where
  pub keyword : List ℕ
  pub name : List ℕ
  pub behind : Mark

unfoldable pub entry_at : List Token → Option Entry
entry_at (word k ∷ word n ∷ mark m ∷ ts) = Some (record { keyword = k; name = n; behind = m })
entry_at _ = None

abbrev pub start : Head
start = record { ports = []; output = None }

-- the header with the port at the front, and the mark behind it
unfoldable pub port_at : Head → List Token → Option (Head × Mark)
port_at h ts = do
  e ← entry_at ts
  more ← add_at h e.keyword e.name
  Some (more, e.behind)

-- the ports up to the closing parenthesis, and what follows it
unfoldable pub ports_at : Head → List Token → Option (Head × List Token)
ports_at h (word k ∷ word n ∷ mark Comma ∷ ts) = add_at h k n >>= λ more. ports_at more ts
ports_at h (word k ∷ word n ∷ mark Close ∷ ts) = add_at h k n >>= λ more. Some (more, ts)
ports_at h _ = None

-- the name in `; assign NAME =`, and what follows
unfoldable pub target_at : List Token → Option (List ℕ × List Token)
target_at (mark Semicolon ∷ word k ∷ word n ∷ mark Equals ∷ ts) = if bytes_eq k (codes "assign") then Some (n, ts) else None
target_at _ = None

-- the place of the output, which has this name
unfoldable pub output_of : Head → List ℕ → Option ℕ
output_of h target = do
  output ← h.output
  n ← place_of h.ports target
  if n == output then Some n else None

abbrev pub is_semicolon : Token → Bool
is_semicolon (mark Semicolon) = true
is_semicolon _ = false

-- what stands before the first semicolon, and what stands behind it
unfoldable pub body_at : List Token → Option (List Token × List Token)
body_at ts = option_map (λ i. (take i ts, drop (i + 1) ts)) (position is_semicolon ts)

-- `endmodule` and nothing else
unfoldable pub is_ending : List Token → Bool
is_ending (word k ∷ []) = bytes_eq k (codes "endmodule")
is_ending _ = false

unfoldable pub marks_of : List Token → ℕ
marks_of ts = count_by is_counted ts

unfoldable pub expr_at : List Port → List Token → Option Expr
expr_at ports ts = if nat_le (marks_of ts) 1000 then run ports (wanted []) ts else None

unfoldable pub module_at : List ℕ → List Token → Option Module
module_at top tokens = do
  rest ← opening_at top tokens
  head ← ports_at start rest
  target ← target_at head.1
  output ← output_of head.0 target.0
  body ← body_at target.1
  expr ← (if is_ending body.1 then expr_at head.0.ports body.0 else None)
  Some (record { ports = head.0.ports; output = output; expr = expr })

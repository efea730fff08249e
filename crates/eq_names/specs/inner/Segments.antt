-- Cited by proofs alone; nothing here has to be believed.
-- The pieces up to a `*`, which take one byte each.
use Rattle.std.specs.Prelude.{◌≡◌, ℕ, ◌+◌, ◌<◌, ◌≤◌, Bool, true, false, ◌&&◌, if◌then◌else◌, Option, Some, None, List, [], ◌∷◌, length, take, drop}
use Rattle.eq_names.specs.declared.piece.Piece.{Piece}
use Rattle.eq_names.specs.Pieces.{takes_byte, is_run}
use Rattle.eq_names.specs.Divisions.{Takes, IsDivided}

-- the pieces take the first bytes of the name, one each
abbrev pub fits : List Piece → List ℕ → Bool
fits [] name = true
fits (piece ∷ pieces) [] = false
fits (piece ∷ pieces) (b ∷ bs) = takes_byte piece b && fits pieces bs

-- how many pieces stand before the first `*`
abbrev pub segment_len : List Piece → ℕ
segment_len [] = 0
segment_len (piece ∷ pieces) = if is_run piece then 0 else 1 + segment_len pieces

-- the first place where they do
pub record IsFirstPlace (segment : List Piece) (name : List ℕ) (n : ℕ) : Type 0 where
  pub within : n ≤ length name
  pub here : fits segment (drop n name) ≡ true
  pub none_before : (m : ℕ) → m < n → fits segment (drop m name) ≡ false

-- they do at no place
abbrev pub IsNowhere : List Piece → List ℕ → Type 0
IsNowhere segment name = (m : ℕ) → m ≤ length name → fits segment (drop m name) ≡ false

-- the place where they do, and the name ends behind them
pub record IsLastPlace (segment : List Piece) (name : List ℕ) (n : ℕ) : Type 0 where
  pub ends : n + length segment ≡ length name
  pub here : fits segment (drop n name) ≡ true

-- the run of a piece that takes one byte
abbrev pub byte_run : Piece → List ℕ → Option ℕ
byte_run piece [] = None
byte_run piece (b ∷ bs) = if takes_byte piece b then Some 1 else None

-- The run of a `*` before these pieces: where they divide what is left behind a run, they divide what is left behind
-- this one, and behind no shorter one.
pub record IsRunBefore (after : List Piece) (name : List ℕ) (n : ℕ) : Type 0 where
  pub within : n ≤ length name
  pub none_before : (m : ℕ) → m < n → ¬ IsDivided after (drop m name)
  pub kept : (m : ℕ) → m ≤ length name → IsDivided after (drop m name) → IsDivided after (drop n name)

-- no run before these pieces leaves what they divide
abbrev pub HasNoRunBefore : List Piece → List ℕ → Type 0
HasNoRunBefore after name = (m : ℕ) → m ≤ length name → ¬ IsDivided after (drop m name)

-- The run of the first piece in a name: where the name is divided at all, the rest is behind this run, and behind no
-- shorter one.
pub record IsFirstRun (piece : Piece) (after : List Piece) (name : List ℕ) (n : ℕ) : Type 0 where
  pub within : n ≤ length name
  pub takes : Takes piece (take n name)
  pub shortest : (m : ℕ) → m < n → Takes piece (take m name) → ¬ IsDivided after (drop m name)
  pub kept : IsDivided (piece ∷ after) name → IsDivided after (drop n name)

-- no run of the first piece leaves what the rest divides
abbrev pub HasNoRun : Piece → List Piece → List ℕ → Type 0
HasNoRun piece after name = ¬ IsDivided (piece ∷ after) name

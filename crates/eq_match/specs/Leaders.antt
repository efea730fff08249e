-- Divisions as lists: of each position the first one of its class, which leads it.
use Rattle.std.specs.Prelude.{◌≡◌, ℕ, ◌<◌, ◌≤◌, ◌^◌, ◌==◌, List, length, slice_index_or}
use Rattle.eq_match.specs.Classes.{Together}

abbrev pub leader_at : List ℕ → ℕ → ℕ
leader_at leaders i = slice_index_or leaders i 0

-- each leader leads itself, and stands at or before those that it leads
pub record AreLeaders (leaders : List ℕ) : Type 0 where
  pub few : length leaders < 2 ^ 32
  pub before : (i : ℕ) → i < length leaders → leader_at leaders i ≤ i
  pub itself : (i : ℕ) → i < length leaders → leader_at leaders (leader_at leaders i) ≡ leader_at leaders i

-- two positions have one leader
abbrev pub one_leader : List ℕ → Together
one_leader leaders i j = leader_at leaders i == leader_at leaders j

-- two positions have one leader exactly where they have one key
pub record AreByKeys (keys leaders : List ℕ) : Type 0 where
  pub count : length leaders ≡ length keys
  pub one : (i j : ℕ) → i < length keys → j < length keys →
      one_leader leaders i j ≡ (slice_index_or keys i 0 == slice_index_or keys j 0)

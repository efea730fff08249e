-- Mirrors src/uniting.rt; nothing here has to be believed.
-- Partitions while lines are read: leaders, and the names that lines gave, which stand at the leaders.
use Rattle.std.specs.Prelude.{◌≡◌, ℕ, ◌<◌, ◌+◌, ◌&&◌, if◌then◌else◌, Bool, true, List, length, Option, None, slice_index_or}
use Rattle.eq_match.specs.declared.types.Pair.{Pair}
use Rattle.eq_match.specs.Groups.{is_held}
use Rattle.eq_match.specs.Leaders.{AreLeaders, leader_at, one_leader}
use Rattle.eq_part.specs.Partitions.{Division}
use Rattle.eq_part.specs.declared.state.State.{State}

abbrev pub name_at : List (Option (List ℕ)) → ℕ → Option (List ℕ)
name_at names i = slice_index_or names i None

abbrev pub division_of : State → Division
division_of s = record {
  together = one_leader s.classes;
  called = λ i. name_at s.names (leader_at s.classes i);
}

-- inputs stand with inputs alone
pub record IsState (pairs : List Pair) (s : State) : Type 0 where
  pub count : length s.classes ≡ length pairs
  pub names : length s.names ≡ length pairs
  pub lead : AreLeaders s.classes
  pub alike : (i j : ℕ) → i < length pairs → j < length pairs → leader_at s.classes i ≡ leader_at s.classes j →
      is_held pairs i ≡ is_held pairs j

-- the marks fill partitions
pub record AreFilled (pairs : List Pair) (s : State) (marked : ℕ → Bool) : Type 0 where
  pub filled : (i j : ℕ) → i < length pairs → j < length pairs → leader_at s.classes i ≡ leader_at s.classes j → marked i ≡ marked j
  pub held : (i : ℕ) → i < length pairs → marked i ≡ true → is_held pairs i ≡ true

abbrev pub is_chosen : List Pair → (ℕ → Bool) → ℕ → Bool
is_chosen pairs marked i = is_held pairs i && marked i

-- names of marked positions are forgotten
pub record AreForgotten (marked : ℕ → Bool) (n : ℕ) (before after : List (Option (List ℕ))) : Type 0 where
  pub count : length after ≡ length before
  pub each : (i : ℕ) → i < n → name_at after i ≡ (if marked i then None else name_at before i)
  pub behind : (i : ℕ) → n < i + 1 → name_at after i ≡ name_at before i

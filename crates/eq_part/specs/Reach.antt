-- What the gold cone of a partition reads, and which partitions lie on a path.
use Rattle.std.specs.Prelude.{◌≡◌, ℕ, zero, suc, ◌<◌, Bool, true, List, length}
use Rattle.eq_model.specs.System.{ReadsEver}
use Rattle.eq_net.specs.Net.{Parts, system_of}
use Rattle.eq_match.specs.declared.types.Pair.{Pair}
use Rattle.eq_match.specs.Matched.{gold_bit}
use Rattle.eq_match.specs.Classes.{Together}
use Rattle.eq_match.specs.Groups.{is_held, IsHit}

-- positions i and j are held and stand in one partition
pub record AreOfOne (pairs : List Pair) (together : Together) (i j : ℕ) : Type 0 where
  pub here : i < length pairs
  pub there : j < length pairs
  pub held_here : is_held pairs i ≡ true
  pub held_there : is_held pairs j ≡ true
  pub one : together i j ≡ true

-- a bit is no paired bit outside the partition of position q
abbrev pub GoesOn : Parts → List Pair → Together → ℕ → ℕ → Type 0
GoesOn gold pairs together q b = (i : ℕ) → i < length pairs → gold_bit gold pairs i ≡ b → AreOfOne pairs together q i

-- bit a leads to bit b by n + 1 reads, within a cycle or through a register's next value, and each bit between goes on
abbrev pub Reaches : Parts → (ℕ → Type 0) → ℕ → ℕ → ℕ → Type 0
Reaches gold goes_on zero a b = ReadsEver (system_of gold) a b
Reaches gold goes_on (suc n) a b = (c : ℕ) × ReadsEver (system_of gold) a c × goes_on c × Reaches gold goes_on n c b

-- p leads to q: a bit of p's partition is read by the gold cone of q's
pub record PartLeads (gold : Parts) (pairs : List Pair) (together : Together) (p q : ℕ) : Type 0 where
  pub read : ℕ
  pub read_is : AreOfOne pairs together p read
  pub output : ℕ
  pub output_is : AreOfOne pairs together q output
  pub reads : ℕ
  pub reaches : Reaches gold (GoesOn gold pairs together q) reads (gold_bit gold pairs output) (gold_bit gold pairs read)

-- p's partition leads to q's in n steps
abbrev pub LeadsIn : Parts → List Pair → Together → ℕ → ℕ → ℕ → Type 0
LeadsIn gold pairs together zero p q = AreOfOne pairs together p q
LeadsIn gold pairs together (suc n) p q = (r : ℕ) × PartLeads gold pairs together p r × LeadsIn gold pairs together n r q

-- the partition of position i can be reached from one with an output of which the first test says yes, and leads to one with
-- an output of which the second does
pub record LiesBetween (gold : Parts) (pairs : List Pair) (together : Together)
    (starts ends : ℕ → Bool) (i : ℕ) : Type 0 where
  pub start : ℕ
  pub is_start : starts start ≡ true
  pub steps_before : ℕ
  pub reached : LeadsIn gold pairs together steps_before start i
  pub end : ℕ
  pub is_end : ends end ≡ true
  pub steps_behind : ℕ
  pub leads : LeadsIn gold pairs together steps_behind i end

-- the partition of position i can be reached from one with an output whose net the first pattern matches, and leads to one
-- with an output whose net the second matches
pub record IsOnPath (gold : Parts) (pairs : List Pair) (together : Together) (from to : List ℕ) (i : ℕ) : Type 0 where
  pub start : ℕ
  pub start_hit : IsHit gold pairs from start
  pub steps_before : ℕ
  pub reached : LeadsIn gold pairs together steps_before start i
  pub end : ℕ
  pub end_hit : IsHit gold pairs to end
  pub steps_behind : ℕ
  pub leads : LeadsIn gold pairs together steps_behind i end

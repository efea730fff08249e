-- Mirrors src/wholes.rt; nothing here has to be believed.
-- Which nets stand in one partition with all their bits.
use Rattle.std.specs.Prelude.{◌≡◌, ℕ, ◌<◌, ◌&&◌, ◌==◌, not, Bool, List, length, slice_index_or}
use Rattle.eq_model.specs.Cut.{any_below}
use Rattle.eq_model.specs.Frames.{values}
use Rattle.eq_match.specs.declared.types.Pair.{Pair}
use Rattle.eq_match.specs.Leaders.{leader_at}
use Rattle.eq_match.specs.Pairs.{gold_net}

-- position f, which is before p, has this net, and a leader that is kept for the net
pub record Keeps (pairs : List Pair) (leaders kept : List ℕ) (p net : ℕ) : Type 0 where
  pub at : ℕ
  pub before : at < p
  pub net_is : gold_net pairs at ≡ net
  pub leader_is : leader_at leaders at ≡ slice_index_or kept net 0

-- for the nets of the first p positions a leader is kept
pub record AreKept (pairs : List Pair) (leaders kept : List ℕ) (nets p : ℕ) : Type 0 where
  pub count : length kept ≡ nets
  pub each : (j : ℕ) → j < p → Keeps pairs leaders kept p (gold_net pairs j)

-- position j has this net and another leader than the one that is kept
abbrev pub strays : List Pair → List ℕ → List ℕ → ℕ → ℕ → Bool
strays pairs leaders kept net j = (net == gold_net pairs j) && not (leader_at leaders j == slice_index_or kept net 0)

-- the nets of which one of the first p positions strays
abbrev pub AreSplit : List Pair → List ℕ → List ℕ → ℕ → ℕ → List Bool → Type 0
AreSplit pairs leaders kept nets p split = (net : ℕ) → net < nets →
    values split net ≡ any_below p (strays pairs leaders kept net)

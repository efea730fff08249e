-- Runs of two systems with the drivers of some paired bits left out, and what is asked of them.
-- The queries are those of k-induction (M. Sheeran, S. Singh, G. Stålmarck, "Checking safety properties using induction
-- and a SAT-solver", 2000; N. Eén and N. Sörensson, "Temporal induction by incremental SAT solving", 2003), without the
-- condition that states differ. A partition is a test `inside` of the pairs that it holds.
use Rattle.std.specs.Prelude.{◌≡◌, ◌≢◌, ℕ, zero, suc, ◌<◌, ◌-◌, Bool, true, false, not, ◌&&◌, ◌||◌, ◌==◌}
use Rattle.eq_model.specs.System.{Values, System, Solves, IsInitial}
use Rattle.eq_model.specs.Plan.{Plan, gate_value}

-- some number below n passes
abbrev pub any_below : ℕ → (ℕ → Bool) → Bool
any_below zero test = false
any_below (suc n) test = test n || any_below n test

-- b is the bit of a pair outside, where side gives the pairs' bits
abbrev pub is_cut : ℕ → (ℕ → ℕ) → (ℕ → Bool) → ℕ → Bool
is_cut pairs side inside b = any_below pairs (λ i. (side i == b) && not (inside i))

-- values of both systems over n cycles, n being 1 or more, from any values of the registers. Each driver is met but those
-- of the paired bits outside, which are free but have the same value on both sides, opposite ones in an inverted pair
pub record CutRun (gold gate : System) (p : Plan) (inside : ℕ → Bool) (n : ℕ) (v w : ℕ →
    Values) : Type 0 where
  pub some : 0 < n
  pub gold_solves : Solves gold (is_cut p.pairs p.gold inside) n v
  pub gate_solves : Solves gate (is_cut p.pairs p.gate inside) n w
  pub equal : (c i : ℕ) → c < n → i < p.pairs → inside i ≡ false →
      v c (p.gold i) ≡ gate_value p i (w c)

-- the registers that aren't cut begin at their initial values
pub record IsFromInitial (gold gate : System) (p : Plan) (inside : ℕ → Bool) (v w : ℕ →
    Values) : Type 0 where
  pub gold_begins : IsInitial gold (is_cut p.pairs p.gold inside) (v 0)
  pub gate_begins : IsInitial gate (is_cut p.pairs p.gate inside) (w 0)

-- in a cycle some output of the partition differs: the two bits of a plain pair, or the one and the other's complement
abbrev pub Differ : Plan → (ℕ → Bool) → Values → Values → Type 0
Differ p inside v w = (i : ℕ) × (i < p.pairs) × (inside i ≡ true) ×
    (v (p.gold i) ≢ gate_value p i w)

-- in a cycle no output of the partition differs
abbrev pub Same : Plan → (ℕ → Bool) → Values → Values → Type 0
Same p inside v w = (i : ℕ) → i < p.pairs → inside i ≡ true → v (p.gold i) ≡ gate_value p i w

-- some cut run of k cycles from the initial values differs in its last cycle
pub record Base (gold gate : System) (p : Plan) (inside : ℕ → Bool) (k : ℕ) : Type 0 where
  pub v : ℕ → Values
  pub w : ℕ → Values
  pub run : CutRun gold gate p inside k v w
  pub initial : IsFromInitial gold gate p inside v w
  pub differ : Differ p inside (v (k - 1)) (w (k - 1))

-- some cut run of k + 1 cycles, from any values of the registers, is equal in the first k cycles and differs in the last
pub record Step (gold gate : System) (p : Plan) (inside : ℕ → Bool) (k : ℕ) : Type 0 where
  pub v : ℕ → Values
  pub w : ℕ → Values
  pub run : CutRun gold gate p inside (suc k) v w
  pub same : (c : ℕ) → c < k → Same p inside (v c) (w c)
  pub differ : Differ p inside (v k) (w k)

-- no cut run from the initial values, of any length, differs in any cycle
abbrev pub Never : System → System → Plan → (ℕ → Bool) → Type 0
Never gold gate p inside = (n : ℕ) (v w : ℕ → Values) → CutRun gold gate p inside n v w →
    IsFromInitial gold gate p inside v w →
    (c : ℕ) → c < n → Differ p inside (v c) (w c) → ⊥

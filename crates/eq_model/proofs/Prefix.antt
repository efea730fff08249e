-- The first cycles of a run are a run.
use Rattle.std.proofs.Common.{◌≡◌, ℕ, suc, ◌<◌, ◌≤◌, Bool, arith}
use Rattle.eq_model.specs.System.{Values, System, Solves, nothing}
use Rattle.eq_model.specs.Run.{Given, Design, Run, SameOutputs, key, dir}
use Rattle.eq_model.specs.Nets.{is_output}

-- the first m cycles of a solution
pub front : (s : System) (cut : ℕ → Bool) (n : ℕ) (v : ℕ → Values) → Solves s cut n v → (m : ℕ) → m ≤ n → Solves s cut m v
front s cut n v h m le = record {
  now = λ c b lt bit kept. h.now c b (omega arith) bit kept;
  next = λ c b lt bit kept. h.next c b (omega arith) bit kept;
}

pub run_front : (d : Design) (given : Given) (n : ℕ) (v : ℕ → Values) → Run d given n v → (m : ℕ) → m ≤ n → Run d given m v
run_front d given n v run m le = record {
  inputs = λ c b lc lb is. run.inputs c b (omega arith) lb is;
  begins = λ pos. run.begins (omega arith);
  solves = front d.system nothing n v run.solves m le;
}

-- so outputs that are the same in the last cycle of runs of every length are the same in every cycle
pub from_last : (gold gate : Design) → ((given : Given) (n : ℕ) (v w : ℕ → Values) → Run gold given (suc n) v → Run gate given (suc n) w →
    (a b : ℕ) → a < gold.bits → b < gate.bits → dir gold a ≡ is_output → dir gate b ≡ is_output → key gold a ≡ key gate b → v n a ≡ w n b) → SameOutputs gold gate
from_last gold gate last given n v w hv hw c a b lc la lb da db key =
    last given c v w (run_front gold given n v hv (suc c) lc) (run_front gate given n w hw (suc c) lc) a b la lb da db key

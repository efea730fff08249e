-- Pairs of signals of two designs, partitions of the pairs, and when such a plan is complete.
-- The pairs are cut points, which split the comparison of two designs into small ones (C. A. J. van Eijk, "Sequential
-- equivalence checking based on structural similarities", 2000; A. Kuehlmann and F. Krohm, "Equivalence checking using
-- cuts and heaps", 1997).
use Rattle.std.specs.Prelude.{◌≡◌, ℕ, ◌<◌, Bool, true, false, not, ◌↔◌}
use Rattle.eq_model.specs.System.{Values, System}
use Rattle.eq_model.specs.Run.{Design, key, dir}
use Rattle.eq_model.specs.Nets.{is_input, IsPort}

-- pairs of a gold bit and a gate bit, by number, and partitions of them. An inverted pair joins a signal with its
-- complement. A partition is known by the pairs that it holds, which are its outputs
pub record Plan : Type 0 where
  pub pairs : ℕ
  pub gold : ℕ → ℕ
  pub gate : ℕ → ℕ
  pub inverted : ℕ → Bool
  pub input : ℕ → Bool
  pub parts : ℕ
  pub holds : ℕ → ℕ → Bool

-- x where a pair is plain, its complement where the pair is inverted
abbrev pub signed : Bool → Bool → Bool
signed false x = x
signed true x = not x

-- the value that gate has on pair i, where an inverted pair's is negated
abbrev pub gate_value : Plan → ℕ → Values → Bool
gate_value p i w = signed (p.inverted i) (w (p.gate i))

-- the pairs join bits of the two systems, and no bit stands in two pairs
pub record IsOneToOne (gold gate : System) (p : Plan) : Type 0 where
  pub gold_bits : (i : ℕ) → i < p.pairs → p.gold i < gold.bits
  pub gate_bits : (i : ℕ) → i < p.pairs → p.gate i < gate.bits
  pub gold_once : (i j : ℕ) → i < p.pairs → j < p.pairs → p.gold i ≡ p.gold j → i ≡ j
  pub gate_once : (i j : ℕ) → i < p.pairs → j < p.pairs → p.gate i ≡ p.gate j → i ≡ j

-- each port bit of one design is paired with a port bit of the other of the same name and place
abbrev pub PairsPorts : Design → Design → ℕ → (ℕ → ℕ) → (ℕ → ℕ) → Type 0
PairsPorts s t pairs here there = (a : ℕ) → a < s.bits → IsPort (dir s a) → (i : ℕ) × (i < pairs) ×
    (here i ≡ a) × IsPort (dir t (there i)) × (key t (there i) ≡ key s a)

-- the plan is one of these two designs, and leaves nothing out
pub record Covers (gold gate : Design) (p : Plan) : Type 0 where
  pub one_to_one : IsOneToOne gold.system gate.system p
  -- all ports are paired by name and place, and by plain pairs
  pub gold_ports : PairsPorts gold gate p.pairs p.gold p.gate
  pub gate_ports : PairsPorts gate gold p.pairs p.gate p.gold
  pub plain_ports : (i : ℕ) → i < p.pairs → IsPort (dir gold (p.gold i)) → p.inverted i ≡ false
  -- an input is paired with an input, and these pairs are marked
  pub gold_inputs : (i : ℕ) → i < p.pairs → (p.input i ≡ true) ↔ (dir gold (p.gold i) ≡ is_input)
  pub gate_inputs : (i : ℕ) → i < p.pairs → (p.input i ≡ true) ↔ (dir gate (p.gate i) ≡ is_input)
  -- each other pair stands in exactly one partition, and a partition holds such pairs alone, at least one
  pub in_one : (i : ℕ) → i < p.pairs → p.input i ≡ false → (q : ℕ) × (q < p.parts) ×
      (p.holds q i ≡ true) × ((r : ℕ) → r < p.parts → p.holds r i ≡ true → r ≡ q)
  pub in_pairs : (q i : ℕ) → q < p.parts → p.holds q i ≡ true → (i < p.pairs) × (p.input i ≡ false)
  pub some_held : (q : ℕ) → q < p.parts → (i : ℕ) × (p.holds q i ≡ true)

-- Mirrors src/parting.rt; nothing here has to be believed.
-- A part of two graphs whose cone is copied, with a few nodes more that negate outputs.
use Rattle.std.specs.Prelude.{◌≡◌, ℕ, ◌+◌, ◌<◌, ◌≤◌, ◌⊎◌, List, Bool, false, Option, Some, Contains, length}
use Rattle.eq_model.specs.System.{IsInput}
use Rattle.eq_bits.specs.declared.node.Node.{Node}
use Rattle.eq_bits.specs.declared.part.Output.{Output}
use Rattle.eq_bits.specs.Node.{driver_of, node_at}
use Rattle.eq_bits.specs.Replay.{output_at}
use Rattle.eq_cone.specs.inner.Cones.{number_at}
use Rattle.eq_cone.specs.inner.Copying.{AreFront, HaveNexts, IsCopied, IsSignedInput, new_of}

-- the cone is copied and linked
pub record IsCopiedWhole (nodes : List Node) (cut : ℕ → Option ℕ) (negated : ℕ → ℕ → Bool) (cone inputs : List ℕ)
    (place : ℕ → Option ℕ) (new : List Node) : Type 0 where
  pub copied : IsCopied nodes cut negated inputs place new
  pub front : AreFront cone place (length cone)
  pub linked : HaveNexts nodes cut place new cone (length cone)

-- where just these pairs are cut: each pair outside at the nodes of its two bits, which the functions give
pub record TellsCuts (size pairs : ℕ) (here there : ℕ → ℕ) (inside : ℕ → Bool) (cut : ℕ → Option ℕ) : Type 0 where
  pub gold : (i : ℕ) → i < pairs → inside i ≡ false → cut (here i) ≡ Some i
  pub gate : (i : ℕ) → i < pairs → inside i ≡ false → cut (size + there i) ≡ Some i
  pub pair : (m i : ℕ) → cut m ≡ Some i → (i < pairs) × (inside i ≡ false)
  pub only : (m i : ℕ) → cut m ≡ Some i → (m ≡ here i) ⊎ (m ≡ size + there i)

-- the roots of the pairs at some positions
pub record AreRoots (size : ℕ) (here there : ℕ → ℕ) (positions : List ℕ) (n : ℕ) (roots : List ℕ) : Type 0 where
  pub gold : (o : ℕ) → o < n → Contains roots (here (number_at positions o))
  pub gate : (o : ℕ) → o < n → Contains roots (size + there (number_at positions o))
  pub only : (r : ℕ) → Contains roots r → (o : ℕ) × (o < n) ×
      ((r ≡ here (number_at positions o)) ⊎ (r ≡ size + there (number_at positions o)))

-- the outputs of the pairs at the first n positions, whose gate nodes may have come to the list
pub record AreOutputs (size : ℕ) (here there : ℕ → ℕ) (inverted : ℕ → Bool) (positions : List ℕ)
    (place : ℕ → Option ℕ) (old new : List Node) (outputs : List Output) (n : ℕ) : Type 0 where
  pub count : length outputs ≡ n
  pub gold : (o : ℕ) → o < n → (output_at outputs o).gold ≡ new_of place (here (number_at positions o))
  pub gate : (o : ℕ) → o < n → IsSignedInput new (inverted (number_at positions o))
      (new_of place (size + there (number_at positions o))) (output_at outputs o).gate
  pub gate_there : (o : ℕ) → o < n → (output_at outputs o).gate < length new
  pub no_less : length old ≤ length new
  pub stays : (k : ℕ) → k < length old → node_at new k ≡ node_at old k
  pub more : (k : ℕ) → length old ≤ k → k < length new → (o : ℕ) × (o < n) × ((output_at outputs o).gate ≡ k)
  pub no_input : (k : ℕ) → length old ≤ k → k < length new → ¬ IsInput (driver_of (node_at new k))

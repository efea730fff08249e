-- Mirrors src/copying.rt; nothing here has to be believed.
use Rattle.std.specs.Prelude.{◌≡◌, ℕ, ◌+◌, ◌<◌, ◌≤◌, List, None, length}
use Rattle.eq_model.specs.System.{IsInput}
use Rattle.eq_bits.specs.Node.{driver_of, node_at}
use Rattle.eq_cone.specs.declared.copying.Copied.{Copied}
use Rattle.eq_cone.specs.declared.sides.Sides.{Sides}
use Rattle.eq_cone.specs.inner.Cones.{AreAscending, AreInputs, IsCone}
use Rattle.eq_cone.specs.inner.Copying.{AreFront, HaveNexts, IsCopied, place_of}
use Rattle.eq_cone.specs.inner.Sides.{AreSides, cut_of, has_complement, nodes_of}

-- what is to be copied: the cone of these roots, in ascending order, up to these inputs
pub record IsToCopy (s : Sides) (roots cone inputs : List ℕ) : Type 0 where
  pub sides : AreSides s
  pub is_cone : IsCone (nodes_of s) (cut_of s) roots cone
  pub ascending : AreAscending cone
  pub are_inputs : AreInputs (cut_of s) cone inputs (length cone)
  pub few_nodes : length cone ≤ 4000000
  pub few_inputs : length inputs ≤ 4000000
  -- inputs of the graphs are all cut
  pub uncut : (m : ℕ) → m < length (nodes_of s) → cut_of s m ≡ None → ¬ IsInput (driver_of (node_at (nodes_of s) m))

-- the first n nodes of the cone are made
pub record IsCopying (s : Sides) (cone inputs : List ℕ) (c : Copied) (n : ℕ) : Type 0 where
  pub copied : IsCopied (nodes_of s) (cut_of s) (has_complement s) inputs (place_of c.places) c.builder
  pub front : AreFront cone (place_of c.places) n
  pub room : length c.builder ≤ length inputs + n

-- all are, and of the first n the registers have their next nodes
pub record IsLinking (s : Sides) (cone inputs : List ℕ) (c : Copied) (n : ℕ) : Type 0 where
  pub made : IsCopying s cone inputs c (length cone)
  pub linked : HaveNexts (nodes_of s) (cut_of s) (place_of c.places) c.builder cone n

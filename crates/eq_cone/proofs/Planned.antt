-- What a plan of two netlists says of the graphs: where the paired bits' nodes stand, and where a cut stops.
use Rattle.std.proofs.Common.{◌≡◌, ℕ, ◌<◌, ◌≤◌, ◌==◌, List, [], ◌∷◌, map, length, slice_index_or, refl, arith, sym, ap, subst, ◌∙◌, inl, inr}
use Rattle.std.proofs.Math.ListN.{get_or-map}
use Rattle.std.proofs.lemmas.Bool.{cases_Bool}
use Rattle.std.proofs.lemmas.Bool.Decides.{Decides-eqb}
use Rattle.eq_model.specs.System.{IsInput, IsHeld, Driver as Source, input, undriven, equation, register}
use Rattle.eq_model.specs.Nets.{Net as ModelNet, first_bit, is_input, IsPort, Dir as ModelDir}
use Rattle.eq_model.specs.Run.{IsDesign, dir}
use Rattle.eq_model.specs.Graph.{IsGraphOf, is_own}
use Rattle.eq_bits.specs.declared.node.Node.{Node}
use Rattle.eq_bits.specs.declared.node.Graph.{Graph}
use Rattle.eq_bits.specs.Node.{driver_of, node_at, system_of as system_of_nodes}
use Rattle.eq_blast.specs.Blasted.{IsOwnNode, inputs_before, own_of}
use Rattle.eq_net.specs.declared.types.NetInfo.{NetInfo}
use Rattle.eq_net.specs.declared.types.Driver.{Driver}
use Rattle.eq_net.specs.declared.types.Driver.TheVariants.{Input, Undriven, Expr, Reg}
use Rattle.eq_net.specs.declared.net.Net.{Net}
use Rattle.eq_net.specs.Net.{bits_of, design_of, driver_at, nets_of, number_of, source_of, system_of}
use Rattle.eq_net.specs.Whole.{parts_of}
use Rattle.eq_match.specs.declared.types.Pair.{Pair}
use Rattle.eq_match.specs.Pairs.{bit, no_pair, pair_at}
use Rattle.eq_cone.specs.Cut.{IsGraphOfNet}
use Rattle.eq_cone.specs.Paired.{HaveOwnNodes}
use Rattle.eq_cone.proofs.Followed.{any_some}

-- ---- numbers of bits

first_zero : (nets : List ModelNet) → first_bit nets 0 ≡ 0
first_zero [] = refl
first_zero (n ∷ ns) = refl

pub no_number : (nets : List NetInfo) → number_of nets (bit 0 0) ≡ 0
no_number nets = (let e = first_zero (nets_of nets) in omega arith)

-- a table of the numbers of the pairs' bits, also beyond the pairs
pub numbers_at : (nets : List NetInfo) (f : Pair → ℕ) → f no_pair ≡ 0 → (pairs : List Pair) (bits : List ℕ) →
    bits ≡ map f pairs → (i : ℕ) → slice_index_or bits i 0 ≡ f (pair_at pairs i)
numbers_at nets f none pairs bits is i = ap (λ (l : List ℕ). slice_index_or l i 0) is
    ∙ ap (λ (x : ℕ). slice_index_or (map f pairs) i x) (sym none) ∙ get_or-map f pairs i no_pair

-- ---- one side

module _ (net : Net) (g : Graph) (of_net : IsGraphOfNet net g) where
  follows : IsGraphOf (system_of (parts_of net)) (system_of_nodes g.nodes) (own_of g.bits)
  follows = of_net.blasted.follows

  pub own_nodes : HaveOwnNodes g
  own_nodes = record {
    there = λ b lt. (let e = of_net.blasted.count in follows.nodes b (omega arith));
    once = λ a b la lb same. (let e = of_net.blasted.count in follows.once a b (omega arith) (omega arith) same);
  }

  pub few_nodes : length g.nodes ≤ 2000000
  few_nodes = (let e = of_net.bound in let f = net.is_net.limited in omega arith)

  own_input : (i : ℕ) (d : Driver) (x : Node) → IsOwnNode i d x → IsInput (driver_of x) → d ≡ Input
  own_input i Input x is held = refl
  own_input i Undriven x is held = (let P : Node → Type 0 = λ y. IsInput (driver_of y) in absurd (subst P is.1 held))
  own_input i (Expr w j) x is held = (let P : Node → Type 0 = λ y. IsInput (driver_of y) in absurd (subst P is.1 held))
  own_input i (Reg init w j) x is held =
      (let P : Node → Type 0 = λ y. IsInput (driver_of y) in absurd (subst P is.1 held))

  held_input : (s : Source) → IsInput s → IsHeld s
  held_input input h = tt
  held_input undriven h = h
  held_input (equation e) h = h
  held_input (register init e) h = tt

  -- an input of the graph is the own node of a bit that comes from outside
  pub input_is_own : (m : ℕ) → m < length g.nodes → IsInput (driver_of (node_at g.nodes m)) →
      (b : ℕ) × (b < bits_of net.nets) × (own_of g.bits b ≡ m) × (driver_at (parts_of net) b ≡ Input)
  input_is_own m lt held =
      elim (cases_Bool (is_own (bits_of net.nets) (own_of g.bits) m)) [
        | inl own ↦ (
            let t = any_some (bits_of net.nets) (λ b. own_of g.bits b == m) own in
            let e = (Decides-eqb (own_of g.bits t.0) m).0 t.2 in
            let P : ℕ → Type 0 = λ x. IsInput (driver_of (node_at g.nodes x)) in (
              t.0,
              t.1,
              e,
              own_input (inputs_before (parts_of net) t.0) (driver_at (parts_of net) t.0)
                  (node_at g.nodes (own_of g.bits t.0)) (of_net.blasted.kinds t.0 t.1) (subst P (sym e) held),
            ))
        | inr other ↦ absurd (follows.others m lt other (held_input (driver_of (node_at g.nodes m)) held))
      ]

  -- such a bit is a port
  pub port_of_input : IsDesign (design_of (parts_of net)) → (b : ℕ) → b < bits_of net.nets →
      driver_at (parts_of net) b ≡ Input → dir (design_of (parts_of net)) b ≡ is_input
  port_of_input design b lt is =
      let P : Driver → Type 0 = λ d. IsInput (source_of net.nets (parts_of net).words d) in
      (design.inputs b lt).0 (subst P (sym is) tt)

pub is_port : (d : ModelDir) → d ≡ is_input → IsPort d
is_port d e = subst (λ (x : ModelDir). IsPort x) (sym e) tt

-- A part into which two graphs are copied denotes the partition of the systems that they follow.
use Rattle.std.proofs.Common.{ℕ, Bool}
use Rattle.eq_model.specs.System.{System, IsSystem, IsLoopFree}
use Rattle.eq_model.specs.Plan.{Plan, IsOneToOne}
use Rattle.eq_model.specs.Part.{Part, IsPart}
use Rattle.eq_model.specs.Denotes.{Denotes}
use Rattle.eq_model.specs.Copying.{Copying}
use Rattle.eq_model.specs.Graph.{IsGraphOf, on_nodes}
use Rattle.eq_model.proofs.Copied.{copying_denotes}
use Rattle.eq_model.proofs.Nodes.{graph_denotes}

-- own nodes are paired as their bits are
one_on_nodes : (s h gs gh : System) (own_s own_h : ℕ → ℕ) → IsGraphOf s gs own_s → IsGraphOf h gh own_h → (p : Plan) →
    IsOneToOne s h p → IsOneToOne gs gh (on_nodes own_s own_h p)
one_on_nodes s h gs gh own_s own_h gold gate p one = record {
  gold_bits = λ i lt. gold.nodes (p.gold i) (one.gold_bits i lt);
  gate_bits = λ i lt. gate.nodes (p.gate i) (one.gate_bits i lt);
  gold_once = λ i j li lj e. one.gold_once i j li lj (gold.once (p.gold i) (p.gold j) (one.gold_bits i li) (one.gold_bits j lj) e);
  gate_once = λ i j li lj e. one.gate_once i j li lj (gate.once (p.gate i) (p.gate j) (one.gate_bits i li) (one.gate_bits j lj) e);
}

pub copied_graphs_denote : (s h gs gh : System) (own_s own_h : ℕ → ℕ) → IsGraphOf s gs own_s → IsGraphOf h gh own_h →
    IsSystem s → IsSystem h →
    IsSystem gs → IsSystem gh → IsLoopFree gs → IsLoopFree gh → (p : Plan) (inside : ℕ → Bool) → IsOneToOne s h p →
    (t : Part) → IsPart t → Copying gs gh (on_nodes own_s own_h p) inside t → Denotes s h p inside t
copied_graphs_denote s h gs gh own_s own_h gold gate s_is h_is gs_is gh_is gs_free gh_free p inside one t part copying =
    graph_denotes s h gs gh own_s own_h gold gate s_is h_is gs_is gh_is gs_free gh_free p inside one t
    (copying_denotes gs gh (on_nodes own_s own_h p) inside t copying part gs_is gh_is gs_free gh_free (one_on_nodes s h gs gh own_s own_h gold gate p one))

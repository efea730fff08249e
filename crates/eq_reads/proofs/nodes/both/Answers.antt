use Rattle.std.proofs.Common.{refl}
use Rattle.eq_reads.specs.declared.graph.Nodes.{Nodes}
use Rattle.eq_reads.proofs.Grown.{both_grew, both_leads}
use Rattle.eq_reads.proofs.nodes.both.Goals as goal

pub returns-clause-grew : goal.returns-clause-grew
returns-clause-grew c =
    let now : Nodes = record {
      edges = c.push_edge-2.new.edges;
      none = c.args.nodes.now.none;
      next = c.in_ok-nodes.field-0;
    } in
    both_grew c.args.nodes.now now c.requires.are c.args.x c.args.y c.requires.left c.requires.right
    c.push_edge.new.edges.items refl
    c.in_ok-nodes.ensures c.in_ok-push_edge.ensures c.in_ok-push_edge-2.ensures

pub returns-clause-ok : goal.returns-clause-ok
returns-clause-ok c =
    let now : Nodes = record {
      edges = c.push_edge-2.new.edges;
      none = c.args.nodes.now.none;
      next = c.in_ok-nodes.field-0;
    } in
    both_leads c.args.nodes.now now c.requires.are c.args.x c.args.y c.requires.left c.requires.right
    c.push_edge.new.edges.items refl
    c.in_ok-nodes.ensures c.in_ok-push_edge.ensures c.in_ok-push_edge-2.ensures

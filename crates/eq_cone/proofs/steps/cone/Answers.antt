use Rattle.eq_cone.specs.inner.Sides.{cut_of, nodes_of}
use Rattle.eq_cone.proofs.Handed.{cone_reordered, few_in_cone, roots_within}
use Rattle.eq_cone.proofs.steps.cone.Goals as goal

pub walk-requires-clause-within : goal.walk-requires-clause-within
walk-requires-clause-within c = roots_within c.args.graphs.now c.args.sides.now c.args.positions.now c.requires
    c.in_ok-cone.cone c.in_ok-cone.ensures

pub returns : goal.returns
returns c =
    let is = cone_reordered (nodes_of c.args.sides.now) (cut_of c.args.sides.now) c.in_ok-cone.cone c.walk.new.cone
    c.sort.new.self c.in_ok-sort.ensures.same c.in_ok-walk.ensures in (
      c.in_ok-cone.cone,
      record {
        are_roots = c.in_ok-cone.ensures;
        is_cone = is;
        ascending = c.in_ok-sort.ensures.ascending;
        few = few_in_cone c.args.graphs.now c.args.sides.now c.args.positions.now c.requires c.sort.new.self is.within
            c.len-distinct.ensures.distinct;
      },
    )

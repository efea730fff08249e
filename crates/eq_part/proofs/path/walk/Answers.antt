use Rattle.std.proofs.Common.{List, Bool, sym, subst}
use Rattle.eq_model.specs.Frames.{values}
use Rattle.eq_net.specs.Whole.{parts_of}
use Rattle.eq_part.specs.inner.Graph.{IsReached}
use Rattle.eq_part.proofs.Started.{reached_walked, walked_reached}
use Rattle.eq_part.proofs.path.walk.Goals as goal

pub returns-clause-ok : goal.returns-clause-ok
returns-clause-ok c = λ x. (
    let gold = parts_of c.args.gold.now in
    let pairs = c.args.pairs.now in
    let leaders = c.args.leaders.now in
    let hits = values c.args.hits.now in
    let edges = c.args.edges.now in
    let roots = c.in_ok-roots.roots.items in
    let both = c.in_ok-marks.ensures.ok x in
    let P : List Bool → Type 0 = λ ms. IsReached edges ms x in
    let is = c.deref.ensures.value in (
      λ marked. reached_walked gold pairs leaders hits edges roots (λ y m. (c.in_ok-roots.ensures.ok y).0 m) x
          (subst P is (both.0 marked)),
      λ walked. both.1 (subst P (sym is) (walked_reached gold pairs leaders hits edges roots
          (λ y r. (c.in_ok-roots.ensures.ok y).1 r) x walked)),
    ))

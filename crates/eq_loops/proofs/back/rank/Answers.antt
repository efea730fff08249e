use Rattle.std.proofs.Common.{◌≡◌, arith, slice_index}
use Rattle.eq_reads.specs.Graph.{from_at}
use Rattle.eq_loops.proofs.Backs.{fewer_unranked}
use Rattle.eq_loops.proofs.back.rank.Goals as goal

pub returns-clause-fewer : goal.returns-clause-fewer
returns-clause-fewer c = λ is.
    let edges = c.args.edges.now in
    let ranks = c.args.ranks.now in
    let e = c.args.e in
    let sum = c.in_ok-ranks.ensures in
    let taken = c.if-ranks-edge-gt0.false in
    let none : slice_index ranks (from_at edges e) ≡ 0 = omega arith in
    let one = fewer_unranked ranks (from_at edges e) c.in_ok-ranks.field-0 (c.requires.between.starts e c.requires.there) none (omega arith) in
    omega arith

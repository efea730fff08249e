use Rattle.eq_cdcl.proofs.Opening.{valued_more}
use Rattle.eq_cdcl.proofs.search.first_open.Goals as goal
use Rattle.eq_cdcl.proofs.search.first_open.Goals.{in-True, in-False}

pub loop-before-preserved : goal.loop-before-preserved
loop-before-preserved c =
    let lits = c.args.trail.now.lits in
    let n = c.loop-before.before in
    let l = c.new-l.result in
    elim c.match-value.branch [
      | in-True w ↦ valued_more lits n l c.loop-before.invariant c.new-l.ensures.var (λ none. none.0 w.in-True.ensures.value.0)
      | in-False w ↦ valued_more lits n l c.loop-before.invariant c.new-l.ensures.var (λ none. none.1 w.in-False.ensures.value.0)
    ]

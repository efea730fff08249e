use Rattle.eq_cost.proofs.SeenLemmas.{seen_new}
use Rattle.eq_cost.proofs.seen.see_new.Goals as goal

pub returns : goal.returns
returns c = λ bits h.
    seen_new c.args.seen.now _ c.args.bit bits c.requires c.in_ok-mark.ensures c.sum-seen.ensures h

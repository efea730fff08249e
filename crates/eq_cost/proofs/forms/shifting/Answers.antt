use Rattle.eq_cost.proofs.FormLemmas.{is_shifting}
use Rattle.eq_cost.proofs.forms.shifting.Goals as goal

pub returns : goal.returns
returns c = λ s a b left right.
    is_shifting s c.args.op a b _ c.requires left.size (c.apart.ensures s a b left right)

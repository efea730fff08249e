use Rattle.std.proofs.Common.{sym, ◌∙◌}
use Rattle.eq_flatten.proofs.ClashLemmas.{with_known}
use Rattle.eq_flatten.proofs.clashes.meets.Goals as goal

pub returns-then-has_name-clause-again : goal.returns-then-has_name-clause-again
returns-then-has_name-clause-again c = sym (sym c.has_name.ensures ∙ c.if-has_name.true)

pub returns-then-has_name-clause-names : goal.returns-then-has_name-clause-names
returns-then-has_name-clause-names c =
    sym (with_known c.args.table.now c.args.name.now (sym c.has_name.ensures ∙ c.if-has_name.true))

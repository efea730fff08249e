use Rattle.std.proofs.Common.{sym, ◌∙◌}
use Rattle.eq_analysis.proofs.BesideLemmas.{add_known, add_new}
use Rattle.eq_analysis.proofs.declaring.add_first.Goals as goal

pub returns-then-branch-clause-found : goal.returns-then-branch-clause-found
returns-then-branch-clause-found c =
    add_known c.args.names.now c.meets.new.table c.args.found.now.items c.args.name.now c.args.declared c.requires.same
    (sym c.in_ok-meets.ensures.again ∙ c.if-branch.true) c.in_ok-meets.ensures.names

pub returns-clause-found : goal.returns-clause-found
returns-clause-found c =
    add_new c.args.names.now c.meets.new.table c.args.found.now.items c.push.new.self.items c.args.name.now
    c.args.declared c.requires.same (sym c.in_ok-meets.ensures.again ∙ c.if-branch.false) c.in_ok-meets.ensures.names
    c.in_ok-push.ensures.items

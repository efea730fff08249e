use Rattle.std.proofs.Common.{◌≡◌, ℕ, List, ◌++◌, ◌∙◌, ap}
use Rattle.eq_config.specs.Printing.{printed}
use Rattle.eq_config.proofs.ConfigLeads.{printed_back}
use Rattle.eq_config.proofs.print.print_config.Goals as goal

pub returns-clause-back : goal.returns-clause-back
returns-clause-back c =
    let is : c.put_config.new.out ≡ printed c.args.c.now = c.in_ok-put_config.ensures
    ∙ ap (λ (o : List ℕ). o ++ printed c.args.c.now) c.new-out.ensures in
    printed_back c.args.c.now c.put_config.new.out is

use Rattle.std.proofs.Common.{List, ap, ◌∙◌}
use Rattle.eq_verilog.specs.Trees.{Name}
use Rattle.eq_verilog.specs.Declarations.{has}
use Rattle.eq_analysis.proofs.HavingLemmas.{has_once}
use Rattle.eq_analysis.proofs.tables.Table.is_port.Goals as goal

pub returns : goal.returns
returns c =
    c.has_name.ensures
    ∙ ap (λ (ns : List Name). has ns c.args.name.now) c.args.self.now.ports_are
    ∙ has_once c.args.self.now.within.now.ports c.args.name.now

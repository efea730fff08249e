use Rattle.std.proofs.Common.{sym, ap, ◌∙◌}
use Rattle.eq_names.specs.Tables.{number_of}
use Rattle.eq_verilog.specs.Trees.{Name}
use Rattle.eq_assembly.proofs.TopNames.{found_there}
use Rattle.eq_assembly.proofs.porting.number_of.Goals as goal

pub returns : goal.returns
returns c =
    found_there c.args.names.now c.args.name.now c.in-Some.number
    (sym (ap (λ (t : Name). number_of c.args.names.now t) c.bytes.ensures.bytes) ∙ sym c.in-Some.ensures)

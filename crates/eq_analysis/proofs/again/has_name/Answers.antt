use Rattle.std.proofs.Common.{ℕ, List, Option, ap, ◌∙◌}
use Rattle.std.specs.Prelude.{is_some}
use Rattle.eq_names.specs.Tables.{number_of}
use Rattle.eq_analysis.proofs.again.has_name.Goals as goal

pub returns : goal.returns
returns c =
    c.is_some.ensures
    ∙ ap (λ (o : Option ℕ). is_some o) c.find.ensures
    ∙ ap (λ (n : List ℕ). is_some (number_of c.args.table.now n)) c.bytes.ensures.bytes
    ∙ c.names_by_number.ensures c.args.table.now c.args.name.now

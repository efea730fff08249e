use Rattle.std.proofs.Common.{ℕ, List, ap, sym, ◌∙◌}
use Rattle.std.specs.Prelude.{slice_get, unwrap_or}
use Rattle.eq_names.specs.Tables.{number_of}
use Rattle.eq_verilog.specs.Trees.{Name}
use Rattle.eq_analysis.proofs.PlacingLemmas.{offset_there, offset_nowhere}
use Rattle.eq_analysis.proofs.placing.first_bit.Goals as goal

pub returns-in-Some : goal.returns-in-Some
returns-in-Some c = λ m are.
    c.number_at.ensures
    ∙ ap (λ (xs : List ℕ). unwrap_or (slice_get xs c.in-Some.place) c.args.places.now.starts.total)
    c.deref.ensures.value
    ∙ offset_there m c.args.places.now are c.args.name.now c.in-Some.place
    (ap (λ (n : Name). number_of c.args.places.now.names n) (sym c.bytes.ensures.bytes)
    ∙ sym c.find.ensures ∙ c.in-Some.is)

pub returns-in-None : goal.returns-in-None
returns-in-None c = λ m are.
    offset_nowhere m c.args.places.now are c.args.name.now
    (ap (λ (n : Name). number_of c.args.places.now.names n) (sym c.bytes.ensures.bytes)
    ∙ sym c.find.ensures ∙ c.in-None.is)

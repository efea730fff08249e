use Rattle.std.proofs.Common.{◌≡◌, List, Bool, Option, ap, sym, subst, ◌∙◌}
use Rattle.eq_net.specs.inner.Cells.{Valuation, cell_at, computed}
use Rattle.eq_net.specs.inner.Circuits.{Extends}
use Rattle.eq_net.proofs.Walked.{computed_next}
use Rattle.eq_net.proofs.cells.walk.settle.Goals as goal

pub returns-in-Ok-clause-computed : goal.returns-in-Ok-clause-computed
returns-in-Ok-clause-computed c =
    let links = c.args.links.now in
    let cells = c.args.cells.now in
    let old = c.args.values.now.items in
    let right : (v : Valuation) → Extends links old v → computed v (cell_at cells c.args.place) ≡ c.in-Ok.value =
    λ v h. (let E : List (Option Bool) → Type 0 = λ vs. Extends links vs v in
    ap (computed v) (sym c.cell_in-cell.ensures) ∙ c.in-Ok.ensures v (subst E (sym c.deref.ensures.value) h)) in
    computed_next links cells old c.keep.new.values.items c.args.place c.in-Ok.value c.keep.ensures.size c.keep.ensures.here c.keep.ensures.kept c.keep.ensures.others right

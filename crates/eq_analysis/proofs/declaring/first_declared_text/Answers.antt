use Rattle.std.proofs.Common.{List, ap, sym, ◌∙◌}
use Rattle.std.specs.Prelude.{slice_get}
use Rattle.eq_analysis.specs.declared.declaring.Declared.{Declared}
use Rattle.eq_analysis.proofs.BesideLemmas.{beside_there, beside_nowhere}
use Rattle.eq_analysis.proofs.declaring.first_declared_text.Goals as goal

pub returns-in-Some : goal.returns-in-Some
returns-in-Some c =
    c.declared_at.ensures
    ∙ ap (λ (xs : List Declared). slice_get xs c.in-Some.number) c.deref.ensures.value
    ∙ sym (beside_there c.args.firsts.now.names c.args.firsts.now.found.items c.args.text.now c.in-Some.number
    c.requires.same
    (sym c.find.ensures ∙ c.in-Some.is))

pub returns-in-None : goal.returns-in-None
returns-in-None c =
    sym (beside_nowhere c.args.firsts.now.names c.args.firsts.now.found.items c.args.text.now c.requires.same
    (sym c.find.ensures ∙ c.in-None.is))

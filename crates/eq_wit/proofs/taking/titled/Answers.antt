use Rattle.std.proofs.Common.{refl}
use Rattle.eq_names.specs.Name.{IsName}
use Rattle.eq_wit.specs.declared.state.State.TheVariants as state
use Rattle.eq_wit.specs.inner.Reading.{part_line}
use Rattle.eq_wit.proofs.TakeLemmas.{item_taken, stopped_here}
use Rattle.eq_wit.proofs.taking.titled.Goals as goal

pub returns-in-Ok : goal.returns-in-Ok
returns-in-Ok c = item_taken state.Titled part_line IsName state.Named c.args.words.now (λ x h. (x, h, refl, refl))
    c.in-Ok.name c.in-Ok.ensures

pub returns-in-Err : goal.returns-in-Err
returns-in-Err c = stopped_here state.Titled part_line IsName state.Named c.args.words.now (λ x h. (x, h, refl, refl))
    c.in-Err.stop (λ l next f. (f.0, f.1, f.2)) (λ t e. cc (e)) (λ x fits form again. again) c.in-Err.ensures

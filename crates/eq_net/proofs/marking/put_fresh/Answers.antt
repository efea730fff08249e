use Rattle.std.proofs.Common.{◌≡◌, List, IfSome, slice_index_or, ap, subst, ◌∙◌}
use Rattle.eq_net.specs.declared.types.Driver.{Driver}
use Rattle.eq_net.specs.declared.types.Driver.TheVariants.{Undriven}
use Rattle.eq_net.specs.Net.{driver_at}
use Rattle.eq_net.specs.Whole.{parts_of}
use Rattle.eq_net.specs.inner.Marks.{HasValue}
use Rattle.eq_net.proofs.Swept.{held_marked, swept_marked}
use Rattle.eq_net.proofs.marking.put_fresh.Goals as goal

pub returns-clause-held : goal.returns-clause-held
returns-clause-held c =
    let net = c.args.net.now in
    let n = parts_of net in
    let words = c.args.words.now in
    let whole = c.args.whole.now in
    let at : c.driver_in-driver.result ≡ driver_at n c.args.b = c.driver_in-driver.ensures ∙ ap (λ (ds : List Driver). slice_index_or ds c.args.b Undriven) c.as_slice.ensures in
    let P : Driver → Type 0 = λ d. IfSome c.final_value-value.result (HasValue d words whole) in
    held_marked n c.args.now.now c.mark.new.now c.args.done.now.items c.mark.new.done.items words whole c.args.b c.final_value-value.result
    (subst P at c.final_value-value.ensures) c.mark.ensures.marked

pub returns-clause-swept : goal.returns-clause-swept
returns-clause-swept c =
    let net = c.args.net.now in
    let n = parts_of net in
    let words = c.args.words.now in
    let whole = c.args.whole.now in
    let at : c.driver_in-driver.result ≡ driver_at n c.args.b = c.driver_in-driver.ensures ∙ ap (λ (ds : List Driver). slice_index_or ds c.args.b Undriven) c.as_slice.ensures in
    let P : Driver → Type 0 = λ d. IfSome c.final_value-value.result (HasValue d words whole) in
    swept_marked n net.is_net c.args.now.now c.mark.new.now c.args.done.now.items c.mark.new.done.items words whole c.args.b c.final_value-value.result
    (subst P at c.final_value-value.ensures) c.requires.fresh c.mark.ensures.marked

use Rattle.std.proofs.Common.{◌≡◌, ℕ, List, slice_get, slice_set, Some, arith, sym, ap, subst, ◌∙◌}
use Rattle.std.proofs.lemmas.Option.{same_Some, slice_get_within}
use Rattle.eq_net.specs.declared.types.WordBit.{WordBit}
use Rattle.eq_registers.proofs.Placed.{set_other, set_same}
use Rattle.eq_registers.proofs.setting.put.Goals as goal

pub returns-clause-here : goal.returns-clause-here
returns-clause-here c = λ p here.
    let q = c.place-at.result in
    let table = c.args.table.now in
    let bits = c.args.keys.now.bits in
    let found = c.place-at.ensures in
    let one : p ≡ q = same_Some p q (sym (c.requires.keys.placed c.args.bit p here) ∙ c.requires.keys.placed c.args.bit q found) in
    let within = slice_get_within bits q c.args.bit found in
    let size = c.requires.size in
    subst (λ (es : List WordBit). slice_get es p ≡ Some c.args.entry) (sym c.set.ensures)
    (ap (λ (i : ℕ). slice_get (slice_set table q c.args.entry) i) one
    ∙ set_same table q c.args.entry (omega (arith, within, size)))

pub returns-clause-others : goal.returns-clause-others
returns-clause-others c = λ p b key apart.
    let q = c.place-at.result in
    let table = c.args.table.now in
    let bits = c.args.keys.now.bits in
    subst (λ (es : List WordBit). slice_get es p ≡ slice_get table p) (sym c.set.ensures)
    (set_other table q p c.args.entry
    (λ e. apart (same_Some b c.args.bit (sym key ∙ ap (λ (i : ℕ). slice_get bits i) (sym e) ∙ c.place-at.ensures))))

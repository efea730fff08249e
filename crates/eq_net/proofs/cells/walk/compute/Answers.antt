use Rattle.std.proofs.Common.{Bool, not, ◌&&◌, ◌||◌, cond, ap, sym, ◌∙◌}
use Rattle.eq_net.specs.Numbers.{differ}
use Rattle.eq_net.specs.inner.Cells.{computed}
use Rattle.eq_net.proofs.Registers.{if_ok}
use Rattle.eq_net.proofs.cells.walk.compute.Goals as goal

pub returns-in-Bit : goal.returns-in-Bit
returns-in-Bit c =
    if_ok c.value.result (λ x f v h. ap (computed v) c.in-Bit.is ∙ h.bits c.in-Bit.b ∙ ap v.cells (sym c.linked.ensures) ∙ f c.args.links.now v h) c.value.ensures

pub returns-in_ok-value-in-Not : goal.returns-in_ok-value-in-Not
returns-in_ok-value-in-Not c = λ v h. ap (computed v) c.in-Not.is ∙ ap not (c.in_ok-value-in-Not.ensures c.args.links.now v h)

pub returns-in_ok-value-in-And-2 : goal.returns-in_ok-value-in-And-2
returns-in_ok-value-in-And-2 c = λ v h.
    ap (computed v) c.in-And.is ∙ ap (λ x. x && v.cells c.in-And.b) (c.in_ok-value-in-And.ensures c.args.links.now v h)
    ∙ ap (λ x. c.in_ok-value-in-And.field-0 && x) (c.in_ok-value-in-And-2.ensures c.args.links.now v h)

pub returns-in_ok-value-in-Or-2 : goal.returns-in_ok-value-in-Or-2
returns-in_ok-value-in-Or-2 c = λ v h.
    ap (computed v) c.in-Or.is ∙ ap (λ x. x || v.cells c.in-Or.b) (c.in_ok-value-in-Or.ensures c.args.links.now v h)
    ∙ ap (λ x. c.in_ok-value-in-Or.field-0 || x) (c.in_ok-value-in-Or-2.ensures c.args.links.now v h)

pub returns-in_ok-value-in-Xor-2 : goal.returns-in_ok-value-in-Xor-2
returns-in_ok-value-in-Xor-2 c = λ v h.
    ap (computed v) c.in-Xor.is ∙ ap (λ x. differ x (v.cells c.in-Xor.b)) (c.in_ok-value-in-Xor.ensures c.args.links.now v h)
    ∙ ap (differ c.in_ok-value-in-Xor.field-0) (c.in_ok-value-in-Xor-2.ensures c.args.links.now v h) ∙ sym c.differ.ensures

pub returns-then-branch : goal.returns-then-branch
returns-then-branch c =
    if_ok c.value-then-branch.result (λ x f v h. ap (computed v) c.in-Choose.is
    ∙ ap (λ t. cond {A = Bool} t (v.cells c.in-Choose.a) (v.cells c.in-Choose.b)) (c.in_ok-value-in-Choose.ensures c.args.links.now v h ∙ c.if-branch.true) ∙ f c.args.links.now v h) c.value-then-branch.ensures

pub returns-else-branch : goal.returns-else-branch
returns-else-branch c =
    if_ok c.value-else-branch.result (λ x f v h. ap (computed v) c.in-Choose.is
    ∙ ap (λ t. cond {A = Bool} t (v.cells c.in-Choose.a) (v.cells c.in-Choose.b)) (c.in_ok-value-in-Choose.ensures c.args.links.now v h ∙ c.if-branch.false) ∙ f c.args.links.now v h) c.value-else-branch.ensures

use Rattle.std.proofs.Common.{ℕ, List, ap, ap₂, subst, sym, ◌∙◌}
use Rattle.eq_names.specs.declared.BitName.{BitName}
use Rattle.eq_verilog.specs.Trees.{part}
use Rattle.eq_verilog.specs.Scopes.{position}
use Rattle.eq_analysis.specs.Finding.{net_in, scope_of}
use Rattle.eq_flatten.specs.Forms.{net_bits}
use Rattle.eq_flatten.specs.Meant.{AreMeant}
use Rattle.eq_flatten.proofs.MeantBits.{part_meant}
use Rattle.eq_flatten.proofs.Selecting.{if_ok}
use Rattle.eq_flatten.proofs.bits.part_bits.Goals as goal

pub returns : goal.returns
returns c =
    let nets = c.args.nets.now in
    let names = c.args.names.now in
    let from = c.args.from in
    let first = c.position-first.ensures ∙ ap (λ o. position o c.args.right) c.range.ensures in
    if_ok c.net_bits.result (λ bits e. subst
    (λ (k : List BitName). AreMeant nets (scope_of nets names from) (part c.args.name.now c.args.left c.args.right) k)
    (sym (e ∙ ap₂ (λ (n p : ℕ). net_bits n p c.span-count.result) c.net_number-net.ensures first
    ∙ ap (λ (k : ℕ). net_bits (net_in names from c.args.name.now)
    (position ((scope_of nets names from).range c.args.name.now) c.args.right) k) c.span-count.ensures))
    (part_meant nets names from c.args.name.now c.args.left c.args.right c.requires.there c.requires.inside)) c.net_bits.ensures

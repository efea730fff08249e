use Rattle.std.proofs.Common.{ℕ, List, ap₂, subst, sym, ◌∙◌}
use Rattle.eq_names.specs.declared.BitName.{BitName}
use Rattle.eq_verilog.specs.Trees.{net}
use Rattle.eq_analysis.specs.Finding.{scope_of}
use Rattle.eq_flatten.specs.Forms.{net_bits}
use Rattle.eq_flatten.specs.Meant.{AreMeant}
use Rattle.eq_flatten.proofs.MeantBits.{name_meant}
use Rattle.eq_flatten.proofs.Selecting.{if_ok}
use Rattle.eq_flatten.proofs.bits.name_bits.Goals as goal

pub returns : goal.returns
returns c =
    let nets = c.args.nets.now in
    let names = c.args.names.now in
    let from = c.args.from in
    if_ok c.net_bits.result (λ bits e. subst
    (λ (k : List BitName). AreMeant nets (scope_of nets names from) (net c.args.name.now) k)
    (sym (e ∙ ap₂ (λ (n k : ℕ). net_bits n 0 k) c.net_number-net.ensures c.width-count.ensures))
    (name_meant nets names from c.args.name.now c.requires.there)) c.net_bits.ensures

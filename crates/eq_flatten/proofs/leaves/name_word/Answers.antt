use Rattle.std.proofs.Common.{ℕ, ap₂, subst, sym, ◌∙◌}
use Rattle.eq_net.specs.Tree.{Tree, extended, read}
use Rattle.eq_verilog.specs.Trees.{net}
use Rattle.eq_analysis.specs.Finding.{scope_of}
use Rattle.eq_flatten.specs.Forms.{net_bits}
use Rattle.eq_flatten.specs.Rendering.{Makes}
use Rattle.eq_flatten.proofs.Selecting.{if_ok, makes_net}
use Rattle.eq_flatten.proofs.leaves.name_word.Goals as goal

pub returns : goal.returns
returns c =
    let nets = c.args.nets.now in
    let names = c.args.names.now in
    let from = c.args.from in
    if_ok c.read.result (λ made e words. subst
    (λ (t : Tree). Makes nets (scope_of nets names from) (net c.args.name.now) c.args.size words words t)
    (sym (e ∙ ap₂ (λ (n k : ℕ). extended (read (net_bits n 0 k)) c.args.size) c.net_number-net.ensures
    c.width-count.ensures))
    (makes_net nets names from words c.args.name.now c.args.size c.requires.context c.requires.there)) c.read.ensures

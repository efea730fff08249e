use Rattle.std.proofs.Common.{ℕ, ap, subst, sym, ◌∙◌}
use Rattle.eq_net.specs.Tree.{Tree, extended, read}
use Rattle.eq_verilog.specs.Trees.{part}
use Rattle.eq_verilog.specs.Scopes.{position}
use Rattle.eq_analysis.specs.Finding.{net_in, scope_of}
use Rattle.eq_flatten.specs.Forms.{net_bits}
use Rattle.eq_flatten.specs.Rendering.{Makes}
use Rattle.eq_flatten.proofs.Selecting.{if_ok, makes_part}
use Rattle.eq_flatten.proofs.leaves.part_word.Goals as goal

pub returns : goal.returns
returns c =
    let nets = c.args.nets.now in
    let names = c.args.names.now in
    let from = c.args.from in
    let w = c.args.size in
    let first = c.position-first.ensures ∙ ap (λ o. position o c.args.right) c.range.ensures in
    if_ok c.read.result (λ made e words. subst
    (λ (t : Tree). Makes nets (scope_of nets names from) (part c.args.name.now c.args.left c.args.right) w words words
    t)
    (sym (e ∙ ap (λ (n : ℕ). extended (read (net_bits n c.position-first.result c.span-count.result)) w)
    c.net_number-net.ensures
    ∙ ap (λ (p : ℕ). extended (read (net_bits (net_in names from c.args.name.now) p c.span-count.result)) w) first
    ∙ ap (λ (k : ℕ). extended (read (net_bits (net_in names from c.args.name.now) (position ((scope_of nets names
    from).range c.args.name.now) c.args.right) k)) w) c.span-count.ensures))
    (makes_part nets names from words c.args.name.now c.args.left c.args.right w c.requires.context c.requires.there
    c.requires.inside))
    c.read.ensures

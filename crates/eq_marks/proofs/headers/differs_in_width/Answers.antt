use Rattle.std.proofs.Common.{◌==◌, not, ℕ, ap, sym, ◌∙◌}
use Rattle.eq_net.specs.declared.types.NetInfo.{NetInfo}
use Rattle.eq_net.specs.Nets.{width_of}
use Rattle.eq_net.specs.Net.{name_at, net_at}
use Rattle.eq_marks.specs.Answers.{meaning}
use Rattle.eq_marks.specs.Ports.{net_named, port_width}
use Rattle.eq_marks.proofs.HeaderLemmas.{found_net, width_nowhere, width_there}
use Rattle.eq_marks.proofs.headers.differs_in_width.Goals as goal

pub returns-in-Some : goal.returns-in-Some
returns-in-Some c =
    let gold = c.args.gold.now in
    let gate = meaning c.args.gate.now in
    let name = name_at gold.nets c.args.port in
    let here = width_there (meaning gold) name (net_at gold.nets c.args.port) (sym (found_net gold.nets
    gold.is_net.names c.args.port c.requires.port)) in
    let there = width_there gate name c.in-Some.other.now (c.in-Some.ensures ∙ ap (λ (m : NetInfo). net_named gate
    m.name) c.net_at-net.ensures) in
    ap (λ (x : ℕ). not (x == c.width-in-Some.result)) (c.width.ensures ∙ ap (λ (m : NetInfo). width_of m)
    c.net_at-net.ensures ∙ here)
    ∙ ap (λ (y : ℕ). not (port_width (meaning gold) name == y)) (c.width-in-Some.ensures ∙ there)

pub returns-in-None : goal.returns-in-None
returns-in-None c =
    let gold = c.args.gold.now in
    let gate = meaning c.args.gate.now in
    let name = name_at gold.nets c.args.port in
    let here = width_there (meaning gold) name (net_at gold.nets c.args.port) (sym (found_net gold.nets
    gold.is_net.names c.args.port c.requires.port)) in
    let nowhere = width_nowhere gate name (c.in-None.ensures ∙ ap (λ (m : NetInfo). net_named gate m.name)
    c.net_at-net.ensures) in
    ap (λ (x : ℕ). not (x == 0)) (c.width-in-None.ensures ∙ ap (λ (m : NetInfo). width_of m) c.net_at-net.ensures ∙
    here)
    ∙ ap (λ (y : ℕ). not (port_width (meaning gold) name == y)) nowhere

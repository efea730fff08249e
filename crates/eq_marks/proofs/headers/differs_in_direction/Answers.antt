use Rattle.std.proofs.Common.{ap, sym, ◌∙◌}
use Rattle.eq_net.specs.declared.types.NetInfo.{NetInfo}
use Rattle.eq_net.specs.Numbers.{differ}
use Rattle.eq_net.specs.Net.{name_at, net_at}
use Rattle.eq_marks.specs.Answers.{meaning}
use Rattle.eq_marks.specs.Ports.{is_input_of, net_named}
use Rattle.eq_marks.specs.inner.Headers.{is_input_net}
use Rattle.eq_marks.proofs.HeaderLemmas.{differ_nothing, found_net, is_input_nowhere, is_input_there}
use Rattle.eq_marks.proofs.headers.differs_in_direction.Goals as goal

pub returns-in-Some : goal.returns-in-Some
returns-in-Some c =
    let gold = c.args.gold.now in
    let gate = meaning c.args.gate.now in
    let name = name_at gold.nets c.args.port in
    let here = is_input_there (meaning gold) name (net_at gold.nets c.args.port) (sym (found_net gold.nets
    gold.is_net.names c.args.port c.requires.port)) in
    let there = is_input_there gate name c.in-Some.other.now (c.in-Some.ensures ∙ ap (λ (m : NetInfo). net_named gate
    m.name) c.net_at-net.ensures) in
    c.differ.ensures
    ∙ ap (λ x. differ x c.is_input-in-Some.result) (c.is_input.ensures ∙ ap (λ (m : NetInfo). is_input_net m.dir)
    c.net_at-net.ensures ∙ here)
    ∙ ap (λ y. differ (is_input_of (meaning gold) name) y) (c.is_input-in-Some.ensures ∙ there)

pub returns-in-None : goal.returns-in-None
returns-in-None c =
    let gold = c.args.gold.now in
    let gate = meaning c.args.gate.now in
    let name = name_at gold.nets c.args.port in
    let here = is_input_there (meaning gold) name (net_at gold.nets c.args.port) (sym (found_net gold.nets
    gold.is_net.names c.args.port c.requires.port)) in
    let nowhere = is_input_nowhere gate name (c.in-None.ensures ∙ ap (λ (m : NetInfo). net_named gate m.name)
    c.net_at-net.ensures) in
    c.is_input-in-None.ensures ∙ ap (λ (m : NetInfo). is_input_net m.dir) c.net_at-net.ensures ∙ here
    ∙ differ_nothing (is_input_of (meaning gold) name) ∙ ap (λ y. differ (is_input_of (meaning gold) name) y) nowhere

use Rattle.std.proofs.Common.{ℕ, List, Option, ap, subst, ◌∙◌, None, if◌then◌else◌}
use Rattle.eq_net.specs.Net.{design_of, nets_of}
use Rattle.eq_net.specs.Tree.{trees_of}
use Rattle.eq_verilog.specs.Firsts.{first_found}
use Rattle.eq_reads.specs.Graph.{bare}
use Rattle.eq_marks.specs.Events.{is_event}
use Rattle.eq_marks.specs.inner.Events.{clock_end, first_unmarked, IsEventClass}
use Rattle.eq_marks.proofs.EventLemmas.{clock_is, unmarked_is}
use Rattle.eq_marks.proofs.events.edges_of.Goals as goal

pub returns-clause-clock : goal.returns-clause-clock
returns-clause-clock c =
    let n = bare c.args.nets.now (trees_of c.args.words.now) c.args.drivers.now in
    c.clock_of-clock.ensures
    ∙ ap (λ (cs : List (Option ℕ)). clock_end cs c.args.events.now) c.deref-2.ensures.value
    ∙ clock_is n c.in_ok-copies.copies.items c.in_ok-copies.ensures c.args.events.now c.requires.there

pub returns-clause-astray : goal.returns-clause-astray
returns-clause-astray c =
    let n = bare c.args.nets.now (trees_of c.args.words.now) c.args.drivers.now in
    let es = c.args.events.now in
    let copies = c.in_ok-copies.copies.items in
    let class = c.in_ok-class.class.items in
    let clock = c.clock_of-clock.result in
    let clock_ends = returns-clause-clock c in
    let is = subst (λ (cs : List (Option ℕ)). IsEventClass (nets_of n.nets) cs clock class) c.deref-3.ensures.value
    c.in_ok-class.ensures in
    c.first_outside-astray.ensures
    ∙ ap (λ (cs : List (Option ℕ)). first_unmarked cs es) c.deref-4.ensures.value
    ∙ unmarked_is n copies c.in_ok-copies.ensures clock class is es c.requires.there
    ∙ ap (λ (k : Option ℕ). first_found (λ e. if is_event (design_of n) k e then None else e) es) clock_ends

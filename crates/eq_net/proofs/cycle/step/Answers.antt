use Rattle.std.proofs.Common.{◌≡◌, List, Bool, length, arith, ap, sym, subst, ◌∙◌}
use Rattle.eq_model.specs.Frames.{frames, values}
use Rattle.eq_model.specs.System.{Cycle, nothing}
use Rattle.eq_net.specs.declared.types.Driver.{Driver}
use Rattle.eq_net.specs.Cycles.{IsStep, word_values}
use Rattle.eq_net.specs.Held.{held_bits, next_bits}
use Rattle.eq_net.specs.Net.{number_of, system_of}
use Rattle.eq_net.specs.Whole.{parts_of}
use Rattle.eq_net.proofs.Registers.{length-held_bits, length-next_bits, next_of_words, written}
use Rattle.eq_net.proofs.cycle.step.Goals as goal

pub solve-requires : goal.solve-requires
solve-requires c =
    let there = ap length c.deref_mut.ensures.value in
    let held = ap length c.in_ok-values.ensures in
    let size = length-held_bits c.as_slice.result.now c.as_slice-2.result.now c.args.inputs.now in
    let drivers = ap length c.as_slice.ensures in
    let bits = c.args.net.now.is_net.one_driver in
    omega arith

pub returns : goal.returns
returns c =
    let net = c.args.net.now in
    let n = parts_of net in
    let start = c.deref_mut.result.now in
    let new = c.solve.new.now in
    let there = ap length c.deref_mut.ensures.value in
    let held = ap length c.in_ok-values.ensures in
    let size = length-held_bits c.as_slice.result.now c.as_slice-2.result.now c.args.inputs.now in
    let drivers = ap length c.as_slice.ensures in
    let bits = net.is_net.one_driver in
    let kept = c.solve.auto.now in
    let ok = c.in_ok-values.values.ok in
    let e : c.from_vec.result ≡ new = c.from_vec.ensures ∙ written c.in_ok-values.values.len new c.in_ok-values.values.items (omega arith) in
    let given : start ≡ held_bits net.drivers c.args.state.now c.args.inputs.now = c.deref_mut.ensures.value ∙ c.in_ok-values.ensures
    ∙ ap (λ (ds : List Driver). held_bits ds c.as_slice-2.result.now c.args.inputs.now) c.as_slice.ensures ∙ ap (λ (s : List Bool). held_bits net.drivers s c.args.inputs.now) c.as_slice-2.ensures in
    let goes : c.in_ok-next.next ≡ next_bits (word_values n (values new)) net.drivers = c.in_ok-next.ensures
    ∙ ap (λ (all : List (List Bool)). next_bits (frames all) c.as_slice-3.result.now) c.deref.ensures.value
    ∙ ap (λ (ds : List Driver). next_bits (frames c.in_ok-words.words.items) ds) c.as_slice-3.ensures
    ∙ next_of_words (values new) (number_of net.nets) net.words c.in_ok-words.words.items net.drivers c.in_ok-words.ensures.words net.is_net.drivers_named in
    let P : List Bool → Type 0 = λ bs. IsStep n c.args.state.now c.args.inputs.now bs c.in_ok-next.next in
    let Q : List Bool → Type 0 = λ bs. Cycle (system_of n) nothing (values bs) (values new) in
    subst P (sym e) (record {
      size = omega arith;
      cycle = subst Q given c.in_ok-words.ensures.cycle;
      next = goes;
      count = ap length goes ∙ length-next_bits (word_values n (values new)) net.drivers;
    })

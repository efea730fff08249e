use Rattle.std.proofs.Common.{◌≡◌, List, [], Bool, map, length, slice_index_or, false, sym, ap, subst, arith, ◌∙◌}
use Rattle.eq_model.specs.Frames.{values}
use Rattle.eq_model.specs.System.{Cycle, nothing}
use Rattle.eq_first.specs.declared.module.Direction.TheVariants.{Output}
use Rattle.eq_net.specs.Held.{held_bits, initial_bits, input_count}
use Rattle.eq_net.specs.Net.{Parts, bits_of, system_of}
use Rattle.eqy.specs.Listing.{given}
use Rattle.eqy.specs.Netlist.{driver_of, first_parts}
use Rattle.eqy.proofs.Listed.{no_register, output_value}
use Rattle.eqy.proofs.Ports.{bits_of-ports, goes_below, input_count-ports}
use Rattle.eqy.proofs.listing.output.Goals as goal

pub step-requires-clause-inputs : goal.step-requires-clause-inputs
step-requires-clause-inputs c =
    c.requires.inputs ∙ sym (input_count-ports c.args.design.now.ports) ∙ ap (λ (n : Parts). input_count n.drivers) (sym c.requires.netlist)

pub bounds-as_slice-design : goal.bounds-as_slice-design
bounds-as_slice-design c =
    let size = ap length c.as_slice.ensures in
    let values = c.in_ok-stepped.ensures.size in
    let nets = ap (λ (n : Parts). bits_of n.nets) c.requires.netlist in
    let bits = bits_of-ports c.args.design.now.ports in
    let there = goes_below c.args.design.now.ports Output c.args.design.now.output c.requires.well.output in
    omega arith

pub returns : goal.returns
returns c =
    let m = c.args.design.now in
    let v = values c.in_ok-stepped.stepped.values in
    let xs = c.args.inputs.now in
    let empty : c.in_ok-state.state ≡ [] = c.in_ok-state.ensures.values ∙ ap (λ (n : Parts). initial_bits n.drivers) c.requires.netlist ∙ no_register m.ports in
    let P : Parts → Type 0 = λ n. Cycle (system_of n) nothing (values (held_bits n.drivers c.in_ok-state.state xs)) v in
    let Q : List Bool → Type 0 = λ s. Cycle (system_of (first_parts m)) nothing (values (held_bits (map driver_of m.ports) s xs)) v in
    let cycle = subst Q empty (subst P c.requires.netlist c.in_ok-stepped.ensures.cycle) in
    ap (λ (ys : List Bool). slice_index_or ys m.output false) c.as_slice.ensures ∙ output_value m c.requires.well (given m.ports xs) v cycle

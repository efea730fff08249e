use Rattle.std.proofs.Common.{◌+◌, List, [], ◌∷◌, ◌++◌, map, length, ap, subst, sym, ◌∙◌, arith}
use Rattle.eq_first.specs.declared.module.Port.{Port}
use Rattle.eq_net.specs.declared.types.Word.{Word}
use Rattle.eq_net.specs.Tree.{Tree, trees_of}
use Rattle.eq_net.specs.Net.{IsNet, Parts, system_of}
use Rattle.eqy.specs.Netlist.{first_parts, net_of, driver_of, numbers_from}
use Rattle.eqy.proofs.Made.{made, same_parts, rank, ranks, word_reads}
use Rattle.eqy.proofs.Ports.{bits_of-ports}
use Rattle.eqy.proofs.netlist.netlist.Goals as goal

pub invariant_of-result : goal.invariant_of-result
invariant_of-result c =
    let m = c.args.design.now in
    let ports = c.as_slice-ports.ensures in
    let trees = ap trees_of (c.in_ok-push.ensures.ok ∙ ap (λ (ws : List Word). ws ++ c.in_ok-word.field-0 ∷ []) c.new-words.ensures)
    ∙ ap (λ (t : Tree). t ∷ []) c.in_ok-word.ensures in
    let s = system_of (first_parts m) in
    let bits = bits_of-ports m.ports in
    let is = c.words_make_a_system.ensures (first_parts m) (word_reads m c.requires.well.reads) in
    let free = c.ranked.ensures s is (rank m.ports) (λ a b lt reads. ranks m c.requires.well.reads a b (omega arith) reads) in
    let P : Parts → Type 0 = λ n. IsNet n in
    record {
      is_net = subst P (sym (same_parts m c.in_ok-nets.nets (trees_of c.push.new.self) c.in_ok-drivers.drivers c.in_ok-numbers.numbers
          (2 + length c.as_slice-ports.result.now + c.cost.result)
          (c.in_ok-nets.ensures ∙ ap (map net_of) ports) trees (c.in_ok-drivers.ensures ∙ ap (map driver_of) ports)
          (c.in_ok-numbers.ensures ∙ ap (λ (ps : List Port). numbers_from 0 (length ps)) ports)
          (let e = ap length ports in let k = c.cost.ensures.cost in omega arith)))
          (made m c.requires.well c.requires.few free);
    }

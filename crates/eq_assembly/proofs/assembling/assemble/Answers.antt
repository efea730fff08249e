use Rattle.std.proofs.Common.{ℕ, List, Option, map, sym, ap, subst, ◌∙◌}
use Rattle.std.specs.Prelude.{option_map, ◌<◌, IfSome}
use Rattle.eq_net.specs.declared.types.NetInfo.{NetInfo}
use Rattle.eq_net.specs.declared.types.Word.{Word}
use Rattle.eq_net.specs.Net.{bits_of, name_at}
use Rattle.eq_net.specs.Tree.{trees_of as words_of}
use Rattle.eq_verilog.specs.Hierarchy.{module_named}
use Rattle.eq_layout.specs.Layout.{trees_of}
use Rattle.eq_assembly.specs.inner.Numbers.{IsNetOfMaybe}
use Rattle.eq_assembly.proofs.NetReady.{clock_name, clock_there, is_net, ports_named, the_module}
use Rattle.eq_assembly.proofs.assembling.assemble.Goals as goal

pub clock_net-clock-requires : goal.clock_net-clock-requires
clock_net-clock-requires c = record {
  there =
      subst (λ (ns : List NetInfo). IfSome c.args.clock (λ b. b < bits_of ns)) (sym c.as_slice.ensures.value)
      (clock_there c.args.layout c.args.top.now c.requires.laid c.requires.sound c.args.clock c.requires.clock);
}

pub net_of_parts-requires : goal.net_of_parts-requires
net_of_parts-requires c = record {
  fit =
      is_net c.args.layout c.args.top.now c.requires.laid c.requires.sound (words_of c.args.words) c.args.drivers.items
      c.requires.told c.in_ok-ports.ports c.args.clock c.clock_net-clock.result c.args.cost c.in_ok-ports.ensures
      c.requires.words c.requires.free c.requires.clock
      (subst (λ (ns : List NetInfo). IsNetOfMaybe ns c.args.clock c.clock_net-clock.result) c.as_slice.ensures.value
      c.clock_net-clock.ensures)
      c.requires.covered c.requires.limited;
}

pub returns : goal.returns
returns c = record {
  ok =
      let l = c.args.layout in
      let top = c.args.top.now in
      let nets = l.flat.nets.items in
      let net = c.net_of_parts.result in
      let made = c.net_of_parts.ensures in
      let one = the_module (module_named (trees_of l) top) c.requires.laid.there in
      record {
        nets = made.nets;
        words = ap (λ (ws : List Word). words_of ws) made.words;
        drivers = made.drivers;
        ports =
            ap (λ (ns : List NetInfo). map (name_at ns) net.ports) made.nets
            ∙ ap (λ (ks : List ℕ). map (name_at nets) ks) made.ports
            ∙ ports_named l top c.requires.laid c.requires.sound one.0 one.1 c.in_ok-ports.ports
            (c.in_ok-ports.ensures one.0 one.1);
        clock =
            ap (λ (ns : List NetInfo). option_map (name_at ns) net.clock) made.nets
            ∙ ap (λ (k : Option ℕ). option_map (name_at nets) k) made.clock
            ∙ clock_name l top c.requires.laid c.requires.sound c.args.clock c.clock_net-clock.result
            (subst (λ (ns : List NetInfo). IsNetOfMaybe ns c.args.clock c.clock_net-clock.result)
            c.as_slice.ensures.value c.clock_net-clock.ensures);
        cost = made.cost;
      };
}

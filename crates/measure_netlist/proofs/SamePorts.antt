-- A netlist has the ports that it has.
use Rattle.std.proofs.Common.{◌≡◌, refl, subst, sym}
use Rattle.eq_match.specs.Seen.{HaveSamePorts}
use Rattle.eq_net.specs.Net.{Parts}

pub same_ports : (gold gate : Parts) → gate ≡ gold → HaveSamePorts gold gate
same_ports gold gate same =
    let own : HaveSamePorts gold gold = record {
      gold_ports = λ k lt port. (k, lt, refl, refl, refl);
      gate_ports = λ k lt port. (k, lt, refl, refl, refl);
    } in
    subst (HaveSamePorts gold) (sym same) own

use Rattle.std.proofs.Common.{◌≡◌, ℕ, List, [], ◌∷◌, ◌++◌, ◌*◌, None, ap, subst, sym, ◌∙◌, nat_lt, if◌then◌else◌}
use Rattle.eq_net.specs.declared.types.NetInfo.{NetInfo}
use Rattle.eq_net.specs.declared.types.Word.{Word}
use Rattle.eq_net.specs.declared.types.Driver.{Driver}
use Rattle.eq_net.specs.Tree.{Tree, trees_of}
use Rattle.eq_net.specs.Net.{IsNet, Parts, parts}
use Rattle.measure_netlist.specs.Nested.{driven, inputs, nested, nets as nets_of, shifts}
use Rattle.measure_netlist.proofs.netlist.netlist.Goals as goal

parts_with : List NetInfo → List Tree → List Driver → List ℕ → Parts
parts_with nets words drivers ports = record { nets = nets; words = words; drivers = drivers; ports = ports; clock = None; cost = 999810 }

same_parts : (w k : ℕ) (nets : List NetInfo) (words : List Word) (drivers : List Driver) (ports : List ℕ) → nets ≡ nets_of w → trees_of words ≡ nested w k ∷ [] →
    drivers ≡ inputs (2 * w) ++ driven w → ports ≡ 0 ∷ 1 ∷ 2 ∷ [] → parts nets words drivers ports None 999810 ≡ shifts w k
unfolding parts_with
same_parts w k nets words drivers ports e f g h =
    ap (λ (x : List NetInfo). parts_with x (trees_of words) drivers ports) e ∙ ap (λ (x : List Tree). parts_with (nets_of w) x drivers ports) f
    ∙ ap (λ (x : List Driver). parts_with (nets_of w) (nested w k ∷ []) x ports) g
    ∙ ap (λ (x : List ℕ). parts_with (nets_of w) (nested w k ∷ []) (inputs (2 * w) ++ driven w) x) h

pub invariant_of-result : goal.invariant_of-result
invariant_of-result c =
    let w = c.args.width in
    let k = c.args.shifts in
    let P : Parts → Type 0 = λ n. IsNet n in
    record {
      is_net = subst P (sym (same_parts w k c.in_ok-nets.nets c.in_ok-words.words c.in_ok-drivers.drivers c.in_ok-ports.ports c.in_ok-nets.ensures c.in_ok-words.ensures
          c.in_ok-drivers.ensures c.in_ok-ports.ensures))
          (c.test_of_nets.ensures (λ b. if nat_lt b (2 * w) then 0 else 1) (λ j. 1) (shifts w k) c.requires.good);
    }

use Rattle.std.proofs.Common.{◌≡◌, ℕ, List, [], ◌∷◌, Some, refl, ap, subst, sym, ◌∙◌, nat_lt, if◌then◌else◌}
use Rattle.eq_net.specs.declared.types.NetInfo.{NetInfo}
use Rattle.eq_net.specs.declared.types.Word.{Word}
use Rattle.eq_net.specs.declared.types.Driver.{Driver}
use Rattle.eq_net.specs.Tree.{Tree, trees_of}
use Rattle.eq_net.specs.Net.{IsNet, Parts, parts}
use Rattle.test_netlists.specs.Steps.{counter, counter_drivers, counter_nets, is_two, next_count}
use Rattle.test_netlists.proofs.steps.counter.Goals as goal

parts_with : List NetInfo → List Tree → List Driver → List ℕ → Parts
parts_with nets words drivers ports = record { nets = nets; words = words; drivers = drivers; ports = ports; clock = Some 0; cost = 22 }

same_parts : (nets : List NetInfo) (words : List Word) (drivers : List Driver) (ports : List ℕ) → nets ≡ counter_nets → trees_of words ≡ next_count ∷ is_two ∷ [] →
    drivers ≡ counter_drivers → ports ≡ 0 ∷ 1 ∷ 2 ∷ [] → parts nets words drivers ports (Some 0) 22 ≡ counter
unfolding parts_with
same_parts nets words drivers ports e f g h =
    ap (λ (x : List NetInfo). parts_with x (trees_of words) drivers ports) e ∙ ap (λ (x : List Tree). parts_with counter_nets x drivers ports) f
    ∙ ap (λ (x : List Driver). parts_with counter_nets (next_count ∷ is_two ∷ []) x ports) g
    ∙ ap (λ (x : List ℕ). parts_with counter_nets (next_count ∷ is_two ∷ []) counter_drivers x) h

pub invariant_of-result : goal.invariant_of-result
invariant_of-result c =
    let P : Parts → Type 0 = λ n. IsNet n in
    record {
      is_net = subst P (sym (same_parts c.in_ok-nets.nets c.in_ok-words.words c.in_ok-drivers.drivers c.in_ok-ports.ports c.in_ok-nets.ensures c.in_ok-words.ensures
          c.in_ok-drivers.ensures c.in_ok-ports.ensures))
          (c.test_of_nets.ensures (λ b. if nat_lt b 3 then 0 else 1) (λ k. 1) counter refl);
    }

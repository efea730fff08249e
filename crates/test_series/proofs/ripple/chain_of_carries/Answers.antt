use Rattle.std.proofs.Common.{◌≡◌, ℕ, List, [], ◌∷◌, ◌+◌, ◌*◌, None, ap, subst, sym, ◌∙◌}
use Rattle.eq_net.specs.declared.types.NetInfo.{NetInfo}
use Rattle.eq_net.specs.declared.types.Word.{Word}
use Rattle.eq_net.specs.declared.types.Driver.{Driver}
use Rattle.eq_net.specs.Tree.{Tree, trees_of}
use Rattle.eq_net.specs.Net.{IsNet, Parts, parts}
use Rattle.test_series.specs.Lists.{listed}
use Rattle.test_series.specs.Carries.{carries, driver, nets as nets_of, ripple}
use Rattle.test_series.proofs.Rippled.{is_good}
use Rattle.test_series.proofs.ripple.chain_of_carries.Goals as goal

parts_with : List NetInfo → List Tree → List Driver → List ℕ → Parts
parts_with nets words drivers ports =
    record { nets = nets; words = words; drivers = drivers; ports = ports; clock = None; cost = 2000000 }

same_parts : (w : ℕ) (nets : List NetInfo) (words : List Word) (drivers : List Driver) (ports : List ℕ) →
    nets ≡ nets_of w →
    trees_of words ≡ carries w ∷ [] → drivers ≡ listed (driver w) (3 * w + 1) → ports ≡ 0 ∷ 1 ∷ [] →
    parts nets words drivers ports None 2000000 ≡ ripple w
unfolding parts_with
same_parts w nets words drivers ports e f g h =
    ap (λ (x : List NetInfo). parts_with x (trees_of words) drivers ports) e ∙ ap (λ (x : List Tree). parts_with (nets_of w) x drivers ports) f
    ∙ ap (λ (x : List Driver). parts_with (nets_of w) (carries w ∷ []) x ports) g
    ∙ ap (λ (x : List ℕ). parts_with (nets_of w) (carries w ∷ []) (listed (driver w) (3 * w + 1)) x) h

pub invariant_of-result : goal.invariant_of-result
invariant_of-result c =
    let w = c.args.width in
    let P : Parts → Type 0 = λ n. IsNet n in
    record {
      is_net = subst P (sym (same_parts w c.in_ok-nets.nets c.in_ok-words.words c.in_ok-drivers.drivers c.in_ok-ports.ports c.in_ok-nets.ensures c.in_ok-words.ensures
          c.in_ok-drivers.ensures c.in_ok-ports.ensures))
          (c.test_of_bits.ensures (λ b. b) (ripple w) (is_good w c.requires.some c.requires.size));
    }

pub returns : goal.returns
returns c =
    same_parts c.args.width c.in_ok-nets.nets c.in_ok-words.words c.in_ok-drivers.drivers c.in_ok-ports.ports
    c.in_ok-nets.ensures c.in_ok-words.ensures c.in_ok-drivers.ensures c.in_ok-ports.ensures

use Rattle.std.proofs.Common.{◌≡◌, ℕ, List, [], ◌∷◌, ◌+◌, ◌-◌, ◌*◌, None, ap, subst, sym, ◌∙◌}
use Rattle.eq_net.specs.declared.types.NetInfo.{NetInfo}
use Rattle.eq_net.specs.declared.types.Word.{Word}
use Rattle.eq_net.specs.declared.types.Driver.{Driver}
use Rattle.eq_net.specs.Tree.{Tree, trees_of}
use Rattle.eq_net.specs.Net.{IsNet, Parts, parts}
use Rattle.test_series.specs.Additions.{chain, chain_nets, driver, link}
use Rattle.test_series.specs.Lists.{listed}
use Rattle.test_series.proofs.Added.{is_good}
use Rattle.test_series.proofs.additions.chain_of_additions.Goals as goal

parts_with : List NetInfo → List Tree → List Driver → List ℕ → Parts
parts_with nets words drivers ports =
    record { nets = nets; words = words; drivers = drivers; ports = ports; clock = None; cost = 2000000 }

same_parts : (last : ℕ) (nets : List NetInfo) (words : List Word) (drivers : List Driver) (ports : List ℕ) →
    nets ≡ chain_nets last →
    trees_of words ≡ listed (link last) (last + 1) → drivers ≡ listed (driver last) (8 * last + 16) → ports ≡ 0 ∷ 1 ∷ [] →
    parts nets words drivers ports None 2000000 ≡ chain last
unfolding parts_with
same_parts last nets words drivers ports e f g h =
    ap (λ (x : List NetInfo). parts_with x (trees_of words) drivers ports) e ∙ ap (λ (x : List Tree). parts_with (chain_nets last) x drivers ports) f
    ∙ ap (λ (x : List Driver). parts_with (chain_nets last) (listed (link last) (last + 1)) x ports) g
    ∙ ap (λ (x : List ℕ). parts_with (chain_nets last) (listed (link last) (last + 1)) (listed (driver last) (8 * last + 16)) x) h

pub invariant_of-result : goal.invariant_of-result
invariant_of-result c =
    let last = c.args.last in
    let P : Parts → Type 0 = λ n. IsNet n in
    record {
      is_net = subst P (sym (same_parts last c.in_ok-nets.nets c.in_ok-words.words c.in_ok-drivers.drivers c.in_ok-ports.ports c.in_ok-nets.ensures c.in_ok-words.ensures
          c.in_ok-drivers.ensures c.in_ok-ports.ensures))
          (c.test_of_nets.ensures (λ b. b) (λ k. 8 + 8 * (last - k)) (chain last) (is_good last c.requires));
    }

pub returns : goal.returns
returns c =
    same_parts c.args.last c.in_ok-nets.nets c.in_ok-words.words c.in_ok-drivers.drivers c.in_ok-ports.ports
    c.in_ok-nets.ensures c.in_ok-words.ensures c.in_ok-drivers.ensures c.in_ok-ports.ensures

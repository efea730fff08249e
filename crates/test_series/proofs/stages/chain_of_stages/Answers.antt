use Rattle.std.proofs.Common.{◌≡◌, ℕ, List, [], ◌∷◌, ◌++◌, ◌+◌, None, ap, subst, sym, ◌∙◌}
use Rattle.eq_net.specs.declared.types.NetInfo.{NetInfo}
use Rattle.eq_net.specs.declared.types.Word.{Word}
use Rattle.eq_net.specs.declared.types.Driver.{Driver}
use Rattle.eq_net.specs.Tree.{Tree, trees_of}
use Rattle.eq_net.specs.Net.{IsNet, Parts, parts}
use Rattle.test_series.specs.Lists.{listed}
use Rattle.test_series.specs.Stages.{driven, given, stage, stage_nets, stages}
use Rattle.test_series.proofs.Staged.{bits_in, is_good}
use Rattle.test_series.proofs.stages.chain_of_stages.Goals as goal

parts_with : List NetInfo → List Tree → List Driver → List ℕ → Parts
parts_with nets words drivers ports =
    record { nets = nets; words = words; drivers = drivers; ports = ports; clock = None; cost = 2000000 }

same_parts : (w n : ℕ) (nets : List NetInfo) (words : List Word) (drivers : List Driver) (ports : List ℕ) →
    nets ≡ stage_nets w n → trees_of words ≡ listed (stage w) n → drivers ≡ listed given w ++ driven w n →
    ports ≡ 0 ∷ n ∷ [] → parts nets words drivers ports None 2000000 ≡ stages w n
unfolding parts_with
same_parts w n nets words drivers ports e f g h =
    ap (λ (x : List NetInfo). parts_with x (trees_of words) drivers ports) e
    ∙ ap (λ (x : List Tree). parts_with (stage_nets w n) x drivers ports) f
    ∙ ap (λ (x : List Driver). parts_with (stage_nets w n) (listed (stage w) n) x ports) g
    ∙ ap (λ (x : List ℕ). parts_with (stage_nets w n) (listed (stage w) n) (listed given w ++ driven w n) x) h

pub invariant_of-result : goal.invariant_of-result
invariant_of-result c =
    let w = c.args.width in
    let n = c.args.count in
    let P : Parts → Type 0 = λ p. IsNet p in
    record {
      is_net = subst P (sym (same_parts w n c.in_ok-nets.nets c.in_ok-words.words c.in_ok-drivers.drivers c.in_ok-ports.ports
          c.in_ok-nets.ensures c.in_ok-words.ensures c.in_ok-drivers.ensures c.in_ok-ports.ensures))
          (c.test_of_nets.ensures (λ b. b) (λ x. w + bits_in w x) (stages w n)
          (is_good w c.requires.bits n c.requires.some c.requires.cost));
    }

pub returns : goal.returns
returns c =
    same_parts c.args.width c.args.count c.in_ok-nets.nets c.in_ok-words.words c.in_ok-drivers.drivers c.in_ok-ports.ports
    c.in_ok-nets.ensures c.in_ok-words.ensures c.in_ok-drivers.ensures c.in_ok-ports.ensures

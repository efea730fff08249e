use Rattle.std.proofs.Common.{◌≡◌, List, arith, ap, ◌∙◌}
use Rattle.eq_net.specs.declared.types.NetInfo.{NetInfo}
use Rattle.eq_net.specs.Net.{number_of}
use Rattle.eq_match.specs.declared.types.Pair.{Pair}
use Rattle.eq_match.specs.Pairs.{pair_at}
use Rattle.eq_reads.proofs.Placed.{named_there}
use Rattle.eq_part.proofs.visits.gold_bit.Goals as goal

pub returns-clause-there : goal.returns-clause-there
returns-clause-there c =
    let nets = c.args.gold.now.nets in
    let bit = (pair_at c.args.pairs.now c.args.i).gold in
    let there = named_there nets bit c.requires.there in
    let is : c.named.result ≡ number_of nets bit = c.named.ensures ∙ ap (λ (ns : List NetInfo). number_of ns
    c.pair_at.result.gold) c.as_slice.ensures
    ∙ ap (λ (p : Pair). number_of nets p.gold) c.pair_at.ensures in
    omega arith

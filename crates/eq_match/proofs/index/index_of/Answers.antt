use Rattle.std.proofs.Common.{List, length, map, arith, subst, ap, ◌∙◌}
use Rattle.eq_net.specs.declared.types.NetInfo.{NetInfo}
use Rattle.eq_net.specs.declared.types.Driver.{Driver}
use Rattle.eq_net.specs.Net.{bits_of}
use Rattle.eq_net.specs.Whole.{parts_of}
use Rattle.eq_match.specs.inner.Indexing.{TellsTo, part_of}
use Rattle.eq_match.proofs.Indexed.{indexed}
use Rattle.eq_match.proofs.Rows.{no_more_nets}
use Rattle.eq_match.proofs.index.index_of.Goals as goal

pub numbered-requires-clause-few : goal.numbered-requires-clause-few
numbered-requires-clause-few c =
    let net = c.args.net.now in
    let few = no_more_nets net.nets in
    let covered = net.is_net.covered in
    let limited = net.is_net.limited in
    let size = ap (λ (ns : List NetInfo). length ns) c.as_slice.ensures in
    omega arith

pub seen_nets-requires-clause-few : goal.seen_nets-requires-clause-few
seen_nets-requires-clause-few c =
    let net = c.args.net.now in
    let covered = net.is_net.covered in
    let limited = net.is_net.limited in
    let size = ap (λ (ns : List NetInfo). bits_of ns) c.as_slice-2.ensures in
    omega arith

pub returns : goal.returns
returns c =
    let net = c.args.net.now in
    let names = c.in_ok-names.ensures ∙ ap (λ (ns : List NetInfo). map (λ n. n.name) ns) c.as_slice.ensures in
    let T : List NetInfo → Type 0 = λ ns. TellsTo (length ns) (part_of ns c.as_slice-3.result.now)
    c.in_ok-seen.seen.items in
    let U : List Driver → Type 0 = λ ds. TellsTo (length net.nets) (part_of net.nets ds) c.in_ok-seen.seen.items in
    indexed (parts_of net) net.is_net.names c.in_ok-names.names c.in_ok-seen.seen.items names
    (subst U c.as_slice-3.ensures (subst T c.as_slice-2.ensures c.in_ok-seen.ensures))

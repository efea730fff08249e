use Rattle.std.proofs.Common.{map}
use Rattle.std.specs.Prelude.{flat_map, sum_by, zip}
use Rattle.eq_net.specs.Tree.{trees_of}
use Rattle.eq_flatten.specs.Flattening.{path_cost, path_equations}
use Rattle.eq_flatten.specs.Joining.{all_joined, all_joined_cost}
use Rattle.eq_flatten.specs.Owning.{names_in}
use Rattle.eq_flatten.proofs.Itemized.{adds_then}
use Rattle.eq_flatten.proofs.slots.add_all.Goals as goal

pub returns : goal.returns
returns c =
    let nets = c.args.nets.now in
    let owned = map names_in c.args.owned.now in
    let ends = zip c.args.paths.now c.args.firsts.now in
    adds_then nets (trees_of c.args.words.now) (trees_of c.add_paths.new.words) (trees_of c.add_links.new.words)
    c.args.slots.now c.add_paths.new.slots c.add_links.new.slots (flat_map (path_equations nets owned) ends)
    (all_joined nets owned ends 1 c.args.links.now) (sum_by (path_cost nets owned) ends)
    (all_joined_cost nets owned ends 1 c.args.links.now) c.in_ok-add_paths.ensures c.in_ok-add_links.ensures

use Rattle.eq_flatten.proofs.Tabled.{all_agreed}
use Rattle.eq_flatten.proofs.summing.equations_by_tables.Goals as goal

pub returns : goal.returns
returns c all top found nets firsts has_paths flat distinct =
    all_agreed c.offsets_by_path.ensures all top found nets firsts has_paths flat distinct

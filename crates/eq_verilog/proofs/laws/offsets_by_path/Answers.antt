use Rattle.eq_verilog.proofs.Offsets.{offset_path}
use Rattle.eq_verilog.proofs.laws.offsets_by_path.Goals as goal

pub returns : goal.returns
returns c before after p n = offset_path before after p.prefix p.of n

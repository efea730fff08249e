-- The next values that the body of an always item gives.
use Rattle.std.specs.Prelude.{◌≡◌, ◌+◌, ◌≤◌, List, length, sum_by}
use Rattle.eq_net.specs.declared.types.NetInfo.{NetInfo}
use Rattle.eq_net.specs.Tree.{Tree}
use Rattle.eq_net.specs.Meaning.{cost_of}
use Rattle.eq_net.specs.Net.{AreWords}
use Rattle.eq_verilog.specs.Trees.{StmtTree}
use Rattle.eq_verilog.specs.Scopes.{Scope}
use Rattle.eq_verilog.specs.Costs.{bits_set, different, stmt_cost}
use Rattle.eq_verilog.specs.Registers.{itself, run}
use Rattle.eq_flatten.specs.Rendering.{KeepsFront}
use Rattle.eq_registers.specs.declared.stepping.Next.{Next}
use Rattle.eq_registers.specs.Collecting.{IsCollected}
use Rattle.eq_registers.specs.Standing.{AreNext, AreThere}

-- exactly the bits that the body sets have an entry, and each stands for what the body leaves of the bit
pub record HasNext (nets : List NetInfo) (s : Scope) (body : StmtTree) (old new : List Tree) (next : Next) : Type 0 where
  pub extends : KeepsFront old new
  pub words : AreWords nets new
  pub collected : IsCollected nets s body next.keys
  pub size : length next.table ≡ length next.keys.bits
  pub there : AreThere new next.table
  pub values : AreNext nets new next.keys.bits next.table (run s body itself)
  pub costs : sum_by cost_of new ≤ sum_by cost_of old + stmt_cost s (different (bits_set s body)) body

-- Cited by proofs alone; nothing here has to be believed.
-- Statements of which some have run: what is asked of the others, and what they leave is what all leave.
use Rattle.std.specs.Prelude.{◌≡◌, ℕ, List, length}
use Rattle.eq_net.specs.declared.types.NetInfo.{NetInfo}
use Rattle.eq_net.specs.declared.types.WordBit.{WordBit}
use Rattle.eq_net.specs.Tree.{Tree}
use Rattle.eq_net.specs.Net.{AreWords}
use Rattle.eq_verilog.specs.Trees.{Name, StmtTree}
use Rattle.eq_analysis.specs.Finding.{scope_of}
use Rattle.eq_registers.specs.Standing.{AreThere}
use Rattle.eq_registers.specs.Running.{AllKeys, HasRun, IsStmtReady}

pub record IsUnderWay (nets : List NetInfo) (names : List Name) (from : ℕ) (all rest : StmtTree) (bits : List ℕ)
    (old now : List Tree) (before entries : List WordBit) : Type 0 where
  pub ready : IsStmtReady nets names from rest
  pub keys : AllKeys bits (scope_of nets names from) rest
  pub size : length entries ≡ length bits
  pub there : AreThere now entries
  pub words : AreWords nets now
  pub goes : (new : List Tree) (after : List WordBit) → HasRun nets (scope_of nets names from) rest bits now new entries after →
      HasRun nets (scope_of nets names from) all bits old new before after

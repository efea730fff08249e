-- When a bit of a word stands for a formula, and a table of such bits for the next values of bits.
use Rattle.std.specs.Prelude.{◌≡◌, ℕ, List, Some, length, slice_get}
use Rattle.eq_model.specs.Agreement.{SameExpr}
use Rattle.eq_model.specs.System.{Expr as Formula}
use Rattle.eq_net.specs.declared.types.NetInfo.{NetInfo}
use Rattle.eq_net.specs.declared.types.WordBit.{WordBit}
use Rattle.eq_net.specs.Tree.{Tree}
use Rattle.eq_net.specs.Net.{HasWordBit, equation_of}
use Rattle.eq_verilog.specs.Registers.{Table}

-- the bit of a word is there, and reads and computes what the formula does
pub record StandsFor (nets : List NetInfo) (words : List Tree) (w : WordBit) (f : Formula) : Type 0 where
  pub there : HasWordBit words (length words) w
  pub same : SameExpr (equation_of nets words w.word w.bit) f

-- all are bits of words
abbrev pub AreThere : List Tree → List WordBit → Type 0
AreThere words entries =
    (p : ℕ) (w : WordBit) → slice_get entries p ≡ Some w → HasWordBit words (length words) w

-- at the place of each of the bits stands the bit's next value
abbrev pub AreNext : List NetInfo → List Tree → List ℕ → List WordBit → Table → Type 0
AreNext nets words bits entries table =
    (p b : ℕ) (w : WordBit) → slice_get bits p ≡ Some b → slice_get entries p ≡ Some w →
    StandsFor nets words w (table b)

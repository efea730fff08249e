-- What running a statement makes of a table of next values, and what is asked of a statement before.
use Rattle.std.specs.Prelude.{◌≡◌, ◌+◌, ◌≤◌, ℕ, nat_eq, List, Option, Some, true, false, length, slice_get, sum_by}
use Rattle.std.specs.declared.hash.FoldHasher.{FoldHasher}
use Rattle.std.specs.declared.hash.BuildHasherDefault.{BuildHasherDefault}
use Rattle.std.specs.HashMap.{HashMap, get}
use Rattle.eq_net.specs.declared.types.NetInfo.{NetInfo}
use Rattle.eq_net.specs.declared.types.WordBit.{WordBit}
use Rattle.eq_net.specs.Tree.{Tree}
use Rattle.eq_net.specs.Meaning.{cost_of}
use Rattle.eq_net.specs.Net.{AreWords}
use Rattle.eq_verilog.specs.Trees.{Name, StmtTree, idle, set, sequence, branch}
use Rattle.eq_verilog.specs.Scopes.{Scope}
use Rattle.eq_verilog.specs.Costs.{stmt_cost}
use Rattle.eq_verilog.specs.Registers.{Table, run, sets}
use Rattle.eq_flatten.specs.Items.{IsSource, IsTarget}
use Rattle.eq_flatten.specs.Rendering.{KeepsFront}
use Rattle.eq_registers.specs.Standing.{AreNext, AreThere}

-- ---- bits and their places

abbrev pub Places : Type 0
Places = HashMap ℕ ℕ (BuildHasherDefault FoldHasher)

abbrev pub place_at : Places → ℕ → Option ℕ
place_at places b = get nat_eq places b

-- the map has the place of each of the bits, and nothing else
pub record HasKeys (bits : List ℕ) (places : Places) : Type 0 where
  pub listed : (b p : ℕ) → place_at places b ≡ Some p → slice_get bits p ≡ Some b
  pub placed : (b p : ℕ) → slice_get bits p ≡ Some b → place_at places b ≡ Some p

abbrev pub IsKey : List ℕ → ℕ → Type 0
IsKey bits b = (p : ℕ) × (slice_get bits p ≡ Some b)

-- each bit that the statement sets is one of the bits
abbrev pub AllKeys : List ℕ → Scope → StmtTree → Type 0
AllKeys bits s body = (b : ℕ) → sets s body b ≡ true → IsKey bits b

-- ---- statements

-- The names of a statement have nets, its selects lie in the nets' ranges, no part of it is too large, and no target has a
-- bit twice
abbrev pub IsStmtReady : List NetInfo → List Name → ℕ → StmtTree → Type 0
IsStmtReady nets names from idle = Unit {0}
IsStmtReady nets names from (set t e) = IsTarget nets names from t × IsSource nets names from e
IsStmtReady nets names from (sequence x y) = IsStmtReady nets names from x × IsStmtReady nets names from y
IsStmtReady nets names from (branch c x y) =
    IsSource nets names from c × IsStmtReady nets names from x × IsStmtReady nets names from y

-- A statement has run: the table has the next values that it leaves, whatever they were before. Each bit that it sets has a
-- new word, and each other bit the entry that it had. What was added to the words costs no more than the statement
pub record HasRun (nets : List NetInfo) (s : Scope) (body : StmtTree) (bits : List ℕ) (old new : List Tree)
    (before after : List WordBit) : Type 0 where
  pub extends : KeepsFront old new
  pub words : AreWords nets new
  pub size : length after ≡ length before
  pub there : AreThere new after
  pub next : (table : Table) → AreNext nets old bits before table → AreNext nets new bits after (run s body table)
  pub fresh : (p b : ℕ) (w : WordBit) → slice_get bits p ≡ Some b → sets s body b ≡ true →
      slice_get after p ≡ Some w → length old ≤ w.word
  pub kept : (p b : ℕ) → slice_get bits p ≡ Some b → sets s body b ≡ false → slice_get after p ≡ slice_get before p
  pub costs : (n : ℕ) → length bits ≤ n → sum_by cost_of new ≤ sum_by cost_of old + stmt_cost s n body

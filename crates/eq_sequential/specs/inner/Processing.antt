-- Cited by proofs alone; nothing here has to be believed.
-- Always items one by one: what is asked of them before, and how words and slots grow by them.
use Rattle.std.specs.Prelude.{◌≡◌, ◌<◌, ◌≤◌, ◌+◌, ◌++◌, ◌^◌, ℕ, List, [], ◌∷◌, filter_map, length, map, sum_by}
use Rattle.eq_net.specs.declared.types.NetInfo.{NetInfo}
use Rattle.eq_net.specs.Meaning.{cost_of}
use Rattle.eq_net.specs.Net.{AreWords}
use Rattle.eq_net.specs.Tree.{Tree}
use Rattle.eq_verilog.specs.Trees.{Name, ExprTree, StmtTree, ItemTree, declared, assign, primitive, instance, always, initial, item_tree}
use Rattle.eq_verilog.specs.Scopes.{Scope}
use Rattle.eq_verilog.specs.Costs.{bits_set, different, stmt_cost}
use Rattle.eq_verilog.specs.Registers.{Process, process_in}
use Rattle.eq_analysis.specs.Finding.{scope_of}
use Rattle.eq_analysis.specs.Measuring.{IsFit}
use Rattle.eq_flatten.specs.declared.driving.Slot.{Slot}
use Rattle.eq_flatten.specs.declared.paths.Path.{Path}
use Rattle.eq_flatten.specs.Flattening.{names_of}
use Rattle.eq_flatten.specs.Meant.{AreSlim}
use Rattle.eq_flatten.specs.Rendering.{KeepsFront}
use Rattle.eq_registers.specs.Running.{IsStmtReady}
use Rattle.eq_sequential.specs.Setting.{AreFollowed}

-- ---- what is asked before

-- the target of an event has nets, which aren't too large
pub record IsEvent (nets : List NetInfo) (names : List Name) (from : ℕ) (t : ExprTree) : Type 0 where
  pub fit : IsFit nets names from t
  pub slim : AreSlim (scope_of nets names from) t

abbrev pub IsAlwaysReady : List NetInfo → List Name → ℕ → ItemTree → Type 0
IsAlwaysReady nets names from (declared k r n) = Unit {0}
IsAlwaysReady nets names from (assign t e) = Unit {0}
IsAlwaysReady nets names from (primitive k n terms) = Unit {0}
IsAlwaysReady nets names from (instance m n conns) = Unit {0}
IsAlwaysReady nets names from (always event body) = IsEvent nets names from event × IsStmtReady nets names from body
IsAlwaysReady nets names from (initial t c) = Unit {0}

abbrev pub AreAlwaysReady : List NetInfo → List Name → ℕ → List ItemTree → Type 0
AreAlwaysReady nets names from [] = Unit {0}
AreAlwaysReady nets names from (i ∷ is) = IsAlwaysReady nets names from i × AreAlwaysReady nets names from is

-- the always items of a path can run
pub record IsPathRunning (nets : List NetInfo) (owned : List (List Name)) (x : Path × ℕ) : Type 0 where
  pub there : x.0.of.place < length owned
  pub room : x.1 + length (names_of owned x.0) < 2 ^ 32
  pub items : AreAlwaysReady nets (names_of owned x.0) x.1 (map item_tree x.0.of.module.now.items)

abbrev pub ArePathsRunning : List NetInfo → List (List Name) → List (Path × ℕ) → Type 0
ArePathsRunning nets owned [] = Unit {0}
ArePathsRunning nets owned (x ∷ xs) = IsPathRunning nets owned x × ArePathsRunning nets owned xs

-- ---- the always items of items and paths

abbrev pub processes_in : Scope → List ItemTree → List Process
processes_in s items = filter_map (process_in s) items

abbrev pub path_processes : List NetInfo → List (List Name) → Path × ℕ → List Process
path_processes nets owned x =
    processes_in (scope_of nets (names_of owned x.0) x.1) (map item_tree x.0.of.module.now.items)

-- ---- what grows

-- words and slots have grown by these always items, and what was added to the words costs no more than n
pub record AddsProcesses (nets : List NetInfo) (old new : List Tree) (before after : List Slot) (ps : List Process)
    (n : ℕ) : Type 0 where
  pub extends : KeepsFront old new
  pub words : AreWords nets old → AreWords nets new
  pub size : length after ≡ length before
  pub followed : (earlier : List Process) → AreFollowed nets old earlier before →
      AreFollowed nets new (earlier ++ ps) after
  pub costs : sum_by cost_of new ≤ sum_by cost_of old + n

-- by an always item with this body, whatever its event
abbrev pub AddsBody : List NetInfo → Scope → StmtTree → List Tree → List Tree → List Slot → List Slot → Type 0
AddsBody nets s body old new before after = (event : ExprTree) →
    AddsProcesses nets old new before after (record { scope = s; event = event; body = body } ∷ [])
    (stmt_cost s (different (bits_set s body)) body)

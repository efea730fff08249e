-- Registers: initial values, and next values by running the statements of an always item (IEEE 1364-2005, 6.2.1, 9.2.2
-- and 9.4). Expressions read the values before the edge, a later assignment to a bit wins, and a bit that isn't
-- assigned keeps its value.
use Rattle.std.specs.Prelude.{ℕ, List, [], ◌∷◌, ◌++◌, Bool, false, ◌||◌, if◌then◌else◌, Option, Some, None, is_some, flat_map, filter_map, find}
use Rattle.eq_model.specs.Nets.{Net}
use Rattle.eq_model.specs.System.{Expr as Formula}
use Rattle.eq_vlex.specs.declared.token.Constant.{Constant}
use Rattle.eq_net.specs.Meaning.{if_there}
use Rattle.eq_net.specs.Numbers.{digit, some_one}
use Rattle.eq_net.specs.Operators.{all_reads}
use Rattle.eq_verilog.specs.Trees.{ExprTree, StmtTree, idle, set, sequence, branch, ItemTree, always, initial}
use Rattle.eq_verilog.specs.Scopes.{Scope}
use Rattle.eq_verilog.specs.Sizes.{own}
use Rattle.eq_verilog.specs.Expressions.{value, reads}
use Rattle.eq_verilog.specs.Hierarchy.{Path}
use Rattle.eq_verilog.specs.Nets.{scope_at}
use Rattle.eq_verilog.specs.Equations.{formula, place_in}

-- an always item
pub record Process : Type 0 where
  pub scope : Scope
  pub event : ExprTree
  pub body : StmtTree

-- an initial value
pub record Initial : Type 0 where
  pub scope : Scope
  pub target : ExprTree
  pub value : Constant

abbrev pub process_in : Scope → ItemTree → Option Process
process_in s (always event body) = Some (record { scope = s; event = event; body = body })
process_in s _ = None

abbrev pub initial_in : Scope → ItemTree → Option Initial
initial_in s (initial t c) = Some (record { scope = s; target = t; value = c })
initial_in s _ = None

abbrev pub processes_of : List Net → List Path → List Process
processes_of nets ps = flat_map (λ (p : Path). filter_map (process_in (scope_at nets p)) p.of.items) ps

abbrev pub initials_of : List Net → List Path → List Initial
initials_of nets ps = flat_map (λ (p : Path). filter_map (initial_in (scope_at nets p)) p.of.items) ps

-- ---- initial values

-- the first initial value of bit b: that of the constant, cut or extended with zeros
abbrev pub begins : List Initial → ℕ → Option Bool
begins [] b = None
begins (i ∷ is) b = if_there (begins is b) (λ j. Some (digit i.value.value j)) (place_in i.scope i.target b)

-- ---- next values

-- a statement sets bit b
abbrev pub sets : Scope → StmtTree → ℕ → Bool
sets s idle b = false
sets s (set t e) b = is_some (place_in s t b)
sets s (sequence x y) b = sets s x b || sets s y b
sets s (branch c x y) b = sets s x b || sets s y b

-- of each bit its next value, as a formula over the values before the edge
abbrev pub Table : Type 0
Table = ℕ → Formula

-- each bit as itself
abbrev pub itself : Table
itself b = record { reads = b ∷ []; value = λ v. v b }

-- `c ? x : y`
abbrev pub chosen : Scope → ExprTree → Formula → Formula → Formula
chosen s c x y = record {
  reads = all_reads (own s c) (reads s c (own s c)) ++ (x.reads ++ y.reads);
  value = λ v. if some_one (own s c) (value s v c (own s c)) then x.value v else y.value v;
}

-- The table after a statement has run. An `if` chooses for each bit that one of its branches sets, and leaves every
-- other bit
abbrev pub run : Scope → StmtTree → Table → Table
run s idle table b = table b
run s (set t e) table b = if_there (table b) (formula s t s e) (place_in s t b)
run s (sequence x y) table b = run s y (run s x table) b
run s (branch c x y) table b =
    if sets s x b || sets s y b then chosen s c (run s x table b) (run s y table b) else table b

-- the next value of bit b: what the first always item that sets it leaves; where none does, the bit keeps its value
abbrev pub following : List Process → Table
following ps b =
    if_there (itself b) (λ (p : Process). run p.scope p.body itself b)
    (find (λ (p : Process). sets p.scope p.body b) ps)

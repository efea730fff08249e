-- What is told of modules: the first refusal, or where there is none their names and tables.
use Rattle.std.specs.Prelude.{◌≡◌, List, Option, Some, None, Result, Ok, Err, IfOk}
use Rattle.eq_verilog.specs.Trees.{ModuleTree}
use Rattle.eq_verilog.specs.Hierarchy.{module_names}
use Rattle.eq_verilog.specs.Firsts.{first_of}
use Rattle.eq_verilog.specs.Refusals.{Refusal, at}
use Rattle.eq_analysis.specs.Tabling.{trees_at}
use Rattle.eq_analysis.specs.declared.ordering.Fault.{Fault}
use Rattle.eq_analysis.specs.declared.ordering.Tabled.{Tabled}

abbrev pub refusal_of : Fault → Refusal
refusal_of f = at f.kind f.name.now

abbrev pub fault_in : Result Tabled Fault → Option Refusal
fault_in (Ok tabled) = None
fault_in (Err fault) = Some (refusal_of fault)

-- the answer has the first of these refusals, and is Ok with the names and the tables of all modules where there is none
pub record Tells (all : List ModuleTree) (faults : List (Option Refusal)) (result : Result Tabled Fault) : Type 0 where
  pub fault : fault_in result ≡ first_of faults
  pub names : IfOk result (λ t. t.names ≡ module_names all)
  pub tables : IfOk result (λ t. trees_at t.tables.items ≡ all)

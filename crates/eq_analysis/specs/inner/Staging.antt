-- Cited by proofs alone; nothing here has to be believed.
-- The refusals of modules, by stages as src/ordering.rt looks for them.
use Rattle.std.specs.Prelude.{List, [], ◌∷◌, Option}
use Rattle.eq_verilog.specs.declared.refusal.ElabKind.TheVariants as kind
use Rattle.eq_verilog.specs.Trees.{Name, ModuleTree}
use Rattle.eq_verilog.specs.Firsts.{first_found}
use Rattle.eq_verilog.specs.ModuleRefusals.{duplicate_module, no_top, unknown_module, recursive, duplicate_name, unknown_name, bad_range}
use Rattle.eq_verilog.specs.TargetRefusals.{bad_target, bad_connection}
use Rattle.eq_verilog.specs.Refusals.{Refusal, named}

abbrev pub names_faults : List ModuleTree → Name → List (Option Refusal)
names_faults all top = named kind.DuplicateModule (duplicate_module all) ∷ named kind.NoTop (no_top all top) ∷ []

abbrev pub hierarchy_faults : List ModuleTree → List ModuleTree → List (Option Refusal)
hierarchy_faults all ms =
    named kind.UnknownModule (first_found (unknown_module all) ms)
    ∷ named kind.Recursive (first_found (recursive all) ms)
    ∷ []

abbrev pub range_faults : List ModuleTree → List (Option Refusal)
range_faults ms =
    named kind.DuplicateName (first_found duplicate_name ms)
    ∷ named kind.UnknownName (first_found unknown_name ms)
    ∷ named kind.BadRange (first_found bad_range ms)
    ∷ []

abbrev pub target_faults : List ModuleTree → List ModuleTree → List (Option Refusal)
target_faults all ms =
    named kind.BadTarget (first_found (bad_target all) ms)
    ∷ named kind.BadConnection (first_found (bad_connection all) ms)
    ∷ []

abbrev pub table_faults : List ModuleTree → List ModuleTree → List (Option Refusal)
table_faults all ms =
    named kind.DuplicateName (first_found duplicate_name ms)
    ∷ named kind.UnknownName (first_found unknown_name ms)
    ∷ named kind.BadRange (first_found bad_range ms)
    ∷ target_faults all ms

-- those of modules that are there
abbrev pub reached_faults : List ModuleTree → List ModuleTree → List (Option Refusal)
reached_faults all ms =
    named kind.UnknownModule (first_found (unknown_module all) ms)
    ∷ named kind.Recursive (first_found (recursive all) ms)
    ∷ table_faults all ms

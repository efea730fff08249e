-- The line of a refusal: what it is about, and what is wrong there.
use Rattle.std.specs.Prelude.{ℕ, List, ◌++◌, Option, Some, None, codes, decimal}
use Rattle.eq_verilog.specs.declared.refusal.ElabErr.{ElabErr}
use Rattle.eq_verilog.specs.declared.refusal.ElabErr.TheVariants as err
use Rattle.eq_report.specs.declared.refusal.DesignFault.{DesignFault}
use Rattle.eq_report.specs.declared.refusal.DesignFault.TheVariants as design
use Rattle.eq_report.specs.declared.refusal.PlanFault.{PlanFault}
use Rattle.eq_report.specs.declared.refusal.PlanFault.TheVariants as plan
use Rattle.eq_report.specs.declared.refusal.Refusal.{Refusal}
use Rattle.eq_report.specs.declared.refusal.Refusal.TheVariants.{Words, Absent, TooLong, Text, Elaboration, Ports, Plan, Size}
use Rattle.eq_report.specs.declared.refusal.TextFault.{TextFault}
use Rattle.eq_report.specs.Words.{kind_word, port_word, side_word, text_word}

-- what elaboration answers in place of a netlist, where that isn't want of memory. The bits of a loop aren't told
abbrev pub fault_of : ElabErr → Option DesignFault
fault_of (err.At kind name) = Some (design.At kind name)
fault_of (err.Loop cycle name) = Some (design.Loop name)
fault_of (err.TooLarge number) = Some (design.TooLarge number)
fault_of err.Memory = None

-- a line of a file, counted from 1, and what is wrong there
abbrev pub place_text : List ℕ → ℕ → TextFault → List ℕ
place_text name line fault = name ++ codes ":" ++ decimal line ++ codes ": " ++ text_word fault

abbrev pub design_text : DesignFault → List ℕ
design_text (design.At kind name) = kind_word kind ++ codes " " ++ name
design_text (design.Loop name) = codes "Loop " ++ name
design_text (design.TooLarge number) = codes "TooLarge " ++ decimal number

abbrev pub plan_text : PlanFault → List ℕ
plan_text (plan.TooMany number) = codes "TooMany " ++ decimal number
plan_text (plan.SameName first second) = codes "SameName " ++ first ++ codes " " ++ second

abbrev pub refusal_text : Refusal → List ℕ
refusal_text Words = codes "usage: eqy [-j N] [-d DIR] [-r] [-x] [--json NAME] FILE | eqy gen SEED SIZE"
refusal_text (Absent name) = name ++ codes ": no such file"
refusal_text (TooLong name) = name ++ codes ": longer than 67108864 bytes"
refusal_text (Text name line fault) = place_text name line fault
refusal_text (Elaboration side fault) = side_word side ++ codes ": " ++ design_text fault
refusal_text (Ports fault name) = codes "ports: " ++ port_word fault ++ codes " " ++ name
refusal_text (Plan fault) = codes "plan: " ++ plan_text fault
refusal_text (Size number) = codes "size: TooLarge " ++ decimal number

-- with its line feed
abbrev pub refusal_line : Refusal → List ℕ
refusal_line refusal = codes "eqy: " ++ refusal_text refusal ++ codes "\n"

-- How the kinds of faults are spelled.
use Rattle.std.specs.Prelude.{ℕ, List, codes}
use Rattle.eq_config.specs.declared.fault.ConfigKind.{ConfigKind}
use Rattle.eq_config.specs.declared.fault.ConfigKind.TheVariants as config
use Rattle.eq_vlex.specs.declared.fault.LexKind.{LexKind}
use Rattle.eq_vlex.specs.declared.fault.LexKind.TheVariants as lex
use Rattle.eq_verilog.specs.declared.refusal.ElabKind.{ElabKind}
use Rattle.eq_verilog.specs.declared.refusal.ElabKind.TheVariants as elab
use Rattle.eq_report.specs.declared.refusal.PortFault.{PortFault}
use Rattle.eq_report.specs.declared.refusal.PortFault.TheVariants as port
use Rattle.eq_report.specs.declared.refusal.TextFault.{TextFault}
use Rattle.eq_report.specs.declared.refusal.TextFault.TheVariants as text
use Rattle.eq_report.specs.declared.refusal.Which.{Which}
use Rattle.eq_report.specs.declared.refusal.Which.TheVariants.{Gold, Gate}

abbrev pub config_word : ConfigKind → List ℕ
config_word config.NotAscii = codes "NotAscii"
config_word config.NoSection = codes "NoSection"
config_word config.UnknownSection = codes "UnknownSection"
config_word config.UnknownLine = codes "UnknownLine"
config_word config.BadWord = codes "BadWord"
config_word config.BadNumber = codes "BadNumber"
config_word config.Twice = codes "Twice"
config_word config.TooMany = codes "TooMany"
config_word config.Missing = codes "Missing"

abbrev pub lex_word : LexKind → List ℕ
lex_word lex.BadByte = codes "BadByte"
lex_word lex.OpenComment = codes "OpenComment"
lex_word lex.OpenAttribute = codes "OpenAttribute"
lex_word lex.BadNumber = codes "BadNumber"
lex_word lex.XValue = codes "XValue"
lex_word lex.TooWide = codes "TooWide"

-- of a line of a file
abbrev pub text_word : TextFault → List ℕ
text_word (text.Config kind) = config_word kind
text_word (text.Lex kind) = lex_word kind
text_word text.Syntax = codes "Syntax"
text_word text.TooDeep = codes "TooDeep"

-- of a design
abbrev pub kind_word : ElabKind → List ℕ
kind_word elab.DuplicateModule = codes "DuplicateModule"
kind_word elab.NoTop = codes "NoTop"
kind_word elab.UnknownModule = codes "UnknownModule"
kind_word elab.Recursive = codes "Recursive"
kind_word elab.DuplicateName = codes "DuplicateName"
kind_word elab.UnknownName = codes "UnknownName"
kind_word elab.BadRange = codes "BadRange"
kind_word elab.BadTarget = codes "BadTarget"
kind_word elab.BadConnection = codes "BadConnection"
kind_word elab.PathClash = codes "PathClash"
kind_word elab.TwoDrivers = codes "TwoDrivers"
kind_word elab.Undriven = codes "Undriven"
kind_word elab.NoInit = codes "NoInit"
kind_word elab.TwoClocks = codes "TwoClocks"
kind_word elab.ClockAsData = codes "ClockAsData"

abbrev pub port_word : PortFault → List ℕ
port_word port.Missing = codes "Missing"
port_word port.Direction = codes "Direction"
port_word port.Width = codes "Width"
port_word port.Clock = codes "Clock"

abbrev pub side_word : Which → List ℕ
side_word Gold = codes "gold"
side_word Gate = codes "gate"

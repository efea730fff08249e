-- Why a design isn't read.
use Rattle.eq_load.specs.declared.stop.Stop.{Stop}
use Rattle.eq_load.specs.declared.stop.Stop.TheVariants.{Refused, Fault, Memory}
use Rattle.eq_report.specs.declared.refusal.Refusal.{Refusal}

-- a refusal meets this; a fault and want of memory are said elsewhere
abbrev pub IfRefused : Stop → (Refusal → Type 0) → Type 0
IfRefused (Refused r) P = P r
IfRefused Fault P = Unit {0}
IfRefused Memory P = Unit {0}

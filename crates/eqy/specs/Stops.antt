-- Why a run ends without a verdict.
use Rattle.eqy.specs.declared.refusal.Refusal.{Refusal}
use Rattle.eqy.specs.declared.stop.Stop.{Stop}
use Rattle.eqy.specs.declared.stop.Stop.TheVariants.{Refused, Fault, Memory}

-- a refusal meets this; a fault and want of memory are said elsewhere
abbrev pub IfRefused : Stop → (Refusal → Type 0) → Type 0
IfRefused (Refused r) P = P r
IfRefused Fault P = Unit {0}
IfRefused Memory P = Unit {0}

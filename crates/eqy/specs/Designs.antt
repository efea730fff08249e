-- The design that a module of the first form is.
use Rattle.eq_model.specs.Run.{Design, Equivalent}
use Rattle.eq_first.specs.declared.module.Module.{Module}
use Rattle.eq_net.specs.Net.{design_of}
use Rattle.eqy.specs.declared.report.Verdict.{Verdict}
use Rattle.eqy.specs.declared.report.Verdict.TheVariants.{Proved, Fail}
use Rattle.eqy.specs.Netlist.{first_parts}

-- each port is a net of one bit, an input is driven from outside, and the output by the equation of the expression
abbrev pub first_design : Module → Design
first_design m = design_of (first_parts m)

-- what a verdict says of the two designs, as sequential designs
abbrev pub DesignsAre : Verdict → Module → Module → Type 0
DesignsAre Proved gold gate = Equivalent (first_design gold) (first_design gate)
DesignsAre Fail gold gate = Equivalent (first_design gold) (first_design gate) → ⊥

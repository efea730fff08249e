-- What a verdict says of two designs of the first form.
use Rattle.std.specs.Prelude.{◌≡◌, ◌≢◌, ℕ, Bool, List, [], unwrap_or, slice_get}
use Rattle.std.specs.Option.{option_map}
use Rattle.eq_first.specs.declared.module.Module.{Module}
use Rattle.eq_first.specs.Value.{value}
use Rattle.eqy.specs.declared.report.Verdict.{Verdict}
use Rattle.eqy.specs.declared.report.Verdict.TheVariants.{Proved, Fail}

-- the outputs have equal values for all values of the ports
abbrev pub AreEqual : Module → Module → Type 0
AreEqual gold gate = (v : ℕ → Bool) → value gold.expr v ≡ value gate.expr v

-- the outputs have different values for some values of the ports
abbrev pub Differ : Module → Module → Type 0
Differ gold gate = (v : ℕ → Bool) × (value gold.expr v ≢ value gate.expr v)

abbrev pub IsVerdict : Verdict → Module → Module → Type 0
IsVerdict Proved gold gate = AreEqual gold gate
IsVerdict Fail gold gate = Differ gold gate

-- the status that a run ends with
abbrev pub status_of : Verdict → ℕ
status_of Proved = 0
status_of Fail = 2

-- the name of the output
abbrev pub output_name : Module → List ℕ
output_name m = unwrap_or (option_map (λ p. p.name) (slice_get m.ports m.output)) []

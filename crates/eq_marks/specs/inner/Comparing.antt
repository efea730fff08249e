-- Mirrors src/ports.rt; nothing here has to be believed.
-- The faults of ports in two parts: those of names, and those of clocks.
use Rattle.std.specs.Prelude.{ℕ, [], ◌∷◌, Bool, true, false, if◌then◌else◌, Option, None, Some, option_map, bytes_eq}
use Rattle.eq_model.specs.Nets.{NetName}
use Rattle.eq_model.specs.Run.{Design}
use Rattle.eq_net.specs.Meaning.{if_there}
use Rattle.eq_verilog.specs.Firsts.{first_of}
use Rattle.eq_marks.specs.declared.ports.PortErr.{PortErr}
use Rattle.eq_marks.specs.declared.ports.PortErr.TheVariants.{Missing, Direction, Width, Clock}
use Rattle.eq_marks.specs.Ports.{clock_clash, first_port}
use Rattle.eq_marks.specs.inner.Headers.{differs_in_direction, differs_in_width, is_missing}

abbrev pub name_fault : Design → Design → Option PortErr
name_fault gold gate = first_of (
    option_map (λ p. Missing true p) (first_port (is_missing gate.ports) gold.ports)
    ∷ option_map (λ p. Missing false p) (first_port (is_missing gold.ports) gate.ports)
    ∷ option_map Direction (first_port (differs_in_direction gold gate) gold.ports)
    ∷ option_map Width (first_port (differs_in_width gold gate) gold.ports)
    ∷ [])

-- the number of the port of a clock that clashes
abbrev pub clashing_port : Design → Design → Option ℕ
clashing_port gold gate = if_there None (λ c. first_port (bytes_eq c) gold.ports) (clock_clash gold gate gold.clock
    gate.clock)

abbrev pub clock_port : Option ℕ → Option PortErr
clock_port o = option_map Clock o

abbrev pub clock_fault : Design → Design → Option PortErr
clock_fault gold gate = clock_port (clashing_port gold gate)

abbrev pub other_name : NetName → NetName → Option NetName
other_name m n = if bytes_eq m n then None else Some m

abbrev pub only_if : Bool → NetName → Option NetName
only_if b n = if b then Some n else None

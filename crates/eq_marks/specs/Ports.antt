-- When two designs can be compared: they have the same ports, and a clock that both take as one.
use Rattle.std.specs.Prelude.{◌≡◌, ◌≢◌, ◌<◌, ◌⊎◌, Result, Err, ℕ, zero, suc, length, List, [], ◌∷◌, Bool, true, false, not, ◌==◌, if◌then◌else◌, Option, Some, None, option_map, find, bytes_eq}
use Rattle.eq_model.specs.Nets.{NetName, Net, net_width}
use Rattle.eq_model.specs.Run.{Design, dir}
use Rattle.eq_net.specs.declared.types.Dir.TheVariants.{Inner}
use Rattle.eq_net.specs.Meaning.{if_there}
use Rattle.eq_net.specs.Net.{Parts, net_at}
use Rattle.eq_net.specs.Nets.{width_of}
use Rattle.eq_net.specs.Numbers.{differ}
use Rattle.eq_verilog.specs.Declarations.{has, comes_in, goes_out}
use Rattle.eq_verilog.specs.Nets.{offset}
use Rattle.eq_verilog.specs.Clocks.{takes_as_data}
use Rattle.eq_verilog.specs.Firsts.{first_of, one_below}
use Rattle.eq_marks.specs.declared.ports.PortErr.{PortErr}
use Rattle.eq_marks.specs.declared.ports.PortErr.TheVariants.{Missing, Direction, Width, Clock, Memory}

-- the net of a port
abbrev pub net_named : Design → NetName → Option Net
net_named d n = find (λ (m : Net). bytes_eq n m.name) d.nets

abbrev pub port_width : Design → NetName → ℕ
port_width d n = if_there 0 net_width (net_named d n)

abbrev pub is_input_of : Design → NetName → Bool
is_input_of d n = if_there false (λ (m : Net). comes_in m.dir) (net_named d n)

-- the number of the first name that passes, in the order of a header
abbrev pub first_port : (NetName → Bool) → List NetName → Option ℕ
first_port test [] = None
first_port test (n ∷ ns) = if test n then Some zero else option_map suc (first_port test ns)

abbrev pub is_output_of : Design → ℕ → Bool
is_output_of d b = goes_out (dir d b)

-- a bit takes bit c as data, as if that were a clock
abbrev pub takes : Design → ℕ → ℕ → Bool
takes d c = takes_as_data d.system d.copy_of (is_output_of d) c

-- some bit takes this port, which is no clock of the design, as data
abbrev pub takes_port : Design → NetName → Bool
takes_port d n = one_below d.bits (takes d (offset d.nets n))

-- The port of one design's clock, given both clocks: the names differ; or one design alone has a clock, and the other
-- takes that port as data
abbrev pub clock_clash : Design → Design → Option NetName → Option NetName → Option NetName
clock_clash gold gate None None = None
clock_clash gold gate (Some m) (Some n) = if bytes_eq m n then None else Some m
clock_clash gold gate (Some m) None = if takes_port gate m then Some m else None
clock_clash gold gate None (Some n) = if takes_port gold n then Some n else None

-- The first thing in which the ports don't fit. A port is told by its number in gold's header; where gold hasn't it, by
-- that in gate's
abbrev pub port_fault : Design → Design → Option PortErr
port_fault gold gate = first_of (
    option_map (λ p. Missing true p) (first_port (λ n. not (has gate.ports n)) gold.ports)
    ∷ option_map (λ p. Missing false p) (first_port (λ n. not (has gold.ports n)) gate.ports)
    ∷ option_map Direction (first_port (λ n. differ (is_input_of gold n) (is_input_of gate n)) gold.ports)
    ∷ option_map Width (first_port (λ n. not (port_width gold n == port_width gate n)) gold.ports)
    ∷ if_there None (λ c. option_map Clock (first_port (bytes_eq c) gold.ports))
    (clock_clash gold gate gold.clock gate.clock)
    ∷ [])

-- this answer, but for want of memory
abbrev pub IsPortAnswer : Result (Unit {0}) PortErr → Result (Unit {0}) PortErr → Type 0
IsPortAnswer result answer = (result ≡ answer) ⊎ (result ≡ Err Memory)

-- each port of one netlist is a port of the other, of the same name, direction and width
abbrev pub HasEachPortOf : Parts → Parts → Type 0
HasEachPortOf n m = (k : ℕ) → k < length n.nets → (net_at n.nets k).dir ≢ Inner → (h : ℕ) × (h < length m.nets) ×
    ((net_at m.nets h).name ≡ (net_at n.nets k).name) × ((net_at m.nets h).dir ≡ (net_at n.nets k).dir) ×
    (width_of (net_at n.nets k) ≡ width_of (net_at m.nets h))

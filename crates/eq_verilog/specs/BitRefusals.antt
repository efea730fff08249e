-- What is wrong with the nets and bits of the whole design. Each condition is the name that it tells, if it holds.
-- Where a bit is told, it is the first in the order of bits.
use Rattle.std.specs.Prelude.{ℕ, Bool, true, false, ◌&&◌, ◌||◌, nat_lt, if◌then◌else◌, Option, None, is_some, is_none, option_map, count_by}
use Rattle.eq_model.specs.System.{Driver, input, undriven, equation, register, reads_ever}
use Rattle.eq_net.specs.Meaning.{if_there}
use Rattle.eq_verilog.specs.Trees.{Name}
use Rattle.eq_verilog.specs.Nets.{full_names, bit_name}
use Rattle.eq_verilog.specs.Equations.{Equation, place_in}
use Rattle.eq_verilog.specs.Clocks.{is_bit, takes_as_data}
use Rattle.eq_verilog.specs.Registers.{Process, Initial, sets, begins}
use Rattle.eq_verilog.specs.Costs.{has_bit}
use Rattle.eq_verilog.specs.Designs.{Flat, size, driver_of, system_of, is_reg_bit, is_output_bit, copy_of, event_bit, event_end, may_be_clock, clock_bit}
use Rattle.eq_verilog.specs.Firsts.{first_found, first_below, one_below, first_again}

-- two nets have one full name: that of the second
abbrev pub path_clash : Flat → Option Name
path_clash f = first_again (full_names f.nets)

-- the name of the first bit that passes
abbrev pub first_bit_where : Flat → (ℕ → Bool) → Option Name
first_bit_where f test = option_map (bit_name f.nets) (first_below (size f) test)

-- two equations have the bit, or two always items set it, or two initial values begin it
abbrev pub has_two_drivers : Flat → ℕ → Bool
has_two_drivers f b =
    nat_lt 1 (count_by (λ (e : Equation). is_some (place_in e.target_scope e.target b)) f.equations)
    || (nat_lt 1 (count_by (λ (p : Process). sets p.scope p.body b) f.processes)
    || nat_lt 1 (count_by (λ (i : Initial). is_some (place_in i.scope i.target b)) f.initials))

abbrev pub two_drivers : Flat → Option Name
two_drivers f = first_bit_where f (has_two_drivers f)

abbrev pub is_undriven : Driver → Bool
is_undriven input = false
is_undriven undriven = true
is_undriven (equation e) = false
is_undriven (register i e) = false

-- some driver reads the bit, a register's next value included
abbrev pub is_read : Flat → ℕ → Bool
is_read f b = one_below (size f) (λ c. has_bit (reads_ever (driver_of f c)) b)

-- a bit without driver is read, or is one of an output of the top
abbrev pub is_missed : Flat → ℕ → Bool
is_missed f b = is_undriven (driver_of f b) && (is_output_bit f b || is_read f b)

abbrev pub undriven_bit : Flat → Option Name
undriven_bit f = first_bit_where f (is_missed f)

-- a register has no initial value
abbrev pub no_init : Flat → Option Name
no_init f = first_bit_where f (λ b. is_reg_bit f b && is_none (begins f.initials b))

-- an event ends at an input of the top that has no range, and at the same one as the first event
abbrev pub is_event : Flat → Process → Bool
is_event f p = if_there false (λ e. may_be_clock f e && is_bit e (clock_bit f)) (event_end f p)

-- the bit of the first event that isn't so
abbrev pub two_clocks : Flat → Option Name
two_clocks f = option_map (bit_name f.nets) (first_found (λ p. if is_event f p then None else event_bit p) f.processes)

abbrev pub clock_as_data : Flat → Option Name
clock_as_data f =
    if_there None (λ c. first_bit_where f (takes_as_data (system_of f) (copy_of f) (is_output_bit f) c)) (clock_bit f)

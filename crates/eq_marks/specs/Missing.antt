-- The bits without a driver that are needed.
use Rattle.std.specs.Prelude.{ℕ, Bool, ◌&&◌, ◌||◌}
use Rattle.eq_model.specs.Run.{Design}
use Rattle.eq_model.specs.System.{reads_ever}
use Rattle.eq_verilog.specs.BitRefusals.{is_undriven}
use Rattle.eq_verilog.specs.Costs.{has_bit}
use Rattle.eq_verilog.specs.Firsts.{one_below}
use Rattle.eq_marks.specs.Ports.{is_output_of}

-- a bit without driver is one of an output, or some driver reads it, a register's next value included
abbrev pub is_missed : Design → ℕ → Bool
is_missed d b =
    is_undriven (d.system.driver b)
    && (is_output_of d b || one_below d.system.bits (λ c. has_bit (reads_ever (d.system.driver c)) b))

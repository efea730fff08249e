-- Mirrors src/headers.rt; nothing here has to be believed.
-- Ports of a header that are looked at one after another.
use Rattle.std.specs.Prelude.{◌≡◌, ℕ, ◌<◌, List, [], Bool, true, false, not, ◌==◌, slice_index_or}
use Rattle.eq_model.specs.Nets.{NetName}
use Rattle.eq_model.specs.Run.{Design}
use Rattle.eq_net.specs.declared.types.Dir.{Dir}
use Rattle.eq_net.specs.declared.types.Dir.TheVariants.{Inner, Input as InputPort, Output as OutputPort}
use Rattle.eq_net.specs.Numbers.{differ}
use Rattle.eq_verilog.specs.Declarations.{has}
use Rattle.eq_marks.specs.Ports.{is_input_of, port_width}

abbrev pub is_missing : List NetName → NetName → Bool
is_missing others n = not (has others n)

abbrev pub differs_in_direction : Design → Design → NetName → Bool
differs_in_direction gold gate n = differ (is_input_of gold n) (is_input_of gate n)

abbrev pub differs_in_width : Design → Design → NetName → Bool
differs_in_width gold gate n = not (port_width gold n == port_width gate n)

abbrev pub is_input_net : Dir → Bool
is_input_net Inner = false
is_input_net InputPort = true
is_input_net OutputPort = false

-- none of the first i names passes
abbrev pub NonePasses : (NetName → Bool) → List NetName → ℕ → Type 0
NonePasses test names i = (j : ℕ) → j < i → test (slice_index_or names j []) ≡ false

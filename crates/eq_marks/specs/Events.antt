-- Where the edges of always items come from, of the parts of a netlist. An event is the bit at whose edge an always item
-- runs.
use Rattle.std.specs.Prelude.{◌<◌, ℕ, List, [], ◌∷◌, Bool, false, ◌&&◌, if◌then◌else◌, Option, None, IfSome, is_none}
use Rattle.eq_model.specs.Nets.{Net, at_bit}
use Rattle.eq_model.specs.Run.{Design}
use Rattle.eq_net.specs.Meaning.{if_there}
use Rattle.eq_verilog.specs.Clocks.{end_of, is_bit}
use Rattle.eq_verilog.specs.Declarations.{comes_in}
use Rattle.eq_verilog.specs.Firsts.{first_found}

-- the event is there, and so is its bit, of so many
abbrev pub IsThere : ℕ → Option ℕ → Type 0
IsThere bits e = IfSome e (λ b. b < bits)

-- where plain copies lead from an event
abbrev pub end_in : Design → Option ℕ → Option ℕ
end_in d e = if_there None (end_of d.copy_of d.system.bits) e

-- where those of the first event lead. Where there is no event there is no clock
abbrev pub first_end : Design → List (Option ℕ) → Option ℕ
first_end d [] = None
first_end d (e ∷ es) = end_in d e

-- the bit of an input that has no range
abbrev pub may_be_clock : List Net → ℕ → Bool
may_be_clock nets b = at_bit false (λ n p. comes_in n.dir && is_none n.range) nets b

-- an event ends at an input that has no range, and at the same one as the first event
abbrev pub is_event : Design → Option ℕ → Option ℕ → Bool
is_event d clock e = if_there false (λ b. may_be_clock d.nets b && is_bit b clock) (end_in d e)

-- the bit of the first event that isn't so
abbrev pub first_astray : Design → List (Option ℕ) → Option ℕ
first_astray d es = first_found (λ e. if is_event d (first_end d es) e then None else e) es

-- Mirrors src/events.rt; nothing here has to be believed.
-- Events told by marks.
use Rattle.std.specs.Prelude.{◌≡◌, ◌<◌, ◌&&◌, ℕ, List, [], ◌∷◌, Bool, false, if◌then◌else◌, length, Option, None, is_some}
use Rattle.eq_model.specs.Nets.{Net}
use Rattle.eq_net.specs.Meaning.{if_there}
use Rattle.eq_verilog.specs.Clocks.{end_of, is_bit}
use Rattle.eq_verilog.specs.Firsts.{first_found}
use Rattle.eq_marks.specs.Events.{may_be_clock}
use Rattle.eq_marks.specs.inner.Carrying.{mark_of}

-- where copies lead from a bit, and from the first event
abbrev pub ends : List (Option ℕ) → ℕ → Option ℕ
ends copies b = end_of (mark_of copies) (length copies) b

abbrev pub clock_end : List (Option ℕ) → List (Option ℕ) → Option ℕ
clock_end copies [] = None
clock_end copies (e ∷ es) = if_there None (ends copies) e

-- copies lead from a bit to the clock, and that may be one
abbrev pub is_timed : List Net → List (Option ℕ) → Option ℕ → ℕ → Bool
is_timed nets copies clock b = if_there false (λ c. may_be_clock nets c && is_bit c clock) (ends copies b)

-- those bits have marks
pub record IsEventClass (nets : List Net) (copies : List (Option ℕ)) (clock : Option ℕ) (class : List (Option ℕ)) : Type 0
  where
    pub size : length class ≡ length copies
    pub each : (b : ℕ) → b < length copies → is_some (mark_of class b) ≡ is_timed nets copies clock b

-- the first event whose bit has no mark
abbrev pub first_unmarked : List (Option ℕ) → List (Option ℕ) → Option ℕ
first_unmarked class es =
    first_found (λ e. if if_there false (λ b. is_some (mark_of class b)) e then None else e) es

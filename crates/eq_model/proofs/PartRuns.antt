-- Runs of a part: one for given inputs and first values of the registers, and their windows.
use Rattle.std.proofs.Common.{◌≡◌, ℕ, ◌≤◌, ◌+◌, Bool, true, refl, arith, sym, ◌∙◌, ◌⊎◌, inl, inr}
use Rattle.eq_model.specs.System.{Values, Driver, input, undriven, equation, register, IsHeld, IsInput, is_register, nothing}
use Rattle.eq_model.specs.Part.{Part, IsPart, PartRun, PartRunFrom, HasOnePartRun}
use Rattle.eq_model.proofs.Induction.{later}
use Rattle.eq_model.proofs.Prefix.{front}
use Rattle.eq_model.proofs.Order.{free_from_rank}
use Rattle.eq_model.proofs.Trace.{Trace, HasOneTrace, one_trace}

-- a held bit is an input or a register
held_cases : (d : Driver) → IsHeld d → IsInput d ⊎ (is_register d ≡ true)
held_cases input h = inl tt
held_cases undriven h = absurd h
held_cases (equation e) h = absurd h
held_cases (register i e) h = inr refl

register_held : (d : Driver) → is_register d ≡ true → IsHeld d
register_held input e = absurd (cc)
register_held undriven e = absurd (cc)
register_held (equation f) e = absurd (cc)
register_held (register i f) e = tt

-- an input's value, or a register's
abbrev held_value : Driver → Bool → Bool → Bool
held_value input given state = given
held_value undriven given state = state
held_value (equation e) given state = state
held_value (register i e) given state = state

at_input : (d : Driver) (given state : Bool) → IsInput d → held_value d given state ≡ given
at_input input given state h = refl
at_input undriven given state h = absurd h
at_input (equation e) given state h = absurd h
at_input (register i e) given state h = absurd h

at_register : (d : Driver) (given state : Bool) → is_register d ≡ true → held_value d given state ≡ state
at_register input given state e = absurd (cc)
at_register undriven given state e = refl
at_register (equation f) given state e = refl
at_register (register i f) given state e = refl

module _ (t : Part) (part : IsPart t) (given : ℕ → ℕ → Bool) (state : Values) (n : ℕ) where
  u : ℕ → Values
  u c b = held_value (t.driver b) (given c (t.number b)) (state b)

  one : HasOneTrace t.system nothing u n
  one = one_trace t.system nothing u part.drivers (free_from_rank t.system part.drivers (λ b. b) part.ordered) n

  as_run : (x : ℕ → Values) → Trace t.system nothing u n x → PartRunFrom t given state n x
  unfolding u
  as_run x h = record {
    run = record {
      inputs = λ c b lc lb is. h.held c b lc lb (inr is) ∙ at_input (t.driver b) (given c (t.number b)) (state b) is;
      solves = h.solves;
    };
    begins = λ pos b lb e. h.state pos b lb refl (register_held (t.driver b) e)
        ∙ at_register (t.driver b) (given 0 (t.number b)) (state b) e;
  }

  as_trace : (x : ℕ → Values) → PartRunFrom t given state n x → Trace t.system nothing u n x
  unfolding u
  as_trace x h = record {
    held = λ c b lc lb why. elim why [
      | inl e ↦ absurd (cc)
      | inr is ↦ h.run.inputs c b lc lb is
          ∙ sym (at_input (t.driver b) (given c (t.number b)) (state b) is)
    ];
    state = λ pos b lb kept held. elim (held_cases (t.driver b) held) [
      | inl is ↦ h.run.inputs 0 b pos lb is ∙ sym (at_input (t.driver b) (given 0 (t.number b)) (state b) is)
      | inr e ↦ h.begins pos b lb e ∙ sym (at_register (t.driver b) (given 0 (t.number b)) (state b) e)
    ];
    solves = h.run.solves;
  }

  -- exactly one run
  pub one_part_run : HasOnePartRun t given state n
  one_part_run = record {
    some = (one.some.0, as_run one.some.0 one.some.1);
    only = λ x y hx hy. one.only x y (as_trace x hx) (as_trace y hy);
  }

-- the first m cycles of a run are a run
pub part_front : (t : Part) (given : ℕ → ℕ → Bool) (n : ℕ) (x : ℕ → Values) → PartRun t given n x → (m : ℕ) → m ≤ n →
    PartRun t given m x
part_front t given n x h m le = record {
  inputs = λ c b lc lb is. h.inputs c b (omega arith) lb is;
  solves = front t.system nothing n x h.solves m le;
}

-- m cycles from cycle d on are a run
pub part_window : (t : Part) (given : ℕ → ℕ → Bool) (n : ℕ) (x : ℕ → Values) → PartRun t given n x → (d m : ℕ) →
    d + m ≤ n → PartRun t (λ c. given (d + c)) m (λ c. x (d + c))
part_window t given n x h d m le = record {
  inputs = λ c b lc lb is. h.inputs (d + c) b (omega arith) lb is;
  solves = later t.system nothing n x h.solves d m le;
}

-- A part has exactly one run on the values that a run gives: each cycle has exactly one solution, cycle after cycle.
use Rattle.std.proofs.Common.{◌≡◌, ℕ, zero, suc, ◌<◌, List, [], Bool, true, slice_index_or, length, refl, arith, ◌∙◌, inr}
use Rattle.eq_model.specs.System.{Values, Cycle, IsInput, IsHeld, Meets, Follows, HasOneCycle, nothing}
use Rattle.eq_model.specs.Frames.{values, frames}
use Rattle.eq_bits.specs.declared.node.Node.{Node}
use Rattle.eq_bits.specs.declared.node.Node.TheVariants.{Const, Input, Not, And, Xor, Mux, Buf, Reg}
use Rattle.eq_bits.specs.declared.part.Part.{Part}
use Rattle.eq_bits.specs.declared.run.Run.{Run}
use Rattle.eq_bits.specs.Node.{driver_of, input_of, is_register, node_at, system_of}
use Rattle.eq_bits.specs.Cycle.{held, place, values_with, values_after}
use Rattle.eq_bits.specs.Replay.{HasOneReplay, IsReplay}
use Rattle.eq_bits.proofs.Replays.{computed_once, in_first, in_next}

-- what each kind of node is given
input_held : (node : Node) (inputs next_values : Values) → IsInput (driver_of node) →
    held inputs next_values node ≡ inputs (input_of node)
input_held (Const b) inputs next_values input = absurd input
input_held (Input i) inputs next_values input = refl
input_held (Not a) inputs next_values input = absurd input
input_held (And a b) inputs next_values input = absurd input
input_held (Xor a b) inputs next_values input = absurd input
input_held (Mux s a b) inputs next_values input = absurd input
input_held (Buf a) inputs next_values input = absurd input
input_held (Reg next init) inputs next_values input = absurd input

input_is_held : (node : Node) → IsInput (driver_of node) → IsHeld (driver_of node)
input_is_held (Const b) input = input
input_is_held (Input i) input = tt
input_is_held (Not a) input = input
input_is_held (And a b) input = input
input_is_held (Xor a b) input = input
input_is_held (Mux s a b) input = input
input_is_held (Buf a) input = input
input_is_held (Reg next init) input = absurd input

register_held : (node : Node) (inputs : Values) (r x : Bool) → is_register node ≡ true → (IsHeld (driver_of node) →
    x ≡ held inputs (λ next. r) node) → x ≡ r
register_held (Const b) inputs r x is h = absurd (cc)
register_held (Input i) inputs r x is h = absurd (cc)
register_held (Not a) inputs r x is h = absurd (cc)
register_held (And a b) inputs r x is h = absurd (cc)
register_held (Xor a b) inputs r x is h = absurd (cc)
register_held (Mux s a b) inputs r x is h = absurd (cc)
register_held (Buf a) inputs r x is h = absurd (cc)
register_held (Reg next init) inputs r x is h = h tt

follows_held : (node : Node) (inputs before : Values) (x : Bool) → (IsHeld (driver_of node) →
    x ≡ held inputs before node) → Follows (driver_of node) before x
follows_held (Const b) inputs before x h = tt
follows_held (Input i) inputs before x h = tt
follows_held (Not a) inputs before x h = tt
follows_held (And a b) inputs before x h = tt
follows_held (Xor a b) inputs before x h = tt
follows_held (Mux s a b) inputs before x h = tt
follows_held (Buf a) inputs before x h = tt
follows_held (Reg next init) inputs before x h = h tt

module _ (part : Part) (run : Run) (one : (u : Values) → HasOneCycle (system_of part.nodes) nothing u) where
  abbrev frame : ℕ → List Bool
  frame c = slice_index_or run.inputs c []

  -- the values, cycle by cycle
  abbrev trace : ℕ → Values
  trace zero = (one (values_with part.nodes run.regs (frame 0))).some.0
  trace (suc c) = (one (values_after part.nodes (trace c) (frame (suc c)))).some.0

  first_solved : Cycle (system_of part.nodes) nothing (values_with part.nodes run.regs (frame 0)) (trace 0)
  first_solved = (one (values_with part.nodes run.regs (frame 0))).some.1

  next_solved : (c : ℕ) →
      Cycle (system_of part.nodes) nothing (values_after part.nodes (trace c) (frame (suc c))) (trace (suc c))
  next_solved c = (one (values_after part.nodes (trace c) (frame (suc c)))).some.1

  inputs_given : (c b : ℕ) → b < length part.nodes → IsInput (driver_of (node_at part.nodes b)) →
      trace c b ≡ frames run.inputs c (input_of (node_at part.nodes b))
  inputs_given zero b there input =
      first_solved.held b there (inr (input_is_held (node_at part.nodes b) input))
      ∙ input_held (node_at part.nodes b) (values (frame 0)) (λ next. values run.regs (place part.nodes b)) input
  inputs_given (suc c) b there input =
      (next_solved c).held b there (inr (input_is_held (node_at part.nodes b) input))
      ∙ input_held (node_at part.nodes b) (values (frame (suc c))) (trace c) input

  driven : (c b : ℕ) → b < length part.nodes → Meets (driver_of (node_at part.nodes b)) (trace c) (trace c b)
  driven zero b there = first_solved.driven b there refl
  driven (suc c) b there = (next_solved c).driven b there refl

  is_replay : IsReplay part run trace
  is_replay = record {
    follows = record {
      inputs = λ c b lt there input. inputs_given c b there input;
      solves = record {
        now = λ c b lt there uncut. driven c b there;
        next = λ c b lt there uncut. follows_held (node_at part.nodes b) (values (frame (suc c))) (trace c)
            (trace (suc c) b)
            (λ h. (next_solved c).held b there (inr h));
      };
    };
    begins = λ some m there register. register_held (node_at part.nodes m) (values (frame 0))
        (values run.regs (place part.nodes m)) (trace 0 m) register
        (λ h. first_solved.held m there (inr h));
  }

  only : (x y : ℕ → Values) → IsReplay part run x → IsReplay part run y → (c m : ℕ) → c < length run.inputs →
      m < length part.nodes → x c m ≡ y c m
  only x y x_is y_is zero m lt there =
      computed_once part.nodes part.is_part.operands (values_with part.nodes run.regs (frame 0)) (x 0) (y 0)
      (in_first part run x x_is lt) (in_first part run y y_is lt) m there
  only x y x_is y_is (suc c) m lt there =
      computed_once part.nodes part.is_part.operands (values_after part.nodes (x c) (frame (suc c)))
      (x (suc c)) (y (suc c))
      (in_next part run x x_is c lt (x c) (λ k there. refl))
      (in_next part run y y_is c lt (x c) (λ k there. only y x y_is x_is c k (omega arith) there)) m there

  pub one_replay : HasOneReplay part run
  one_replay = record { some = (trace, is_replay); only = only }

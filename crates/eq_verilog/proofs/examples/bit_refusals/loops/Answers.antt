use Rattle.std.proofs.Common.{refl, arith, [], ◌∷◌, slice_index}
use Rattle.std.specs.Fmt.{digits}
use Rattle.eq_verilog.specs.samples.Writing.{t}
use Rattle.eq_verilog.specs.samples.Assignments.{ring, adding_wires, shifted_wires, ripple}
use Rattle.eq_verilog.specs.samples.Clocking.{counter}
use Rattle.eq_verilog.specs.Designs.{design_of}
use Rattle.eq_verilog.proofs.Loops.{first_on_loop, free}
use Rattle.eq_verilog.proofs.examples.bit_refusals.loops.Goals as goal

-- c[0] reads c[1], and c[1] reads c[0]
pub returns-clause-ring : goal.returns-clause-ring
unfolding digits
returns-clause-ring c = (
  refl,
  (
    4,
    first_on_loop (design_of ring t).system (4 ∷ 5 ∷ []) refl 4 (omega arith)
        (5 ∷ [], ((0, omega arith, refl), (0, omega arith, refl))) refl,
    refl,
  ),
)

pub returns-clause-added : goal.returns-clause-added
unfolding digits
returns-clause-added c = (
  refl,
  (
    2,
    first_on_loop (design_of adding_wires t).system (2 ∷ 3 ∷ []) refl 2 (omega arith)
        ([], (0, omega arith, refl)) refl,
    refl,
  ),
)

pub returns-clause-shifted : goal.returns-clause-shifted
returns-clause-shifted c = record {
  faultless = refl;
  loop_free = free (design_of shifted_wires t).system (slice_index (0 ∷ 3 ∷ 1 ∷ 2 ∷ [])) refl;
}

pub returns-clause-ripple : goal.returns-clause-ripple
returns-clause-ripple c = record {
  faultless = refl;
  loop_free = free (design_of ripple t).system
      (slice_index (0 ∷ 0 ∷ 0 ∷ 0 ∷ 0 ∷ 0 ∷ 0 ∷ 0 ∷ 9 ∷ 9 ∷ 9 ∷ 9 ∷ 1 ∷ 2 ∷ 3 ∷ 4 ∷ 5 ∷ [])) refl;
}

pub returns-clause-counter : goal.returns-clause-counter
returns-clause-counter c = record {
  faultless = refl;
  loop_free = free (design_of counter t).system (slice_index (0 ∷ 0 ∷ 0 ∷ 0 ∷ 0 ∷ 0 ∷ 2 ∷ 2 ∷ 2 ∷ 2 ∷ 1 ∷ [])) refl;
}

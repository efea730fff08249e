use Rattle.eq_model.proofs.FirstDifference.{never_bases, first_differs, part_first_differs, zero_base, zero_part_base}
use Rattle.eq_model.proofs.laws.parts.first_difference.Goals as goal

pub returns-clause-never : goal.returns-clause-never
returns-clause-never c = never_bases

pub returns-clause-first : goal.returns-clause-first
returns-clause-first c = first_differs

pub returns-clause-first_of_part : goal.returns-clause-first_of_part
returns-clause-first_of_part c = part_first_differs

pub returns-clause-zero : goal.returns-clause-zero
returns-clause-zero c = zero_base

pub returns-clause-zero_of_part : goal.returns-clause-zero_of_part
returns-clause-zero_of_part c = zero_part_base

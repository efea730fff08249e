-- What the solver's answers show.
use Rattle.std.specs.Prelude.{Bool, List}
use Rattle.eq_proof.specs.Inference.{Inference}
use Rattle.eq_cdcl.specs.declared.solver.Solved.{Solved}
use Rattle.eq_cdcl.specs.declared.solver.Solved.TheVariants.{Sat, Unsat, Spent}

-- something holds of the values in a `Sat`
abbrev pub IfSat : Solved → (List Bool → Type 0) → Type 0
IfSat (Sat bits) P = P bits
IfSat (Unsat log) P = Unit {0}
IfSat (Spent log) P = Unit {0}

-- something holds of the log in an `Unsat`
abbrev pub IfUnsat : Solved → (List Inference → Type 0) → Type 0
IfUnsat (Sat bits) P = Unit {0}
IfUnsat (Unsat log) P = P log
IfUnsat (Spent log) P = Unit {0}

-- something holds of the log in a `Spent`
abbrev pub IfSpent : Solved → (List Inference → Type 0) → Type 0
IfSpent (Sat bits) P = Unit {0}
IfSpent (Unsat log) P = Unit {0}
IfSpent (Spent log) P = P log

-- Cited by proofs alone; nothing here has to be believed.
-- Fields make an evidence in one way at most.
use Rattle.std.specs.Prelude.{ℕ, List}
use Rattle.std.proofs.Props.{props}
use Rattle.eq_bits.specs.declared.part.Part.{Part}
use Rattle.eq_unroll.specs.declared.query.Query.{Query}
use Rattle.eq_induct.specs.declared.types.Answer.{Answer}
use Rattle.eq_induct.specs.declared.types.Answer.TheVariants.{Sat, Unsat, Spent}
use Rattle.eq_induct.specs.declared.types.Decided.{Decided}
use Rattle.eq_wit.specs.declared.types.Head.{Head}
use Rattle.eq_wit.specs.Evidence.{FitsQuery, MakeEvidence}

pub FitsQuery-prop : (part : Part) (q : Query) (k : ℕ) (answer : Answer) → IsProp (FitsQuery part q k answer)
FitsQuery-prop part q k (Sat run) = hlevel props
FitsQuery-prop part q k (Unsat log) = hlevel props
FitsQuery-prop part q k (Spent log) = hlevel props

pub MakeEvidence-prop : (part : Part) (heads : List Head) (d : Decided) → IsProp (MakeEvidence part heads d)
MakeEvidence-prop part heads d = hlevel (props, FitsQuery-prop)

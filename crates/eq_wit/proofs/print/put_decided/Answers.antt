use Rattle.std.proofs.Common.{◌≡◌, sym, subst, ℕ, List}
use Rattle.std.specs.Prelude.{slice_get, Some}
use Rattle.eq_induct.specs.declared.types.Try.{Try}
use Rattle.eq_wit.specs.Evidence.{IsTryOf}
use Rattle.eq_wit.proofs.print.put_decided.Goals as goal

pub put_tries-requires-clause-tries : goal.put_tries-requires-clause-tries
put_tries-requires-clause-tries c =
    let P : List Try → Type 0 = λ xs. (i : ℕ) (t : Try) → slice_get xs i ≡ Some t → IsTryOf c.args.part.now t in
    subst P (sym c.as_slice.ensures) c.requires.evidence.tries

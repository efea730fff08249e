use Rattle.std.proofs.Common.{◌≡◌, sym, subst, ℕ, List}
use Rattle.std.specs.Prelude.{slice_get, Some}
use Rattle.eq_induct.specs.declared.types.Asked.{Asked}
use Rattle.eq_unroll.specs.Query.{IsUnrollable}
use Rattle.eq_wit.proofs.print.put_try.Goals as goal

pub put_queries-requires : goal.put_queries-requires
put_queries-requires c =
    let P : List Asked → Type 0 = λ xs. (i : ℕ) (a : Asked) → slice_get xs i ≡ Some a →
    IsUnrollable c.args.part.now a.k in
    let all : P c.args.t.now.attempt.asked = λ i a e. (c.requires.asked i a e).unrollable in
    subst P (sym c.as_slice.ensures) all

use Rattle.std.proofs.Common.{◌≡◌, List, ℕ, Some, inr, subst}
use Rattle.eq_first.specs.Configuration.{IsJob}
use Rattle.eq_io.specs.Files.{Files}
use Rattle.eqy.specs.Command.{FileRefused, IsSomeJob}
use Rattle.eqy.proofs.Stopped.{if_refused}
use Rattle.eqy.proofs.load.load_job.Goals as goal

pub returns-in-Ok-Some-clause-ok : goal.returns-in-Ok-Some-clause-ok
returns-in-Ok-Some-clause-ok g c =
    let is = rw c.in-Ok-Some.field-0-is at c.in-Ok-Some.ensures.some in
    let P : List ℕ → Type 0 = λ t. IsJob t c.in-Ok-Some.job in
    λ files told. (c.in-Ok.text, c.in-Ok.ensures.ok files told, subst P c.as_slice.ensures is)

pub returns-in-Ok-None-clause-refused : goal.returns-in-Ok-None-clause-refused
returns-in-Ok-None-clause-refused g c =
    let none = rw c.in-Ok-None.field-0-is at c.in-Ok-None.ensures.none in
    let P : List ℕ → Type 0 = λ t. IsSomeJob t → ⊥ in
    let form : IsSomeJob c.as_slice.result.now → ⊥ = λ some. none some.0 some.1 in
    if_refused c.not_yet.result _ (λ r. (files : Files) → g.S.Store.map c.args.store.now ≡ Some files → FileRefused files c.args.name.now IsSomeJob r)
    (λ r e files told. (let text = c.in-Ok.ensures.ok files told in inr (c.in-Ok.text, text.0, inr (subst P c.as_slice.ensures form), e))) c.not_yet.ensures.refusal

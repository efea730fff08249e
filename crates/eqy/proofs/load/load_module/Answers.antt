use Rattle.std.proofs.Common.{◌≡◌, List, ℕ, Some, inr, ap, subst, ◌∙◌}
use Rattle.eq_first.specs.Design.{IsModule}
use Rattle.eq_io.specs.Files.{Files}
use Rattle.eqy.specs.Command.{FileRefused, HasText, IsSomeModule}
use Rattle.eqy.specs.declared.refusal.Refusal.TheVariants.{NotYet}
use Rattle.eqy.proofs.Stopped.{if_refused}
use Rattle.eqy.proofs.load.load_module.Goals as goal

pub returns-in-Ok-Some-clause-ok : goal.returns-in-Ok-Some-clause-ok
returns-in-Ok-Some-clause-ok g c =
    let is = rw c.in-Ok-Some.field-0-is at c.in-Ok-Some.ensures.some in
    let P : List ℕ → Type 0 = λ t. IsModule t c.bytes.result.now c.in-Ok-Some.design in
    let Q : List ℕ → Type 0 = λ t. IsModule c.in-Ok.text t c.in-Ok-Some.design in
    λ files told.
    let R : List ℕ → Type 0 = λ name. HasText files name c.in-Ok.text in
    (c.in-Ok.text, subst R c.text_of-file.ensures (c.in-Ok.ensures.ok files told), subst Q c.bytes.ensures.bytes (subst P c.as_slice.ensures is))

pub returns-in-Ok-None-clause-refused : goal.returns-in-Ok-None-clause-refused
returns-in-Ok-None-clause-refused g c =
    let none = rw c.in-Ok-None.field-0-is at c.in-Ok-None.ensures.none in
    let P : List ℕ → Type 0 = λ t. IsSomeModule c.bytes.result.now t → ⊥ in
    let Q : List ℕ → Type 0 = λ t. IsSomeModule t c.in-Ok.text → ⊥ in
    let form : IsSomeModule c.bytes.result.now c.as_slice.result.now → ⊥ = λ some. none some.0 some.1 in
    if_refused c.not_yet.result _ (λ r. (files : Files) → g.S.Store.map c.args.store.now ≡ Some files → FileRefused files c.args.side.now.file (IsSomeModule c.args.side.now.top) r)
    (λ r e files told.
    let R : List ℕ → Type 0 = λ name. HasText files name c.in-Ok.text in
    let text = subst R c.text_of-file.ensures (c.in-Ok.ensures.ok files told) in
    inr (c.in-Ok.text, text.0, inr (subst Q c.bytes.ensures.bytes (subst P c.as_slice.ensures form)), e ∙ ap NotYet c.text_of-file.ensures)) c.not_yet.ensures.refusal

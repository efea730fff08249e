use Rattle.std.proofs.Common.{◌≡◌, ℕ, List, Option, length, subst}
use Rattle.std.specs.Prelude.{IfSome}
use Rattle.eq_names.specs.declared.span.Span.{Span}
use Rattle.eq_names.specs.Patterns.{AreCaptures, HasWilds}
use Rattle.eq_match.proofs.Led.{finds_all, fitting}
use Rattle.eq_match.proofs.leading.found.Goals as goal

pub filled-requires-clause-template : goal.filled-requires-clause-template
filled-requires-clause-template c =
    let C : Option (List Span) → Type 0 = λ o. IfSome o (AreCaptures c.args.pattern.now c.args.name.now) in
    let N : Option (List Span) → Type 0 = λ o. IfSome o (λ (spans : List Span). (wilds : ℕ) → HasWilds
    c.args.pattern.now wilds → length spans ≡ wilds) in
    fitting c.args.pattern.now c.args.template.now c.args.name.now c.in-Some.spans
    (subst C c.in-Some.is c.in_ok-spans.ensures.some) (subst N c.in-Some.is c.in_ok-spans.ensures.count) c.requires.fits

pub returns-in-Some : goal.returns-in-Some
returns-in-Some c =
    let C : Option (List Span) → Type 0 = λ o. IfSome o (AreCaptures c.args.pattern.now c.args.name.now) in
    finds_all c.one_capture.ensures c.one_filling.ensures c.args.pattern.now c.args.template.now c.args.name.now
    c.args.names.now c.in-Some.spans c.filled.result (subst C c.in-Some.is c.in_ok-spans.ensures.some) c.filled.ensures

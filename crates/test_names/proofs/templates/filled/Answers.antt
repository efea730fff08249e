use Rattle.std.proofs.Common.{◌≡◌, ℕ, IfSome, Option, Some, length, subst, sym, List}
use Rattle.eq_names.specs.Templates.{IsTemplate}
use Rattle.eq_names.specs.Patterns.{HasWilds}
use Rattle.eq_names.specs.declared.span.Span.{Span}
use Rattle.test_names.proofs.templates.filled.Goals as goal

pub fill-requires-clause-template : goal.fill-requires-clause-template
fill-requires-clause-template c =
    let Counted : Option (List Span) → Type 0 = λ r. IfSome r (λ spans. (wilds : ℕ) → HasWilds c.in_ok-pattern.pattern wilds → length spans ≡ wilds) in
    let counted : Counted (Some c.in-Some.spans) = subst Counted c.in-Some.is c.in_ok-spans.ensures.count in
    let Fitting : ℕ → Type 0 = λ n. IsTemplate c.in_ok-template.template n in
    subst Fitting (sym (counted c.wilds.result c.wilds.ensures)) c.in_ok-template.ensures

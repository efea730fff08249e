use Rattle.std.proofs.Common.{◌≡◌, ℕ, List, Option, length, refl, subst, sym}
use Rattle.std.specs.Prelude.{IfSome}
use Rattle.eq_names.specs.declared.span.Span.{Span}
use Rattle.eq_names.specs.Patterns.{HasWilds, Matches}
use Rattle.eq_names.specs.Templates.{IsTemplate}
use Rattle.eq_match.specs.Fitting.{FitsPattern}
use Rattle.eq_part.proofs.renaming.filling.Goals as goal

fitting : (pattern template name : List ℕ) (count : ℕ) → Matches pattern name → ((wilds : ℕ) → HasWilds pattern wilds → count ≡ wilds) →
    FitsPattern pattern template → IsTemplate template count
fitting pattern template name count m wilds fits =
    let w : HasWilds pattern _ = record { pieces = m.pieces; are_pieces = m.are_pieces; wilds_are = refl } in
    subst (IsTemplate template) (sym (wilds _ w)) (fits _ w)

pub fill-requires-clause-template : goal.fill-requires-clause-template
fill-requires-clause-template c =
    let N : Option (List Span) → Type 0 = λ o. IfSome o (λ (spans : List Span). (wilds : ℕ) → HasWilds c.args.pattern.now wilds → length spans ≡ wilds) in
    fitting c.args.pattern.now c.args.template.now c.args.name.now _ c.requires.hit
    (subst N c.in-Some.is c.in_ok-spans.ensures.count) c.requires.fits

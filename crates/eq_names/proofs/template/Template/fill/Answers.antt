use Rattle.std.proofs.Common.{ℕ, List, length, sym, ap, subst, ◌∙◌}
use Rattle.std.proofs.lemmas.List.Elements.{All-same}
use Rattle.eq_names.specs.Name.{IsNameByte}
use Rattle.eq_names.specs.declared.part.Part.{Part}
use Rattle.eq_names.specs.declared.span.Span.{Span}
use Rattle.eq_names.specs.Templates.{IsTemplate, IsFilled, parts_text}
use Rattle.eq_names.specs.inner.Parts.{ArePartsOf}
use Rattle.eq_names.proofs.PartLemmas.{parts_are, text_bytes, is_filled, filled_some, filled_none}
use Rattle.eq_names.proofs.template.Template.fill.Goals as goal

pub filled-requires-clause-parts : goal.filled-requires-clause-parts
filled-requires-clause-parts c =
    let text = c.self.inside.text in
    let caps = c.args.caps.now in
    let template = subst (λ (t : List ℕ). IsTemplate t (length caps)) (sym c.self.view_is) c.requires.template in
    let are = parts_are c.self.invariant.1.0 (length caps) text c.self.inside.parts c.self.invariant.0.bytes c.self.invariant.1.1 template in
    subst (λ (s : List Span). ArePartsOf (length s) c.as_slice.result.now) (sym c.as_slice-2.ensures)
    (subst (λ (ps : List Part). ArePartsOf (length caps) ps) (sym c.as_slice.ensures) are.1)

pub from_vec-requires : goal.from_vec-requires
from_vec-requires c =
    let text = c.self.inside.text in
    let caps = c.args.caps.now in
    let template = subst (λ (t : List ℕ). IsTemplate t (length caps)) (sym c.self.view_is) c.requires.template in
    let are = parts_are c.self.invariant.1.0 (length caps) text c.self.inside.parts c.self.invariant.0.bytes c.self.invariant.1.1 template in
    let bytes = text_bytes (length caps) c.args.name.now c.as_slice-2.result.now c.as_slice.result.now c.requires.bytes
    (subst (λ (ps : List Part). ArePartsOf (length caps) ps) (sym c.as_slice.ensures) are.1) in
    All-same IsNameByte c.in_ok-text.text.items (parts_text c.args.name.now c.as_slice-2.result.now c.as_slice.result.now) c.in_ok-text.ensures bytes

pub returns-clause-some : goal.returns-clause-some
returns-clause-some c =
    let text = c.self.inside.text in
    let caps = c.args.caps.now in
    let template = subst (λ (t : List ℕ). IsTemplate t (length caps)) (sym c.self.view_is) c.requires.template in
    let is = c.in_ok-text.ensures
    ∙ ap (λ (s : List Span). parts_text c.args.name.now s c.as_slice.result.now) c.as_slice-2.ensures
    ∙ ap (λ (ps : List Part). parts_text c.args.name.now caps ps) c.as_slice.ensures in
    let filled = is_filled c.self.invariant.1.0 text c.args.name.now caps c.self.inside.parts c.in_ok-text.text.items c.self.invariant.0.bytes c.self.invariant.1.1 template is in
    filled_some c.from_vec.result c.args.self.now c.args.name.now caps c.in_ok-text.text.items
    (subst (λ (t : List ℕ). IsFilled t c.args.name.now caps c.in_ok-text.text.items) c.self.view_is filled) c.from_vec.ensures.some

pub returns-clause-none : goal.returns-clause-none
returns-clause-none c =
    let text = c.self.inside.text in
    let caps = c.args.caps.now in
    let template = subst (λ (t : List ℕ). IsTemplate t (length caps)) (sym c.self.view_is) c.requires.template in
    let is = c.in_ok-text.ensures
    ∙ ap (λ (s : List Span). parts_text c.args.name.now s c.as_slice.result.now) c.as_slice-2.ensures
    ∙ ap (λ (ps : List Part). parts_text c.args.name.now caps ps) c.as_slice.ensures in
    let filled = is_filled c.self.invariant.1.0 text c.args.name.now caps c.self.inside.parts c.in_ok-text.text.items c.self.invariant.0.bytes c.self.invariant.1.1 template is in
    filled_none c.from_vec.result c.args.self.now c.args.name.now caps c.in_ok-text.text.items
    (subst (λ (t : List ℕ). IsFilled t c.args.name.now caps c.in_ok-text.text.items) c.self.view_is filled) c.from_vec.ensures.none

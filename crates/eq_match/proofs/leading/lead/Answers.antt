use Rattle.std.proofs.Common.{◌≡◌, ◌∙◌, ℕ, List, true, false, arith, slice_index_or, sym, ap, subst}
use Rattle.eq_net.specs.declared.types.NetInfo.{NetInfo}
use Rattle.eq_net.specs.Nets.{width_of}
use Rattle.eq_net.specs.Whole.{parts_of}
use Rattle.eq_match.specs.inner.Finding.{FindsFilling}
use Rattle.eq_match.proofs.Led.{leads, led_none, led_other, led_there}
use Rattle.eq_match.proofs.leading.lead.Goals as goal

pub net_at-requires : goal.net_at-requires
net_at-requires c =
    let here = parts_of c.args.here.now in
    let there = parts_of c.args.there.now in
    let seen : slice_index_or c.args.here_index.now.seen.items c.args.k false ≡ true = sym c.sees.ensures ∙
    c.if-not-sees.false in
    let F : List ℕ → Type 0 = λ name. FindsFilling c.args.pattern.now c.args.template.now name
    c.args.there_index.now.names c.in_ok-h.field-0 in
    let named = c.bytes.ensures.bytes ∙ ap (λ (n : NetInfo). n.name) c.net_at-net.ensures in
    led_there here there c.args.pattern.now c.args.template.now c.args.here_index.now.names c.args.there_index.now.names
    c.args.here_index.now.seen.items c.args.there_index.now.seen.items c.requires.here c.requires.there c.args.k
    c.requires.within seen c.in_ok-h.field-0 (subst F named c.in_ok-h.ensures) c.in-Some.h c.in-Some.is

pub sees-requires-in-Some : goal.sees-requires-in-Some
sees-requires-in-Some c =
    let here = parts_of c.args.here.now in
    let there = parts_of c.args.there.now in
    let seen : slice_index_or c.args.here_index.now.seen.items c.args.k false ≡ true = sym c.sees.ensures ∙
    c.if-not-sees.false in
    let F : List ℕ → Type 0 = λ name. FindsFilling c.args.pattern.now c.args.template.now name
    c.args.there_index.now.names c.in_ok-h.field-0 in
    let named = c.bytes.ensures.bytes ∙ ap (λ (n : NetInfo). n.name) c.net_at-net.ensures in
    let lt = led_there here there c.args.pattern.now c.args.template.now c.args.here_index.now.names
    c.args.there_index.now.names
    c.args.here_index.now.seen.items c.args.there_index.now.seen.items c.requires.here c.requires.there c.args.k
    c.requires.within seen c.in_ok-h.field-0 (subst F named c.in_ok-h.ensures) c.in-Some.h c.in-Some.is in
    let size = c.requires.there.tells.size in
    omega arith

pub returns-then-is_end-clause-some : goal.returns-then-is_end-clause-some
returns-then-is_end-clause-some c =
    let here = parts_of c.args.here.now in
    let there = parts_of c.args.there.now in
    let seen : slice_index_or c.args.here_index.now.seen.items c.args.k false ≡ true = sym c.sees.ensures ∙
    c.if-not-sees.false in
    let F : List ℕ → Type 0 = λ name. FindsFilling c.args.pattern.now c.args.template.now name
    c.args.there_index.now.names c.in_ok-h.field-0 in
    let named = c.bytes.ensures.bytes ∙ ap (λ (n : NetInfo). n.name) c.net_at-net.ensures in
    let both = c.is_end.ensures.0 c.if-is_end.true in
    leads here there c.args.pattern.now c.args.template.now c.args.here_index.now.names c.args.there_index.now.names
    c.args.here_index.now.seen.items c.args.there_index.now.seen.items c.requires.here c.requires.there c.args.k
    c.requires.within seen c.in_ok-h.field-0 (subst F named c.in_ok-h.ensures) c.in-Some.h c.in-Some.is
    (sym c.sees-in-Some.ensures ∙ both.0)
    (ap width_of (sym c.net_at-net.ensures) ∙ both.1 ∙ ap width_of c.net_at.ensures)

pub returns-else-is_end-clause-none : goal.returns-else-is_end-clause-none
returns-else-is_end-clause-none c =
    let here = parts_of c.args.here.now in
    let there = parts_of c.args.there.now in
    let seen : slice_index_or c.args.here_index.now.seen.items c.args.k false ≡ true = sym c.sees.ensures ∙
    c.if-not-sees.false in
    let F : List ℕ → Type 0 = λ name. FindsFilling c.args.pattern.now c.args.template.now name
    c.args.there_index.now.names c.in_ok-h.field-0 in
    let named = c.bytes.ensures.bytes ∙ ap (λ (n : NetInfo). n.name) c.net_at-net.ensures in
    led_other here there c.args.pattern.now c.args.template.now c.args.here_index.now.names c.args.there_index.now.names
    c.args.here_index.now.seen.items c.args.there_index.now.seen.items c.requires.here c.requires.there c.args.k
    c.requires.within seen c.in_ok-h.field-0 (subst F named c.in_ok-h.ensures) c.in-Some.h c.in-Some.is
    (λ s w. let two : true ≡ false = sym (c.is_end.ensures.1 (
      c.sees-in-Some.ensures ∙ s,
      ap width_of c.net_at-net.ensures ∙ w ∙ ap width_of (sym c.net_at.ensures),
    )) ∙ c.if-is_end.false in cc)

pub returns-in-None-clause-none : goal.returns-in-None-clause-none
returns-in-None-clause-none c =
    let here = parts_of c.args.here.now in
    let there = parts_of c.args.there.now in
    let seen : slice_index_or c.args.here_index.now.seen.items c.args.k false ≡ true = sym c.sees.ensures ∙
    c.if-not-sees.false in
    let F : List ℕ → Type 0 = λ name. FindsFilling c.args.pattern.now c.args.template.now name
    c.args.there_index.now.names c.in_ok-h.field-0 in
    let named = c.bytes.ensures.bytes ∙ ap (λ (n : NetInfo). n.name) c.net_at-net.ensures in
    led_none here there c.args.pattern.now c.args.template.now c.args.here_index.now.names c.args.there_index.now.names
    c.args.here_index.now.seen.items c.args.there_index.now.seen.items c.requires.here c.requires.there c.args.k
    c.requires.within seen c.in_ok-h.field-0 (subst F named c.in_ok-h.ensures) c.in-None.is

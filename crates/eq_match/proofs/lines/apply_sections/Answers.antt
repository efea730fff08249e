use Rattle.std.proofs.Common.{◌≡◌, ◌+◌, List, ◌∷◌, drop, sym, ap, subst, ◌∙◌}
use Rattle.std.proofs.lemmas.List.{drop_more}
use Rattle.eq_net.specs.Whole.{parts_of}
use Rattle.eq_config.specs.declared.config.MatchSection.{MatchSection}
use Rattle.eq_match.specs.NetPairs.{SectionsMake}
use Rattle.eq_match.specs.inner.Tables.{pairing_of}
use Rattle.eq_match.proofs.lines.apply_sections.Goals as goal

pub loop-section-preserved : goal.loop-section-preserved
loop-section-preserved c =
    let gold = parts_of c.args.gold.now in
    let gate = parts_of c.args.gate.now in
    let sections = c.args.sections.now in
    let i = c.loop-section.section-index in
    let now = pairing_of c.loop-section.table.partners.items in
    let new = pairing_of c.apply_section.new.table.partners.items in
    let s = c.section-item.result in
    let cons : drop i sections ≡ s ∷ drop (i + 1) sections = drop_more sections i s c.loop-section-test.true
    ∙ ap (λ (x : MatchSection). x ∷ drop (i + 1) sections) (sym c.section-item.is) in
    record {
      table = c.in_ok-apply_section.ensures.table;
      rest = λ after makes.
          let P : List MatchSection → Type 0 = λ xs. SectionsMake gold gate c.args.top.now xs now after in
          c.loop-section.invariant.rest after (subst P (sym cons) (new, c.in_ok-apply_section.ensures.ok, makes));
    }

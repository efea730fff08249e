use Rattle.std.proofs.Common.{◌-◌, List, length, slice_get, refl, ap, ◌∙◌}
use Rattle.eq_induct.specs.declared.types.Try.{Try}
use Rattle.eq_induct.specs.Outcome.{verdict_of}
use Rattle.eq_wit.proofs.ReadLemmas.{made_by, printed_by}
use Rattle.eq_wit.proofs.read.evidence.Goals as goal

pub invariant_of-result : goal.invariant_of-result
invariant_of-result c = record {
  is_evidence = made_by c.args.text.now c.args.tally c.args.line c.verdict-verdict.result c.requires
      (c.verdict-verdict.ensures ∙ ap (λ (ts : List Try). verdict_of (slice_get ts (length ts - 1))) c.as_slice.ensures);
}

pub returns : goal.returns
returns c = printed_by c.args.text.now c.args.tally c.args.line c.verdict-verdict.result _ c.requires
    (c.verdict-verdict.ensures ∙ ap (λ (ts : List Try). verdict_of (slice_get ts (length ts - 1))) c.as_slice.ensures)
    refl refl refl

use Rattle.std.proofs.Common.{◌≡◌, ◌++◌, drop}
use Rattle.eq_names.specs.Templates.{parts_text}
use Rattle.eq_names.specs.inner.Parts.{ArePartsOf}
use Rattle.std.proofs.Common.{length}
use Rattle.eq_names.proofs.template.filled.Given as goal

-- what is filled so far, and what the rest is filled to
abbrev pub invariant-loop-part : goal.invariant-loop-part
invariant-loop-part l = record {
  so_far : l.text.items ++ parts_text l.name l.spans (drop l.part-index l.parts) ≡ parts_text l.name l.spans l.parts;
  left : ArePartsOf (length l.spans) (drop l.part-index l.parts);
}

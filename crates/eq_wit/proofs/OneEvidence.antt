-- A text is that of one evidence at most.
use Rattle.std.proofs.Common.{◌≡◌, ℕ, ◌-◌, List, [], ◌∷◌, length, map, arith, sym, ap, ◌∙◌, subst, slice_get}
use Rattle.std.specs.Prelude.{sum_by}
use Rattle.eq_bits.specs.declared.node.Node.{Node}
use Rattle.eq_bits.specs.declared.part.Output.{Output}
use Rattle.eq_bits.specs.declared.part.Part.{Part}
use Rattle.eq_bits.specs.Part.{MakePart}
use Rattle.eq_bits.specs.inner.PartProp.{MakePart-prop}
use Rattle.eq_induct.specs.declared.types.Decided.{Decided}
use Rattle.eq_induct.specs.declared.types.PartVerdict.{PartVerdict}
use Rattle.eq_induct.specs.declared.types.Try.{Try}
use Rattle.eq_induct.specs.Attempts.{learned}
use Rattle.eq_induct.specs.Outcome.{verdict_of}
use Rattle.eq_wit.specs.declared.types.Evidence.{Evidence}
use Rattle.eq_wit.specs.declared.types.Head.{Head}
use Rattle.eq_wit.specs.Evidence.{MakeEvidence}
use Rattle.eq_wit.specs.Faults.{IsTyped, Prints, OneEvidence, lines_of_evidence}
use Rattle.eq_wit.specs.inner.EvidenceProp.{MakeEvidence-prop}
use Rattle.eq_wit.proofs.Decoded.{Tried}
use Rattle.eq_wit.proofs.Plain.{evidence_plain}
use Rattle.eq_wit.proofs.Sizes.{plain_has_words}
use Rattle.eq_wit.proofs.Whole.{Whole, heads_back, numbered, tried_of, tries_back, whole_from, whole_is, whole_of}
use Rattle.eq_wit.proofs.Words.{divided, divided_lines}

-- ---- values with an invariant are equal where their fields are

abbrev part_with : (name : List ℕ) (inputs : List (List ℕ)) (nodes : List Node) (outputs : List Output) →
    MakePart inputs nodes outputs → Part
part_with name inputs nodes outputs h =
    record { name = name; inputs = inputs; nodes = nodes; outputs = outputs; is_part = h }

pub same_part : (p q : Part) → p.name ≡ q.name → p.inputs ≡ q.inputs → p.nodes ≡ q.nodes → p.outputs ≡ q.outputs → p ≡ q
same_part p q name inputs nodes outputs =
    subst (λ (n : List ℕ). p ≡ part_with n q.inputs q.nodes q.outputs q.is_part) name
    (subst (λ (xs : List (List ℕ)). (h : MakePart xs q.nodes q.outputs) → p ≡ part_with p.name xs q.nodes q.outputs h) inputs
    (subst (λ (xs : List Node). (h : MakePart p.inputs xs q.outputs) → p ≡ part_with p.name p.inputs xs q.outputs h) nodes
    (subst (λ (xs : List Output). (h : MakePart p.inputs p.nodes xs) → p ≡ part_with p.name p.inputs p.nodes xs h) outputs
    (λ h. ap (part_with p.name p.inputs p.nodes p.outputs)
    (MakePart-prop p.inputs p.nodes p.outputs p.is_part h)))) q.is_part)

abbrev evidence_with : (part : Part) (heads : List Head) (d : Decided) → MakeEvidence part heads d → Evidence
evidence_with part heads d h = record { part = part; heads = heads; decided = d; is_evidence = h }

same_evidence : (e f : Evidence) → e.part ≡ f.part → e.heads ≡ f.heads → e.decided ≡ f.decided → e ≡ f
same_evidence e f part heads decided =
    subst (λ (p : Part). (h : MakeEvidence p f.heads f.decided) → e ≡ evidence_with p f.heads f.decided h) part
    (subst (λ (hs : List Head). (h : MakeEvidence e.part hs f.decided) → e ≡ evidence_with e.part hs f.decided h) heads
    (subst (λ (d : Decided). (h : MakeEvidence e.part e.heads d) → e ≡ evidence_with e.part e.heads d h) decided
    (λ h. ap (evidence_with e.part e.heads e.decided)
    (MakeEvidence-prop e.part e.heads e.decided e.is_evidence h)))) f.is_evidence

abbrev decided_with : List Try → PartVerdict → ℕ → Decided
decided_with tries verdict conflicts = record { tries = tries; verdict = verdict; conflicts = conflicts }

-- the tries say what the verdict is, and how many conflicts there were
same_decided : (e f : Evidence) → e.decided.tries ≡ f.decided.tries → e.decided ≡ f.decided
same_decided e f tries =
    let verdict : e.decided.verdict ≡ f.decided.verdict = e.is_evidence.verdict
    ∙ ap (λ (ts : List Try). verdict_of (slice_get ts (length ts - 1))) tries ∙ sym f.is_evidence.verdict in
    let conflicts : e.decided.conflicts ≡ f.decided.conflicts = e.is_evidence.conflicts
    ∙ ap (λ (ts : List Try). sum_by (λ t. learned t.attempt.asked) ts) tries ∙ sym f.is_evidence.conflicts in
    ap (λ (ts : List Try). decided_with ts e.decided.verdict e.decided.conflicts) tries
    ∙ ap (λ (v : PartVerdict). decided_with f.decided.tries v e.decided.conflicts) verdict
    ∙ ap (decided_with f.decided.tries f.decided.verdict) conflicts

-- ---- out of the text

from_text : (text : List ℕ) (e : Evidence) → Prints e text →
    whole_from (divided text) ≡ whole_of e.part e.heads e.decided
from_text text e h =
    let words = plain_has_words e h.plain in
    ap (λ (t : List ℕ). whole_from (divided t)) h.text_is
    ∙ ap whole_from (divided_lines (lines_of_evidence e) (evidence_plain e.part e.heads e.decided words))
    ∙ whole_is e.part e.heads e.decided (([] ∷ []) ∷ []) words.fits

tries_of_tried : (e : Evidence) → IsTyped e → numbered 0 (tried_of e.heads e.decided.tries) ≡ e.decided.tries
tries_of_tried e h = tries_back 0 e.heads e.decided.tries e.is_evidence.same
    (λ i t there. omega (arith, h.in_order i t there))

pub one_evidence : OneEvidence
one_evidence text e f h k =
    let same : whole_of e.part e.heads e.decided ≡ whole_of f.part f.heads f.decided =
    sym (from_text text e h) ∙ from_text text f k in
    let tried : tried_of e.heads e.decided.tries ≡ tried_of f.heads f.decided.tries = ap (λ (w : Whole). w.tried) same in
    let part : e.part ≡ f.part = same_part e.part f.part (ap (λ (w : Whole). w.name) same)
    (ap (λ (w : Whole). w.inputs) same) (ap (λ (w : Whole). w.nodes) same) (ap (λ (w : Whole). w.outputs) same) in
    let heads : e.heads ≡ f.heads = sym (heads_back e.heads e.decided.tries e.is_evidence.same)
    ∙ ap (map (λ (t : Tried). t.head)) tried ∙ heads_back f.heads f.decided.tries f.is_evidence.same in
    let tries : e.decided.tries ≡ f.decided.tries =
    sym (tries_of_tried e h.plain) ∙ ap (numbered 0) tried ∙ tries_of_tried f k.plain in
    same_evidence e f part heads (same_decided e f tries)

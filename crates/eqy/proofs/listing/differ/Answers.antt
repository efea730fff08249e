use Rattle.std.proofs.Common.{◌≡◌, ◌≢◌, ℕ, ◌^◌, List, Bool, true, false, not, length, below_more, refl, sym, ap, subst, arith, ◌∙◌}
use Rattle.std.proofs.Math.Bool.{beq}
use Rattle.eq_first.specs.declared.module.Direction.TheVariants.{Input}
use Rattle.eq_first.specs.declared.module.Port.{Port}
use Rattle.eq_first.specs.Value.{value}
use Rattle.eq_first.specs.Well.{Goes}
use Rattle.eqy.specs.Inputs.{inputs_of}
use Rattle.eqy.specs.Listing.{digits, given}
use Rattle.eqy.proofs.Listed.{value_of_inputs, inputs_at, length-inputs_at, given-inputs_at, number_of_inputs, length-digits}
use Rattle.eqy.proofs.Ports.{one_output}
use Rattle.eqy.proofs.listing.differ.Goals as goal

same_bit : (a b : Bool) → not (beq a b) ≡ false → a ≡ b
same_bit true true e = refl
same_bit true false e = absurd (cc)
same_bit false true e = absurd (cc)
same_bit false false e = refl

other_bit : (a b : Bool) → not (beq a b) ≡ true → a ≢ b
other_bit true true e = absurd (cc)
other_bit true false e = λ h. cc
other_bit false true e = λ h. cc
other_bit false false e = absurd (cc)

pub netlist-requires-clause-few : goal.netlist-requires-clause-few
netlist-requires-clause-few c =
    let e = one_output c.args.gold.now.ports c.args.gold.now.output c.requires.gold.inputs in
    let narrow = c.requires.narrow in
    omega arith

pub netlist-requires-2-clause-few : goal.netlist-requires-2-clause-few
netlist-requires-2-clause-few c =
    let e = one_output c.args.gold.now.ports c.args.gold.now.output c.requires.gold.inputs in
    let narrow = c.requires.narrow in
    let same = ap length c.requires.ports in
    omega arith

pub output-requires-clause-inputs : goal.output-requires-clause-inputs
output-requires-clause-inputs c =
    ap length (c.deref.ensures.value ∙ c.in_ok-values.ensures) ∙ length-digits c.count_inputs-inputs.result c.loop-number.number
    ∙ c.count_inputs-inputs.ensures ∙ ap inputs_of c.as_slice.ensures

pub output-requires-in-loop-number-clause-inputs : goal.output-requires-in-loop-number-clause-inputs
output-requires-in-loop-number-clause-inputs c =
    ap length (c.deref-in-loop-number.ensures.value ∙ c.in_ok-values.ensures) ∙ length-digits c.count_inputs-inputs.result c.loop-number.number
    ∙ c.count_inputs-inputs.ensures ∙ ap inputs_of (c.as_slice.ensures ∙ c.requires.ports)

pub returns-then-gold_bit-gate_bit-clause-differ : goal.returns-then-gold_bit-gate_bit-clause-differ
returns-then-gold_bit-gate_bit-clause-differ c =
    let gold = c.args.gold.now in
    let gate = c.args.gate.now in
    let bits = digits c.count_inputs-inputs.result c.loop-number.number in
    let at : List Bool → Bool = λ xs. value gold.expr (given gold.ports xs) in
    let gold_is = c.in_ok-gold_bit.ensures ∙ ap (λ (xs : List Bool). value gold.expr (given gold.ports xs)) (c.deref.ensures.value ∙ c.in_ok-values.ensures) in
    let gate_is = c.in_ok-gate_bit.ensures ∙ ap (λ (xs : List Bool). value gate.expr (given gate.ports xs)) (c.deref-in-loop-number.ensures.value ∙ c.in_ok-values.ensures)
    ∙ ap (λ (ps : List Port). value gate.expr (given ps bits)) (sym c.requires.ports) in
    λ _. (given gold.ports bits, λ e. other_bit c.in_ok-gold_bit.gold_bit c.in_ok-gate_bit.gate_bit c.if-gold_bit-gate_bit.true (gold_is ∙ e ∙ sym gate_is))

pub loop-number-preserved : goal.loop-number-preserved
loop-number-preserved c =
    let gold = c.args.gold.now in
    let gate = c.args.gate.now in
    let gold_is = c.in_ok-gold_bit.ensures ∙ ap (λ (xs : List Bool). value gold.expr (given gold.ports xs)) (c.deref.ensures.value ∙ c.in_ok-values.ensures) in
    let gate_is = c.in_ok-gate_bit.ensures ∙ ap (λ (xs : List Bool). value gate.expr (given gate.ports xs)) (c.deref-in-loop-number.ensures.value ∙ c.in_ok-values.ensures) in
    below_more _ _ c.loop-number.invariant (sym gold_is ∙ same_bit c.in_ok-gold_bit.gold_bit c.in_ok-gate_bit.gate_bit c.if-gold_bit-gate_bit.false ∙ gate_is)

pub returns-clause-equal : goal.returns-clause-equal
returns-clause-equal c =
    let gold = c.args.gold.now in
    let gate = c.args.gate.now in
    let n = c.count_inputs-inputs.result in
    let count = c.count_inputs-inputs.ensures ∙ ap inputs_of c.as_slice.ensures in
    λ _. λ v.
    let xs = inputs_at gold.ports v in
    let size : length xs ≡ n = length-inputs_at gold.ports v ∙ sym count in
    let number = number_of_inputs xs in
    let P : ℕ → Type 0 = λ m. digits m number.0 ≡ xs in
    let digits_are : digits n number.0 ≡ xs = subst P size number.2 in
    let power : 2 ^ length xs ≡ 2 ^ n = ap (λ m. 2 ^ m) size in
    let end = c.loop-number-test.false in
    let total = c.pow-number-end.ensures in
    let tried = c.loop-number.invariant number.0 (let lt = number.1 in omega arith) in
    value_of_inputs gold c.requires.gold v (given gold.ports xs) (λ p goes. sym (given-inputs_at gold.ports v p goes))
    ∙ ap (λ (ys : List Bool). value gold.expr (given gold.ports ys)) (sym digits_are)
    ∙ tried
    ∙ ap (λ (ys : List Bool). value gate.expr (given gate.ports ys)) digits_are
    ∙ ap (λ (ps : List Port). value gate.expr (given ps xs)) (sym c.requires.ports)
    ∙ value_of_inputs gate c.requires.gate (given gold.ports xs) v (λ p goes.
    let Q : List Port → Type 0 = λ ps. Goes ps Input p in
    given-inputs_at gold.ports v p (subst Q (sym c.requires.ports) goes))

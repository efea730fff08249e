-- A part of a copied cone is a copy of both graphs, each up to the cuts.
use Rattle.std.proofs.Common.{◌≡◌, ℕ, ◌<◌, ◌+◌, List, Bool, true, false, Option, None, Contains, length, refl, arith, sym, ap, subst, ◌∙◌, inl, inr}
use Rattle.std.proofs.lemmas.List.Elements.{Contains-get_or}
use Rattle.eq_model.specs.System.{IsInput, reads_ever}
use Rattle.eq_model.specs.Plan.{Plan}
use Rattle.eq_model.specs.Denotes.{Pinout}
use Rattle.eq_model.specs.Copying.{Copies, Copying, IsSigned, Negates}
use Rattle.eq_bits.specs.declared.node.Node.{Node}
use Rattle.eq_bits.specs.declared.part.Part.{Part}
use Rattle.eq_bits.specs.Node.{driver_of, node_at, system_of}
use Rattle.eq_bits.specs.Replay.{meaning, output_at}
use Rattle.eq_cone.specs.inner.Cones.{AreInputs, IsCone, number_at}
use Rattle.eq_cone.specs.inner.Copying.{IsMade, IsSignedInput, new_of, renamed}
use Rattle.eq_cone.specs.inner.Parted.{AreOutputs, AreRoots, IsCopiedWhole, TellsCuts}
use Rattle.eq_cone.specs.inner.Sides.{joined}
use Rattle.eq_cone.proofs.Drivers.{same_held, shifted_input, shifted_reads, shifted_renamed}
use Rattle.eq_cone.proofs.Followed.{copies_side, held_apart, made_of, made_there, there_made}
use Rattle.eq_cone.proofs.Rows.{gate_node, gold_node, joined_length}
use Rattle.eq_cone.proofs.Trimmed.{is_trim}

-- where the positions' pairs are just those inside, each once
pub record ArePositions (p : Plan) (inside : ℕ → Bool) (positions : List ℕ) : Type 0 where
  pub within : (o : ℕ) → o < length positions → (number_at positions o < p.pairs) ×
      (inside (number_at positions o) ≡ true)
  pub each : (i : ℕ) → i < p.pairs → inside i ≡ true → (o : ℕ) × (o < length positions) × (number_at positions o ≡ i)
  pub once : (o u : ℕ) → o < length positions → u < length positions →
      number_at positions o ≡ number_at positions u → o ≡ u

module _ (gold gate : List Node) (p : Plan) (inside : ℕ → Bool) (cut : ℕ → Option ℕ) (negated : ℕ → ℕ → Bool)
    (roots cone inputs positions : List ℕ) (place : ℕ → Option ℕ) (old : List Node)
    (is_cone : IsCone (joined gold gate) cut roots cone)
    (whole : IsCopiedWhole (joined gold gate) cut negated cone inputs place old)
    (uncut : (m : ℕ) → m < length (joined gold gate) → cut m ≡ None →
    ¬ IsInput (driver_of (node_at (joined gold gate) m)))
    (part : Part)
    (are_roots : AreRoots (length gold) p.gold p.gate positions (length positions) roots)
    (outs : AreOutputs (length gold) p.gold p.gate p.inverted positions place old part.nodes part.outputs
    (length positions))
    (are_inputs : AreInputs cut cone inputs (length cone)) (count : length part.inputs ≡ length inputs)
    (apart : (j k : ℕ) → j < length inputs → k < length inputs → number_at inputs j ≡ number_at inputs k → j ≡ k)
    (tells : TellsCuts (length gold) p.pairs p.gold p.gate inside cut)
    (low : (i : ℕ) → i < p.pairs → p.gold i < length gold)
    (plain_gold : (m i : ℕ) → m < length gold → negated m i ≡ false)
    (signed_gate : (b i : ℕ) → negated (length gold + b) i ≡ p.inverted i)
    (are_positions : ArePositions p inside positions) where
  pinout : Pinout p inside (meaning part)
  pinout = record {
    input_pair = number_at inputs;
    output_pair = number_at positions;
    outside = λ k lt. (
        let t = are_inputs.only (number_at inputs k) (Contains-get_or inputs k 0 (omega arith)) in
        tells.pair t.0 (number_at inputs k) t.2);
    apart = λ j k lj lk same. apart j k (omega arith) (omega arith) same;
    within = λ o lt. (let n = outs.count in are_positions.within o (omega arith));
    each = λ i lt h. (let n = outs.count in let t = are_positions.each i lt h in
        (t.0, (let less = t.1 in omega arith), t.2));
    once = λ o u lo lu same. (let n = outs.count in are_positions.once o u (omega arith) (omega arith) same);
  }

  of_gold : Copies (system_of gold) p.pairs p.gold (λ i. false) inside (meaning part) (number_at inputs)
  of_gold = copies_side (joined gold gate) cut negated cone inputs place old whole is_cone.closed uncut part
      outs.no_less outs.stays gold (λ b. b) p.pairs p.gold (λ i. false) inside
      (λ b lt. (let n = joined_length gold gate in omega arith))
      (λ a b same. same)
      (λ b lt f. ap (renamed f) (gold_node gold gate b lt))
      (λ b r lt c. (let P : Node → Type 0 = λ x. Contains (reads_ever (driver_of x)) r in
      subst P (sym (gold_node gold gate b lt)) c))
      (λ b lt h. (let P : Node → Type 0 = λ x. IsInput (driver_of x) in subst P (sym (gold_node gold gate b lt)) h))
      tells.gold
      (λ b i lt c. (
      let pair = tells.pair b i c in (
        pair.0,
        pair.1,
        (elim (tells.only b i c) [
          | inl is ↦ sym is
          | inr far ↦ absurd (omega arith)
        ]),
      )))
      (λ b i lt. plain_gold b i lt)

  of_gate : Copies (system_of gate) p.pairs p.gate p.inverted inside (meaning part) (number_at inputs)
  of_gate = copies_side (joined gold gate) cut negated cone inputs place old whole is_cone.closed uncut part
      outs.no_less outs.stays gate (λ b. length gold + b) p.pairs p.gate p.inverted inside
      (λ b lt. (let n = joined_length gold gate in omega arith))
      (λ a b same. (let e : length gold + a ≡ length gold + b = same in omega arith))
      (λ b lt f. ap (renamed f) (gate_node gold gate b) ∙ shifted_renamed f (length gold) (node_at gate b))
      (λ b r lt c. (let P : Node → Type 0 = λ x. Contains (reads_ever (driver_of x)) (length gold + r) in
      subst P (sym (gate_node gold gate b)) (shifted_reads (length gold) (node_at gate b) r c)))
      (λ b lt h. (let P : Node → Type 0 = λ x. IsInput (driver_of x) in
      subst P (sym (gate_node gold gate b)) (shifted_input (length gold) (node_at gate b) h)))
      tells.gate
      (λ b i lt c. (
      let pair = tells.pair (length gold + b) i c in
      let near = low i pair.0 in (
        pair.0,
        pair.1,
        (elim (tells.only (length gold + b) i c) [
          | inl is ↦ absurd (omega arith)
          | inr is ↦ omega arith
        ]),
      )))
      (λ b i lt. signed_gate b i)

  made : (m : ℕ) → Contains cone m → IsMade place m
  made m c = made_of (joined gold gate) cut negated cone inputs place old whole is_cone.closed uncut part outs.no_less
      outs.stays m c

  signed_output : (b : Bool) (j k : ℕ) → IsSignedInput part.nodes b j k → IsSigned (meaning part) b j k
  signed_output false j k signed = signed
  signed_output true j k signed =
      let P : Node → Type 0 = λ x. Negates (driver_of x) j in
      subst P (sym signed) (λ x. refl)

  pub is_copying : Copying (system_of gold) (system_of gate) p inside (meaning part)
  unfolding of_gold of_gate copies_side pinout
  is_copying = record {
    pinout = pinout;
    gold = of_gold;
    gate = of_gate;
    apart = λ a b la lb ra rb held same. (
        let e = held_apart (joined gold gate) cut negated cone inputs place old whole is_cone.closed uncut part
        outs.no_less outs.stays a (length gold + b) (made_there place a ra) (made_there place (length gold + b) rb)
        (sym (same_held (node_at part.nodes (new_of place a))) ∙ held) same in
        omega arith);
    gold_outputs = λ o lt. (
        let n = outs.count in
        let less : o < length positions = omega arith in (
          there_made place (p.gold (number_at positions o))
              (made (p.gold (number_at positions o)) (is_cone.roots_there (p.gold (number_at positions o))
              (are_roots.gold o less))),
          sym (outs.gold o less),
        ));
    gate_outputs = λ o lt. (
        let n = outs.count in
        let less : o < length positions = omega arith in
        let root = length gold + p.gate (number_at positions o) in (
          there_made place root (made root (is_cone.roots_there root (are_roots.gate o less))),
          signed_output (p.inverted (number_at positions o)) (new_of place root) (output_at part.outputs o).gate
              (outs.gate o less),
        ));
    trim = is_trim (joined gold gate) cut negated cone inputs place old whole is_cone.closed uncut part outs.no_less
        outs.stays roots is_cone.roots_there is_cone.led (length gold) p.gold p.gate p.inverted positions are_roots
        outs are_inputs count apart;
  }

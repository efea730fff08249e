-- A part of a copied cone holds nothing besides: an output leads to each node, and each input has a node.
use Rattle.std.proofs.Common.{◌≡◌, ℕ, ◌<◌, ◌≤◌, List, [], ◌∷◌, ◌++◌, Bool, true, false, Option, None, Contains, length, refl, arith, sym, ap, subst, ◌∙◌, ◌⊎◌, inl, inr}
use Rattle.std.proofs.lemmas.Bool.{cases_lt}
use Rattle.std.proofs.lemmas.List.Elements.{Contains-get_or}
use Rattle.eq_model.specs.System.{IsInput, ReadsEver, reads_ever}
use Rattle.eq_model.specs.Part.{IsTrim, LeadsTo, Part as PartMeant}
use Rattle.eq_bits.specs.declared.node.Node.{Node}
use Rattle.eq_bits.specs.declared.part.Part.{Part}
use Rattle.eq_bits.specs.Node.{driver_of, input_of, node_at}
use Rattle.eq_bits.specs.Replay.{meaning, output_at}
use Rattle.eq_cone.specs.inner.Cones.{AreInputs, IsLed, Leads, number_at, reads_of, reads_unless}
use Rattle.eq_cone.specs.inner.Copying.{IsSignedInput, new_of, number_or_zero}
use Rattle.eq_cone.specs.inner.Parted.{AreOutputs, AreRoots, IsCopiedWhole}
use Rattle.eq_cone.proofs.Advanced.{cases_option, first}
use Rattle.eq_cone.proofs.Drivers.{reads_renamed}
use Rattle.eq_cone.proofs.Followed.{copy_at, input_at, made_of, stop_at}
use Rattle.eq_cone.proofs.Reaching.{contains_nothing}

-- an output leads to node b
abbrev pub IsReached : Part → ℕ → Type 0
IsReached part b = (o : ℕ) × (cs : List ℕ) × (o < length part.outputs) ×
    (LeadsTo (meaning part) (output_at part.outputs o).gold cs b ⊎
    LeadsTo (meaning part) (output_at part.outputs o).gate cs b)

leads_more : (t : PartMeant) (a : ℕ) (cs : List ℕ) (b c : ℕ) → LeadsTo t a cs b → ReadsEver t.system b c →
    LeadsTo t a (cs ++ c ∷ []) c
leads_more t a [] b c here reads = (subst (λ (x : ℕ). ReadsEver t.system x c) (sym here) reads, refl)
leads_more t a (d ∷ ds) b c leads reads = (leads.0, leads_more t d ds b c leads.1 reads)

reached_more : (part : Part) (b c : ℕ) → IsReached part b → ReadsEver (meaning part).system b c → IsReached part c
reached_more part b c reached reads =
    elim reached.3 [
      | inl gold ↦ (
        reached.0,
        reached.1 ++ c ∷ [],
        reached.2,
        inl (leads_more (meaning part) (output_at part.outputs reached.0).gold reached.1 b c gold reads),
      )
      | inr gate ↦ (
        reached.0,
        reached.1 ++ c ∷ [],
        reached.2,
        inr (leads_more (meaning part) (output_at part.outputs reached.0).gate reached.1 b c gate reads),
      )
    ]

-- a signed node is read or is the node
signed_reached : (part : Part) (o : ℕ) → o < length part.outputs → (b : Bool) (j : ℕ) →
    IsSignedInput part.nodes b j (output_at part.outputs o).gate → IsReached part j
signed_reached part o lt false j signed = (o, [], lt, inr signed)
signed_reached part o lt true j signed =
    let P : Node → Type 0 = λ x. Contains (reads_ever (driver_of x)) j in
    (o, j ∷ [], lt, inr (subst P (sym signed) (first j []), refl))

-- what stands for an input that is reached reaches the input
stop_reached : (part : Part) (b : Bool) (j k : ℕ) → IsSignedInput part.nodes b j k → IsReached part k →
    IsReached part j
stop_reached part false j k signed reached = subst (λ (x : ℕ). IsReached part x) signed reached
stop_reached part true j k signed reached =
    let P : Node → Type 0 = λ x. Contains (reads_ever (driver_of x)) j in
    reached_more part k j reached (subst P (sym signed) (first j []))

module _ (joined : List Node) (cut : ℕ → Option ℕ) (negated : ℕ → ℕ → Bool) (cone inputs : List ℕ)
    (place : ℕ → Option ℕ) (old : List Node) (whole : IsCopiedWhole joined cut negated cone inputs place old)
    (closed : (m r : ℕ) → Contains cone m → Contains (reads_of joined cut m) r → Contains cone r)
    (uncut : (m : ℕ) → m < length joined → cut m ≡ None → ¬ IsInput (driver_of (node_at joined m)))
    (part : Part) (no_less : length old ≤ length part.nodes)
    (stays : (k : ℕ) → k < length old → node_at part.nodes k ≡ node_at old k)
    (roots : List ℕ) (roots_there : (r : ℕ) → Contains roots r → Contains cone r)
    (led : (m : ℕ) → Contains cone m → IsLed joined cut roots m)
    (size : ℕ) (here there : ℕ → ℕ) (inverted : ℕ → Bool) (positions : List ℕ)
    (are_roots : AreRoots size here there positions (length positions) roots)
    (outs : AreOutputs size here there inverted positions place old part.nodes part.outputs (length positions))
    (are_inputs : AreInputs cut cone inputs (length cone)) (count : length part.inputs ≡ length inputs)
    (apart : (j k : ℕ) → j < length inputs → k < length inputs → number_at inputs j ≡ number_at inputs k → j ≡ k) where
  root_reached : (r : ℕ) → Contains roots r → IsReached part (new_of place r)
  root_reached r c =
      let t = are_roots.only r c in
      let n = outs.count in
      let lt = t.1 in
      elim t.2 [
        | inl is_gold ↦ (
            let e : (output_at part.outputs t.0).gold ≡ new_of place r = outs.gold t.0 t.1
            ∙ ap (new_of place) (sym is_gold) in
            (t.0, [], (omega arith), inl e))
        | inr is_gate ↦ (
            let P : ℕ → Type 0 = λ x. IsSignedInput part.nodes (inverted (number_at positions t.0)) (new_of place x)
            (output_at part.outputs t.0).gate in
            signed_reached part t.0 (omega arith) (inverted (number_at positions t.0)) (new_of place r)
            (subst P (sym is_gate) (outs.gate t.0 t.1)))
      ]

  step_reached : (a c : ℕ) → Contains cone a → IsReached part (new_of place a) →
      Contains (reads_of joined cut a) c → IsReached part (new_of place c)
  step_reached a c in_cone reached reads =
      cases_option (cut a) (IsReached part (new_of place c))
      (λ none. (
      let P : Option ℕ → Type 0 = λ o. Contains (reads_unless o (node_at joined a)) c in
      let Q : Node → Type 0 = λ x. Contains (reads_ever (driver_of x)) (new_of place c) in
      let made = made_of joined cut negated cone inputs place old whole closed uncut part no_less stays a in_cone in
      let copy = copy_at joined cut negated cone inputs place old whole closed uncut part no_less stays a made none in
      reached_more part (new_of place a) (new_of place c) reached
      (subst Q (sym copy) (reads_renamed (new_of place) (node_at joined a) c (subst P none reads)))))
      (λ i some. (
      let P : Option ℕ → Type 0 = λ o. Contains (reads_unless o (node_at joined a)) c in
      absurd (contains_nothing c (subst P some reads))))

  chain_reached : (a : ℕ) (cs : List ℕ) (b : ℕ) → Contains cone a → IsReached part (new_of place a) →
      Leads joined cut a cs b → IsReached part (new_of place b)
  chain_reached a [] b in_cone reached same = subst (λ (x : ℕ). IsReached part (new_of place x)) same reached
  chain_reached a (c ∷ cs) b in_cone reached leads = chain_reached c cs b (closed a c in_cone leads.0)
      (step_reached a c in_cone reached leads.0) leads.1

  cone_reached : (m : ℕ) → Contains cone m → IsReached part (new_of place m)
  cone_reached m c =
      let t = led m c in
      chain_reached t.0 t.1 m (roots_there t.0 t.2) (root_reached t.0 t.2) t.3

  input_reached : (k : ℕ) → k < length inputs → IsReached part k
  input_reached k lt =
      let t = are_inputs.only (number_at inputs k) (Contains-get_or inputs k 0 lt) in
      let made = made_of joined cut negated cone inputs place old whole closed uncut part no_less stays t.0 t.1 in
      let stop = stop_at joined cut negated cone inputs place old whole closed uncut part no_less stays t.0
      (number_at inputs k) made t.2 in
      let same = apart stop.0 k stop.1 lt stop.2 in
      let reached = subst (λ (x : ℕ). IsReached part x) (ap number_or_zero made.1) (cone_reached t.0 t.1) in
      subst (λ (x : ℕ). IsReached part x) same
      (stop_reached part (negated t.0 (number_at inputs k)) stop.0 made.0 stop.3 reached)

  node_reached : (b : ℕ) → b < length part.nodes → IsReached part b
  node_reached b lt =
      elim (cases_lt b (length old)) [
        | inl less ↦ (elim (cases_lt b (length inputs)) [
          | inl low ↦ input_reached b low
          | inr high ↦ (
              let t = whole.copied.only b high less in
              let m = whole.front.only t.0 (b, t.1) in
              let c = subst (λ (x : ℕ). Contains cone x) m.2 (Contains-get_or cone m.0 0 m.1) in
              subst (λ (x : ℕ). IsReached part x) (ap number_or_zero t.1) (cone_reached t.0 c))
        ])
        | inr more ↦ (
            let t = outs.more b more lt in
            let n = outs.count in
            let less = t.1 in
            (t.0, [], (omega arith), inr t.2))
      ]

  pub is_trim : IsTrim (meaning part)
  is_trim = record {
    reached = node_reached;
    named = λ k lt. (
        let few = whole.copied.input_nodes.there in
        let e = input_at joined cut negated cone inputs place old whole closed uncut part no_less stays k
        (omega arith) in
        let P : Node → Type 0 = λ x. IsInput (driver_of x) in
        (k, (omega arith), subst P (sym e) tt, ap input_of e));
  }

-- Roots, outputs and names, one pair after another.
use Rattle.std.proofs.Common.{◌≡◌, ℕ, ◌<◌, ◌+◌, List, [], ◌∷◌, ◌++◌, Bool, true, false, Option, Contains, Result, Ok, Err, IfOk, OnOk, Some, slice_get, slice_index_or, length, refl, arith, sym, ap, subst, ◌∙◌, ◌⊎◌, inl, inr, length-append}
use Rattle.std.proofs.Math.ListN.{get_or-append}
use Rattle.std.proofs.Math.Seq.{get_or-append_seam}
use Rattle.std.proofs.lemmas.Bool.{cases_Bool, cases_lt}
use Rattle.std.proofs.lemmas.List.Sums.{count_by_more_no, count_by_more_yes}
use Rattle.std.proofs.lemmas.List.Elements.{Contains-append_cases}
use Rattle.eq_model.specs.System.{IsInput}
use Rattle.eq_bits.specs.declared.node.Node.{Node}
use Rattle.eq_bits.specs.declared.node.Node.TheVariants.{Not}
use Rattle.eq_bits.specs.declared.part.Output.{Output}
use Rattle.eq_bits.specs.Node.{driver_of, node_at}
use Rattle.eq_bits.specs.Replay.{output_at}
use Rattle.eq_bits.specs.Shared.{IsKnown}
use Rattle.eq_match.specs.Pairs.{pair_at}
use Rattle.eq_net.specs.declared.types.NetInfo.{NetInfo}
use Rattle.eq_cone.specs.declared.roots.Graphs.{Graphs}
use Rattle.eq_cone.specs.Paired.{own_in_gate, own_in_gold}
use Rattle.eq_cone.specs.inner.Cones.{Reached, number_at}
use Rattle.eq_cone.specs.inner.Copying.{IsSignedInput, new_of}
use Rattle.eq_cone.specs.inner.Outputs.{AreNames, AreOutputsOf, IsOutputOf, IsSignedMade, name_of}
use Rattle.eq_cone.specs.inner.Parted.{AreRoots}
use Rattle.eq_cone.proofs.Advanced.{first, second}
use Rattle.eq_cone.proofs.Added.{node_grown}
use Rattle.eq_cone.proofs.Made.{signed_still}
use Rattle.eq_cone.proofs.Reaching.{contains_nothing, contains_one, still_there}

-- ---- roots

pub roots_begin : (size : ℕ) (here there : ℕ → ℕ) (positions : List ℕ) → AreRoots size here there positions 0 []
roots_begin size here there positions = record {
  gold = λ o lt. absurd (omega arith);
  gate = λ o lt. absurd (omega arith);
  only = λ r c. absurd (contains_nothing r c);
}

pub roots_on : (size : ℕ) (here there : ℕ → ℕ) (positions : List ℕ) (n : ℕ) (old new : List ℕ) →
    AreRoots size here there positions n old →
    Reached old new (here (number_at positions n) ∷ (size + there (number_at positions n)) ∷ []) →
    AreRoots size here there positions (n + 1) new
roots_on size here there positions n old new are reached =
    let a = here (number_at positions n) in
    let b = size + there (number_at positions n) in
    record {
      gold = λ o lt. elim (cases_lt o n) [
        | inl less ↦ still_there old new (a ∷ b ∷ []) reached (here (number_at positions o)) (are.gold o less)
        | inr last ↦ (
            let e : n ≡ o = omega arith in
            let P : ℕ → Type 0 = λ x. Contains new (here (number_at positions x)) in
            subst P e (reached.has a (first a (b ∷ []))))
      ];
      gate = λ o lt. elim (cases_lt o n) [
        | inl less ↦ still_there old new (a ∷ b ∷ []) reached (size + there (number_at positions o)) (are.gate o less)
        | inr last ↦ (
            let e : n ≡ o = omega arith in
            let P : ℕ → Type 0 = λ x. Contains new (size + there (number_at positions x)) in
            subst P e (reached.has b (second a b [])))
      ];
      only = λ r c. elim (Contains-append_cases old reached.more r
          (subst (λ (l : List ℕ). Contains l r) reached.is c)) [
            | inl before ↦ (let t = are.only r before in (t.0, (let less = t.1 in omega arith), t.2))
            | inr more ↦ (elim (Contains-append_cases (a ∷ []) (b ∷ []) r (reached.only r more)) [
              | inl is_a ↦ (n, (omega arith), inl (sym (contains_one a r is_a)))
              | inr is_b ↦ (n, (omega arith), inr (sym (contains_one b r is_b)))
            ])
          ];
    }

-- ---- signs

pub negated_made : {E : Type 0} (b : Bool) (j : ℕ) (r : Result ℕ E) (old new : List Node) → b ≡ true →
    IfOk r (λ m. slice_get new m ≡ Some (Not j)) → (IsKnown old (Not j) → OnOk r (new ≡ old)) →
    (¬ IsKnown old (Not j) → IfOk r (λ m. m ≡ length old)) →
    (new ≡ old) ⊎ (new ≡ old ++ Not j ∷ []) → IfOk r (λ m. IsSignedMade b j old new m)
negated_made b j (Ok m) old new neg is known fresh grown =
    let made = node_grown old new (Not j) m is known fresh grown in
    let P : Bool → Type 0 = λ x. IsSignedInput new x j m in
    let Q : Node → Type 0 = λ x. IsInput (driver_of x) in
    record {
      grown = made.0;
      signed = subst P (sym neg) made.1;
      none = λ e. (let f : true ≡ false = sym neg ∙ e in absurd (cc));
      no_input = λ more input. subst Q made.1 input;
    }
negated_made b j (Err e) old new neg is known fresh grown = tt

-- ---- outputs

module _ (nets : List NetInfo) (g : Graphs) (positions : List ℕ) (place : ℕ → Option ℕ) (old : List Node) where
  pub outputs_begin : AreOutputsOf nets g positions place old old [] 0
  outputs_begin = record {
    are = record {
      count = refl;
      gold = λ o lt. absurd (omega arith);
      gate = λ o lt. absurd (omega arith);
      gate_there = λ o lt. absurd (omega arith);
      no_less = omega arith;
      stays = λ k lt. refl;
      more = λ k m lt. absurd (omega arith);
      no_input = λ k m lt. absurd (omega arith);
    };
    names = λ o lt. absurd (omega arith);
    room = omega arith;
    bound = omega arith;
  }

  module _ (mid new : List Node) (outs : List Output) (n : ℕ) (are : AreOutputsOf nets g positions place old mid outs n)
      (lt_n : n < length positions) (one : Output)
      (is : IsOutputOf nets g place (number_at positions n) mid new one) where
    before : (o : ℕ) → o < n → output_at (outs ++ one ∷ []) o ≡ output_at outs o
    before o lt = (let c = are.are.count in
        get_or-append outs (one ∷ []) (record { name = []; gold = 0; gate = 0 }) o (omega arith))

    last_one : output_at (outs ++ one ∷ []) n ≡ one
    last_one = ap (output_at (outs ++ one ∷ [])) (sym are.are.count)
        ∙ get_or-append_seam outs one [] (record { name = []; gold = 0; gate = 0 })

    -- what holds of each output before and of the new one holds of all
    each : (P : ℕ → Output → Type 0) → ((o : ℕ) → o < n → P o (output_at outs o)) → P n one →
        (o : ℕ) → o < n + 1 → P o (output_at (outs ++ one ∷ []) o)
    each P all this o lt =
        elim (cases_lt o n) [
          | inl less ↦ subst (P o) (sym (before o less)) (all o less)
          | inr more ↦ (
              let e : n ≡ o = omega arith in
              let Q : ℕ → Type 0 = λ x. P x (output_at (outs ++ one ∷ []) x) in
              subst Q e (subst (P n) (sym last_one) this))
        ]

    still : (k : ℕ) → k < length mid → node_at new k ≡ node_at mid k
    still k lt = is.gate.grown.stays k lt

    pub outputs_on : AreOutputsOf nets g positions place old new (outs ++ one ∷ []) (n + 1)
    outputs_on = record {
      are = record {
        count = (let c = are.are.count in let e = length-append outs (one ∷ []) in omega arith);
        gold = each (λ o x. x.gold ≡ new_of place (own_in_gold g.gold.now g.plan.now (number_at positions o)))
            are.are.gold is.gold;
        gate = each (λ o x. IsSignedInput new (pair_at g.plan.now.pairs (number_at positions o)).inverted
            (new_of place (length g.gold.now.nodes + own_in_gate g.gate.now g.plan.now (number_at positions o))) x.gate)
            (λ o lt. signed_still mid new (pair_at g.plan.now.pairs (number_at positions o)).inverted
            (new_of place (length g.gold.now.nodes + own_in_gate g.gate.now g.plan.now (number_at positions o)))
            (output_at outs o).gate (still (output_at outs o).gate (are.are.gate_there o lt)) (are.are.gate o lt))
            is.gate.signed;
        gate_there = each (λ o x. x.gate < length new)
            (λ o lt. (let e = are.are.gate_there o lt in let f = is.gate.grown.no_less in omega arith))
            is.gate.grown.there;
        no_less = (let e = are.are.no_less in let f = is.gate.grown.no_less in omega arith);
        stays = λ k lt. still k (let e = are.are.no_less in omega arith) ∙ are.are.stays k lt;
        more = λ k high lt. elim (cases_lt k (length mid)) [
          | inl less ↦ (
              let t = are.are.more k high less in
              (t.0, (let l = t.1 in omega arith), ap (λ (x : Output). x.gate) (before t.0 t.1) ∙ t.2))
          | inr late ↦ (n, (omega arith), ap (λ (x : Output). x.gate) last_one ∙ sym (is.gate.grown.last k late lt))
        ];
        no_input = λ k high lt. elim (cases_lt k (length mid)) [
          | inl less ↦ (
              let P : Node → Type 0 = λ x. ¬ IsInput (driver_of x) in
              subst P (sym (still k less)) (are.are.no_input k high less))
          | inr late ↦ (
              let e = is.gate.grown.last k late lt in
              let P : ℕ → Type 0 = λ x. ¬ IsInput (driver_of (node_at new x)) in
              subst P (sym e) (is.gate.no_input (omega arith)))
        ];
      };
      names = each (λ o x. x.name ≡ name_of nets g (number_at positions o)) are.names is.name;
      room = (let e = are.room in let f = is.gate.grown.one_more in omega arith);
      bound = elim (cases_Bool (pair_at g.plan.now.pairs (number_at positions n)).inverted) [
        | inl inv ↦ (
            let e = are.bound in
            let f = is.gate.grown.one_more in
            let c = count_by_more_yes (λ i. (pair_at g.plan.now.pairs i).inverted) positions n 0 lt_n inv in
            omega arith)
        | inr no_one ↦ (
            let e = are.bound in
            let f = is.gate.none no_one in
            let c = count_by_more_no (λ i. (pair_at g.plan.now.pairs i).inverted) positions n 0 lt_n no_one in
            omega arith)
      ];
    }

-- ---- names

pub names_begin : (nets : List NetInfo) (g : Graphs) (inputs : List ℕ) → AreNames nets g inputs [] 0
names_begin nets g inputs = record { count = refl; each = λ k lt. absurd (omega arith) }

pub names_on : (nets : List NetInfo) (g : Graphs) (inputs : List ℕ) (names : List (List ℕ)) (name : List ℕ) (n : ℕ) →
    AreNames nets g inputs names n → name ≡ name_of nets g (number_at inputs n) →
    AreNames nets g inputs (names ++ name ∷ []) (n + 1)
names_on nets g inputs names name n are this = record {
  count = (let c = are.count in let e = length-append names (name ∷ []) in omega arith);
  each = λ k lt. elim (cases_lt k n) [
    | inl less ↦ (let c = are.count in get_or-append names (name ∷ []) [] k (omega arith)) ∙ are.each k less
    | inr more ↦ (
        let e : n ≡ k = omega arith in
        let P : ℕ → Type 0 = λ x. slice_index_or (names ++ name ∷ []) x [] ≡ name_of nets g (number_at inputs x) in
        subst P e (ap (λ (x : ℕ). slice_index_or (names ++ name ∷ []) x []) (sym are.count)
        ∙ get_or-append_seam names name [] [] ∙ this))
  ];
}

-- A copied cone has no more nodes than both graphs: each stands for a node of its own. An input stands for the own node
-- of its pair's bit of gold, and what negates it for a node of gate.
use Rattle.std.proofs.Common.{◌≡◌, ℕ, ◌<◌, ◌≤◌, List, Bool, true, false, Option, Some, None, Contains, length, refl, arith, sym, ap, subst, ◌∙◌, ◌⊎◌, inl, inr}
use Rattle.std.proofs.lemmas.Bool.{cases_lt}
use Rattle.std.proofs.lemmas.List.Elements.{Contains-get_or}
use Rattle.std.proofs.lemmas.Option.{same_Some}
use Rattle.eq_bits.specs.declared.node.Node.{Node}
use Rattle.eq_cone.specs.inner.Cones.{AreInputs, IsCone, number_at}
use Rattle.eq_cone.specs.inner.Copying.{IsInputFor}
use Rattle.eq_cone.specs.inner.Parted.{IsCopiedWhole, TellsCuts}
use Rattle.eq_cone.proofs.Advanced.{cases_option}
use Rattle.eq_cone.proofs.Pigeons.{few_choices}

module _ (joined : List Node) (cut : ℕ → Option ℕ) (negated : ℕ → ℕ → Bool) (roots cone inputs : List ℕ)
    (place : ℕ → Option ℕ) (old : List Node) (is_cone : IsCone joined cut roots cone)
    (whole : IsCopiedWhole joined cut negated cone inputs place old) (size pairs : ℕ) (here there : ℕ → ℕ)
    (inside : ℕ → Bool) (are_inputs : AreInputs cut cone inputs (length cone))
    (apart : (j k : ℕ) → j < length inputs → k < length inputs → number_at inputs j ≡ number_at inputs k → j ≡ k)
    (tells : TellsCuts size pairs here there inside cut) (low : (i : ℕ) → i < pairs → here i < size)
    (fits : size ≤ length joined)
    (once : (i j : ℕ) → i < pairs → j < pairs → here i ≡ here j → i ≡ j)
    (plain : (m i : ℕ) → m < size → negated m i ≡ false) where
  -- node k stands for node m
  abbrev StandsFor : ℕ → ℕ → Type 0
  StandsFor k m = ((k < length inputs) × (m ≡ here (number_at inputs k))) ⊎
      ((length inputs ≤ k) × (place m ≡ Some k) × ((cut m ≡ None) ⊎ (size ≤ m)))

  input_pair : (k : ℕ) → k < length inputs → (number_at inputs k < pairs) × (inside (number_at inputs k) ≡ false)
  input_pair k lt =
      let t = are_inputs.only (number_at inputs k) (Contains-get_or inputs k 0 lt) in
      tells.pair t.0 (number_at inputs k) t.2

  -- a stop behind the inputs negates one
  stop_signed : (b : Bool) (i k : ℕ) → length inputs ≤ k → IsInputFor inputs old b i k → b ≡ true
  stop_signed true i k high stop = refl
  stop_signed false i k high stop = (let e = stop.1 in let f = stop.3 in absurd (omega arith))

  behind : (k m : ℕ) → length inputs ≤ k → place m ≡ Some k → (cut m ≡ None) ⊎ (size ≤ m)
  behind k m high at =
      cases_option (cut m) ((cut m ≡ None) ⊎ (size ≤ m)) (λ none. inl none) (λ i some. (
      let signed = stop_signed (negated m i) i k high (whole.copied.stops m k i at some) in
      elim (cases_lt m size) [
        | inl less ↦ (let f : true ≡ false = sym signed ∙ plain m i less in absurd (cc))
        | inr more ↦ inr (omega arith)
      ]))

  stands : (k : ℕ) → k < length old → (m : ℕ) × StandsFor k m
  stands k lt =
      elim (cases_lt k (length inputs)) [
        | inl less ↦ (here (number_at inputs k), inl (less, refl))
        | inr more ↦ (
            let t = whole.copied.only k more lt in
            (t.0, inr (more, t.1, behind k t.0 more t.1)))
      ]

  below : (k m : ℕ) → k < length old → StandsFor k m → m < length joined
  below k m lt (inl is) = (let e = low (number_at inputs k) (input_pair k is.0).0 in let f = is.1 in omega arith)
  below k m lt (inr is) =
      let t = whole.front.only m (k, is.1) in
      is_cone.within m (subst (λ (x : ℕ). Contains cone x) t.2 (Contains-get_or cone t.0 0 t.1))

  -- an input's node of gold is cut, so no copy stands for it
  never : (j k m : ℕ) → j < length inputs → m ≡ here (number_at inputs j) → (cut m ≡ None) ⊎ (size ≤ m) → ⊥
  never j k m lt is (inl none) =
      let pair = input_pair j lt in
      let some = tells.gold (number_at inputs j) pair.0 pair.1 in
      let f : None ≡ Some (number_at inputs j) = sym none ∙ ap cut is ∙ some in absurd (cc)
  never j k m lt is (inr far) = (let e = low (number_at inputs j) (input_pair j lt).0 in omega arith)

  single : (j k m : ℕ) → j < length old → k < length old → StandsFor j m → StandsFor k m → j ≡ k
  single j k m lj lk (inl a) (inl b) = apart j k a.0 b.0 (once (number_at inputs j) (number_at inputs k)
      (input_pair j a.0).0 (input_pair k b.0).0 (sym a.1 ∙ b.1))
  single j k m lj lk (inl a) (inr b) = absurd (never j k m a.0 a.1 b.2)
  single j k m lj lk (inr a) (inl b) = absurd (never k j m b.0 b.1 a.2)
  single j k m lj lk (inr a) (inr b) = same_Some j k (sym a.1 ∙ b.1)

  pub few_copied : length old ≤ length joined
  few_copied = few_choices (length old) (length joined) (λ k m. StandsFor k m) stands below single

-- What a whole copy says in a part that has a few nodes more, and that one of its sides is a copy of the side's graph.
use Rattle.std.proofs.Common.{◌≡◌, ℕ, zero, suc, ◌<◌, ◌≤◌, ◌==◌, List, Bool, true, false, not, ◌&&◌, Option, Some, None, Contains, length, refl, arith, sym, ap, subst, ◌∙◌, inl, inr}
use Rattle.std.proofs.lemmas.Bool.{cases_lt, or_cases, or_left, or_right}
use Rattle.std.proofs.lemmas.Bool.Decides.{Decides-eqb}
use Rattle.std.proofs.lemmas.List.Elements.{Contains-get_or}
use Rattle.eq_model.specs.System.{IsInput, is_register as is_held, reads_ever}
use Rattle.eq_model.specs.Cut.{any_below, is_cut}
use Rattle.eq_model.specs.Copying.{Copies, CopiesDriver, IsSigned, Negates}
use Rattle.eq_bits.specs.declared.node.Node.{Node}
use Rattle.eq_bits.specs.declared.node.Node.TheVariants.{Input}
use Rattle.eq_bits.specs.declared.part.Part.{Part}
use Rattle.eq_bits.specs.Node.{driver_of, input_of, is_register, node_at, system_of}
use Rattle.eq_bits.specs.Replay.{meaning}
use Rattle.eq_bits.specs.Shared.{normal_form}
use Rattle.eq_cone.specs.inner.Cones.{number_at, reads_of, reads_unless}
use Rattle.eq_cone.specs.inner.Copying.{IsMade, IsSignedInput, IsInputFor, new_of, number_or_zero, renamed}
use Rattle.eq_cone.specs.inner.Parted.{IsCopiedWhole}
use Rattle.eq_cone.proofs.Advanced.{cases_option, place_in}
use Rattle.eq_cone.proofs.Made.{copy_kind, stop_still}
use Rattle.eq_cone.proofs.Drivers.{copies_driver, same_held}

-- ---- tests on the numbers below another

pub any_from : (n : ℕ) (test : ℕ → Bool) (i : ℕ) → i < n → test i ≡ true → any_below n test ≡ true
any_from zero test i lt h = absurd (omega arith)
any_from (suc n) test i lt h =
    elim (cases_lt i n) [
      | inl less ↦ or_right (test n) (any_below n test) (any_from n test i less h)
      | inr more ↦ or_left (test n) (any_below n test)
          (let e : i ≡ n = omega arith in let P : ℕ → Type 0 = λ x. test x ≡ true in subst P e h)
    ]

pub any_some : (n : ℕ) (test : ℕ → Bool) → any_below n test ≡ true → (i : ℕ) × (i < n) × (test i ≡ true)
any_some zero test h = absurd (cc)
any_some (suc n) test h =
    elim (or_cases (test n) (any_below n test) h) [
      | inl e ↦ (n, omega arith, e)
      | inr e ↦ (let t : (i : ℕ) × (i < n) × (test i ≡ true) = any_some n test e in (t.0, omega arith, t.2))
    ]

not_true : (b : Bool) → not b ≡ true → b ≡ false
not_true true e = sym e
not_true false e = refl

true_not : (b : Bool) → b ≡ false → not b ≡ true
true_not b e = ap not e

first_true : (a b : Bool) → (a && b) ≡ true → a ≡ true
first_true true b e = refl
first_true false b e = e

second_true : (a b : Bool) → (a && b) ≡ true → b ≡ true
second_true true b e = e
second_true false b e = absurd (cc)

both : (a b : Bool) → a ≡ true → b ≡ true → (a && b) ≡ true
both a b e f = ap (λ (x : Bool). x && b) e ∙ f

-- ---- which nodes are reached

abbrev pub is_there : Option ℕ → Bool
is_there None = false
is_there (Some k) = true

pub made_there : (place : ℕ → Option ℕ) (m : ℕ) → is_there (place m) ≡ true → IsMade place m
made_there place m h = cases_option (place m) (IsMade place m)
    (λ e. (let f : true ≡ false = sym h ∙ ap is_there e in absurd (cc))) (λ k e. (k, e))

pub there_made : (place : ℕ → Option ℕ) (m : ℕ) → IsMade place m → is_there (place m) ≡ true
there_made place m made = ap is_there made.1

no_stop_held : (inputs : List ℕ) (nodes : List Node) (b : Bool) (j k : ℕ) → node_at nodes j ≡ Input j →
    IsSignedInput nodes b j k → is_register (node_at nodes k) ≡ false
no_stop_held inputs nodes false j k input signed = ap (λ (x : ℕ). is_register (node_at nodes x)) signed
    ∙ ap is_register input
no_stop_held inputs nodes true j k input signed = ap is_register signed

module _ (joined : List Node) (cut : ℕ → Option ℕ) (negated : ℕ → ℕ → Bool) (cone inputs : List ℕ)
    (place : ℕ → Option ℕ) (old : List Node) (whole : IsCopiedWhole joined cut negated cone inputs place old)
    (closed : (m r : ℕ) → Contains cone m → Contains (reads_of joined cut m) r → Contains cone r)
    (uncut : (m : ℕ) → m < length joined → cut m ≡ None → ¬ IsInput (driver_of (node_at joined m)))
    (part : Part) (no_less : length old ≤ length part.nodes)
    (stays : (k : ℕ) → k < length old → node_at part.nodes k ≡ node_at old k) where
  pub made_of : (m : ℕ) → Contains cone m → IsMade place m
  made_of m c =
      let at = place_in cone m c in
      let P : ℕ → Type 0 = λ x. IsMade place x in subst P at.2 (whole.front.made at.0 at.1)

  pub cone_of : (m : ℕ) → IsMade place m → Contains cone m
  cone_of m made =
      let t = whole.front.only m made in
      let P : ℕ → Type 0 = λ x. Contains cone x in
      subst P t.2 (Contains-get_or cone t.0 0 t.1)

  pub new_there : (m : ℕ) → IsMade place m → new_of place m < length old
  new_there m made = (let e = ap number_or_zero made.1 in let f = whole.copied.there m made.0 made.1 in omega arith)

  -- a node that isn't cut has its copy
  pub copy_at : (m : ℕ) → IsMade place m → cut m ≡ None →
      node_at part.nodes (new_of place m) ≡ normal_form (renamed (new_of place) (node_at joined m))
  copy_at m made none =
      let t = whole.front.only m made in
      let P : ℕ → Type 0 = λ x. cut x ≡ None → node_at old (new_of place x) ≡
      normal_form (renamed (new_of place) (node_at joined x)) in
      stays (new_of place m) (new_there m made) ∙ subst P t.2 (whole.linked t.0 t.1) none

  pub stop_at : (m i : ℕ) (made : IsMade place m) → cut m ≡ Some i →
      IsInputFor inputs part.nodes (negated m i) i made.0
  stop_at m i made c = stop_still inputs old part.nodes (negated m i) i made.0
      (stays made.0 (whole.copied.there m made.0 made.1)) (whole.copied.stops m made.0 i made.1 c)

  pub input_at : (j : ℕ) → j < length inputs → node_at part.nodes j ≡ Input j
  input_at j lt =
      let few = whole.copied.input_nodes.there in
      stays j (omega arith) ∙ whole.copied.input_nodes.are j lt

  pub read_made : (m r : ℕ) → IsMade place m → cut m ≡ None → Contains (reads_ever (driver_of (node_at joined m))) r →
      IsMade place r
  read_made m r made none c =
      let P : Option ℕ → Type 0 = λ o. Contains (reads_unless o (node_at joined m)) r in
      made_of r (closed m r (cone_of m made) (subst P (sym none) c))

  -- a register of the part stands for one node, which isn't cut
  pub held_uncut : (m : ℕ) → IsMade place m → is_register (node_at part.nodes (new_of place m)) ≡ true → cut m ≡ None
  held_uncut m made held = cases_option (cut m) (cut m ≡ None) (λ e. e) (λ i e. (
      let stop = stop_at m i made e in
      let kind : is_register (node_at part.nodes made.0) ≡ false =
      no_stop_held inputs part.nodes (negated m i) stop.0 made.0 (input_at stop.0 stop.1) stop.3 in
      let f : true ≡ false = sym held
      ∙ ap (λ (x : ℕ). is_register (node_at part.nodes x)) (ap number_or_zero made.1) ∙ kind in
      absurd (cc)))

  held_old : (m : ℕ) (made : IsMade place m) → is_register (node_at part.nodes (new_of place m)) ≡ true →
      cut m ≡ None → is_register (node_at joined m) ≡ true
  held_old m made held none =
      sym (copy_kind (new_of place) (node_at joined m) (node_at old made.0)
      (whole.copied.copies m made.0 made.1 none))
      ∙ ap is_register (sym (stays made.0 (whole.copied.there m made.0 made.1)))
      ∙ ap (λ (x : ℕ). is_register (node_at part.nodes x)) (sym (ap number_or_zero made.1)) ∙ held

  pub held_apart : (a b : ℕ) → IsMade place a → IsMade place b →
      is_register (node_at part.nodes (new_of place a)) ≡ true → new_of place a ≡ new_of place b → a ≡ b
  held_apart a b made_a made_b held same =
      let P : ℕ → Type 0 = λ x. is_register (node_at part.nodes x) ≡ true in
      let none_a = held_uncut a made_a held in
      let none_b = held_uncut b made_b (subst P same held) in
      let e : made_a.0 ≡ made_b.0 = sym (ap number_or_zero made_a.1) ∙ same ∙ ap number_or_zero made_b.1 in
      let Q : ℕ → Type 0 = λ x. place b ≡ Some x in
      whole.copied.apart a b made_a.0 made_a.1 (subst Q (sym e) made_b.1) none_a none_b
      (held_old a made_a held none_a)

  signed_is : (b : Bool) (j k : ℕ) → IsSignedInput part.nodes b j k → IsSigned (meaning part) b j k
  signed_is false j k signed = signed
  signed_is true j k signed =
      let P : Node → Type 0 = λ x. Negates (driver_of x) j in
      subst P (sym signed) (λ x. refl)

  -- one side: its nodes stand in the row at the places `at`
  module _ (side : List Node) (at : ℕ → ℕ) (pairs : ℕ) (own : ℕ → ℕ) (sign inside : ℕ → Bool)
      (there : (b : ℕ) → b < length side → at b < length joined)
      (once : (a b : ℕ) → at a ≡ at b → a ≡ b)
      (renames : (b : ℕ) → b < length side → (f : ℕ → ℕ) →
      renamed f (node_at joined (at b)) ≡ renamed (λ r. f (at r)) (node_at side b))
      (reads : (b r : ℕ) → b < length side → Contains (reads_ever (driver_of (node_at side b))) r →
      Contains (reads_ever (driver_of (node_at joined (at b)))) (at r))
      (inputs_too : (b : ℕ) → b < length side → IsInput (driver_of (node_at side b)) →
      IsInput (driver_of (node_at joined (at b))))
      (stops : (i : ℕ) → i < pairs → inside i ≡ false → cut (at (own i)) ≡ Some i)
      (only : (b i : ℕ) → b < length side → cut (at b) ≡ Some i → (i < pairs) × (inside i ≡ false) × (own i ≡ b))
      (signs : (b i : ℕ) → b < length side → negated (at b) i ≡ sign i) where
    pub nodes_there : (b : ℕ) → b < length side → is_there (place (at b)) ≡ true →
        new_of place (at b) < length part.nodes
    nodes_there b lt reached = (let e = new_there (at b) (made_there place (at b) reached) in omega arith)

    cut_stop : (b i : ℕ) → b < length side → (made : IsMade place (at b)) → i < pairs → inside i ≡ false → own i ≡ b →
        (m : ℕ) × (m < length part.nodes) × IsInput (driver_of (node_at part.nodes m)) ×
        (own (number_at inputs (input_of (node_at part.nodes m))) ≡ b) ×
        IsSigned (meaning part) (sign (number_at inputs (input_of (node_at part.nodes m)))) m (new_of place (at b))
    cut_stop b i lt made less out is_own =
        let P : ℕ → Type 0 = λ x. cut (at x) ≡ Some i in
        let stop = stop_at (at b) i made (subst P is_own (stops i less out)) in
        let few = whole.copied.input_nodes.there in
        let at_input = input_at stop.0 stop.1 in
        let number : input_of (node_at part.nodes stop.0) ≡ stop.0 = ap input_of at_input in
        let pair : number_at inputs (input_of (node_at part.nodes stop.0)) ≡ i =
        ap (number_at inputs) number ∙ stop.2 in
        let below = stop.1 in
        let Q : Node → Type 0 = λ x. IsInput (driver_of x) in
        let R : Bool → Type 0 = λ x. IsSigned (meaning part) x stop.0 (new_of place (at b)) in
        let S : ℕ → Type 0 = λ x. IsSigned (meaning part) (negated (at b) i) stop.0 x in (
          stop.0,
          omega arith,
          subst Q (sym at_input) tt,
          ap own pair ∙ is_own,
          subst R (signs b i lt ∙ sym (ap sign pair))
              (subst S (sym (ap number_or_zero made.1)) (signed_is (negated (at b) i) stop.0 made.0 stop.3)),
        )

    pub at_cut : (b : ℕ) → b < length side → is_there (place (at b)) ≡ true → is_cut pairs own inside b ≡ true →
        (m : ℕ) × (m < length part.nodes) × IsInput (driver_of (node_at part.nodes m)) ×
        (own (number_at inputs (input_of (node_at part.nodes m))) ≡ b) ×
        IsSigned (meaning part) (sign (number_at inputs (input_of (node_at part.nodes m)))) m (new_of place (at b))
    at_cut b lt reached is =
        let t = any_some pairs (λ i. (own i == b) && not (inside i)) is in
        let own_is = (Decides-eqb (own t.0) b).0 (first_true (own t.0 == b) (not (inside t.0)) t.2) in
        cut_stop b t.0 lt (made_there place (at b) reached) t.1
        (not_true (inside t.0) (second_true (own t.0 == b) (not (inside t.0)) t.2)) own_is

    uncut_at : (b : ℕ) → b < length side → is_cut pairs own inside b ≡ false → cut (at b) ≡ None
    uncut_at b lt none = cases_option (cut (at b)) (cut (at b) ≡ None) (λ e. e) (λ i e. (
        let t = only b i lt e in
        let f = any_from pairs (λ j. (own j == b) && not (inside j)) i t.0
        (both (own i == b) (not (inside i)) ((Decides-eqb (own i) b).1 t.2) (true_not (inside i) t.1)) in
        let g : true ≡ false = sym f ∙ none in absurd (cc)))

    pub kept : (b : ℕ) → b < length side → is_there (place (at b)) ≡ true → is_cut pairs own inside b ≡ false →
        CopiesDriver (λ x. is_there (place (at x))) (λ x. new_of place (at x)) (driver_of (node_at side b))
        (driver_of (node_at part.nodes (new_of place (at b))))
    kept b lt reached none =
        let made = made_there place (at b) reached in
        let plain = uncut_at b lt none in
        let copy = copy_at (at b) made plain ∙ ap normal_form (renames b lt (new_of place)) in
        let P : Node → Type 0 = λ x. CopiesDriver (λ y. is_there (place (at y))) (λ y. new_of place (at y))
        (driver_of (node_at side b)) (driver_of x) in
        subst P (sym copy) (copies_driver (λ x. is_there (place (at x))) (λ x. new_of place (at x)) (node_at side b)
        (λ input. uncut (at b) (there b lt) plain (inputs_too b lt input))
        (λ r c. there_made place (at r) (read_made (at b) (at r) made plain (reads b r lt c))))

    pub registers : (a b : ℕ) → a < length side → b < length side → is_there (place (at a)) ≡ true →
        is_there (place (at b)) ≡ true → is_held (driver_of (node_at part.nodes (new_of place (at a)))) ≡ true →
        new_of place (at a) ≡ new_of place (at b) → a ≡ b
    registers a b la lb ra rb held same =
        once a b (held_apart (at a) (at b) (made_there place (at a) ra) (made_there place (at b) rb)
        (sym (same_held (node_at part.nodes (new_of place (at a)))) ∙ held) same)

    unfoldable pub copies_side : Copies (system_of side) pairs own sign inside (meaning part) (number_at inputs)
    copies_side = record {
      reached = λ b. is_there (place (at b));
      node = λ b. new_of place (at b);
      nodes = nodes_there;
      at_cut = at_cut;
      kept = kept;
      registers = registers;
    }

-- One equation more: what the slots say of the bits of its target, and of all others.
use Rattle.std.proofs.Common.{◌≡◌, ℕ, ◌+◌, ◌<◌, Bool, true, false, cond, List, [], ◌∷◌, ◌++◌, length, Option, Some, None, refl, arith, sym, ap, subst, ◌∙◌}
use Rattle.std.specs.Prelude.{is_some, count_by}
use Rattle.std.proofs.lemmas.List.Sums.{sum_by-append, sum_by-cons}
use Rattle.std.proofs.lemmas.List.Elements.{Contains-append_left, Contains-append_right}
use Rattle.eq_net.specs.declared.types.NetInfo.{NetInfo}
use Rattle.eq_net.specs.Tree.{Tree}
use Rattle.eq_net.specs.Net.{word_at}
use Rattle.eq_verilog.specs.Equations.{Equation, place_in}
use Rattle.eq_flatten.specs.declared.driving.Slot.{Slot}
use Rattle.eq_flatten.specs.declared.driving.Slot.TheVariants.{Free, Once, Twice}
use Rattle.eq_flatten.specs.Driving.{filled, slot_at}
use Rattle.eq_flatten.specs.Equating.{IsDriver, SlotSays, AreDriven, drives, drivers_of, width_of}
use Rattle.eq_flatten.specs.Rendering.{KeepsFront, Renders}
use Rattle.eq_flatten.proofs.Making.{renders_later}

pub count_append : {X : Type 0} (p : X → Bool) (xs ys : List X) → count_by p (xs ++ ys) ≡ count_by p xs + count_by p ys
count_append p xs ys = sum_by-append (λ x. cond {A = ℕ} (p x) 1 0) xs ys

pub count_one : {X : Type 0} (p : X → Bool) (x : X) (t : Bool) → p x ≡ t → count_by p (x ∷ []) ≡ cond {A = ℕ} t 1 0
count_one p x t is =
    (let e = sum_by-cons (λ y. cond {A = ℕ} (p y) 1 0) x [] in
    let f = ap (λ s. cond {A = ℕ} s 1 0) is in
    omega (arith, e, f))

module _ (nets : List NetInfo) (old new : List Tree) (grown : KeepsFront old new) where
  -- a driver stays one when there are more words
  driver_later : (e : Equation) (b k j : ℕ) → IsDriver nets old e b k j → IsDriver nets new e b k j
  driver_later e b k j h =
      let more = grown.more in
      let there = h.there in
      record {
        there = omega (arith, more, there);
        place = h.place;
        renders = renders_later nets old new e.source_scope e.source (width_of e) (word_at new k) grown
            (subst (λ (t : Tree). Renders nets old e.source_scope e.source (width_of e) t) (sym (grown.kept k there)) h.renders);
      }

  -- what the slots say when there are more words
  later : (es : List Equation) (b : ℕ) (s : Slot) → SlotSays nets old es b s → SlotSays nets new es b s
  later es b Free says = says
  later es b (Once w) says =
      (says.0, (says.1.0, says.1.1, driver_later says.1.0 b w.word w.bit says.1.2))
  later es b Twice says = says

  pub slots_later : (es : List Equation) (slots : List Slot) → AreDriven nets old es slots → AreDriven nets new es slots
  slots_later es slots so_far b inside = later es b (slot_at slots b) (so_far b inside)

  module _ (es : List Equation) (e : Equation) where
    counted : (b : ℕ) → drivers_of (es ++ e ∷ []) b ≡ drivers_of es b + drivers_of (e ∷ []) b
    counted b = count_append (drives b) es (e ∷ [])

    same_count : (b : ℕ) → place_in e.target_scope e.target b ≡ None → drivers_of (es ++ e ∷ []) b ≡ drivers_of es b
    same_count b none =
        (let c = counted b in
        let o = count_one (drives b) e false (ap (λ p. is_some p) none) in
        omega (arith, c, o))

    one_more : (b j : ℕ) → place_in e.target_scope e.target b ≡ Some j →
        drivers_of (es ++ e ∷ []) b ≡ drivers_of es b + 1
    one_more b j here =
        (let c = counted b in
        let o = count_one (drives b) e true (ap (λ p. is_some p) here) in
        omega (arith, c, o))

    -- a bit that the new equation hasn't
    other_bit : (b : ℕ) (s : Slot) → place_in e.target_scope e.target b ≡ None → SlotSays nets old es b s →
        SlotSays nets new (es ++ e ∷ []) b s
    other_bit b Free none says = same_count b none ∙ says
    other_bit b (Once w) none says = (
      same_count b none ∙ says.0,
      (says.1.0, Contains-append_left es (e ∷ []) says.1.0 says.1.1, driver_later says.1.0 b w.word w.bit says.1.2),
    )
    other_bit b Twice none says = (let c = same_count b none in omega (arith, c, says))

    -- a bit that it has
    its_bit : (b j k : ℕ) (s : Slot) → place_in e.target_scope e.target b ≡ Some j → IsDriver nets new e b k j →
        SlotSays nets old es b s → SlotSays nets new (es ++ e ∷ []) b (filled s k (Some j))
    its_bit b j k Free here driver says = (
      (let c = one_more b j here in omega (arith, c, says)),
      (e, Contains-append_right es (e ∷ []) e (0, omega arith, refl), driver),
    )
    its_bit b j k (Once w) here driver says = (let c = one_more b j here in let d = says.0 in omega (arith, c, d))
    its_bit b j k Twice here driver says = (let c = one_more b j here in omega (arith, c, says))

  -- the slots of all equations with one more
  pub equated : (es : List Equation) (e : Equation) (k : ℕ) (slots filleds : List Slot)
      → k < length new → Renders nets new e.source_scope e.source (width_of e) (word_at new k)
      → length filleds ≡ length slots
      → ((b : ℕ) → slot_at filleds b ≡ filled (slot_at slots b) k (place_in e.target_scope e.target b))
      → AreDriven nets old es slots → AreDriven nets new (es ++ e ∷ []) filleds
  equated es e k slots filleds there renders size goes so_far b inside =
      subst (λ (s : Slot). SlotSays nets new (es ++ e ∷ []) b s) (sym (goes b))
      (at (place_in e.target_scope e.target b) refl)
    where
      at : (o : Option ℕ) → place_in e.target_scope e.target b ≡ o →
          SlotSays nets new (es ++ e ∷ []) b (filled (slot_at slots b) k o)
      at None is = other_bit es e b (slot_at slots b) is (so_far b (omega (arith, inside, size)))
      at (Some j) is =
          its_bit es e b j k (slot_at slots b) is (record { there = there; place = is; renders = renders })
          (so_far b (omega (arith, inside, size)))

-- What slots say of equations they say of the same equations in scopes that say the same of their names.
use Rattle.std.proofs.Common.{◌≡◌, ℕ, ◌+◌, ◌<◌, max, List, [], ◌∷◌, refl, sym, ap, ap₂, subst, ◌∙◌, arith, inl, inr}
use Rattle.std.proofs.Math.Path.{fun_ext}
use Rattle.std.specs.Prelude.{is_some, Contains, Option}
use Rattle.std.proofs.lemmas.List.Elements.{Contains-append_cases, Contains-append_right}
use Rattle.eq_net.specs.declared.types.NetInfo.{NetInfo}
use Rattle.eq_net.specs.Net.{word_at}
use Rattle.eq_net.specs.Tree.{Tree}
use Rattle.eq_verilog.specs.Trees.{ExprTree}
use Rattle.eq_verilog.specs.Scopes.{Scope}
use Rattle.eq_verilog.specs.Sizes.{own}
use Rattle.eq_verilog.specs.Equations.{Equation, place_below, place_in}
use Rattle.eq_flatten.specs.declared.driving.Slot.{Slot}
use Rattle.eq_flatten.specs.declared.driving.Slot.TheVariants.{Free, Once, Twice}
use Rattle.eq_flatten.specs.Driving.{slot_at}
use Rattle.eq_flatten.specs.Equating.{drivers_of, drives, width_of, AreDriven, IsDriver, SlotSays}
use Rattle.eq_flatten.specs.Rendering.{Renders, SameNames}
use Rattle.eq_flatten.specs.Summing.{AreAgreed, IsAgreed}
use Rattle.eq_flatten.proofs.Agreeing.{own_same, reads_same, value_same, wire_same}
use Rattle.eq_flatten.proofs.Equated.{count_append, count_one}
use Rattle.eq_flatten.proofs.Listing.{only}

-- a target has each bit at the same place
place_same : (s r : Scope) (t : ExprTree) (b : ℕ) → SameNames s r t → place_in s t b ≡ place_in r t b
place_same s r t b h = ap₂ (λ n (f : ℕ → Option ℕ). place_below n f b) (own_same s r t h) (fun_ext (wire_same s r t h))

-- a word is the expression in the other scope too
renders_same : (s r : Scope) (nets : List NetInfo) (words : List Tree) (e : ExprTree) (w : ℕ) (t : Tree) →
    SameNames s r e → Renders nets words s e w t → Renders nets words r e w t
renders_same s r nets words e w t h m = record {
  is_word = m.is_word;
  size = m.size;
  values = λ v earlier q. m.values v earlier q ∙ value_same s r v e w h;
  reads_same = λ earlier q. m.reads_same earlier q ∙ reads_same s r e w h;
  copies = λ earlier q. m.copies earlier q ∙ fun_ext (wire_same s r e h);
}

module _ (e f : Equation) (h : IsAgreed e f) where
  place_agreed : (b : ℕ) → place_in e.target_scope e.target b ≡ place_in f.target_scope f.target b
  place_agreed b =
      ap (λ t. place_in e.target_scope t b) h.target ∙ place_same e.target_scope f.target_scope f.target b h.target_names

  width_agreed : width_of e ≡ width_of f
  width_agreed =
      ap₂ (λ m n. max m n)
      (ap (λ t. own e.target_scope t) h.target ∙ own_same e.target_scope f.target_scope f.target h.target_names)
      (ap (λ t. own e.source_scope t) h.source ∙ own_same e.source_scope f.source_scope f.source h.source_names)

  driver_agreed : (nets : List NetInfo) (words : List Tree) (b k j : ℕ) → IsDriver nets words e b k j →
      IsDriver nets words f b k j
  driver_agreed nets words b k j d = record {
    there = d.there;
    place = sym (place_agreed b) ∙ d.place;
    renders =
        renders_same e.source_scope f.source_scope nets words f.source (width_of f) (word_at words k) h.source_names
        (subst (λ n. Renders nets words e.source_scope f.source n (word_at words k)) width_agreed
        (subst (λ x. Renders nets words e.source_scope x (width_of e) (word_at words k)) h.source d.renders));
  }

count_cons : (e : Equation) (es : List Equation) (b : ℕ) →
    drivers_of (e ∷ es) b ≡ drivers_of (e ∷ []) b + drivers_of es b
count_cons e es b = count_append (drives b) (e ∷ []) es

one_agreed : (e f : Equation) (b : ℕ) → drives b e ≡ drives b f → drivers_of (e ∷ []) b ≡ drivers_of (f ∷ []) b
one_agreed e f b same = count_one (drives b) e (drives b f) same ∙ sym (count_one (drives b) f (drives b f) refl)

count_agreed : (es fs : List Equation) (b : ℕ) → AreAgreed es fs → drivers_of es b ≡ drivers_of fs b
count_agreed [] [] b h = refl
count_agreed (e ∷ es) (f ∷ fs) b h =
    let one = one_agreed e f b (ap (λ (o : Option ℕ). is_some o) (place_agreed e f h.0 b)) in
    let rest = count_agreed es fs b h.1 in
    let x = count_cons e es b in
    let y = count_cons f fs b in
    omega (arith, one, rest, x, y)
count_agreed [] (f ∷ fs) b h = absurd h
count_agreed (e ∷ es) [] b h = absurd h

-- the equation of the others that an equation agrees with
found_agreed : (nets : List NetInfo) (words : List Tree) (es fs : List Equation) (b k j : ℕ) → AreAgreed es fs →
    ((e : Equation) × Contains es e × IsDriver nets words e b k j) →
    ((f : Equation) × Contains fs f × IsDriver nets words f b k j)
found_agreed nets words [] [] b k j h d = d
found_agreed nets words (e ∷ es) (f ∷ fs) b k j h d = elim (Contains-append_cases (e ∷ []) es d.0 d.1) [
  | inl here ↦ (
    f,
    (0, omega arith, refl),
    driver_agreed e f h.0 nets words b k j
        (subst (λ x. IsDriver nets words x b k j) (sym (only e d.0 here.0 here.1 here.2)) d.2),
  )
  | inr there ↦
      let g = found_agreed nets words es fs b k j h.1 (d.0, there, d.2) in
      (g.0, Contains-append_right (f ∷ []) fs g.0 g.1, g.2)
]
found_agreed nets words [] (f ∷ fs) b k j h d = absurd h
found_agreed nets words (e ∷ es) [] b k j h d = absurd h

slot_agreed : (nets : List NetInfo) (words : List Tree) (es fs : List Equation) (b : ℕ) (s : Slot) → AreAgreed es fs →
    SlotSays nets words es b s → SlotSays nets words fs b s
slot_agreed nets words es fs b Free h says = sym (count_agreed es fs b h) ∙ says
slot_agreed nets words es fs b (Once w) h says =
    (sym (count_agreed es fs b h) ∙ says.0, found_agreed nets words es fs b w.word w.bit h says.1)
slot_agreed nets words es fs b Twice h says = subst (λ (n : ℕ). 1 < n) (count_agreed es fs b h) says

pub driven_agreed : (nets : List NetInfo) (words : List Tree) (es fs : List Equation) (slots : List Slot) →
    AreAgreed es fs → AreDriven nets words es slots → AreDriven nets words fs slots
driven_agreed nets words es fs slots h are b less = slot_agreed nets words es fs b (slot_at slots b) h (are b less)

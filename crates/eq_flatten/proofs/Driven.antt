-- One position of a target: its bit is driven, and all others are as they were.
use Rattle.std.proofs.Common.{◌≡◌, ℕ, zero, suc, ◌<◌, ◌≤◌, Bool, false, cond, ◌==◌, List, length, slice_index_or, Option, Some, None, refl, arith, sym, ap, ◌∙◌, inl, inr}
use Rattle.std.proofs.lemmas.Bool.{cases_Bool}
use Rattle.std.proofs.lemmas.Bool.Decides.{Decides-eqb}
use Rattle.eq_names.specs.declared.BitName.{BitName}
use Rattle.eq_net.specs.declared.types.WordBit.{WordBit}
use Rattle.eq_verilog.specs.Clocks.{is_bit}
use Rattle.eq_verilog.specs.Equations.{place_below}
use Rattle.eq_flatten.specs.declared.driving.Slot.{Slot}
use Rattle.eq_flatten.specs.Driving.{after, filled, slot_at, number_in, IsApart, IsDriving}

none_more : (f : ℕ → Option ℕ) (n k b : ℕ) (o : Option ℕ) → IsApart f → f n ≡ Some b → k < n → f k ≡ o →
    place_below k f b ≡ None → cond (is_bit b o) (Some k) (place_below k f b) ≡ None
none_more f n k b None apart here less is rest = rest
none_more f n k b (Some c) apart here less is rest = elim (cases_Bool (c == b)) [
  | inl same ↦
      let e : c ≡ b = (Decides-eqb c b).0 same in
      let one = apart k n b (is ∙ ap (λ x. Some x) e) here in
      absurd (omega (arith, one, less))
  | inr other ↦ ap (λ t. cond t (Some k) (place_below k f b)) other ∙ rest
]

-- a bit that stands at a position stands at none below it
pub not_below : (f : ℕ → Option ℕ) (n k b : ℕ) → IsApart f → f n ≡ Some b → k ≤ n → place_below k f b ≡ None
not_below f n zero b apart here less = refl
not_below f n (suc k) b apart here less =
    none_more f n k b (f k) apart here (omega (arith, less)) refl
    (not_below f n k b apart here (omega (arith, less)))

false_same : (a b : ℕ) → a ≡ b → (a == b) ≡ false → ⊥
false_same a b e f = (let t = (Decides-eqb a b).1 e in absurd (cc))

module _ (starts : List ℕ) (bits : List BitName) (word : ℕ) where
  pub drives_one : (old mid new : List Slot) (n at : ℕ) (d : BitName) (w : WordBit)
      → IsDriving starts bits word old mid n → n < length bits
      → at ≡ number_in starts (slice_index_or bits n d) → w ≡ record { word = word; bit = n }
      → length new ≡ length mid
      → slot_at new at ≡ after (slot_at mid at) w
      → ((b : ℕ) → (b ≡ at → ⊥) → slot_at new b ≡ slot_at mid b)
      → IsDriving starts bits word old new (suc n)
  drives_one old mid new n at d w so_far inside number bit size here others = record {
    size = size ∙ so_far.size;
    driven = λ f wired apart b.
        let wire : f n ≡ Some at = wired n d inside ∙ ap (λ x. Some x) (sym number) in
        let next : Bool → Option ℕ = λ t. cond t (Some n) (place_below n f b) in
        let goes : place_below (suc n) f b ≡ next (at == b) = ap (λ o. next (is_bit b o)) wire in
        elim (cases_Bool (at == b)) [
          | inl same ↦
              let e : at ≡ b = (Decides-eqb at b).0 same in
              let free : slot_at mid at ≡ slot_at old at =
              so_far.driven f wired apart at
              ∙ ap (λ o. filled (slot_at old at) word o) (not_below f n n at apart wire (omega arith)) in
              ap (λ x. slot_at new x) (sym e) ∙ here
              ∙ ap (λ x. after (slot_at mid at) x) bit
              ∙ ap (λ s. after s (record { word = word; bit = n })) free
              ∙ ap (λ x. after (slot_at old x) (record { word = word; bit = n })) e
              ∙ sym (ap (λ o. filled (slot_at old b) word o) (goes ∙ ap next same))
          | inr other ↦
              others b (λ e. absurd (false_same at b (sym e) other))
              ∙ so_far.driven f wired apart b
              ∙ sym (ap (λ o. filled (slot_at old b) word o) (goes ∙ ap next other))
        ];
  }

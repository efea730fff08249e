-- What an always item sets is put into the slots, one bit after the other.
use Rattle.std.proofs.Common.{◌≡◌, ℕ, zero, suc, ◌+◌, List, length, replicate, slice_get, Some, refl, arith, sym, ap, subst, ◌∙◌, inl, inr}
use Rattle.std.proofs.lemmas.Bool.{cases_lt}
use Rattle.std.proofs.lemmas.Option.{same_Some}
use Rattle.eq_net.specs.declared.types.WordBit.{WordBit}
use Rattle.eq_flatten.specs.declared.driving.Slot.{Slot}
use Rattle.eq_flatten.specs.declared.driving.Slot.TheVariants.{Free}
use Rattle.eq_flatten.specs.Driving.{after, slot_at}
use Rattle.eq_sequential.specs.inner.Placing.{AreOnce, IsPut}

-- slots of which none is set
pub free_at : (n b : ℕ) → slot_at (replicate n Free) b ≡ Free
free_at zero b = refl
free_at (suc n) zero = refl
free_at (suc n) (suc b) = free_at n b

module _ (bits : List ℕ) (entries : List WordBit) where
  -- none is put
  pub put_none : (slots : List Slot) → IsPut bits entries slots slots 0
  put_none slots = record {
    size = refl;
    here = λ p b w less at entry. absurd (omega (arith, less));
    others = λ b none. refl;
  }

  module _ (once : AreOnce bits) (old mid new : List Slot) (n c : ℕ) (e : WordBit) (h : IsPut bits entries old mid n)
      (here : slice_get bits n ≡ Some c) (entry : slice_get entries n ≡ Some e) (size : length new ≡ length mid)
      (at : slot_at new c ≡ after (slot_at mid c) e)
      (others : (b : ℕ) → (b ≡ c → ⊥) → slot_at new b ≡ slot_at mid b) where
    -- what is put now wasn't before
    untouched : slot_at mid c ≡ slot_at old c
    untouched = h.others c (λ p less is. (let same = once p n c is here in omega (arith, same, less)))

    last : (p b : ℕ) (w : WordBit) → p ≡ n → slice_get bits p ≡ Some b → slice_get entries p ≡ Some w →
        slot_at new b ≡ after (slot_at old b) w
    last p b w is bit_is word_is =
        let same : c ≡ b = same_Some c b (sym here ∙ ap (λ (k : ℕ). slice_get bits k) (sym is) ∙ bit_is) in
        let entry_same : e ≡ w = same_Some e w (sym entry ∙ ap (λ (k : ℕ). slice_get entries k) (sym is) ∙ word_is) in
        subst (λ (b : ℕ). slot_at new b ≡ after (slot_at old b) w) same
        (at ∙ ap (λ (s : Slot). after s e) untouched ∙ ap (λ (w : WordBit). after (slot_at old c) w) entry_same)

    -- one more is put
    pub put_more : IsPut bits entries old new (n + 1)
    put_more = record {
      size = size ∙ h.size;
      here = λ p b w less bit_is word_is. elim (cases_lt p n) [
        | inl before ↦
            others b (λ same. (let twice = once p n b bit_is
            (here ∙ ap (λ (x : ℕ). Some x) (sym same)) in omega (arith, twice, before)))
            ∙ h.here p b w before bit_is word_is
        | inr now ↦ last p b w (omega (arith, less, now)) bit_is word_is
      ];
      others = λ b none.
          others b (λ same. none n (omega arith) (here ∙ ap (λ (x : ℕ). Some x) (sym same)))
          ∙ h.others b (λ p less is. none p (omega (arith, less)) is);
    }

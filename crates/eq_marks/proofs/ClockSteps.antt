-- One step along plain copies, and what is known of bits.
use Rattle.std.proofs.Common.{◌≡◌, ◌≢◌, ℕ, suc, ◌+◌, ◌-◌, ◌<◌, ◌==◌, List, Bool, false, length, Option, Some, None, IfSome, arith, sym, ap, subst, ◌∙◌, inl, inr}
use Rattle.std.proofs.lemmas.Bool.Decides.{eqb_tells}
use Rattle.eq_verilog.specs.Clocks.{end_of, is_bit}
use Rattle.eq_marks.specs.inner.Carrying.{mark_of}
use Rattle.eq_marks.specs.inner.Clocking.{AreKnown, AreWithin, known_of, leads}
use Rattle.eq_marks.proofs.Ends.{end_here, end_next, end_same}

-- a copy leads where the bit leads of which it is one
pub leads_same : (copies : List (Option ℕ)) (c b d : ℕ) → AreWithin copies → b < length copies → Some d ≡ mark_of
    copies b →
    leads copies c d ≡ leads copies c b
leads_same copies c b d within lt is = ap (is_bit c) (sym (end_same (mark_of copies) (length copies) within b d lt (sym
    is)))

-- a bit that is no copy leads to itself
pub leads_here : (copies : List (Option ℕ)) (c b : ℕ) → AreWithin copies → b < length copies → None ≡ mark_of copies b →
    (b == c) ≡ leads copies c b
leads_here copies c b within lt is = ap (is_bit c) (sym (end_here (mark_of copies) (length copies) within b lt (sym
    is)))

-- a step that is spent
pub spent_more : (copies : List (Option ℕ)) (i from b d : ℕ) → i < length copies → Some d ≡ mark_of copies b →
    end_of (mark_of copies) (length copies) from ≡ end_of (mark_of copies) (length copies - i) b →
    end_of (mark_of copies) (length copies) from ≡ end_of (mark_of copies) (length copies - (i + 1)) d
spent_more copies i from b d lt is so_far =
    let count : length copies - i ≡ suc (length copies - (i + 1)) = omega arith in
    so_far ∙ ap (λ n. end_of (mark_of copies) n b) count ∙ end_next (mark_of copies) (length copies - (i + 1)) b (Some
    d) (sym is)

-- after as many steps as there are bits there is no end
pub leads_nowhere : (copies : List (Option ℕ)) (c i from b : ℕ) → length copies ≡ i →
    end_of (mark_of copies) (length copies) from ≡ end_of (mark_of copies) (length copies - i) b → false ≡ leads copies
    c from
leads_nowhere copies c i from b all so_far =
    let none : length copies - i ≡ 0 = omega arith in
    sym (ap (is_bit c) (so_far ∙ ap (λ n. end_of (mark_of copies) n b) none))

some_known : (P : Bool → Type 0) (o : Option Bool) (x : Bool) → o ≡ Some x → P x → IfSome o P
some_known P o x is h = subst (λ y. IfSome y P) (sym is) h

-- one bit more is known
pub known_more : (copies : List (Option ℕ)) (c at : ℕ) (x : Bool) (old new : List (Option Bool)) → AreKnown copies c
    old →
    x ≡ leads copies c at → known_of new at ≡ Some x → ((b : ℕ) → b ≢ at → known_of new b ≡ known_of old b) → length
    new ≡ length old →
    AreKnown copies c new
known_more copies c at x old new k is there others size = record {
  size = size ∙ k.size;
  right = λ b lt. elim (eqb_tells b at) [
    | inl e ↦ some_known (λ y. y ≡ leads copies c b) (known_of new b) x (ap (known_of new) e.1 ∙ there) (is ∙ ap (leads
        copies c) (sym e.1))
    | inr e ↦ subst (λ o. IfSome o (λ y. y ≡ leads copies c b)) (sym (others b e.1)) (k.right b lt)
  ];
}

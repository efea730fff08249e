-- Lines.
use Rattle.std.proofs.Common.{◌≡◌, ℕ, ◌+◌, ◌*◌, refl, sym, ap, ◌∙◌, arith}
use Rattle.std.proofs.Math.Nat.{add-mul, zero-mul}
use Rattle.eq_cost.specs.Counts.{told}
use Rattle.eq_cost.specs.declared.lines.Line.{Line}
use Rattle.eq_cost.specs.inner.Lines.{IsLine}
use Rattle.eq_cost.proofs.Numbers.{products, told_of}

flat_in : (x b : ℕ) → x ≡ 0 → told b ≡ told (x + b)
flat_in x b e = omega arith

pub flat_line : (f : ℕ → ℕ) (l : Line) → l.slope ≡ 0 → ((w : ℕ) → told l.base ≡ told (f w)) → IsLine f l
flat_line f l e h = λ w. sym (h w) ∙ flat_in (l.slope * w) l.base (ap (λ k. k * w) e ∙ zero-mul w)

added_in : (f g s x y a b c : ℕ) → told f ≡ told (x + a) → told g ≡ told (y + b) → told s ≡ told (x + y) →
    c ≡ told (a + b) → told (f + g) ≡ told (s + c)
added_in f g s x y a b c h k e d = omega arith

pub added_line : (f g : ℕ → ℕ) (a b l : Line) → l.slope ≡ told (a.slope + b.slope) → l.base ≡ told (a.base + b.base) →
    IsLine f a → IsLine g b → IsLine (λ w. f w + g w) l
added_line f g a b l slope base h k = λ w.
    let whole : told (l.slope * w) ≡ told (a.slope * w + b.slope * w) =
    products l.slope (a.slope + b.slope) w w (told_of l.slope (a.slope + b.slope) slope) refl
    ∙ ap (λ n. told n) (add-mul a.slope b.slope w) in
    added_in (f w) (g w) (l.slope * w) (a.slope * w) (b.slope * w) a.base b.base l.base (h w) (k w) whole base

at_in : (f x y b p r : ℕ) → told f ≡ told (y + b) → told x ≡ told y → p ≡ told x → r ≡ told (p + b) → told r ≡ told f
at_in f x y b p r h e q s = omega arith

pub line_at : (f : ℕ → ℕ) (l : Line) (size n p r : ℕ) → p ≡ told (l.slope * size) → r ≡ told (p + l.base) →
    IsLine f l → told size ≡ told n → told r ≡ told (f n)
line_at f l size n p r e d h k =
    at_in (f n) (l.slope * size) (l.slope * n) l.base p r (h n) (products l.slope l.slope size n refl k) e d

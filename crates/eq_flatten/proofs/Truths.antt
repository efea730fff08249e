-- Truth values and options: what is known of the parts of what is known.
use Rattle.std.proofs.Common.{◌≡◌, ℕ, Bool, true, false, not, ◌&&◌, ◌||◌, Option, Some, None, refl, sym, ◌∙◌}
use Rattle.std.specs.Option.{option_or}
use Rattle.eq_verilog.specs.Firsts.{unless}

-- neither of two is there
pub or_none : {B : Type 0} (o p : Option B) → option_or o p ≡ None → (o ≡ None) × (p ≡ None)
or_none None p e = (refl, e)
or_none (Some x) p e = absurd (cc)

pub and_true : (a b : Bool) → (a && b) ≡ true → (a ≡ true) × (b ≡ true)
and_true true b e = (refl, e)
and_true false b e = absurd (cc)

pub not_true : (b : Bool) → not b ≡ true → b ≡ false
not_true true e = absurd (cc)
not_true false e = refl

pub unless_none : {A : Type 0} (b : Bool) (x : A) → unless b x ≡ None → b ≡ true
unless_none true x e = refl
unless_none false x e = absurd (cc)

pub or_left : (a b : Bool) → a ≡ true → (a || b) ≡ true
or_left true b e = refl
or_left false b e = absurd (cc)

pub or_right : (a b : Bool) → b ≡ true → (a || b) ≡ true
or_right true b e = refl
or_right false b e = e

pub or_no : (b : Bool) → (b || false) ≡ true → b ≡ true
or_no true e = refl
or_no false e = e

pub or_false : (a b : Bool) → (a || b) ≡ false → (a ≡ false) × (b ≡ false)
or_false true b e = absurd (cc)
or_false false b e = (refl, e)

pub true_false : (b : Bool) → b ≡ true → b ≡ false → ⊥
true_false b t f = (let e = sym t ∙ f in absurd (cc))

pub none_some : (b : ℕ) → None ≡ Some b → ⊥
none_some b e = absurd (cc)

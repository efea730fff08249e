-- Values through a sign.
use Rattle.std.proofs.Common.{◌≡◌, Bool, true, false, refl, sym, ap, ◌∙◌}
use Rattle.eq_model.specs.Plan.{signed}

-- twice through a sign is the value itself
pub signed_twice : (s x : Bool) → signed s (signed s x) ≡ x
signed_twice false x = refl
signed_twice true true = refl
signed_twice true false = refl

-- from one side of a sign to the other
pub signed_on : (s x y : Bool) → x ≡ signed s y → y ≡ signed s x
signed_on s x y e = sym (signed_twice s y) ∙ ap (signed s) (sym e)

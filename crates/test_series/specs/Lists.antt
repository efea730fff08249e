-- Lists of values of numbers, and nets with a range down to 0.
use Rattle.std.specs.Prelude.{ℕ, zero, suc, ◌-◌, List, [], ◌∷◌, ◌++◌, true, false}
use Rattle.eq_net.specs.declared.types.NetInfo.{NetInfo}
use Rattle.eq_net.specs.declared.types.Dir.{Dir}

-- f of each number below n
abbrev pub listed : {A : Type 0} → (ℕ → A) → ℕ → List A
listed f zero = []
listed f (suc n) = listed f n ++ f n ∷ []

abbrev pub ranged : List ℕ → ℕ → Dir → NetInfo
ranged name width dir = record { name = name; left = width - 1; right = 0; ranged = true; dir = dir; auto = false }

-- Where the bits of a module's nets begin, as if it stood alone.
use Rattle.std.specs.Prelude.{◌≡◌, ℕ, ◌+◌, ◌≤◌, ◌^◌, List, [], ◌∷◌, take}
use Rattle.eq_model.specs.Nets.{range_width}
use Rattle.eq_verilog.specs.Trees.{Name, ModuleTree}
use Rattle.eq_verilog.specs.Declarations.{range_of, nets_in}
use Rattle.eq_analysis.specs.declared.placing.Places.{Places}

-- how many bits a net has
abbrev pub bits_at : ModuleTree → Name → ℕ
bits_at m n = range_width (range_of m n)

-- where each begins, if the first begins at a
abbrev pub starts : (Name → ℕ) → ℕ → List Name → List ℕ
starts w a [] = []
starts w a (n ∷ ns) = a ∷ starts w (a + w n) ns

-- where the last ends
abbrev pub end_of : (Name → ℕ) → ℕ → List Name → ℕ
end_of w a [] = a
end_of w a (n ∷ ns) = end_of w (a + w n) ns

-- up to a place: where each net begins, and where the next does
pub record IsPlaced (w : Name → ℕ) (names : List Name) (k : ℕ) (firsts : List ℕ) (total : ℕ) : Type 0 where
  pub low : total ≤ 2 ^ 62
  pub begin : firsts ≡ starts w 0 (take k names)
  pub ends : total ≡ end_of w 0 (take k names)

-- these are the places of a module's nets
pub record ArePlaces (m : ModuleTree) (p : Places) : Type 0 where
  pub names : p.names ≡ nets_in m
  pub begin : p.starts.firsts.items ≡ starts (bits_at m) 0 p.names
  pub ends : p.starts.total ≡ end_of (bits_at m) 0 p.names

-- The bits that a cycle is given, inputs and registers, each in the order of the bits.
use Rattle.std.specs.Prelude.{ℕ, suc, List, [], ◌∷◌, Bool, false}
use Rattle.eq_net.specs.declared.types.Driver.{Driver}
use Rattle.eq_net.specs.declared.types.Driver.TheVariants.{Input, Undriven, Expr as WordOf, Reg}

-- how many bits are driven from outside
abbrev pub input_count : List Driver → ℕ
input_count [] = 0
input_count (Input ∷ ds) = suc (input_count ds)
input_count (Undriven ∷ ds) = input_count ds
input_count (WordOf w j ∷ ds) = input_count ds
input_count (Reg init w j ∷ ds) = input_count ds

-- how many bits are registers
abbrev pub register_count : List Driver → ℕ
register_count [] = 0
register_count (Input ∷ ds) = register_count ds
register_count (Undriven ∷ ds) = register_count ds
register_count (WordOf w j ∷ ds) = register_count ds
register_count (Reg init w j ∷ ds) = suc (register_count ds)

-- the initial values of the registers
abbrev pub initial_bits : List Driver → List Bool
initial_bits [] = []
initial_bits (Input ∷ ds) = initial_bits ds
initial_bits (Undriven ∷ ds) = initial_bits ds
initial_bits (WordOf w j ∷ ds) = initial_bits ds
initial_bits (Reg init w j ∷ ds) = init ∷ initial_bits ds

-- the next values of the registers, where `value` has those of the bits of words
abbrev pub next_bits : (ℕ → ℕ → Bool) → List Driver → List Bool
next_bits value [] = []
next_bits value (Input ∷ ds) = next_bits value ds
next_bits value (Undriven ∷ ds) = next_bits value ds
next_bits value (WordOf w j ∷ ds) = next_bits value ds
next_bits value (Reg init w j ∷ ds) = value w j ∷ next_bits value ds

-- for each bit the value that it is given: the inputs' and the registers' in order, and 0 for each bit that the cycle computes
abbrev pub held_bits : List Driver → List Bool → List Bool → List Bool
held_bits [] state xs = []
held_bits (Input ∷ ds) state [] = false ∷ held_bits ds state []
held_bits (Input ∷ ds) state (x ∷ xs) = x ∷ held_bits ds state xs
held_bits (Undriven ∷ ds) state xs = false ∷ held_bits ds state xs
held_bits (WordOf w j ∷ ds) state xs = false ∷ held_bits ds state xs
held_bits (Reg init w j ∷ ds) [] xs = false ∷ held_bits ds [] xs
held_bits (Reg init w j ∷ ds) (s ∷ state) xs = s ∷ held_bits ds state xs

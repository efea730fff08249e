-- A cycle's output is the expression's value, and each choice of input values has its number.
use Rattle.std.proofs.Common.{◌≡◌, ℕ, zero, suc, ◌+◌, ◌*◌, ◌/◌, ◌%◌, ◌^◌, ◌<◌, List, [], ◌∷◌, Bool, true, false, ◌==◌, map, length, slice_index_or, inr, eq-eqb, pow-suc, refl, arith, sym, ap, subst, ◌∙◌}
use Rattle.eq_model.specs.Frames.{values}
use Rattle.eq_model.specs.System.{Values, System, Cycle, IsHeld, Meets, nothing}
use Rattle.eq_first.specs.declared.module.Direction.{Direction}
use Rattle.eq_first.specs.declared.module.Direction.TheVariants.{Input, Output}
use Rattle.eq_first.specs.declared.module.Port.{Port}
use Rattle.eq_first.specs.declared.module.Module.{Module}
use Rattle.eq_first.specs.Value.{value, reads_of}
use Rattle.eq_first.specs.Well.{Goes, IsWellFormed}
use Rattle.eq_net.specs.declared.types.Driver.{Driver}
use Rattle.eq_net.specs.Held.{held_bits, initial_bits}
use Rattle.eq_net.specs.Net.{number_of, source_of, system_of}
use Rattle.eqy.specs.Inputs.{inputs_of, counted}
use Rattle.eqy.specs.Listing.{digits, given}
use Rattle.eqy.specs.Netlist.{first_parts, net_of, driver_of, driven_by, word_of}
use Rattle.eqy.proofs.Mirrored.{bit_of_port, mirrored}
use Rattle.eqy.proofs.Ports.{bits_of-ports, goes_below, driver_at, number_of-port}

abbrev pub system : Module → System
system m = system_of (first_parts m)

-- an input has the value that it is given
input_given : (m : Module) (u v : Values) → Cycle (system m) nothing u v → (p : ℕ) → Goes m.ports Input p → v p ≡ u p
input_given m u v cycle p goes =
    let P : Driver → Type 0 = λ d. IsHeld (source_of (map net_of m.ports) (word_of m.expr ∷ []) d) in
    let held : P (driven_by Input) = tt in
    let below = goes_below m.ports Input p goes in
    cycle.held p (let bits = bits_of-ports m.ports in omega arith) (inr (subst P (sym (driver_at m.ports Input p goes)) held))

pub output_value : (m : Module) → IsWellFormed m → (u v : Values) → Cycle (system m) nothing u v → v m.output ≡ value m.expr u
output_value m well u v cycle =
    let number = number_of (map net_of m.ports) in
    let below = goes_below m.ports Output m.output well.output in
    let P : Driver → Type 0 = λ d. Meets (source_of (map net_of m.ports) (word_of m.expr ∷ []) d) v (v m.output) in
    let meets = subst P (driver_at m.ports Output m.output well.output) (cycle.driven m.output (let bits = bits_of-ports m.ports in omega arith) refl) in
    meets ∙ (mirrored m.expr).same v number (λ w j. false)
    ∙ (mirrored m.expr).depends (λ p. v (number (bit_of_port p))) u (λ k d lt.
    let p = slice_index_or (reads_of m.expr) k d in
    let goes = well.reads k d lt in
    ap v (number_of-port m.ports p (goes_below m.ports Input p goes)) ∙ input_given m u v cycle p goes)

-- the value depends on the inputs alone
pub value_of_inputs : (m : Module) → IsWellFormed m → (v w : ℕ → Bool) → ((p : ℕ) → Goes m.ports Input p → v p ≡ w p) → value m.expr v ≡ value m.expr w
value_of_inputs m well v w agree = (mirrored m.expr).depends v w (λ k d lt. agree (slice_index_or (reads_of m.expr) k d) (well.reads k d lt))

-- there is no register
pub no_register : (ps : List Port) → initial_bits (map driver_of ps) ≡ []
no_register [] = refl
no_register (p ∷ ps) = not_first p.direction (map driver_of ps) ∙ no_register ps
  where
    not_first : (d : Direction) (ds : List Driver) → initial_bits (driven_by d ∷ ds) ≡ initial_bits ds
    not_first Input ds = refl
    not_first Output ds = refl

-- the values of the inputs alone, in the order of the header

abbrev kept : Direction → Bool → List Bool → List Bool
kept Input x xs = x ∷ xs
kept Output x xs = xs

abbrev pub inputs_at : List Port → (ℕ → Bool) → List Bool
inputs_at [] v = []
inputs_at (p ∷ ps) v = kept p.direction (v 0) (inputs_at ps (λ k. v (suc k)))

length-kept : (d : Direction) (x : Bool) (xs : List Bool) → length (kept d x xs) ≡ counted d + length xs
length-kept Input x xs = omega arith
length-kept Output x xs = omega arith

pub length-inputs_at : (ps : List Port) (v : ℕ → Bool) → length (inputs_at ps v) ≡ inputs_of ps
length-inputs_at [] v = refl
length-inputs_at (p ∷ ps) v =
    let one = length-kept p.direction (v 0) (inputs_at ps (λ k. v (suc k))) in
    let e = length-inputs_at ps (λ k. v (suc k)) in
    omega arith

first_held : (d : Direction) (ds : List Driver) (x : Bool) (xs : List Bool) → d ≡ Input → values (held_bits (driven_by d ∷ ds) [] (kept d x xs)) 0 ≡ x
first_held Input ds x xs e = refl
first_held Output ds x xs e = absurd (cc)

later_held : (d : Direction) (ds : List Driver) (x : Bool) (xs : List Bool) (n : ℕ) → values (held_bits (driven_by d ∷ ds) [] (kept d x xs)) (suc n) ≡ values (held_bits ds [] xs) n
later_held Input ds x xs n = refl
later_held Output ds x xs n = refl

pub given-inputs_at : (ps : List Port) (v : ℕ → Bool) (p : ℕ) → Goes ps Input p → given ps (inputs_at ps v) p ≡ v p
given-inputs_at [] v p goes = absurd goes
given-inputs_at (q ∷ ps) v zero goes = first_held q.direction (map driver_of ps) (v 0) (inputs_at ps (λ k. v (suc k))) goes
given-inputs_at (q ∷ ps) v (suc p) goes = later_held q.direction (map driver_of ps) (v 0) (inputs_at ps (λ k. v (suc k))) p ∙ given-inputs_at ps (λ k. v (suc k)) p goes

-- numbers

abbrev bit_number : Bool → ℕ
bit_number true = 1
bit_number false = 0

odd : (x : Bool) (k : ℕ) → ((bit_number x + 2 * k) % 2 == 1) ≡ x
odd true k = eq-eqb ((1 + 2 * k) % 2) 1 (omega arith)
odd false k = ap (λ n. n == 1) (let e : (0 + 2 * k) % 2 ≡ 0 = omega arith in e)

half : (x : Bool) (k : ℕ) → (bit_number x + 2 * k) / 2 ≡ k
half true k = omega arith
half false k = omega arith

below : (x : Bool) (k n : ℕ) → k < n → bit_number x + 2 * k < 2 * n
below true k n lt = omega arith
below false k n lt = omega arith

pub number_of_inputs : (xs : List Bool) → (k : ℕ) × (k < 2 ^ length xs) × (digits (length xs) k ≡ xs)
number_of_inputs [] = (0, omega arith, refl)
number_of_inputs (x ∷ xs) =
    let rest = number_of_inputs xs in
    let k = bit_number x + 2 * rest.0 in
    let lt : k < 2 * 2 ^ length xs = below x rest.0 (2 ^ length xs) rest.1 in
    (k, (let e = pow-suc 2 (length xs) in omega arith), ap (λ b. b ∷ digits (length xs) (k / 2)) (odd x rest.0) ∙ ap (λ n. x ∷ digits (length xs) n) (half x rest.0) ∙ ap (λ bs. x ∷ bs) rest.2)

pub length-digits : (n k : ℕ) → length (digits n k) ≡ n
length-digits zero k = refl
length-digits (suc n) k = (let e = length-digits n (k / 2) in omega arith)

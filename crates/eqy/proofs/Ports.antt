-- What the nets and drivers of a list of ports are, port by port.
use Rattle.std.proofs.Common.{◌≡◌, ◌≢◌, ℕ, zero, suc, ◌+◌, ◌-◌, ◌<◌, ◌≤◌, List, [], ◌∷◌, map, length, slice_index_or, AllPairs, All, IsTrue, ◌==◌, Bool, true, false, ◌||◌, cond, eq-eqb, inl, inr, refl, arith, sym, ap, subst, ◌∙◌}
use Rattle.std.proofs.lemmas.Bool.{le-ltb, cases_lt}
use Rattle.std.specs.List.{list_any}
use Rattle.eq_first.specs.declared.module.Direction.{Direction}
use Rattle.eq_first.specs.declared.module.Direction.TheVariants.{Input, Output}
use Rattle.eq_first.specs.declared.module.Port.{Port}
use Rattle.eq_first.specs.Well.{Goes}
use Rattle.eq_net.specs.declared.types.Dir.TheVariants.{Inner}
use Rattle.eq_net.specs.declared.types.Driver.{Driver}
use Rattle.eq_net.specs.declared.types.Driver.TheVariants.{Undriven}
use Rattle.eq_net.specs.declared.types.NetInfo.{NetInfo}
use Rattle.eq_net.specs.Held.{input_count}
use Rattle.eq_model.specs.Nets.{Dir as Side, inner, at_bit}
use Rattle.eq_net.specs.Nets.{side_of, width_of}
use Rattle.eq_net.specs.Net.{bits_of, offset, number_of, net_at, nets_of}
use Rattle.eqy.specs.Netlist.{dir_of, net_of, driver_of, driven_by, numbers_from}
use Rattle.eqy.specs.Inputs.{counted, inputs_of}
use Rattle.eqy.proofs.Mirrored.{bit_of_port}

pub bits_of-ports : (ps : List Port) → bits_of (map net_of ps) ≡ length ps
bits_of-ports [] = refl
bits_of-ports (p ∷ ps) = (let e = bits_of-ports ps in omega arith)

pub length-nets : (ps : List Port) → length (map net_of ps) ≡ length ps
length-nets [] = refl
length-nets (p ∷ ps) = (let e = length-nets ps in omega arith)

pub length-drivers : (ps : List Port) → length (map driver_of ps) ≡ length ps
length-drivers [] = refl
length-drivers (p ∷ ps) = (let e = length-drivers ps in omega arith)

-- each port has one way
pub goes_somewhere : (ps : List Port) (n : ℕ) → n < length ps → (d : Direction) × Goes ps d n
goes_somewhere [] n lt = absurd (omega arith)
goes_somewhere (p ∷ ps) zero lt = (p.direction, refl)
goes_somewhere (p ∷ ps) (suc n) lt = goes_somewhere ps n (omega arith)

pub goes_below : (ps : List Port) (d : Direction) (n : ℕ) → Goes ps d n → n < length ps
goes_below [] d n g = absurd g
goes_below (p ∷ ps) d zero g = omega arith
goes_below (p ∷ ps) d (suc n) g = (let lt = goes_below ps d n g in omega arith)

pub driver_there : (ps : List Port) (d : Direction) (n : ℕ) (x : Driver) → Goes ps d n → slice_index_or (map driver_of ps) n x ≡ driven_by d
driver_there [] d n x g = absurd g
driver_there (p ∷ ps) d zero x g = ap driven_by g
driver_there (p ∷ ps) d (suc n) x g = driver_there ps d n x g

pub driver_at : (ps : List Port) (d : Direction) (n : ℕ) → Goes ps d n → slice_index_or (map driver_of ps) n Undriven ≡ driven_by d
driver_at ps d n g = driver_there ps d n Undriven g

-- where bit b's net stands
abbrev pub side_at : List NetInfo → ℕ → Side
side_at nets b = at_bit inner (λ n place. n.dir) (nets_of nets) b

pub side_at-ports : (ps : List Port) (d : Direction) (n : ℕ) → Goes ps d n → side_at (map net_of ps) n ≡ side_of (dir_of d)
side_at-ports [] d n g = absurd g
side_at-ports (p ∷ ps) d zero g = ap (λ x. side_of (dir_of x)) g
side_at-ports (p ∷ ps) d (suc n) g =
    let later = le-ltb (suc n) 1 (omega arith) in
    let e : suc n - 1 ≡ n = omega arith in
    ap (λ b. cond b (side_of (dir_of p.direction)) (side_at (map net_of ps) (suc n - 1))) later ∙ ap (side_at (map net_of ps)) e ∙ side_at-ports ps d n g

pub dir_at-ports : (ps : List Port) (d : Direction) (n : ℕ) → Goes ps d n → (net_at (map net_of ps) n).dir ≡ dir_of d
dir_at-ports [] d n g = absurd g
dir_at-ports (p ∷ ps) d zero g = ap dir_of g
dir_at-ports (p ∷ ps) d (suc n) g = dir_at-ports ps d n g

pub width_at-ports : (ps : List Port) (n : ℕ) → n < length ps → width_of (net_at (map net_of ps) n) ≡ 1
width_at-ports [] n lt = absurd (omega arith)
width_at-ports (p ∷ ps) zero lt = refl
width_at-ports (p ∷ ps) (suc n) lt = width_at-ports ps n (omega arith)

offset-ports : (ps : List Port) (n : ℕ) → n ≤ length ps → offset (map net_of ps) n ≡ n
offset-ports [] n le = omega arith
offset-ports (p ∷ ps) zero le = refl
offset-ports (p ∷ ps) (suc n) le = (let e = offset-ports ps n (omega arith) in omega arith)

-- the one bit of a port has the port's number
pub number_of-port : (ps : List Port) (n : ℕ) → n < length ps → number_of (map net_of ps) (bit_of_port n) ≡ n
number_of-port ps n lt = (let e = offset-ports ps n (omega arith) in omega arith)

pub inner_nowhere : (d : Direction) → dir_of d ≢ Inner
inner_nowhere Input = λ e. cc
inner_nowhere Output = λ e. cc

-- names

name_at : (ps : List Port) (n : ℕ) (d : NetInfo) (p : Port) → n < length ps → (slice_index_or (map net_of ps) n d).name ≡ (slice_index_or ps n p).name
name_at [] n d p lt = absurd (omega arith)
name_at (q ∷ ps) zero d p lt = refl
name_at (q ∷ ps) (suc n) d p lt = name_at ps n d p (omega arith)

some_port : (ps : List Port) → 0 < length ps → Port
some_port [] lt = absurd (omega arith)
some_port (p ∷ ps) lt = p

pub names_apart : (ps : List Port) → AllPairs (λ p q. p.name ≢ q.name) ps → AllPairs (λ m n. m.name ≢ n.name) (map net_of ps)
names_apart ps apart i j d lt lj e =
    let size = length-nets ps in
    let some = some_port ps (omega arith) in
    apart i j some lt (omega arith) (sym (name_at ps i d some (omega arith)) ∙ e ∙ name_at ps j d some (omega arith))

-- numbers

number_at : (first n k d : ℕ) → k < n → slice_index_or (numbers_from first n) k d ≡ first + k
number_at first zero k d lt = absurd (omega arith)
number_at first (suc n) zero d lt = omega arith
number_at first (suc n) (suc k) d lt = (let e = number_at (suc first) n k d (omega arith) in omega arith)

pub length-numbers_from : (first n : ℕ) → length (numbers_from first n) ≡ n
length-numbers_from first zero = refl
length-numbers_from first (suc n) = (let e = length-numbers_from (suc first) n in omega arith)

pub numbers_apart : (n : ℕ) → AllPairs (λ p q. p ≢ q) (numbers_from 0 n)
numbers_apart n i j d lt lj e =
    let size = length-numbers_from 0 n in
    let a = number_at 0 n i d (omega arith) in
    let b = number_at 0 n j d (omega arith) in
    absurd (omega arith)

pub numbers_below : (P : ℕ → Type 0) (n : ℕ) → ((k : ℕ) → k < n → P k) → All P (numbers_from 0 n)
numbers_below P n all k d lt =
    let size = length-numbers_from 0 n in
    let below : k < n = omega arith in
    let e : k ≡ slice_index_or (numbers_from 0 n) k d = (let f = number_at 0 n k d below in omega arith) in
    subst P e (all k below)

or_left : (x y : Bool) → IsTrue x → IsTrue (x || y)
or_left true y h = refl
or_left false y h = absurd (cc)

or_right : (x y : Bool) → IsTrue y → IsTrue (x || y)
or_right true y h = refl
or_right false y h = h

any_from : (first n k : ℕ) → first ≤ k → k < first + n → IsTrue (list_any (λ p. p == k) (numbers_from first n))
any_from first zero k le lt = absurd (omega arith)
any_from first (suc n) k le lt = elim (cases_lt first k) [
  | inl less ↦ or_right (first == k) (list_any (λ p. p == k) (numbers_from (suc first) n)) (any_from (suc first) n k (omega arith) (omega arith))
  | inr more ↦ or_left (first == k) (list_any (λ p. p == k) (numbers_from (suc first) n)) (eq-eqb first k (omega arith))
]

pub number_there : (n k : ℕ) → k < n → IsTrue (list_any (λ p. p == k) (numbers_from 0 n))
number_there n k lt = any_from 0 n k (omega arith) (omega arith)

-- inputs

count_one : (d : Direction) (ds : List Driver) → input_count (driven_by d ∷ ds) ≡ counted d + input_count ds
count_one Input ds = omega arith
count_one Output ds = omega arith

-- a cycle takes as many inputs as the header has
pub input_count-ports : (ps : List Port) → input_count (map driver_of ps) ≡ inputs_of ps
input_count-ports [] = refl
input_count-ports (p ∷ ps) = (let one = count_one p.direction (map driver_of ps) in let e = input_count-ports ps in omega arith)

counted_input : (d : Direction) → d ≡ Input → counted d ≡ 1
counted_input Input e = refl
counted_input Output e = absurd (cc)

all_inputs : (ps : List Port) → ((n : ℕ) → n < length ps → Goes ps Input n) → inputs_of ps ≡ length ps
all_inputs [] all = refl
all_inputs (p ∷ ps) all = (let one = counted_input p.direction (all 0 (omega arith)) in let e = all_inputs ps (λ n lt. all (suc n) (omega arith)) in omega arith)

-- where all ports but one are inputs, there is at most one port more than inputs
pub one_output : (ps : List Port) (o : ℕ) → ((n : ℕ) → n < length ps → n ≢ o → Goes ps Input n) → length ps ≤ inputs_of ps + 1
one_output [] o all = omega arith
one_output (p ∷ ps) zero all = (let e = all_inputs ps (λ n lt. all (suc n) (omega arith) (λ e. absurd (omega arith))) in omega arith)
one_output (p ∷ ps) (suc o) all =
    let one = counted_input p.direction (all 0 (omega arith) (λ e. absurd (omega arith))) in
    let e = one_output ps o (λ n lt ne. all (suc n) (omega arith) (λ e. ne (omega arith))) in
    omega arith

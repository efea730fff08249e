-- Synchronous systems as equations over bits, and what it means to solve them over cycles.
-- A netlist in a two-valued reading of IEEE 1364-2005: continuous assignments (6.1) are equations, and nonblocking
-- assignments at the edges of one clock (9.2.2) are registers, which begin at the values of their declarations (6.2.1). A
-- cycle lies between two edges. A system is what is elsewhere called a finite-state machine with inputs, or a transition
-- system.
use Rattle.std.specs.Prelude.{◌≡◌, ℕ, zero, suc, ◌<◌, Bool, true, false, cond, List, [], ◌∷◌, Contains, ◌⊎◌}

-- a value for each bit, as in one cycle
abbrev pub Values : Type 0
Values = ℕ → Bool

-- one bit of an expression: the bits that it reads, and its value where all bits have the values given
pub record Expr : Type 0 where
  pub reads : List ℕ
  pub value : Values → Bool

-- where a bit's value comes from: from outside, from nothing, from an equation within the cycle, or from the cycle
-- before, with a value for the first cycle
pub data Driver : Type 0 where
  input : Driver
  undriven : Driver
  equation : Expr → Driver
  register : Bool → Expr → Driver

-- the bits are the numbers below `bits`, and each has one driver
pub record System : Type 0 where
  pub bits : ℕ
  pub driver : ℕ → Driver

-- the bit's values come from outside
abbrev pub IsInput : Driver → Type 0
IsInput input = Unit {0}
IsInput undriven = ⊥
IsInput (equation e) = ⊥
IsInput (register init e) = ⊥

-- a cycle doesn't compute the bit: its value comes from outside or from the cycle before
abbrev pub IsHeld : Driver → Type 0
IsHeld input = Unit {0}
IsHeld undriven = ⊥
IsHeld (equation e) = ⊥
IsHeld (register init e) = Unit {0}

-- the bit's value comes from the cycle before
abbrev pub is_register : Driver → Bool
is_register input = false
is_register undriven = false
is_register (equation e) = false
is_register (register init e) = true

-- what is read are bits of the system, and the value depends on them alone
pub record IsExpr (bits : ℕ) (e : Expr) : Type 0 where
  pub bounded : (b : ℕ) → Contains e.reads b → b < bits
  pub respects : (v w : Values) → ((b : ℕ) → Contains e.reads b → v b ≡ w b) → e.value v ≡ e.value w

-- the driver's expression, where it has one, is an expression over this many bits
abbrev pub IsDriver : ℕ → Driver → Type 0
IsDriver bits input = Unit {0}
IsDriver bits undriven = Unit {0}
IsDriver bits (equation e) = IsExpr bits e
IsDriver bits (register init e) = IsExpr bits e

-- each driver's expression is an expression over the system's bits
abbrev pub IsSystem : System → Type 0
IsSystem s = (b : ℕ) → b < s.bits → IsDriver s.bits (s.driver b)

-- Reading within a cycle

-- the bits that a driver reads within a cycle. A register's next value is read at the end of the cycle, and isn't among them
abbrev pub reads_now : Driver → List ℕ
reads_now input = []
reads_now undriven = []
reads_now (equation e) = e.reads
reads_now (register init e) = []

-- bit a reads bit b within a cycle
abbrev pub Reads : System → ℕ → ℕ → Type 0
Reads s a b = Contains (reads_now (s.driver a)) b

-- the bits that a driver reads, within a cycle or at its end
abbrev pub reads_ever : Driver → List ℕ
reads_ever input = []
reads_ever undriven = []
reads_ever (equation e) = e.reads
reads_ever (register init e) = e.reads

-- bit a reads bit b, within a cycle or at its end
abbrev pub ReadsEver : System → ℕ → ℕ → Type 0
ReadsEver s a b = Contains (reads_ever (s.driver a)) b

-- a chain of reads within a cycle: a reads the first of the bits between, each of these the next, and the last reads b
abbrev pub IsChain : System → ℕ → List ℕ → ℕ → Type 0
IsChain s a [] b = Reads s a b
IsChain s a (c ∷ cs) b = Reads s a c × IsChain s c cs b

-- no chain of reads within a cycle returns to its bit: there is no combinational loop. This is said of reads alone, so a
-- cycle of reads is a loop also where values would settle
abbrev pub IsLoopFree : System → Type 0
IsLoopFree s = (b : ℕ) (cs : List ℕ) → b < s.bits → IsChain s b cs b → ⊥

-- Drivers as equations

-- within a cycle with the values v: the driver allows the value x for its bit. A bit without a driver is 0, where the
-- standard has high impedance
abbrev pub Meets : Driver → Values → Bool → Type 0
Meets input v x = Unit {0}
Meets undriven v x = x ≡ false
Meets (equation e) v x = x ≡ e.value v
Meets (register init e) v x = Unit {0}

-- in the first cycle: the driver allows the value x for its bit
abbrev pub Begins : Driver → Bool → Type 0
Begins input x = Unit {0}
Begins undriven x = Unit {0}
Begins (equation e) x = Unit {0}
Begins (register init e) x = x ≡ init

-- in the cycle after one with the values v: the driver allows the value x for its bit
abbrev pub Follows : Driver → Values → Bool → Type 0
Follows input v x = Unit {0}
Follows undriven v x = Unit {0}
Follows (equation e) v x = Unit {0}
Follows (register init e) v x = x ≡ e.value v

-- what a driver computes in a cycle with the values v, where a bit that the cycle doesn't compute has the value x
abbrev pub compute : Driver → Values → Bool → Bool
compute input v x = x
compute undriven v x = false
compute (equation e) v x = e.value v
compute (register init e) v x = x

-- Solutions. Some bits may be cut, which leaves their drivers out

-- no bit is cut
abbrev pub nothing : ℕ → Bool
nothing b = false

-- over n cycles each bit that isn't cut meets its driver. Nothing is said of the registers' first values
pub record Solves (s : System) (cut : ℕ → Bool) (n : ℕ) (v : ℕ → Values) : Type 0 where
  pub now : (c b : ℕ) → c < n → b < s.bits → cut b ≡ false → Meets (s.driver b) (v c) (v c b)
  pub next : (c b : ℕ) → suc c < n → b < s.bits → cut b ≡ false →
      Follows (s.driver b) (v c) (v (suc c) b)

-- each register that isn't cut has its initial value, v being the first cycle's values
abbrev pub IsInitial : System → (ℕ → Bool) → Values → Type 0
IsInitial s cut v = (b : ℕ) → b < s.bits → cut b ≡ false → Begins (s.driver b) (v b)

-- the same values of all bits in n cycles
abbrev pub Agree : System → ℕ → (ℕ → Values) → (ℕ → Values) → Type 0
Agree s n v w = (c b : ℕ) → c < n → b < s.bits → v c b ≡ w c b

-- v solves one cycle: the inputs, the registers and the cut bits have the values of u, and each other bit meets its driver
pub record Cycle (s : System) (cut : ℕ → Bool) (u v : Values) : Type 0 where
  pub held : (b : ℕ) → b < s.bits → (cut b ≡ true) ⊎ IsHeld (s.driver b) → v b ≡ u b
  pub driven : (b : ℕ) → b < s.bits → cut b ≡ false → Meets (s.driver b) v (v b)

-- one cycle has a solution, and any two of them have the same values
pub record HasOneCycle (s : System) (cut : ℕ → Bool) (u : Values) : Type 0 where
  pub some : (v : Values) × Cycle s cut u v
  pub only : (v w : Values) → Cycle s cut u v → Cycle s cut u w → (b : ℕ) → b < s.bits → v b ≡ w b

-- k rounds from u, each of which computes all bits anew from the values that the round before left
abbrev pub rounds : System → (ℕ → Bool) → Values → ℕ → Values
rounds s cut u zero b = u b
rounds s cut u (suc k) b = cond (cut b) (u b) (compute (s.driver b) (rounds s cut u k) (u b))

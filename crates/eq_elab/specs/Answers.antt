-- What the call that elaborates is to answer.
use Rattle.std.specs.Prelude.{◌≡◌, ◌≢◌, ◌⊎◌, ◌<◌, ℕ, ◌+◌, List, [], ◌∷◌, map, AllPairs, All, Result, Ok, Err, IfSome, slice_get}
use Rattle.eq_model.specs.Nets.{Net, net_width, first_bit}
use Rattle.eq_model.specs.System.{System, IsChain}
use Rattle.eq_names.specs.declared.BitName.{BitName}
use Rattle.eq_net.specs.declared.net.Net.{Net as Netlist}
use Rattle.eq_verilog.specs.declared.refusal.ElabErr.{ElabErr}
use Rattle.eq_verilog.specs.declared.refusal.ElabErr.TheVariants as err
use Rattle.eq_verilog.specs.Trees.{Name, ModuleTree}
use Rattle.eq_verilog.specs.Nets.{bit_name}
use Rattle.eq_verilog.specs.Designs.{flat_of, design_of}
use Rattle.eq_verilog.specs.Refusals.{Refusal, IsRefusedFor, at, too_large, looped}

-- ---- loops

abbrev pub bit_number : List Net → BitName → ℕ
bit_number nets b = first_bit nets b.net + b.bit

-- the bit is there
abbrev pub IsThere : List Net → BitName → Type 0
IsThere nets b = IfSome (slice_get nets b.net) (λ n. b.bit < net_width n)

-- distinct bits, each reading the next and the last reading the first, which has this name
abbrev pub IsLoop : System → List Net → List BitName → Name → Type 0
IsLoop s nets [] name = ⊥
IsLoop s nets (b ∷ bs) name =
    (name ≡ bit_name nets (bit_number nets b)) × All (IsThere nets) (b ∷ bs) × AllPairs (λ c d. c ≢ d) (b ∷ bs)
    × IsChain s (bit_number nets b) (map (bit_number nets) bs) (bit_number nets b)

-- ---- answers

-- The design with this top among these modules is refused for what is answered, which is the first condition that holds; a
-- loop is told with its bits. Want of memory says nothing
abbrev pub Refuses : List ModuleTree → Name → ElabErr → Type 0
Refuses all top (err.At kind name) = IsRefusedFor all top (at kind name)
Refuses all top (err.Loop cycle name) =
    IsRefusedFor all top (looped name) × IsLoop (design_of all top).system (flat_of all top).nets cycle name
Refuses all top (err.TooLarge number) = IsRefusedFor all top (too_large number)
Refuses all top err.Memory = Unit {0}

-- the answer tells of this refusal
abbrev pub TellsOf : Refusal → ElabErr → Type 0
TellsOf r (err.At kind name) = r ≡ at kind name
TellsOf r (err.Loop cycle name) = r ≡ looped name
TellsOf r (err.TooLarge number) = r ≡ too_large number
TellsOf r err.Memory = ⊥

-- a netlist, but for want of memory
abbrev pub IsNetOrNoMemory : Result Netlist ElabErr → Type 0
IsNetOrNoMemory (Ok net) = Unit {0}
IsNetOrNoMemory (Err e) = e ≡ err.Memory

-- this refusal, but for want of memory
abbrev pub IsRefusalOrNoMemory : Refusal → Result Netlist ElabErr → Type 0
IsRefusalOrNoMemory r (Ok net) = ⊥
IsRefusalOrNoMemory r (Err e) = TellsOf r e ⊎ (e ≡ err.Memory)

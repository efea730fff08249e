-- Assignments and gates.
use Rattle.std.specs.Prelude.{ℕ, ◌+◌, List, [], ◌∷◌, None, Some, Bool, false}
use Rattle.eq_model.specs.System.{Values, Driver, input, undriven, equation, register, reads_ever}
use Rattle.eq_vparse.specs.declared.tree.DeclKind.TheVariants as kind
use Rattle.eq_vparse.specs.declared.tree.GateKind.{GateKind}
use Rattle.eq_net.specs.Numbers.{number}
use Rattle.eq_verilog.specs.Trees.{Name, net, bit, part, repeated, join_all, ItemTree, declared, assign, primitive, ModuleTree}
use Rattle.eq_verilog.specs.Nets.{offset}
use Rattle.eq_verilog.specs.Designs.{flat_of, driver_of}
use Rattle.eq_verilog.specs.samples.Writing.{a, b, c, y, z, t, u, range, sized, and, or, xor, add, ins, outs, wired, gets, alone, simple}

-- ---- what is asked of a design

abbrev pub driven : Driver → Values → Bool
driven input v = false
driven undriven v = false
driven (equation e) v = e.value v
driven (register i e) v = e.value v

-- the number that the drivers of a net's w bits compute where all bits have the values v: for a reg its next value
abbrev pub computes : List ModuleTree → Name → ℕ → Values → ℕ
computes all n w v = (let f = flat_of all t in number w (λ j. driven (driver_of f (offset f.nets n + j)) v))

-- what bit j of a net reads
abbrev pub reads_at : List ModuleTree → Name → ℕ → List ℕ
reads_at all n j = (let f = flat_of all t in reads_ever (driver_of f (offset f.nets n + j)))

-- ---- ranges: input [3:0] a, output [0:3] y

abbrev pub turned : List ItemTree → List ModuleTree
turned body = alone (a ∷ y ∷ []) (declared kind.Input (range 3 0) a ∷ declared kind.Output (range 0 3) y ∷ body)

-- assign y = a;
abbrev pub turned_whole : List ModuleTree
turned_whole = turned (gets y (net a) ∷ [])

-- assign y[0] = a[3], y[1] = a[2], y[2:3] = a[1:0];
abbrev pub turned_bits : List ModuleTree
turned_bits = turned (assign (bit y 0) (bit a 3) ∷ assign (bit y 1) (bit a 2) ∷ assign (part y 2 3) (part a 1 0) ∷ [])

-- assign y[0] = a[0], y[1] = a[1], y[2] = a[2], y[3] = a[3];
abbrev pub crossed_bits : List ModuleTree
crossed_bits =
    turned (assign (bit y 0) (bit a 0) ∷ assign (bit y 1) (bit a 1) ∷ assign (bit y 2) (bit a 2)
    ∷ assign (bit y 3) (bit a 3) ∷ [])

-- output [3:0] y
abbrev pub straight : List ModuleTree
straight =
    alone (a ∷ y ∷ []) (declared kind.Input (range 3 0) a ∷ declared kind.Output (range 3 0) y ∷ gets y (net a) ∷ [])

-- ---- a ripple carry and a ring: input [3:0] a, b, output [3:0] y

abbrev pub carried : List ItemTree → List ModuleTree
carried body = alone (a ∷ b ∷ y ∷ [])
    (declared kind.Input (range 3 0) a ∷ declared kind.Input (range 3 0) b ∷ declared kind.Output (range 3 0) y ∷ body)

-- assign y = a + b;
abbrev pub sum : List ModuleTree
sum = carried (gets y (add (net a) (net b)) ∷ [])

-- assign c[j] = a[i] & b[i] | c[i] & (a[i] ^ b[i]);
abbrev pub carry_item : ℕ → ℕ → ItemTree
carry_item i j = assign (bit c j) (or (and (bit a i) (bit b i)) (and (bit c i) (xor (bit a i) (bit b i))))

-- wire [4:0] c; assign c[0] = 1'b0, .., y = a ^ b ^ c[3:0];
abbrev pub ripple : List ModuleTree
ripple = carried
    (declared kind.Wire (range 4 0) c ∷ assign (bit c 0) (sized 1 0) ∷ carry_item 0 1 ∷ carry_item 1 2
    ∷ carry_item 2 3 ∷ carry_item 3 4
    ∷ gets y (xor (xor (net a) (net b)) (part c 3 0)) ∷ [])

-- module t(output [3:0] y); wire [1:0] c; assign c[1] = c[0], c[0] = c[1], y = {4{c[0]}}; endmodule
abbrev pub ring : List ModuleTree
ring = alone (y ∷ [])
    (declared kind.Output (range 3 0) y ∷ declared kind.Wire (range 1 0) c ∷ assign (bit c 1) (bit c 0)
    ∷ assign (bit c 0) (bit c 1)
    ∷ gets y (repeated 4 (join_all (bit c 0 ∷ []))) ∷ [])

-- wire [1:0] c; assign c = {c[0], a}, y = c[1]: bits are apart, so this is no loop
abbrev pub shifted_wires : List ModuleTree
shifted_wires =
    simple (declared kind.Wire (range 1 0) c ∷ gets c (join_all (bit c 0 ∷ net a ∷ [])) ∷ gets y (bit c 1) ∷ [])

-- the same with c + 1 in place of the concatenation: c[0] reads itself
abbrev pub adding_wires : List ModuleTree
adding_wires = simple (declared kind.Wire (range 1 0) c ∷ gets c (add (net c) (sized 2 1)) ∷ gets y (bit c 1) ∷ [])

-- wire z; assign {z, y} = {a, 1'b1}: a target of two nets, and a source with a bit that is no copy
abbrev pub joined_target : List ModuleTree
joined_target = simple (wired z ∷ assign (join_all (net z ∷ net y ∷ [])) (join_all (net a ∷ sized 1 1 ∷ [])) ∷ [])

-- ---- gates: input a, [1:0] b, output y

-- gate (y, a, b[0], b[1]);
abbrev pub three_inputs : GateKind → List ModuleTree
three_inputs k = alone (a ∷ b ∷ y ∷ [])
    (ins a ∷ declared kind.Input (range 1 0) b ∷ outs y ∷ primitive k None (net y ∷ net a ∷ bit b 0 ∷ bit b 1 ∷ [])
    ∷ [])

-- gate (y, a);
abbrev pub one_input : GateKind → List ModuleTree
one_input k = simple (primitive k None (net y ∷ net a ∷ []) ∷ [])

-- wire z; gate u(y, z, a);
abbrev pub two_outputs : GateKind → List ModuleTree
two_outputs k = simple (wired z ∷ primitive k (Some u) (net y ∷ net z ∷ net a ∷ []) ∷ [])

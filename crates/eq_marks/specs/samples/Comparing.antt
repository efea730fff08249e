-- Designs whose ports are compared.
use Rattle.std.specs.Prelude.{List, [], ◌∷◌}
use Rattle.eq_vparse.specs.declared.tree.DeclKind.TheVariants as kind
use Rattle.eq_verilog.specs.Trees.{net, set, declared, always, ModuleTree}
use Rattle.eq_verilog.specs.samples.Writing.{a, b, y, q, clk, range, sized, ins, outs, reg, gets, begun, alone, simple}
use Rattle.eq_verilog.specs.samples.Clocking.{timed}

-- module t(input a, output y); assign y = a; endmodule
abbrev pub wires : List ModuleTree
wires = simple (gets y (net a) ∷ [])

-- the same with an input b between the two
abbrev pub more : List ModuleTree
more = alone (a ∷ b ∷ y ∷ []) (ins a ∷ ins b ∷ outs y ∷ gets y (net a) ∷ [])

-- module t(output a, input y); assign a = y; endmodule
abbrev pub reversed : List ModuleTree
reversed = alone (a ∷ y ∷ []) (outs a ∷ ins y ∷ gets a (net y) ∷ [])

-- module t(input a, output [1:0] y); assign y = a; endmodule
abbrev pub wider : List ModuleTree
wider = alone (a ∷ y ∷ []) (ins a ∷ declared kind.Output (range 1 0) y ∷ gets y (net a) ∷ [])

-- module t(input [1:0] a, input y); endmodule
abbrev pub two_inputs : List ModuleTree
two_inputs = alone (a ∷ y ∷ []) (declared kind.Input (range 1 0) a ∷ ins y ∷ [])

-- module t(output y, input a); assign y = a; endmodule
abbrev pub turned : List ModuleTree
turned = alone (y ∷ a ∷ []) (outs y ∷ ins a ∷ gets y (net a) ∷ [])

-- reg q = 1'h0; always @(posedge a) q <= 1'h1; assign y = q;
abbrev pub clocked_by_a : List ModuleTree
clocked_by_a = timed (reg q ∷ begun q 1 0 ∷ always (net a) (set (net q) (sized 1 1)) ∷ gets y (net q) ∷ [])

-- assign y = clk;
abbrev pub clock_out : List ModuleTree
clock_out = timed (gets y (net clk) ∷ [])

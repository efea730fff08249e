-- Registers and clocks.
use Rattle.std.specs.Prelude.{ℕ, List, [], ◌∷◌, Some, None, codes}
use Rattle.eq_vparse.specs.declared.tree.DeclKind.TheVariants as kind
use Rattle.eq_vparse.specs.declared.tree.GateKind.TheVariants as prim
use Rattle.eq_verilog.specs.Trees.{Name, ExprTree, net, bit, choice, join_all, StmtTree, idle, set, branch, by_order, ItemTree, declared, primitive, instance, always, ModuleTree}
use Rattle.eq_verilog.specs.samples.Writing.{a, b, c, y, z, q, t, u, clk, range, sized, and, add, ins, outs, wired, reg, gets, begun, module_of, alone}

-- ---- a counter as a netlist writer puts it
-- module t(clk, en, q); wire [3:0] _00_; input clk, en; output [3:0] q; reg [3:0] q = 4'h0; wire \en.q ;
-- assign _00_ = q + 4'h1; assign \en.q = en; always @(posedge clk) if (\en.q ) q <= _00_; endmodule

abbrev pub en : Name
en = codes "en"

abbrev pub enq : Name
enq = codes "en.q"

abbrev pub made : Name
made = codes "_00_"

abbrev pub counting : ExprTree → StmtTree → List ModuleTree
counting e body = alone (clk ∷ en ∷ q ∷ [])
    (declared kind.Wire (range 3 0) made ∷ ins clk ∷ ins en ∷ declared kind.Output (range 3 0) q
    ∷ declared kind.Reg (range 3 0) q
    ∷ begun q 4 0 ∷ wired enq ∷ gets made e ∷ gets enq (net en) ∷ always (net clk) body ∷ [])

abbrev pub counter : List ModuleTree
counter = counting (add (net q) (sized 4 1)) (branch (net enq) (set (net q) (net made)) idle)

-- assign _00_ = \en.q ? q + 4'h1 : q; .. q <= _00_;
abbrev pub choosing_counter : List ModuleTree
choosing_counter = counting (choice (net enq) (add (net q) (sized 4 1)) (net q)) (set (net q) (net made))

-- ---- statements: input clk, [1:0] a, output [1:0] q, a reg with the value 2'h0

abbrev pub clocked : StmtTree → List ModuleTree
clocked body = alone (clk ∷ a ∷ q ∷ [])
    (ins clk ∷ declared kind.Input (range 1 0) a ∷ declared kind.Output (range 1 0) q
    ∷ declared kind.Reg (range 1 0) q ∷ begun q 2 0
    ∷ always (net clk) body ∷ [])

-- ---- registers: input clk, a, output y

abbrev pub timed : List ItemTree → List ModuleTree
timed body = alone (clk ∷ a ∷ y ∷ []) (ins clk ∷ ins a ∷ outs y ∷ body)

-- reg [3:0] q = size'value; clk, a and y are bits 0 to 2
abbrev pub starting : ℕ → ℕ → List ModuleTree
starting size value = timed (declared kind.Reg (range 3 0) q ∷ begun q size value ∷ gets y (bit q 0) ∷ [])

-- reg q = 1'h0; always @(posedge event) q <= e; assign y = q;
abbrev pub storing : ExprTree → ExprTree → List ItemTree → List ModuleTree
storing event e body = timed (reg q ∷ begun q 1 0 ∷ always event (set (net q) e) ∷ gets y (net q) ∷ body)

abbrev pub stored : List ItemTree → List ModuleTree
stored body = storing (net clk) (net a) body

-- ---- clocks

-- input [1:0] clk; always @(posedge clk[0])
abbrev pub wide_clock : List ModuleTree
wide_clock = alone (clk ∷ a ∷ y ∷ [])
    (declared kind.Input (range 1 0) clk ∷ ins a ∷ outs y ∷ reg q ∷ begun q 1 0
    ∷ always (bit clk 0) (set (net q) (net a)) ∷ gets y (net q) ∷ [])

-- wire c; buf (c, clk); always @(posedge c)
abbrev pub buffered_clock : List ModuleTree
buffered_clock = storing (net c) (net a) (wired c ∷ primitive prim.Buf None (net c ∷ net clk ∷ []) ∷ [])

-- wire c; and (c, clk); always @(posedge c)
abbrev pub gated_clock : List ModuleTree
gated_clock = storing (net c) (net a) (wired c ∷ primitive prim.And None (net c ∷ net clk ∷ []) ∷ [])

-- wire b, c; assign b = clk & a, c = b; always @(posedge c): the event is told, not where it ends
abbrev pub copied_gate : List ModuleTree
copied_gate = storing (net c) (net a) (wired b ∷ wired c ∷ gets b (and (net clk) (net a)) ∷ gets c (net b) ∷ [])

-- wire c, z; assign c = clk, z = c & a;
abbrev pub aliased_clock : List ModuleTree
aliased_clock = stored (wired c ∷ wired z ∷ gets c (net clk) ∷ gets z (and (net c) (net a)) ∷ [])

-- wire [1:0] c; assign c = {clk, a}; always @(posedge c[1])
abbrev pub joined_clock : List ModuleTree
joined_clock =
    storing (bit c 1) (net a) (declared kind.Wire (range 1 0) c ∷ gets c (join_all (net clk ∷ net a ∷ [])) ∷ [])

-- wire [1:0] c; assign c = clk; always @(posedge c): position 0 of c
abbrev pub lowest_clock : List ModuleTree
lowest_clock = storing (net c) (net a) (declared kind.Wire (range 1 0) c ∷ gets c (net clk) ∷ [])

-- wire [1:0] c; assign c = clk; always @(posedge c[1]): a bit that is extended with zero
abbrev pub extended_clock : List ModuleTree
extended_clock = storing (bit c 1) (net a) (declared kind.Wire (range 1 0) c ∷ gets c (net clk) ∷ [])

-- reg z = 1'h0; always @(posedge a) z <= 1'h1;
abbrev pub two_edges : List ModuleTree
two_edges = storing (net clk) (sized 1 1) (reg z ∷ begun z 1 0 ∷ always (net a) (set (net z) (sized 1 1)) ∷ [])

-- wire b, c; assign b = c, c = b; always @(posedge c)
abbrev pub ring_clock : List ModuleTree
ring_clock = storing (net c) (net a) (wired b ∷ wired c ∷ gets b (net c) ∷ gets c (net b) ∷ [])

abbrev pub cell : Name
cell = codes "cell"

-- cell u(clk, a, y); module cell(input c, input a, output reg q = 1'h1); always @(posedge c) q <= a; endmodule
abbrev pub inner_clock : List ModuleTree
inner_clock =
    module_of t (clk ∷ a ∷ y ∷ []) (ins clk ∷ ins a ∷ outs y ∷ instance cell u (by_order (Some (net clk)
    ∷ Some (net a) ∷ Some (net y) ∷ [])) ∷ [])
    ∷ module_of cell (c ∷ a ∷ q ∷ []) (ins c ∷ ins a ∷ outs q ∷ reg q ∷ begun q 1 1
    ∷ always (net c) (set (net q) (net a)) ∷ [])
    ∷ []

-- a design without registers that has the port clk: y is a & clk, or y is a
abbrev pub reading_clock : List ModuleTree
reading_clock = timed (gets y (and (net a) (net clk)) ∷ [])

abbrev pub ignoring_clock : List ModuleTree
ignoring_clock = timed (gets y (net a) ∷ [])

-- Modules of which something is wrong. Where a body alone is written, t has an input a and an output y, each of one
-- bit.
use Rattle.std.specs.Prelude.{ℕ, zero, suc, ◌+◌, List, [], ◌∷◌, ◌++◌, Some, None, codes}
use Rattle.eq_vparse.specs.declared.tree.BinOp.TheVariants as bin
use Rattle.eq_vparse.specs.declared.tree.DeclKind.TheVariants as kind
use Rattle.eq_vparse.specs.declared.tree.GateKind.TheVariants as prim
use Rattle.eq_vparse.specs.declared.tree.UnOp.TheVariants as un
use Rattle.eq_verilog.specs.Trees.{Name, net, bit, part, repeated, unary, binary, join_all, idle, branch, set, by_order, by_name, ItemTree, declared, assign, primitive, instance, always, initial, ModuleTree}
use Rattle.eq_verilog.specs.samples.Writing.{a, b, c, y, z, q, t, u, m, clk, range, sized, and, ins, outs, wired, reg, gets, begun, connect, of_two, unconnected, module_of, alone, simple, five}
use Rattle.eq_verilog.specs.samples.Hierarchies.{inverter, over}
use Rattle.eq_verilog.specs.samples.Clocking.{timed}

abbrev pub k : Name
k = codes "k"

-- ---- modules

-- two modules m, after t
abbrev pub module_twice : List ModuleTree
module_twice = over inverter [] ++ inverter ∷ []

-- k u();
abbrev pub unknown_module : List ModuleTree
unknown_module = simple (unconnected k u ∷ [])

-- an unknown module in a module that isn't reached
abbrev pub unreached : List ModuleTree
unreached = over (module_of m [] (unconnected k u ∷ [])) (gets y (net a) ∷ [])

-- t u();
abbrev pub in_itself : List ModuleTree
in_itself = simple (unconnected t u ∷ [])

-- m u(); with m u(); in m
abbrev pub below_top : List ModuleTree
below_top = over (module_of m [] (unconnected m u ∷ [])) (unconnected m u ∷ [])

-- m u(); with t u(); in m: the top is the first of the two
abbrev pub through_another : List ModuleTree
through_another = over (module_of m [] (unconnected t u ∷ [])) (unconnected m u ∷ [])

-- ---- names

-- input a; input a;
abbrev pub two_directions : List ModuleTree
two_directions = simple (ins a ∷ [])

-- input a; output a;
abbrev pub both_directions : List ModuleTree
both_directions = simple (outs a ∷ [])

-- wire z; reg z;
abbrev pub wire_and_reg : List ModuleTree
wire_and_reg = simple (wired z ∷ reg z ∷ [])

-- output y; wire y; assign y = a;
abbrev pub output_wire : List ModuleTree
output_wire = simple (wired y ∷ gets y (net a) ∷ [])

-- module t(a, a);
abbrev pub port_twice : List ModuleTree
port_twice = alone (a ∷ a ∷ []) (ins a ∷ [])

-- m a();
abbrev pub instance_as_net : List ModuleTree
instance_as_net = over inverter (unconnected m a ∷ [])

-- wire z; m z();
abbrev pub instance_as_wire : List ModuleTree
instance_as_wire = over inverter (wired z ∷ unconnected m z ∷ [])

-- wire z; buf u(y, a); buf u(z, a);
abbrev pub two_gates : List ModuleTree
two_gates =
    simple (wired z ∷ primitive prim.Buf (Some u) (net y ∷ net a ∷ []) ∷ primitive prim.Buf (Some u) (net z ∷ net a
    ∷ []) ∷ [])

-- buf u(y, a); m u();
abbrev pub gate_and_instance : List ModuleTree
gate_and_instance = over inverter (primitive prim.Buf (Some u) (net y ∷ net a ∷ []) ∷ unconnected m u ∷ [])

-- reg z; wire z; m u(); m u(); the name of the second declaration stands before that of the instances
abbrev pub two_names_twice : List ModuleTree
two_names_twice = over inverter (reg z ∷ wired z ∷ unconnected m u ∷ unconnected m u ∷ [])

-- assign y = z;
abbrev pub undeclared : List ModuleTree
undeclared = simple (gets y (net z) ∷ [])

-- assign y = z; wire z; assign z = a;
abbrev pub declared_later : List ModuleTree
declared_later = simple (gets y (net z) ∷ wired z ∷ gets z (net a) ∷ [])

-- always @(posedge z) ;
abbrev pub undeclared_event : List ModuleTree
undeclared_event = simple (always (net z) (set (net y) (net a)) ∷ [])

-- output y; wire a;
abbrev pub no_direction : List ModuleTree
no_direction = alone (a ∷ y ∷ []) (outs y ∷ wired a ∷ gets y (net z) ∷ [])

-- input z; which the header doesn't have
abbrev pub no_port : List ModuleTree
no_port = simple (ins z ∷ [])

-- ---- ranges

-- output y; wire [1:0] y;
abbrev pub two_ranges : List ModuleTree
two_ranges = simple (declared kind.Wire (range 1 0) y ∷ [])

-- output [3:0] y; reg [0:3] y;
abbrev pub turned_range : List ModuleTree
turned_range = alone (y ∷ []) (declared kind.Output (range 3 0) y ∷ declared kind.Reg (range 0 3) y ∷ [])

-- m u(a[0], y);
abbrev pub connected_select : List ModuleTree
connected_select = over inverter (of_two u (bit a 0) (net y) ∷ [])

-- always @(posedge clk[0]) ;
abbrev pub event_select : List ModuleTree
event_select = timed (always (bit clk 0) idle ∷ gets y (net a) ∷ [])

-- always @(posedge clk) if (a[0]) ;
abbrev pub condition_select : List ModuleTree
condition_select = timed (always (net clk) (branch (bit a 0) idle idle) ∷ gets y (net a) ∷ [])

-- assign y = {a, ~a[0]};
abbrev pub inner_select : List ModuleTree
inner_select = simple (gets y (join_all (net a ∷ unary un.Not (bit a 0) ∷ [])) ∷ [])

-- wire [n:0] z;
abbrev pub vector : ℕ → ModuleTree
vector n = module_of t [] (declared kind.Wire (range n 0) z ∷ [])

-- assign y = a[0]; where a has no range
abbrev pub scalar_select : List ModuleTree
scalar_select = simple (gets y (bit a 0) ∷ [])

-- wire [n:0] z; and in front of it a use: assign y = z;
abbrev pub used_vector : ℕ → ModuleTree
used_vector n = module_of t (y ∷ []) (outs y ∷ gets y (net z) ∷ declared kind.Wire (range n 0) z ∷ [])

-- assign y = {n{a[0]}};
abbrev pub repeats : ℕ → ModuleTree
repeats n =
    module_of t (a ∷ y ∷ []) (declared kind.Input (range 3 0) a ∷ outs y ∷ gets y (repeated n (join_all (bit a 0
    ∷ []))) ∷ [])

-- assign y = {0{a[9]}}; the repeat stands before what is in it
abbrev pub empty_repeat : List ModuleTree
empty_repeat = five (repeated 0 (join_all (bit a 9 ∷ [])))

-- assign y = a[9] + {70000{b}}; the sum stands before its operands
abbrev pub large_sum : ModuleTree
large_sum = module_of t (a ∷ y ∷ []) (declared kind.Input (range 3 0) a ∷ outs y
    ∷ gets y (binary bin.Add (bit a 9) (repeated 70000 (join_all (bit a 0 ∷ [])))) ∷ [])

-- ---- targets

-- assign a = y;
abbrev pub input_target : List ModuleTree
input_target = simple (gets a (net y) ∷ [])

-- reg z; assign z = a;
abbrev pub reg_target : List ModuleTree
reg_target = simple (reg z ∷ gets z (net a) ∷ [])

-- reg a;
abbrev pub input_reg : List ModuleTree
input_reg = simple (reg a ∷ [])

-- reg a; assign b = y; with inputs a and b: the reg is told, which stands before
abbrev pub reg_before : List ModuleTree
reg_before = alone (a ∷ b ∷ y ∷ []) (reg a ∷ gets b (net y) ∷ ins a ∷ ins b ∷ outs y ∷ [])

-- assign b = y; reg a; with inputs a and b
abbrev pub reg_behind : List ModuleTree
reg_behind = alone (a ∷ b ∷ y ∷ []) (ins a ∷ ins b ∷ outs y ∷ gets b (net y) ∷ reg a ∷ [])

-- always @(posedge clk) y <= a;
abbrev pub wire_set : List ModuleTree
wire_set = timed (always (net clk) (set (net y) (net a)) ∷ [])

-- initial y = 1'h0;
abbrev pub wire_begun : List ModuleTree
wire_begun = simple (begun y 1 0 ∷ [])

-- assign {y, y} = a;
abbrev pub bit_twice : List ModuleTree
bit_twice = simple (assign (join_all (net y ∷ net y ∷ [])) (net a) ∷ [])

-- assign {y, a} = a;
abbrev pub second_part : List ModuleTree
second_part = simple (assign (join_all (net y ∷ net a ∷ [])) (net a) ∷ [])

-- output [1:0] y; assign {y[0], y[1]} = a;
abbrev pub two_bits : List ModuleTree
two_bits = alone (a ∷ y ∷ [])
    (ins a ∷ declared kind.Output (range 1 0) y ∷ assign (join_all (bit y 0 ∷ bit y 1 ∷ [])) (net a) ∷ [])

-- output [1:0] y; assign {y[1:0], y[1]} = a;
abbrev pub overlapping : List ModuleTree
overlapping = alone (a ∷ y ∷ [])
    (ins a ∷ declared kind.Output (range 1 0) y ∷ assign (join_all (part y 1 0 ∷ bit y 1 ∷ [])) (net a) ∷ [])

-- buf (y & a, a);
abbrev pub no_terminal : List ModuleTree
no_terminal = simple (primitive prim.Buf None (and (net y) (net a) ∷ net a ∷ []) ∷ [])

-- and (y, a, ~a), whose last terminal is an input
abbrev pub input_terminal : List ModuleTree
input_terminal = simple (primitive prim.And None (net y ∷ net a ∷ unary un.Not (net a) ∷ []) ∷ [])

-- m u(a, 1'h0);
abbrev pub constant_output : List ModuleTree
constant_output = over inverter (of_two u (net a) (sized 1 0) ∷ [])

-- reg z; m u(a, z);
abbrev pub reg_output : List ModuleTree
reg_output = over inverter (reg z ∷ of_two u (net a) (net z) ∷ [])

-- ---- connections

-- m u(.z(a));
abbrev pub strange_port : List ModuleTree
strange_port = over inverter (instance m u (by_name (connect z (net a) ∷ [])) ∷ [])

-- m u(.a(a), .a(a));
abbrev pub connected_twice : List ModuleTree
connected_twice = over inverter (instance m u (by_name (connect a (net a) ∷ connect a (net a) ∷ [])) ∷ [])

-- m u(a);
abbrev pub too_few : List ModuleTree
too_few = over inverter (instance m u (by_order (Some (net a) ∷ [])) ∷ [])

-- m u(a, z, );
abbrev pub too_many : List ModuleTree
too_many = over inverter (wired z ∷ instance m u (by_order (Some (net a) ∷ Some (net z) ∷ None ∷ [])) ∷ [])

-- assign y = a; m u(a, );
abbrev pub left_out : List ModuleTree
left_out = over inverter (gets y (net a) ∷ instance m u (by_order (Some (net a) ∷ None ∷ [])) ∷ [])

-- and u(y);
abbrev pub one_terminal : List ModuleTree
one_terminal = simple (primitive prim.And (Some u) (net y ∷ []) ∷ [])

-- and (y, 2'h3);
abbrev pub wide_terminal : List ModuleTree
wide_terminal = simple (primitive prim.And None (net y ∷ sized 2 3 ∷ []) ∷ [])

-- ---- drivers

-- assign y = a; assign y = a;
abbrev pub two_equations : List ModuleTree
two_equations = simple (gets y (net a) ∷ gets y (net a) ∷ [])

-- output [3:0] y; assign y = a; assign y[3:2] = a;
abbrev pub two_upper : List ModuleTree
two_upper =
    alone (a ∷ y ∷ []) (ins a ∷ declared kind.Output (range 3 0) y ∷ gets y (net a) ∷ assign (part y 3 2) (net a) ∷ [])

-- buf (y, y, a);
abbrev pub two_terminals : List ModuleTree
two_terminals = simple (primitive prim.Buf None (net y ∷ net y ∷ net a ∷ []) ∷ [])

-- assign y = a; m u(a, y);
abbrev pub assigned_output : List ModuleTree
assigned_output = over inverter (gets y (net a) ∷ of_two u (net a) (net y) ∷ [])

-- nothing
abbrev pub no_driver : List ModuleTree
no_driver = simple []

-- wire z; assign y = a & z;
abbrev pub open_wire : List ModuleTree
open_wire = simple (wired z ∷ gets y (and (net a) (net z)) ∷ [])

-- wire z; assign y = a;
abbrev pub unread : List ModuleTree
unread = simple (wired z ∷ gets y (net a) ∷ [])

-- m u(.y(y));
abbrev pub open_input : List ModuleTree
open_input = over inverter (instance m u (by_name (connect y (net y) ∷ [])) ∷ [])

-- m u(.a(), .y(y));
abbrev pub empty_connection : List ModuleTree
empty_connection =
    over inverter (instance m u (by_name (record { port = a; expr = None } ∷ connect y (net y) ∷ [])) ∷ [])

-- m u(.a(a)); assign y = a: nothing reads the inner output
abbrev pub open_output : List ModuleTree
open_output = over inverter (instance m u (by_name (connect a (net a) ∷ [])) ∷ gets y (net a) ∷ [])

-- reg q; assign y = a;
abbrev pub no_init : List ModuleTree
no_init = timed (reg q ∷ gets y (net a) ∷ [])

-- reg [1:0] q; initial q[0] = 1'h0; assign y = a;
abbrev pub half_begun : List ModuleTree
half_begun =
    timed (declared kind.Reg (range 1 0) q ∷ gets y (net a) ∷ initial (bit q 0) (record { size = 1; value = 0 }) ∷ [])

-- ---- costs

-- wires `0`, `1`, .. of one bit, each assigned c >> c, where c has 1,024 bits
abbrev pub shifts : ℕ → List ItemTree
shifts zero = []
shifts (suc n) = wired ((48 + n) ∷ []) ∷ gets ((48 + n) ∷ []) (binary bin.Shr (net c) (net c)) ∷ shifts n

abbrev pub shifted : ℕ → List ModuleTree
shifted n = simple (gets y (net a) ∷ declared kind.Wire (range 1023 0) c ∷ gets c (sized 1 0) ∷ shifts n)

-- or (y, a, a);
abbrev pub or_gate : List ModuleTree
or_gate = simple (primitive prim.Or None (net y ∷ net a ∷ net a ∷ []) ∷ [])

-- wire z; not (y, z, ~a);
abbrev pub not_gate : List ModuleTree
not_gate = simple (wired z ∷ primitive prim.Not None (net y ∷ net z ∷ unary un.Not (net a) ∷ []) ∷ [])

-- Designs of which two things are wrong, one after the other in the order of refusals. The later one often has the
-- earlier place. Where a body alone is written, t has an input a and an output y, each of one bit.
use Rattle.std.specs.Prelude.{List, [], ◌∷◌, ◌++◌, Some, codes}
use Rattle.eq_vparse.specs.declared.tree.DeclKind.TheVariants as kind
use Rattle.eq_vparse.specs.declared.tree.GateKind.TheVariants as prim
use Rattle.eq_verilog.specs.Trees.{net, bit, set, ItemTree, declared, primitive, always, ModuleTree}
use Rattle.eq_verilog.specs.samples.Writing.{a, c, y, z, q, t, u, m, clk, range, and, ins, wired, reg, gets, begun, of_two, unconnected, module_of, simple}
use Rattle.eq_verilog.specs.samples.Hierarchies.{inverter, over}
use Rattle.eq_verilog.specs.samples.Clocking.{timed, stored}
use Rattle.eq_verilog.specs.samples.Refused.{k, shifts}

-- two modules m, and no t
abbrev pub twice_without_top : List ModuleTree
twice_without_top = inverter ∷ inverter ∷ []

-- t u(); k z();
abbrev pub recursive_and_unknown : List ModuleTree
recursive_and_unknown = simple (unconnected t u ∷ unconnected k z ∷ [])

-- input a; t u();
abbrev pub twice_and_recursive : List ModuleTree
twice_and_recursive = simple (ins a ∷ unconnected t u ∷ [])

-- assign y = z; m u(); with wire z; wire z; in m
abbrev pub unknown_and_twice : List ModuleTree
unknown_and_twice = over (module_of m [] (wired z ∷ wired z ∷ [])) (gets y (net z) ∷ unconnected m u ∷ [])

-- assign a = y[3]; m u(); with assign z = z; in m
abbrev pub range_and_unknown : List ModuleTree
range_and_unknown = over (module_of m [] (gets z (net z) ∷ [])) (gets a (bit y 3) ∷ unconnected m u ∷ [])

-- assign a = y[3]; an input as target, and a select of a net without a range
abbrev pub target_and_range : List ModuleTree
target_and_range = simple (gets a (bit y 3) ∷ [])

-- assign a = a; m u(); with input y; assign y = y; in m
abbrev pub two_targets : List ModuleTree
two_targets = over (module_of m (y ∷ []) (ins y ∷ gets y (net y) ∷ [])) (unconnected m u ∷ gets a (net a) ∷ [])

-- and u(a);
abbrev pub terminal_and_target : List ModuleTree
terminal_and_target = simple (primitive prim.And (Some u) (net a ∷ []) ∷ [])

-- wire [1023:0] c; and two wires, each assigned c >> c: these cost too much
abbrev pub large_shifts : List ItemTree
large_shifts = declared kind.Wire (range 1023 0) c ∷ shifts 2

-- these, and u(y);
abbrev pub cost_and_terminal : List ModuleTree
cost_and_terminal = simple (large_shifts ++ primitive prim.And (Some u) (net y ∷ []) ∷ [])

-- these, wire \u.y ; m u(a, y);
abbrev pub clash_and_cost : List ModuleTree
clash_and_cost = over inverter (large_shifts ++ wired (codes "u.y") ∷ of_two u (net a) (net y) ∷ [])

-- wire \u.y ; assign y = a; m u(a, y);
abbrev pub drivers_and_clash : List ModuleTree
drivers_and_clash = over inverter (wired (codes "u.y") ∷ gets y (net a) ∷ of_two u (net a) (net y) ∷ [])

-- wire z, c; assign c = z, y = c, y = a;
abbrev pub undriven_and_drivers : List ModuleTree
undriven_and_drivers = simple (wired z ∷ wired c ∷ gets c (net z) ∷ gets y (net c) ∷ gets y (net a) ∷ [])

-- reg q; wire c; assign y = c;
abbrev pub no_init_and_undriven : List ModuleTree
no_init_and_undriven = simple (reg q ∷ wired c ∷ gets y (net c) ∷ [])

-- reg q; wire c; assign c = clk & a; always @(posedge c) q <= a; assign y = a;
abbrev pub clock_and_no_init : List ModuleTree
clock_and_no_init =
    timed (wired c ∷ gets c (and (net clk) (net a)) ∷ reg q ∷ always (net c) (set (net q) (net a)) ∷ gets y (net a)
    ∷ [])

-- q is set at clk, and reg z = 1'h0; always @(posedge c) z <= a; with assign c = clk & a;
abbrev pub data_and_clocks : List ModuleTree
data_and_clocks =
    stored (wired c ∷ gets c (and (net clk) (net a)) ∷ reg z ∷ begun z 1 0 ∷ always (net c) (set (net z) (net a)) ∷ [])

-- q is set at clk; wire c, z; assign c = c, z = clk & a;
abbrev pub loop_and_data : List ModuleTree
loop_and_data = stored (wired c ∷ gets c (net c) ∷ wired z ∷ gets z (and (net clk) (net a)) ∷ [])

-- wire z; assign z = z: a loop, and an output without driver
abbrev pub loop_and_undriven : List ModuleTree
loop_and_undriven = simple (wired z ∷ gets z (net z) ∷ [])

-- Modules and instances.
use Rattle.std.specs.Prelude.{ℕ, List, [], ◌∷◌, Some, None, codes}
use Rattle.eq_vparse.specs.declared.tree.DeclKind.TheVariants as kind
use Rattle.eq_vparse.specs.declared.tree.GateKind.TheVariants as prim
use Rattle.eq_vparse.specs.declared.tree.UnOp.TheVariants as un
use Rattle.eq_verilog.specs.Trees.{Name, ExprTree, net, bit, part, repeated, unary, choice, join_all, set, branch, in_sequence, by_order, by_name, ItemTree, declared, assign, primitive, instance, always, ModuleTree}
use Rattle.eq_verilog.specs.samples.Writing.{a, b, c, y, z, t, u, v, m, range, and, add, ins, outs, wired, gets, begun, connect, of_two, unconnected, module_of}

-- module t(y, b); assign y = z & b; input b; wire z; output y; reg [1:0] a; endmodule
abbrev pub used_before : ModuleTree
used_before = module_of t (y ∷ b ∷ [])
    (gets y (and (net z) (net b)) ∷ ins b ∷ wired z ∷ outs y ∷ declared kind.Reg (range 1 0) a ∷ [])

-- net number k
abbrev pub numbered : ℕ → ExprTree
numbered k = net (k ∷ [])

-- A mention at each place where a net may stand, in the order of their numbers:
-- module t(0); and (1, 2); m u(3, , 4); m u(.x(5)); assign {6, 7[0]} = 8 ? 9 + 10[1:0] : {2{~11}};
-- always @(posedge 12[0]) begin if (13) 14 <= 15; else 16 <= 17; end initial 18 = 1'h0; wire 19; endmodule
abbrev pub every_form : ModuleTree
every_form = module_of t ((0 ∷ []) ∷ [])
    (primitive prim.And None (numbered 1 ∷ numbered 2 ∷ [])
    ∷ instance m u (by_order (Some (numbered 3) ∷ None ∷ Some (numbered 4) ∷ []))
    ∷ instance m u (by_name (connect (20 ∷ []) (numbered 5) ∷ []))
    ∷ assign (join_all (numbered 6 ∷ bit (7 ∷ []) 0 ∷ []))
    (choice (numbered 8) (add (numbered 9) (part (10 ∷ []) 1 0)) (repeated 2 (join_all (unary un.Not (numbered 11)
    ∷ []))))
    ∷ always (bit (12 ∷ []) 0)
    (in_sequence (branch (numbered 13) (set (numbered 14) (numbered 15)) (set (numbered 16) (numbered 17)) ∷ []))
    ∷ begun (18 ∷ []) 1 0 ∷ wired (19 ∷ []) ∷ [])

-- module m(input a, output y); assign y = ~a; endmodule
abbrev pub inverter : ModuleTree
inverter = module_of m (a ∷ y ∷ []) (ins a ∷ outs y ∷ gets y (unary un.Not (net a)) ∷ [])

abbrev pub pair : Name
pair = codes "pair"

-- module pair(input a, output y); wire z; m u(a, z); m v(.y(y), .a(z)); endmodule
abbrev pub two_inverters : ModuleTree
two_inverters = module_of pair (a ∷ y ∷ [])
    (ins a ∷ outs y ∷ wired z ∷ of_two u (net a) (net z) ∷ instance m v (by_name (connect y (net y)
    ∷ connect a (net z) ∷ [])) ∷ [])

-- module t(input a, output y); pair u(.a(a), .y(y)); endmodule, before m and pair
abbrev pub nested : List ModuleTree
nested =
    module_of t (a ∷ y ∷ []) (ins a ∷ outs y ∷ instance pair u (by_name (connect a (net a) ∷ connect y (net y)
    ∷ [])) ∷ [])
    ∷ inverter ∷ two_inverters ∷ []

-- t with an input a, an output y and these items, above one other module
abbrev pub over : ModuleTree → List ItemTree → List ModuleTree
over inner items = module_of t (a ∷ y ∷ []) (ins a ∷ outs y ∷ items) ∷ inner ∷ []

-- output [2:0] y; m u(.a(a), .y(y));
abbrev pub widened : List ModuleTree
widened =
    module_of t (a ∷ y ∷ []) (ins a ∷ declared kind.Output (range 2 0) y ∷ of_two u (net a) (net y) ∷ [])
    ∷ inverter ∷ []

-- module t has instances of b and c, b of t and a
abbrev pub round_about : List ModuleTree
round_about = module_of a [] [] ∷ module_of c [] [] ∷ module_of b [] (unconnected t u ∷ unconnected a v ∷ [])
    ∷ module_of t [] (unconnected b u ∷ unconnected c v ∷ []) ∷ module_of z [] [] ∷ []

-- module m(input [1:0] a, output y); assign y = a[1]; endmodule, with m u({a}, y): the port's upper bit is 0
abbrev pub narrow : List ModuleTree
narrow = over (module_of m (a ∷ y ∷ []) (declared kind.Input (range 1 0) a ∷ outs y ∷ gets y (bit a 1) ∷ []))
    (of_two u (net a) (net y) ∷ [])

-- the same module with m u(a & a, y), in a context of two bits
abbrev pub narrow_sum : List ModuleTree
narrow_sum = over (module_of m (a ∷ y ∷ []) (declared kind.Input (range 1 0) a ∷ outs y ∷ gets y (bit a 1) ∷ []))
    (of_two u (and (net a) (net a)) (net y) ∷ [])

-- m u(a, y) with an escaped name of t that is the full name of a net of u: wire \u.y ;
abbrev pub clashing : List ModuleTree
clashing = over inverter (wired (codes "u.y") ∷ of_two u (net a) (net y) ∷ [])

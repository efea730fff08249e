-- Expressions over four nets: `[3:0] a`, `[3:0] b`, `[0:3] c` and `y`. Their bits are 0 to 3, 4 to 7, 8 to 11, and 12.
use Rattle.std.specs.Prelude.{ℕ, ◌+◌, ◌*◌, List, [], ◌∷◌, Option, None, if◌then◌else◌, bytes_eq, map}
use Rattle.eq_vparse.specs.declared.tree.BinOp.{BinOp}
use Rattle.eq_vparse.specs.declared.tree.UnOp.{UnOp}
use Rattle.eq_net.specs.Numbers.{number, digit}
use Rattle.eq_verilog.specs.Trees.{Name, Range, ExprTree, net, unary, binary}
use Rattle.eq_verilog.specs.Scopes.{Scope}
use Rattle.eq_verilog.specs.Expressions.{value, reads}
use Rattle.eq_verilog.specs.samples.Writing.{a, b, c, range}

abbrev pub range_among : Name → Option Range
range_among n =
    if bytes_eq n a then range 3 0 else if bytes_eq n b then range 3 0 else if bytes_eq n c then range 0 3 else None

abbrev pub four_nets : Scope
four_nets = record {
  range = range_among;
  first = λ n. if bytes_eq n a then 0 else if bytes_eq n b then 4 else if bytes_eq n c then 8 else 12;
}

-- the number that an expression gives in a context of w bits, where a has the first number and b the second
abbrev pub gives : ℕ → ExprTree → ℕ × ℕ → ℕ
gives w e p = number w (value four_nets (digit (p.0 + 16 * p.1)) e w)

-- what `a op b` gives in a context of five bits: for 11 and 2, for 5 and 5, and for 0 and 3
abbrev pub three_tries : BinOp → List ℕ
three_tries op = map (gives 5 (binary op (net a) (net b))) ((11, 2) ∷ (5, 5) ∷ (0, 3) ∷ [])

-- what `op a` gives in a context of five bits where a is 11, where it is 15, and where it is 0
abbrev pub unary_tries : UnOp → List ℕ
unary_tries op = map (gives 5 (unary op (net a))) ((11, 0) ∷ (15, 0) ∷ (0, 0) ∷ [])

-- the bits that position j of `a op b` reads in a context of five bits
abbrev pub binary_reads_at : ℕ → BinOp → List ℕ
binary_reads_at j op = reads four_nets (binary op (net a) (net b)) 5 j

abbrev pub unary_reads_at : ℕ → UnOp → List ℕ
unary_reads_at j op = reads four_nets (unary op (net a)) 5 j

-- Mirrors src/mentions.rt; nothing here has to be believed.
-- What is asked of each expression and each target of a module.
use Rattle.std.specs.Prelude.{Option, None, option_map}
use Rattle.std.specs.Option.{option_or}
use Rattle.eq_vparse.specs.declared.tree.Expr.{Expr}
use Rattle.eq_net.specs.Meaning.{if_there}
use Rattle.eq_verilog.specs.Trees.{Name, ExprTree, const, net, bit, part, empty, joined, repeated, unary, binary, choice, StmtTree, idle, set, sequence, branch, ModuleTree, expr_tree}
use Rattle.eq_verilog.specs.Declarations.{is_declared, has_direction, Whole, expression, target}
use Rattle.eq_verilog.specs.Firsts.{unless}
use Rattle.eq_verilog.specs.ModuleRefusals.{bad_range_in_whole}
use Rattle.eq_analysis.specs.declared.mentions.Question.{Question}
use Rattle.eq_analysis.specs.declared.mentions.Question.TheVariants.{IsDeclared, IsInRange}

-- the name, where it isn't declared
abbrev pub undeclared : ModuleTree → Name → Option Name
undeclared m n = unless (is_declared m n) n

-- the name, where it has no direction
abbrev pub undirected : ModuleTree → Name → Option Name
undirected m n = unless (has_direction m n) n

-- the first of an expression's names for which f answers
abbrev pub first_name : (Name → Option Name) → ExprTree → Option Name
first_name f (const c) = None
first_name f (net n) = f n
first_name f (bit n i) = f n
first_name f (part n l r) = f n
first_name f empty = None
first_name f (joined a b) = option_or (first_name f a) (first_name f b)
first_name f (repeated n a) = first_name f a
first_name f (unary op a) = first_name f a
first_name f (binary op a b) = option_or (first_name f a) (first_name f b)
first_name f (choice c a b) = option_or (first_name f c) (option_or (first_name f a) (first_name f b))

-- the name that answers the question, if the expression or target fails it
abbrev pub answer : Question → ModuleTree → Whole → Option Name
answer IsDeclared m (expression e) = first_name (undeclared m) e
answer IsDeclared m (target t) = first_name (undeclared m) t
answer IsInRange m w = bad_range_in_whole m w

-- the same of what is connected
abbrev pub maybe_answer : Question → ModuleTree → Option Expr → Option Name
maybe_answer q m o = if_there None (λ (e : ExprTree). answer q m (expression e)) (option_map expr_tree o)

-- the first answer in a statement
abbrev pub stmt_answer : (Whole → Option Name) → StmtTree → Option Name
stmt_answer f idle = None
stmt_answer f (set t e) = option_or (f (target t)) (f (expression e))
stmt_answer f (sequence a b) = option_or (stmt_answer f a) (stmt_answer f b)
stmt_answer f (branch c a b) = option_or (f (expression c)) (option_or (stmt_answer f a) (stmt_answer f b))

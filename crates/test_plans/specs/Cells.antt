-- Netlists made by hand from a list of cells, each of which has a word.
use Rattle.std.specs.Prelude.{ℕ, zero, suc, ◌-◌, List, [], ◌∷◌, ◌++◌, Bool, false, nat_lt, length, fold, map, if◌then◌else◌, slice_index_or}
use Rattle.eq_net.specs.declared.types.NetInfo.{NetInfo}
use Rattle.eq_net.specs.declared.types.Dir.{Dir}
use Rattle.eq_net.specs.declared.types.Dir.TheVariants.{Inner, Input as InputPort, Output as OutputPort}
use Rattle.eq_net.specs.declared.types.Driver.{Driver}
use Rattle.eq_net.specs.declared.types.Driver.TheVariants.{Input, Expr, Reg}
use Rattle.eq_net.specs.declared.types.WordOp.TheVariants as op
use Rattle.eq_net.specs.Tree.{Tree, binary, choice, const, negated}
use Rattle.eq_net.specs.Decided.{is_net}
use Rattle.test_series.specs.Lists.{listed}
use Rattle.test_series.specs.Stages.{all_bits}
use Rattle.test_plans.specs.declared.types.Draft.{Draft}
use Rattle.test_plans.specs.declared.types.Arg.{Arg}
use Rattle.test_plans.specs.declared.types.Arg.TheVariants as arg
use Rattle.test_plans.specs.declared.types.Form.{Form}
use Rattle.test_plans.specs.declared.types.Form.TheVariants as form
use Rattle.test_plans.specs.declared.types.Cell.{Cell}
use Rattle.test_plans.specs.Chains.{design}
use Rattle.test_plans.specs.Designs.{none, with_port}

abbrev pub arg_of : Arg → Tree
arg_of (arg.Bits bits) = const bits.now
arg_of (arg.Net net width) = all_bits width net
arg_of (arg.Not net width) = negated (all_bits width net)
arg_of (arg.Sum net width bits) = binary op.Add (all_bits width net) (const bits.now)

abbrev pub word_of : Form → Tree
word_of (form.One a) = arg_of a
word_of (form.Two o a b) = binary o (arg_of a) (arg_of b)
word_of (form.NotTwo o a b) = negated (binary o (arg_of a) (arg_of b))
word_of (form.Choice c a b) = choice (arg_of c) (arg_of a) (arg_of b)

abbrev pub net_of : Cell → NetInfo
net_of c = record {
  name = c.name.now;
  left = c.width - 1;
  right = 0;
  ranged = nat_lt 1 c.width;
  dir = c.dir;
  auto = c.auto;
}

-- what drives a bit of a cell, whose word this is
abbrev pub driver_of : Dir → Bool → ℕ → ℕ → Driver
driver_of InputPort register word bit = Input
driver_of Inner register word bit = if register then Reg false word bit else Expr word bit
driver_of OutputPort register word bit = if register then Reg false word bit else Expr word bit

abbrev pub with_cell : Draft → Cell → Draft
with_cell d c = record {
  nets = d.nets ++ net_of c ∷ [];
  drivers = d.drivers ++ listed (driver_of c.dir c.register (length d.nets)) c.width;
  ports = with_port c.dir (length d.nets) d.ports;
}

abbrev pub draft_of : List Cell → Draft
draft_of cells = fold with_cell none cells

abbrev pub words_of : List Cell → List Tree
words_of cells = map (λ (c : Cell). word_of c.word) cells

-- the ranks of the bits, of which registers have the lowest, and those of the words

abbrev pub ranks_of : List ℕ → Cell → List ℕ
ranks_of ranks c = ranks ++ listed (λ j. if c.register then 0 else c.rank) c.width

abbrev pub rank_at : List Cell → ℕ → ℕ
rank_at cells b = slice_index_or (fold ranks_of [] cells) b 0

abbrev pub top_at : List Cell → ℕ → ℕ
top_at cells k = slice_index_or (map (λ (c : Cell). c.rank) cells) k 0

abbrev pub is_good : List Cell → Bool
is_good cells = is_net (rank_at cells) (top_at cells) (design (draft_of cells) (words_of cells))

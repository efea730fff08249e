-- What the names of an instance mean among the nets of the design: its own nets stand one behind the other from net `from`
-- on, in the order of the table of its module's names.
use Rattle.std.specs.Prelude.{ℕ, ◌+◌, List}
use Rattle.eq_names.specs.Tables.{number_of}
use Rattle.eq_net.specs.declared.types.NetInfo.{NetInfo}
use Rattle.eq_net.specs.Meaning.{if_there}
use Rattle.eq_net.specs.Net.{net_at, offset}
use Rattle.eq_net.specs.Nets.{range_of}
use Rattle.eq_verilog.specs.Trees.{Name}
use Rattle.eq_verilog.specs.Scopes.{Scope}

-- the net of a name. A name that the table doesn't have counts as the instance's first net, and whoever
-- goes from here to another scope owes that both say the same of it (`SameNames`)
unfoldable pub net_in : List Name → ℕ → Name → ℕ
net_in names from n = if_there from (λ k. from + k) (number_of names n)

abbrev pub scope_of : List NetInfo → List Name → ℕ → Scope
scope_of nets names from = record {
  range = λ n. range_of (net_at nets (net_in names from n));
  first = λ n. offset nets (net_in names from n);
}

-- The nets and bits of a whole design, in order: nets by instance, then by first mention; bits by net, then by position
-- (IEEE 1364-2005, 12.5: the full name of a net goes through the instances).
use Rattle.std.specs.Fmt.{decimal}
use Rattle.std.specs.Prelude.{ℕ, ◌+◌, List, [], ◌∷◌, ◌++◌, if◌then◌else◌, Option, Some, None, map, flat_map, bytes_eq}
use Rattle.eq_model.specs.Nets.{Dir, inner, Net, net_width, at_bit}
use Rattle.eq_net.specs.Automatic.{is_automatic}
use Rattle.eq_verilog.specs.Trees.{Name, Range, ModuleTree}
use Rattle.eq_verilog.specs.Scopes.{Scope, index_at}
use Rattle.eq_verilog.specs.Declarations.{range_of, dir_of, nets_in, regs_in}
use Rattle.eq_verilog.specs.Hierarchy.{Path}

-- a direction as seen from the whole design, where this is the prefix of its path. What is inside the top has none
abbrev pub dir_at : Name → Dir → Dir
dir_at [] d = d
dir_at (c ∷ cs) d = inner

-- a net of a path, known by its full name. Whether a tool made up its name is told by its own name
abbrev pub net_at : Path → Name → Net
net_at p n = record {
  name = p.prefix ++ n;
  range = range_of p.of n;
  dir = dir_at p.prefix (dir_of p.of n);
  automatic = is_automatic n;
}

abbrev pub nets_at : Path → List Net
nets_at p = map (net_at p) (nets_in p.of)

abbrev pub nets_of : List Path → List Net
nets_of ps = flat_map nets_at ps

-- the full names of the regs
abbrev pub regs_at : Path → List Name
regs_at p = map (λ n. p.prefix ++ n) (regs_in p.of)

abbrev pub regs_of : List Path → List Name
regs_of ps = flat_map regs_at ps

abbrev pub full_names : List Net → List Name
full_names nets = map (λ (n : Net). n.name) nets

-- ---- bits

-- the number of the first bit of the net with this full name
abbrev pub offset : List Net → Name → ℕ
offset [] n = 0
offset (m ∷ ms) n = if bytes_eq n m.name then 0 else net_width m + offset ms n

-- `[i]` with the declared index of a position, where the net has a range
abbrev pub index_text : Option Range → ℕ → List ℕ
index_text None p = []
index_text (Some r) p = 0x5B ∷ (decimal (index_at r p) ++ 0x5D ∷ [])

-- the name of bit b: its net's full name, and its index
abbrev pub bit_name : List Net → ℕ → Name
bit_name nets b = at_bit [] (λ n p. n.name ++ index_text n.range p) nets b

-- what the own names of a path mean among these nets
abbrev pub scope_at : List Net → Path → Scope
scope_at nets p = record {
  range = range_of p.of;
  first = λ n. offset nets (p.prefix ++ n);
}

-- a module as if it were the whole design
abbrev pub alone : ModuleTree → Path
alone m = record { prefix = []; of = m }

abbrev pub module_scope : ModuleTree → Scope
module_scope m = scope_at (nets_at (alone m)) (alone m)

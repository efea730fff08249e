-- The design that elaboration makes of a top module: all instances flattened into one system of bits (IEEE 1364-2005,
-- 12.8).
use Rattle.std.specs.Prelude.{ℕ, List, [], ◌∷◌, Bool, false, ◌&&◌, ◌||◌, if◌then◌else◌, Option, None, is_none, option_map, unwrap_or}
use Rattle.eq_model.specs.Nets.{Net, total_width, at_bit}
use Rattle.eq_model.specs.Run.{Design}
use Rattle.eq_model.specs.System.{Driver, input, undriven, equation, register, System}
use Rattle.eq_vparse.specs.declared.tree.Source.{Source}
use Rattle.eq_net.specs.Meaning.{if_there}
use Rattle.eq_verilog.specs.Trees.{Name, ModuleTree, modules_of}
use Rattle.eq_verilog.specs.Declarations.{has, comes_in, goes_out}
use Rattle.eq_verilog.specs.Hierarchy.{paths, module_named}
use Rattle.eq_verilog.specs.Expressions.{wire}
use Rattle.eq_verilog.specs.Nets.{nets_of, regs_of}
use Rattle.eq_verilog.specs.Equations.{Equation, equations_of, driving, copied}
use Rattle.eq_verilog.specs.Clocks.{end_of}
use Rattle.eq_verilog.specs.Registers.{Process, Initial, processes_of, initials_of, begins, following}

-- all that the instance paths of a design have, in order
pub record Flat : Type 0 where
  pub nets : List Net
  -- the full names of the regs
  pub regs : List Name
  pub equations : List Equation
  pub processes : List Process
  pub initials : List Initial

abbrev pub flat_of : List ModuleTree → Name → Flat
flat_of all top =
    let ps = paths all top in
    let nets = nets_of ps in
    record {
      nets = nets;
      regs = regs_of ps;
      equations = equations_of all nets ps;
      processes = processes_of nets ps;
      initials = initials_of nets ps;
    }

-- ---- drivers

abbrev pub size : Flat → ℕ
size f = total_width f.nets

abbrev pub is_reg_bit : Flat → ℕ → Bool
is_reg_bit f b = at_bit false (λ n p. has f.regs n.name) f.nets b

abbrev pub is_input_bit : Flat → ℕ → Bool
is_input_bit f b = at_bit false (λ n p. comes_in n.dir) f.nets b

abbrev pub is_output_bit : Flat → ℕ → Bool
is_output_bit f b = at_bit false (λ n p. goes_out n.dir) f.nets b

-- a bit of a reg is a register; a bit of an input of the top comes from outside; any other has its equation, or nothing
abbrev pub driver_of : Flat → ℕ → Driver
driver_of f b =
    if is_reg_bit f b then register (unwrap_or (begins f.initials b) false) (following f.processes b)
    else if is_input_bit f b then input
    else if_there undriven equation (driving f.equations b)

abbrev pub system_of : Flat → System
system_of f = record { bits = size f; driver = driver_of f }

-- ---- plain copies and the clock

-- the bit of which bit b is a plain copy
abbrev pub copy_of : Flat → ℕ → Option ℕ
copy_of f b = if is_reg_bit f b || is_input_bit f b then None else copied f.equations b

-- where copies lead from bit b. In a ring of copies they lead nowhere
abbrev pub ends : Flat → ℕ → Option ℕ
ends f b = end_of (copy_of f) (size f) b

-- the bit at whose edge an always item runs: the selected one, or that at position 0 of the net
abbrev pub event_bit : Process → Option ℕ
event_bit p = wire p.scope p.event 0

abbrev pub event_end : Flat → Process → Option ℕ
event_end f p = if_there None (ends f) (event_bit p)

-- the bit of an input of the top that has no range
abbrev pub may_be_clock : Flat → ℕ → Bool
may_be_clock f b = at_bit false (λ n p. comes_in n.dir && is_none n.range) f.nets b

-- where the event of the first always item ends. Where there is no always item there is no clock
abbrev pub first_end : Flat → List Process → Option ℕ
first_end f [] = None
first_end f (p ∷ ps) = event_end f p

abbrev pub clock_bit : Flat → Option ℕ
clock_bit f = first_end f f.processes

-- ---- the design

abbrev pub name_at : Flat → ℕ → Name
name_at f b = at_bit [] (λ n p. n.name) f.nets b

abbrev pub design_of_flat : Flat → List Name → Design
design_of_flat f ports = record {
  system = system_of f;
  nets = f.nets;
  ports = ports;
  clock = option_map (name_at f) (clock_bit f);
  copy_of = copy_of f;
}

-- the design of a module in these modules, with its ports in the order of its header
abbrev pub design_of : List ModuleTree → Name → Design
design_of all top = design_of_flat (flat_of all top) (if_there [] (λ m. m.ports) (module_named all top))

-- the design of the top in these sources
abbrev pub elaborated : List Source → Name → Design
elaborated sources top = design_of (modules_of sources) top

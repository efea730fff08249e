-- What the call that compares ports is to answer.
use Rattle.std.specs.Prelude.{◌≡◌, Result, Ok, Err, None, Some}
use Rattle.eq_model.specs.Run.{Design}
use Rattle.eq_net.specs.declared.net.Net.{Net as Netlist}
use Rattle.eq_net.specs.Net.{design_of as meaning_of}
use Rattle.eq_net.specs.Whole.{parts_of}
use Rattle.eq_marks.specs.declared.ports.PortErr.{PortErr}
use Rattle.eq_marks.specs.declared.ports.PortErr.TheVariants as port
use Rattle.eq_marks.specs.Ports.{port_fault}

-- the design that a netlist stands for
abbrev pub meaning : Netlist → Design
meaning net = meaning_of (parts_of net)

-- Nothing is wrong with the ports, or this is the first thing. Want of memory says nothing
abbrev pub ComparesPorts : Design → Design → Result (Unit {0}) PortErr → Type 0
ComparesPorts gold gate (Ok _) = port_fault gold gate ≡ None
ComparesPorts gold gate (Err port.Memory) = Unit {0}
ComparesPorts gold gate (Err e) = port_fault gold gate ≡ Some e

-- Designs that are one point apart don't agree.
use Rattle.std.proofs.Common.{◌≡◌, ◌<◌, true, false, ◌==◌, None, refl, arith, ap}
use Rattle.eq_model.specs.System.{Values, undriven, equation, register}
use Rattle.eq_model.specs.Nets.{at_bit}
use Rattle.eq_model.specs.Agreement.{SameExpr, SameDesign}
use Rattle.eq_model.specs.Table.{design}
use Rattle.eq_model.specs.Examples.{conjunction}
use Rattle.eq_model.specs.DesignExamples.{driven, both_high, one_high, never_high, never_high_of_a, renamed, ranged, turned_inside, made_up, turned_ports, clocked_by_a, copies_of_a, one_bit_more}

-- expressions

reads_told : SameExpr never_high never_high_of_a → ⊥
reads_told h = (let c = (h.reads 0).1 (0, omega arith, refl) in let lt : c.0 < 0 = c.1 in absurd (omega arith))

-- a is 1 and b is 0
abbrev a_alone : Values
a_alone b = b == 0

value_told : SameExpr both_high one_high → ⊥
value_told h = (let e : false ≡ true = h.value a_alone in cc)

-- designs

pub bits_told : SameDesign (design conjunction) one_bit_more → ⊥
bits_told h = (let e = h.system.bits in omega arith)

pub kind_told : SameDesign (driven undriven) (driven (equation never_high)) → ⊥
kind_told h = h.system.drivers 2 (omega arith)

pub initial_told : SameDesign (driven (register false both_high)) (driven (register true both_high)) → ⊥
initial_told h = (let e : false ≡ true = (h.system.drivers 2 (omega arith)).0 in cc)

pub equation_reads_told : SameDesign (driven (equation never_high)) (driven (equation never_high_of_a)) → ⊥
equation_reads_told h = reads_told (h.system.drivers 2 (omega arith))

pub equation_value_told : SameDesign (driven (equation both_high)) (driven (equation one_high)) → ⊥
equation_value_told h = value_told (h.system.drivers 2 (omega arith))

pub next_reads_told : SameDesign (driven (register false never_high)) (driven (register false never_high_of_a)) → ⊥
next_reads_told h = reads_told (h.system.drivers 2 (omega arith)).1

pub next_value_told : SameDesign (driven (register false both_high)) (driven (register false one_high)) → ⊥
next_value_told h = value_told (h.system.drivers 2 (omega arith)).1

pub name_told : SameDesign (design conjunction) renamed → ⊥
name_told h = (let e = h.nets in cc)

pub range_told : SameDesign (design conjunction) ranged → ⊥
range_told h = (let e = ap (λ nets. at_bit None (λ n place. n.range) nets 2) h.nets in cc)

pub dir_told : SameDesign (design conjunction) turned_inside → ⊥
dir_told h = (let e = h.nets in cc)

pub automatic_told : SameDesign (design conjunction) made_up → ⊥
automatic_told h = (let e = ap (λ nets. at_bit false (λ n place. n.automatic) nets 2) h.nets in cc)

pub ports_told : SameDesign (design conjunction) turned_ports → ⊥
ports_told h = (let e = h.ports in cc)

pub clock_told : SameDesign (design conjunction) clocked_by_a → ⊥
clock_told h = (let e = h.clock in cc)

pub copies_told : SameDesign (design conjunction) copies_of_a → ⊥
copies_told h = (let e = h.copies 0 (omega arith) in cc)

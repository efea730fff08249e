use Rattle.std.proofs.Common.{◌≡◌, List, None, IfOk, OnOk, subst, sym}
use Rattle.eq_net.specs.declared.types.NetInfo.{NetInfo}
use Rattle.eq_net.specs.Net.{bits_of, AreWords}
use Rattle.eq_net.specs.Tree.{trees_of as words_of}
use Rattle.eq_verilog.specs.BitRefusals.{has_two_drivers}
use Rattle.eq_verilog.specs.Firsts.{first_below}
use Rattle.eq_drivers.specs.Telling.{Tell}
use Rattle.eq_drivers.specs.Wiring.{AreTold}
use Rattle.eq_layout.specs.Layout.{design_in}
use Rattle.eq_elab.proofs.Checked.{bits_same, none_below}
use Rattle.eq_elab.proofs.Steps.{if_ok_on}
use Rattle.eq_elab.proofs.wiring.drivers_of.Goals as goal

pub returns-clause-wired : goal.returns-clause-wired
returns-clause-wired c =
    let l = c.args.layout.now in
    let nets = l.flat.nets.items in
    let f = design_in l c.args.top.now in
    let old = words_of c.args.words.now in
    let new = words_of c.drivers.new.words in
    let same = sym c.deref.ensures.value in
    let tell = subst (λ (ns : List NetInfo). Tell ns old f c.args.slots.now) same c.requires.tell in
    let none = subst (λ (ns : List NetInfo). first_below (bits_of ns) (has_two_drivers f) ≡ None) same
    (none_below f (bits_of nets) (has_two_drivers f) c.requires.single (bits_same nets f c.requires.tell.nets_are)) in
    let told = subst (λ (ns : List NetInfo). IfOk c.drivers.result (λ ds. AreTold ns new f ds.items))
    c.deref.ensures.value (c.drivers.ensures.ok f tell c.requires.regs none) in
    if_ok_on c.drivers.result
    (λ ds are t. record { words_are = are; told = t })
    (subst (λ (ns : List NetInfo). OnOk c.drivers.result (AreWords ns new)) c.deref.ensures.value c.drivers.ensures.words)
    told

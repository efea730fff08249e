-- A net stands for a design.
use Rattle.std.proofs.Common.{◌≡◌, ℕ, List, length, refl, sym, subst}
use Rattle.eq_model.specs.System.{IsExpr, IsDriver, IsSystem, IsInput}
use Rattle.eq_model.specs.Run.{IsDesign}
use Rattle.eq_net.specs.declared.types.NetInfo.{NetInfo}
use Rattle.eq_net.specs.declared.types.Driver.{Driver}
use Rattle.eq_net.specs.declared.types.Driver.TheVariants.{Input, Undriven, Expr as WordOf, Reg}
use Rattle.eq_net.specs.Tree.{Tree}
use Rattle.eq_net.specs.Net.{AreWords, Parts, IsNet, bits_of, number_of, driver_at, equation_of, source_of, system_of, design_of}
use Rattle.eq_net.proofs.Bounded.{table_below}
use Rattle.eq_net.proofs.Follows.{table_follows}
use Rattle.eq_net.proofs.NetNames.{names_apart, ports_apart, port_to, port_from, clock_named}

equation_is : (nets : List NetInfo) (words : List Tree) → AreWords nets words → (w j : ℕ) → IsExpr (bits_of nets) (equation_of nets words w j)
equation_is nets words are w j = record {
  bounded = table_below nets words are (length words) w j;
  respects = λ v u agree. table_follows v u (number_of nets) nets words are (length words) w j agree;
}

source_is : (nets : List NetInfo) (words : List Tree) → AreWords nets words → (d : Driver) → IsDriver (bits_of nets) (source_of nets words d)
source_is nets words are Input = tt
source_is nets words are Undriven = tt
source_is nets words are (WordOf w j) = equation_is nets words are w j
source_is nets words are (Reg init w j) = equation_is nets words are w j

pub words_make_a_system : (n : Parts) → AreWords n.nets n.words → IsSystem (system_of n)
words_make_a_system n are b lt = source_is n.nets n.words are (driver_at n b)

pub from_outside : (nets : List NetInfo) (words : List Tree) (d : Driver) → IsInput (source_of nets words d) → d ≡ Input
from_outside nets words Input h = refl
from_outside nets words Undriven h = absurd h
from_outside nets words (WordOf w j) h = absurd h
from_outside nets words (Reg init w j) h = absurd h

pub is_outside : (nets : List NetInfo) (words : List Tree) (d : Driver) → d ≡ Input → IsInput (source_of nets words d)
is_outside nets words d e = (let P : Driver → Type 0 = λ x. IsInput (source_of nets words x) in subst P (sym e) tt)

pub net_is_design : (n : Parts) → IsNet n → IsDesign (design_of n)
net_is_design n is = record {
  drivers = words_make_a_system n is.words_read;
  widths = refl;
  names = names_apart n.nets is.names;
  inputs = λ b lt. ((λ h. (is.inputs b lt).0 (from_outside n.nets n.words (driver_at n b) h)), (λ h. is_outside n.nets n.words (driver_at n b) ((is.inputs b lt).1 h)));
  ports_once = ports_apart n.nets is.names n.ports is.ports_apart is.ports_are;
  ports = λ name. (port_to n.nets n.ports is.ports_are name, port_from n.nets n.ports is.all_ports name);
  clocked = clock_named n.nets n.clock is.clocked;
}

pub net_is_system : (n : Parts) → IsNet n → IsSystem (system_of n)
net_is_system n is = words_make_a_system n is.words_read

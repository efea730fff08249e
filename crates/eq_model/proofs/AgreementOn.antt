-- Agreement is transitive, and what agreeing designs have in common.
use Rattle.std.proofs.Common.{◌≡◌, ℕ, arith, ap, ◌∙◌, None, false}
use Rattle.eq_model.specs.System.{Expr, Driver, input, undriven, equation, register, System}
use Rattle.eq_model.specs.Nets.{at_bit}
use Rattle.eq_model.specs.Run.{Design, key, dir, range, automatic}
use Rattle.eq_model.specs.Agreement.{SameExpr, SameDriver, SameSystem, SameDesign}
use Rattle.eq_model.proofs.Agreement.{key_same, dir_same}

expr_on : (e f g : Expr) → SameExpr e f → SameExpr f g → SameExpr e g
expr_on e f g h i = record {
  reads = λ b. ((λ c. (i.reads b).0 ((h.reads b).0 c)), (λ c. (h.reads b).1 ((i.reads b).1 c)));
  value = λ v. h.value v ∙ i.value v;
}

driver_on : (d e f : Driver) → SameDriver d e → SameDriver e f → SameDriver d f
driver_on input input input h i = tt
driver_on undriven undriven undriven h i = tt
driver_on (equation a) (equation b) (equation c) h i = expr_on a b c h i
driver_on (register x a) (register y b) (register z c) h i = (h.0 ∙ i.0, expr_on a b c h.1 i.1)
driver_on input input _ h i = absurd i
driver_on undriven undriven _ h i = absurd i
driver_on (equation a) (equation b) _ h i = absurd i
driver_on (register x a) (register y b) _ h i = absurd i
driver_on _ _ _ h i = absurd h

pub system_on : (s t u : System) → SameSystem s t → SameSystem t u → SameSystem s u
system_on s t u h i = record {
  bits = h.bits ∙ i.bits;
  drivers = λ b lb.
      let e = h.bits in
      driver_on (s.driver b) (t.driver b) (u.driver b) (h.drivers b lb) (i.drivers b (omega arith));
}

pub design_on : (d e f : Design) → SameDesign d e → SameDesign e f → SameDesign d f
design_on d e f h i = record {
  system = system_on d.system e.system f.system h.system i.system;
  nets = h.nets ∙ i.nets;
  ports = h.ports ∙ i.ports;
  clock = h.clock ∙ i.clock;
  copies = λ b lb. h.copies b lb ∙ i.copies b (let e = h.system.bits in omega arith);
}

-- each bit has the same name and place, direction, range and origin of its name
pub bit_same : (d e : Design) → SameDesign d e → (b : ℕ) → (key d b ≡ key e b) × (dir d b ≡ dir e b) ×
    (range d b ≡ range e b) × (automatic d b ≡ automatic e b)
bit_same d e same b = (
  key_same d e same b,
  dir_same d e same b,
  ap (λ nets. at_bit None (λ n place. n.range) nets b) same.nets,
  ap (λ nets. at_bit false (λ n place. n.automatic) nets b) same.nets,
)

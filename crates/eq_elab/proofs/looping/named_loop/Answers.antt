use Rattle.std.proofs.Common.{ℕ, List, All, map, ap, subst, sym, ◌∙◌}
use Rattle.eq_names.specs.declared.BitName.{BitName}
use Rattle.eq_net.specs.Net.{number_of, HasBit}
use Rattle.eq_net.specs.Nets.{net_of}
use Rattle.eq_verilog.specs.Nets.{bit_name}
use Rattle.eq_elab.specs.inner.Naming.{name_at}
use Rattle.eq_elab.proofs.LoopNames.{names_there, numbers_back}
use Rattle.eq_elab.proofs.looping.named_loop.Goals as goal

pub returns : goal.returns
returns c =
    let nets = c.args.nets.now in
    let bits = c.args.bits.now in
    let all = c.in_ok-all.all.items in
    let is = c.in_ok-cycle.ensures ∙ ap (λ (ns : List BitName). map (name_at ns) bits) c.deref.ensures.value in
    record {
      there = subst (λ (ns : List BitName). All (HasBit nets) ns) (sym is)
          (names_there nets all c.in_ok-all.ensures bits c.requires.there);
      numbers = ap (λ (ns : List BitName). map (number_of nets) ns) is
          ∙ numbers_back nets all c.in_ok-all.ensures bits c.requires.there;
      first = c.in_ok-name.ensures ∙ ap (λ (b : ℕ). bit_name (map net_of nets) b) c.first_of.ensures;
    }

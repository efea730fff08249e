use Rattle.std.proofs.Common.{ℕ, List, Some, ap, sym, ◌∙◌}
use Rattle.std.specs.Prelude.{find, bytes_eq}
use Rattle.eq_model.specs.Nets.{Net}
use Rattle.eq_net.specs.declared.types.NetInfo.{NetInfo}
use Rattle.eq_net.specs.Nets.{net_of}
use Rattle.eq_net.specs.Net.{nets_of}
use Rattle.eq_marks.proofs.HeaderLemmas.{found_net}
use Rattle.eq_marks.proofs.headers.port_named.Goals as goal

pub returns-in-Some : goal.returns-in-Some
returns-in-Some c =
    let net = c.args.net.now in
    ap (λ (m : NetInfo). Some (net_of m)) c.net_at.ensures
    ∙ sym (found_net net.nets net.is_net.names c.in-Some.k c.in-Some.ensures.there)
    ∙ ap (λ (n : List ℕ). find (λ (m : Net). bytes_eq n m.name) (nets_of net.nets)) c.in-Some.ensures.named

use Rattle.eq_model.specs.Cut.{Base, Step}
use Rattle.eq_model.specs.Kind.{proved}
use Rattle.eq_net.specs.Net.{system_of}
use Rattle.eq_part.specs.Plans.{plan_of}
use Rattle.eq_compose.proofs.Provings.{kind_shown}
use Rattle.eq_compose.proofs.laws.a_proved_part_never_differs.Goals as goal

pub returns : goal.returns
returns c gold gate plan q part depth k denotes is_kind =
    let p = plan_of gold gate plan in
    let s = system_of gold in
    let h = system_of gate in
    kind_shown (Base s h p (p.holds q)) (Step s h p (p.holds q)) depth k
    ((c.queries.ensures.kind s h p (p.holds q) part denotes depth (proved k)).1 is_kind)

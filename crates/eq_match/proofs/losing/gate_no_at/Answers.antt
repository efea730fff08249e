use Rattle.std.proofs.Common.{sym, ◌∙◌}
use Rattle.eq_match.proofs.Losses.{partner_within}
use Rattle.eq_match.proofs.losing.gate_no_at.Goals as goal

pub is_partner_named-requires-clause-within : goal.is_partner_named-requires-clause-within
is_partner_named-requires-clause-within c p is =
    partner_within _ _ c.args.table.now.partners.items c.args.table.now.owners.items c.requires.table c.args.k p
    (sym c.partner.ensures ∙ is)

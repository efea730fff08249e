use Rattle.std.proofs.Common.{◌≡◌, List, [], ◌∷◌, ◌++◌, get_or, ap, ◌∙◌}
use Rattle.std.proofs.lemmas.List.{get_or_read}
use Rattle.std.proofs.lemmas.Result.{on_ok_weaker}
use Rattle.eq_cdcl.specs.declared.watches.Watch.{Watch}
use Rattle.eq_cdcl.proofs.Listed.{added_set}
use Rattle.eq_cdcl.proofs.watches.add.Goals as goal

pub returns : goal.returns
returns c =
    let lists = c.args.lists.now.items in
    let at = c.args.at in
    let w = c.args.watch in
    let old = c.index_mut-list.result.now in
    let new = c.push.new.self in
    let read : old ≡ get_or lists at [] = get_or_read lists at old c.requires c.index_mut-list.ensures.value [] in
    on_ok_weaker c.push.result (λ is. added_set lists at w new c.requires (is ∙ ap (λ (ws : List Watch). ws ++ w ∷ []) read)) c.push.ensures.ok

use Rattle.std.proofs.Common.{ℕ, ◌<◌, List, length, refl, sym, subst}
use Rattle.std.specs.List.{All}
use Rattle.std.proofs.lemmas.Result.{IfOk-weaker}
use Rattle.eq_match.specs.Leaders.{AreByKeys}
use Rattle.eq_part.proofs.GroupStart.{keys_below, start_classes}
use Rattle.eq_part.proofs.starting.start.Goals as goal

pub by_keys-requires-clause-within : goal.by_keys-requires-clause-within
by_keys-requires-clause-within c =
    subst (λ (keys : List ℕ). All (λ k. k < length c.args.pairs.now) keys) (sym c.as_slice.ensures.value)
    (keys_below c.args.pairs.now c.args.groups.now c.requires.apart c.in_ok-keys.keys.items c.in_ok-keys.ensures _ refl)

pub returns-clause-groups : goal.returns-clause-groups
returns-clause-groups c = IfOk-weaker c.by_keys.result _ _
    (λ leaders by. start_classes c.args.pairs.now c.args.groups.now c.requires.apart c.in_ok-keys.keys.items c.in_ok-keys.ensures leaders
    (subst (λ keys. AreByKeys keys leaders) c.as_slice.ensures.value by)) c.by_keys.ensures.keys

use Rattle.std.proofs.Common.{◌≡◌, ℕ, ◌<◌, ◌+◌, List, [], ◌∷◌, ◌++◌, Option, Some, length, set, get_or, arith, sym, refl, ap, subst, ◌∙◌}
use Rattle.std.proofs.Math.ListN.{length-set}
use Rattle.eq_match.specs.inner.Leading.{AreFirsts, first_at, first_or}
use Rattle.eq_match.proofs.Firsts.{all_by_keys, one_more}
use Rattle.eq_match.proofs.classes.Classes.by_keys.Goals as goal

stepped : (keys : List ℕ) (n : ℕ) (firsts now : List (Option ℕ)) (leaders more : List ℕ) (first : ℕ) → n < length keys →
    AreFirsts keys n firsts leaders → get_or keys n 0 < length firsts → first ≡ first_or (first_at firsts (get_or keys n 0)) n →
    now ≡ set firsts (get_or keys n 0) (Some first) → more ≡ leaders ++ first ∷ [] → AreFirsts keys (n + 1) now more
stepped keys n firsts now leaders more first less is within found kept pushed =
    subst (λ f. AreFirsts keys (n + 1) f more) (sym (kept ∙ ap (λ x. set firsts (get_or keys n 0) (Some x)) found))
    (subst (λ m. AreFirsts keys (n + 1) (set firsts (get_or keys n 0) (Some (first_or (first_at firsts (get_or keys n 0)) n))) m)
    (sym (pushed ∙ ap (λ x. leaders ++ x ∷ []) found)) (one_more keys n firsts leaders (get_or keys n 0) is refl within))

pub loop-position-preserved : goal.loop-position-preserved
loop-position-preserved c =
    let within = c.requires.within c.loop-position.position 0 in
    let bound = c.loop-position.invariant.bound in
    let kept = c.first_of.ensures.kept in
    record {
      firsts = stepped _ _ _ _ _ _ _ (omega arith) c.loop-position.invariant.firsts (omega arith) c.first_of.ensures.found
          c.first_of.ensures.kept c.in_ok-push.ensures.ok;
      bound = ap length kept ∙ length-set c.loop-position.firsts.items _ _ ∙ bound;
    }

pub returns-clause-keys : goal.returns-clause-keys
returns-clause-keys c =
    let ended : c.loop-position.position ≡ length c.args.keys.now = omega arith in
    all_by_keys _ _ _ (subst (λ n. AreFirsts c.args.keys.now n c.loop-position.firsts.items c.loop-position.leaders) ended
    c.loop-position.invariant.firsts)

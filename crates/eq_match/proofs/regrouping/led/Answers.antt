use Rattle.std.proofs.Common.{◌≡◌, ℕ, ◌<◌, ◌+◌, List, Bool, not, ◌&&◌, ◌||◌, length, set, get_or, arith, sym, ap, subst, ◌∙◌}
use Rattle.std.proofs.Math.ListN.{length-set}
use Rattle.std.proofs.lemmas.List.{get_or_default}
use Rattle.eq_match.specs.declared.types.Pair.{Pair}
use Rattle.eq_match.specs.Groups.{is_held}
use Rattle.eq_match.specs.Leaders.{leader_at}
use Rattle.eq_match.specs.Pairs.{no_pair}
use Rattle.eq_match.specs.inner.Keys.{AreLed}
use Rattle.eq_model.specs.Frames.{values}
use Rattle.eq_match.proofs.Regrouped.{led_more}
use Rattle.eq_match.proofs.regrouping.led.Goals as goal

stepped : (leaders : List ℕ) (pairs : List Pair) (hits : List Bool) (n : ℕ) (d : Pair) (marks now : List Bool) (on : Bool) →
    n < length pairs → length marks ≡ length leaders →
    AreLed leaders (λ j. is_held pairs j && values hits j) n marks → on ≡ (not (get_or pairs n d).input && values hits n) →
    now ≡ set marks (leader_at leaders n) (on || values marks (leader_at leaders n)) →
    AreLed leaders (λ j. is_held pairs j && values hits j) (n + 1) now
stepped leaders pairs hits n d marks now on inside count led is_on now_is =
    subst (AreLed leaders (λ j. is_held pairs j && values hits j) (n + 1)) (sym now_is)
    (led_more leaders (λ j. is_held pairs j && values hits j) n marks count led on
    (is_on ∙ ap (λ p. not p.input && values hits n) (get_or_default pairs n d no_pair inside)))

pub loop-position-preserved : goal.loop-position-preserved
loop-position-preserved c =
    let same = c.requires.pairs in
    record {
      count = ap length c.mark.ensures ∙ length-set c.loop-position.marks.items _ _ ∙ c.loop-position.invariant.count;
      led = stepped c.args.leaders.now c.args.pairs.now c.args.hits.now c.loop-position.position _ _ _ _ (omega arith)
          c.loop-position.invariant.count c.loop-position.invariant.led c.is_led-on.ensures c.mark.ensures;
    }

use Rattle.std.proofs.Common.{subst, sym, ap, ◌∙◌}
use Rattle.eq_cdcl.specs.inner.Assignment.{Assignment}
use Rattle.eq_cdcl.specs.inner.Sound.{IsSound}
use Rattle.eq_cdcl.specs.inner.Found.{IsQuiet, Finds}
use Rattle.eq_cdcl.specs.inner.Propagating.{IsAtEnd}
use Rattle.eq_cdcl.specs.inner.Watched.{Watching}
use Rattle.eq_cdcl.specs.declared.trail.Reason.TheVariants.{Decision}
use Rattle.eq_cdcl.proofs.Sounds.{sound_extended}
use Rattle.eq_cdcl.proofs.Staying.{watched_extended}
use Rattle.eq_cdcl.proofs.search.search.Goals as goal

pub loop-number-preserved : goal.loop-number-preserved
loop-number-preserved c =
    let known = c.args.known.now in
    let a = c.propagate.new.trail in
    let w = c.propagate.new.watches in
    let is = c.in_ok-assign-in-Some.ensures.ok in
    let P : Assignment → Type 0 = λ b. IsSound known b in
    let Q : Assignment → Type 0 = λ b. Watching known b w in
    let quiet : IsQuiet known a.lits = subst (Finds known a.lits) c.in-Settled.is c.in_ok-number.ensures.found in
    let end = subst (IsAtEnd a w) c.in-Settled.is c.in_ok-number.ensures.end in
    let sound = c.in_ok-number.ensures.sound in
    record {
      sound = subst P (sym is) (sound_extended known a c.in-Some.l Decision sound c.in-Some.ensures.within c.in-Some.ensures.no_value quiet.settled);
      watching = subst Q (sym is) (watched_extended known a c.in-Some.l Decision w.head w.pairs.items w.lists.items sound.same (λ e. end) c.in_ok-number.ensures.watching);
      size = ap (λ (b : Assignment). b.size) is ∙ c.in_ok-number.ensures.size ∙ c.loop-number.invariant.size;
    }

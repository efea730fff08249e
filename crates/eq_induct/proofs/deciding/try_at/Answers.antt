use Rattle.std.proofs.Common.{◌≡◌, ◌≤◌, List, ℕ, slice_get, Some, arith, refl, sym, ap, subst, ◌∙◌}
use Rattle.std.proofs.lemmas.Bool.{false≢true}
use Rattle.std.proofs.lemmas.Option.{slice_get-get_or}
use Rattle.eq_config.specs.declared.config.Strategy.{Strategy}
use Rattle.eq_config.specs.declared.limits.TheConstants.{MOST_CONFLICTS}
use Rattle.eq_induct.specs.declared.types.Try.{Try}
use Rattle.eq_induct.specs.Attempts.{IsUsable, learned}
use Rattle.eq_induct.specs.Outcome.{Applies}
use Rattle.eq_induct.proofs.TryLemmas.{added, attempt_counted, passed_over}
use Rattle.eq_induct.proofs.deciding.try_at.Goals as goal
use Rattle.eq_induct.proofs.deciding.try_at.Goals.{After-applies}

-- the strategy is the one of this number
here : (c : After-applies) → slice_get c.args.s.now c.args.n ≡ Some c.index-s-n.result
here c = slice_get-get_or c.args.s.now c.args.n c.index-s-n.result c.requires.there ∙ ap Some (sym c.index-s-n.is)

pub returns-then-not-applies : goal.returns-then-not-applies
returns-then-not-applies c =
    let x = c.index-s-n.result in
    let P : List ℕ → Type 0 = λ name. Applies name x in
    passed_over c.args.part.now c.args.s.now c.args.n c.args.decided.now c.requires.tried x
    (here (goal.at.returns-then-not-applies c).After-applies)
    (λ applies. false≢true (c.if-not-applies.ensures.1 (subst P (sym c.bytes.ensures.bytes) applies)))

pub add-requires-clause-counted : goal.add-requires-clause-counted
add-requires-clause-counted c =
    let s = c.index-s-n.result in
    attempt_counted c.args.part.now s.depth s.conflicts c.in_ok-attempt.attempt c.in_ok-attempt.ensures.ok

pub returns : goal.returns
returns c =
    let part = c.args.part.now in
    let strategies = c.args.s.now in
    let n = c.args.n in
    let x = c.index-s-n.result in
    let P : List ℕ → Type 0 = λ name. Applies name x in
    let Q : Strategy → Type 0 = λ s. IsUsable part s in
    let applies = subst P c.bytes.ensures.bytes (c.if-not-applies.ensures.0 refl) in
    let there = here (goal.at.returns c).After-applies in
    let usable = subst Q (sym c.index-s-n.is) (c.requires.usable n x c.requires.there) in
    let most = usable.few_conflicts in
    let is = c.in_ok-attempt.ensures.ok in
    let budget = is.budget in
    let few : learned c.in_ok-attempt.attempt.asked ≤ MOST_CONFLICTS = omega arith in
    let t : Try = record { strategy = n; attempt = c.in_ok-attempt.attempt } in
    added part strategies n c.args.decided.now c.requires.tried t refl (x, there, applies, is) few c.add.result
    c.add.new.decided c.add.ensures.added c.add.ensures.ends

use Rattle.std.proofs.Common.{◌≡◌, ◌++◌, ◌∷◌, [], List, ℕ, length, arith, ◌∙◌, ap, subst}
use Rattle.eq_proof.specs.Literal.{Literal}
use Rattle.eq_proof.specs.Sets.{IsFalsified}
use Rattle.eq_cdcl.proofs.Counting.{opens_nothing}
use Rattle.eq_cdcl.proofs.Marks.{falsified_places, number_within, same_number, conflict_open}
use Rattle.eq_cdcl.proofs.Resolving.{resolved_start}
use Rattle.eq_cdcl.proofs.analysis.Analysis.begin.Goals as goal

pub numbered-requires-clause-within : goal.numbered-requires-clause-within
numbered-requires-clause-within c = number_within c.args.known.now c.args.conflict c.requires.conflict.0 c.requires.conflict.1

pub numbered-requires-clause-from_one : goal.numbered-requires-clause-from_one
numbered-requires-clause-from_one c = c.requires.conflict.1.0

pub mark_all-more-requires-clause-variables : goal.mark_all-more-requires-clause-variables
mark_all-more-requires-clause-variables c =
    let P : List Literal → Type 0 = IsFalsified c.args.trail.now.lits in
    let falsified = subst P (same_number c.args.known.now c.args.conflict c.requires.conflict.0 c.numbered.result.now c.requires.conflict.1 c.numbered.ensures) c.requires.conflict.2 in
    falsified_places c.args.trail.now.lits c.numbered.result.now c.len.result (omega (arith, c.len.ensures.value)) falsified

pub returns-clause-resolved : goal.returns-clause-resolved
returns-clause-resolved c =
    let P : List Literal → Type 0 = IsFalsified c.args.trail.now.lits in
    let lits = c.args.trail.now.lits in
    let falsified = subst P (same_number c.args.known.now c.args.conflict c.requires.conflict.0 c.numbered.result.now c.requires.conflict.1 c.numbered.ensures) c.requires.conflict.2 in
    let marks = rw c.len.ensures.value at c.mark_all-more.ensures.marks in
    let ants : c.push.new.self.items ≡ c.args.conflict ∷ [] = c.in_ok-push.ensures.items ∙ ap (λ (ns : List ℕ). ns ++ c.args.conflict ∷ []) c.requires.ants in
    rw ants (resolved_start c.args.known.now lits c.args.self.now.marks c.mark_all-more.new.marks c.args.conflict c.numbered.result.now c.requires.room c.requires.clear c.numbered.ensures falsified marks)

pub returns-clause-counted : goal.returns-clause-counted
returns-clause-counted c =
    let count = rw c.len.ensures.value at c.mark_all-more.ensures.counted in
    let none = opens_nothing c.args.self.now.marks c.args.start (length c.args.trail.now.lits) c.requires.clear in
    omega (arith, count, none)

pub returns-clause-some : goal.returns-clause-some
returns-clause-some c = λ decision.
    let P : List Literal → Type 0 = IsFalsified c.args.trail.now.lits in
    let falsified = subst P (same_number c.args.known.now c.args.conflict c.requires.conflict.0 c.numbered.result.now c.requires.conflict.1 c.numbered.ensures) c.requires.conflict.2 in
    let marks = rw c.len.ensures.value at c.mark_all-more.ensures.marks in
    let count = returns-clause-counted c in
    let some = conflict_open c.args.known.now c.args.trail.now c.args.conflict c.args.start c.numbered.result.now c.args.self.now.marks c.mark_all-more.new.marks c.requires.sound c.numbered.ensures falsified marks decision in
    omega (arith, count, some)

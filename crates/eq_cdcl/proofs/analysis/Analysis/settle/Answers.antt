use Rattle.std.proofs.Common.{◌≡◌, List, ℕ, sym, ap, subst, set, false}
use Rattle.eq_cdcl.specs.inner.Asserting.{Keeps}
use Rattle.eq_cdcl.specs.inner.Resolved.{IsResolved}
use Rattle.eq_cdcl.proofs.Resolving.{resolved_skip, resolved_kept, on_both}
use Rattle.eq_cdcl.proofs.analysis.Analysis.settle.Goals as goal

pub returns-then-not-is_marked-clause-resolved : goal.returns-then-not-is_marked-clause-resolved
returns-then-not-is_marked-clause-resolved c =
    resolved_skip c.args.known.now c.args.trail.now.lits c.args.place c.args.self.now.marks c.args.self.now.kept c.args.self.now.ants.items c.requires.resolved (sym c.if-not-is_marked.ensures)

pub returns-in-Decision-clause-resolved : goal.returns-in-Decision-clause-resolved
returns-in-Decision-clause-resolved c =
    let lits = c.args.trail.now.lits in
    let old = c.args.self.now in
    let new = c.keep.new.self in
    let P : List ℕ → Type 0 = λ ants. IsResolved c.args.known.now lits c.args.place new.marks new.kept ants in
    let ants : old.ants.items ≡ new.ants.items = ap (λ v. v.items) (sym c.keep.ensures.ants) in
    let f : Keeps lits c.args.place old.kept new.kept → new.marks ≡ set old.marks c.args.place false → P new.ants.items = λ keeps is.
    subst P ants (resolved_kept c.args.known.now lits c.args.place old.marks new.marks old.kept new.kept old.ants.items c.requires.resolved keeps is) in
    on_both c.keep.result f c.keep.ensures.kept c.keep.ensures.marks

pub returns-then-root-place-clause-resolved : goal.returns-then-root-place-clause-resolved
returns-then-root-place-clause-resolved c =
    let lits = c.args.trail.now.lits in
    let old = c.args.self.now in
    let new = c.keep-then-root-place.new.self in
    let P : List ℕ → Type 0 = λ ants. IsResolved c.args.known.now lits c.args.place new.marks new.kept ants in
    let ants : old.ants.items ≡ new.ants.items = ap (λ v. v.items) (sym c.keep-then-root-place.ensures.ants) in
    let f : Keeps lits c.args.place old.kept new.kept → new.marks ≡ set old.marks c.args.place false → P new.ants.items = λ keeps is.
    subst P ants (resolved_kept c.args.known.now lits c.args.place old.marks new.marks old.kept new.kept old.ants.items c.requires.resolved keeps is) in
    on_both c.keep-then-root-place.result f c.keep-then-root-place.ensures.kept c.keep-then-root-place.ensures.marks

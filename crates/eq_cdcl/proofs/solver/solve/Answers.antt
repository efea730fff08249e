use Rattle.std.proofs.Common.{◌≡◌, ℕ, [], ◌+◌, ◌-◌, ◌≤◌, List, Bool, false, length, sym, ap, subst, ◌∙◌, arith}
use Rattle.std.proofs.Math.ListN.{replicate}
use Rattle.std.proofs.lemmas.List.{length-replicate}
use Rattle.std.proofs.lemmas.Result.{IfOk-weaker}
use Rattle.eq_proof.specs.Satisfying.{SatisfiesAll}
use Rattle.eq_proof.specs.Derivation.{AllDerive, EndsEmpty}
use Rattle.eq_cdcl.specs.Answer.{IfSat, IfUnsat, IfSpent}
use Rattle.eq_cdcl.specs.inner.Assignment.{Assignment}
use Rattle.eq_cdcl.specs.Halting.{value_in}
use Rattle.eq_cdcl.specs.Logged.{FreshBelow}
use Rattle.eq_cdcl.specs.inner.Answering.{IsAnswer}
use Rattle.eq_cdcl.specs.inner.Watched.{IsWatched}
use Rattle.eq_cdcl.proofs.Answered as said
use Rattle.eq_cdcl.proofs.Attaching.{watched_none}
use Rattle.eq_cdcl.proofs.Logging.{clear_start}
use Rattle.eq_cdcl.proofs.solver.solve.Goals as goal

pub begin-requires-clause-trail : goal.begin-requires-clause-trail
begin-requires-clause-trail c = c.in_ok-trail.ensures

pub begin-requires-clause-watching : goal.begin-requires-clause-watching
begin-requires-clause-watching c =
    let watches = c.in_ok-watches.watches in
    let P : Assignment → Type 0 = λ a. IsWatched [] a watches.head watches.pairs.items watches.lists.items in
    let Q : ℕ → Type 0 = λ n. IsWatched [] (record { size = c.args.f.now.vars + 1; lits = []; reasons = [] }) n watches.pairs.items watches.lists.items in
    let e = c.in_ok-watches.ensures in
    let len = e.len in
    subst P (sym c.in_ok-trail.ensures) (subst Q (sym e.head) (watched_none (c.args.f.now.vars + 1) watches.pairs.items watches.lists.items e.pairs (omega arith) e.lists))

pub begin-requires-clause-clear : goal.begin-requires-clause-clear
begin-requires-clause-clear c = clear_start (c.args.f.now.vars + 1) c.in_ok-marks.marks c.in_ok-marks.ensures

pub begin-requires-clause-room : goal.begin-requires-clause-room
begin-requires-clause-room c =
    let size = ap (λ (b : Assignment). b.size) c.in_ok-trail.ensures in
    let marks : c.in_ok-marks.marks ≡ replicate (c.args.f.now.vars + 1) false = c.in_ok-marks.ensures in
    ap (λ (m : List Bool). length m) marks ∙ length-replicate (c.args.f.now.vars + 1) false ∙ sym size

pub returns-clause-sat_len : goal.returns-clause-sat_len
returns-clause-sat_len c =
    let clauses = c.args.f.now.clauses in
    let vars = c.args.f.now.vars in
    let budget = c.args.budget in
    IfOk-weaker c.begin.result (IsAnswer clauses vars budget) (λ s. IfSat s (λ bits. length bits ≡ vars)) (said.sat_len clauses vars budget) c.begin.ensures

pub returns-clause-sat_satisfies : goal.returns-clause-sat_satisfies
returns-clause-sat_satisfies c =
    let clauses = c.args.f.now.clauses in
    let vars = c.args.f.now.vars in
    let budget = c.args.budget in
    IfOk-weaker c.begin.result (IsAnswer clauses vars budget) (λ s. IfSat s (λ bits. SatisfiesAll (value_in bits) clauses)) (said.sat_satisfies clauses vars budget) c.begin.ensures

pub returns-clause-unsat_derives : goal.returns-clause-unsat_derives
returns-clause-unsat_derives c =
    let clauses = c.args.f.now.clauses in
    let vars = c.args.f.now.vars in
    let budget = c.args.budget in
    IfOk-weaker c.begin.result (IsAnswer clauses vars budget) (λ s. IfUnsat s (λ log. AllDerive clauses log)) (said.unsat_derives clauses vars budget) c.begin.ensures

pub returns-clause-unsat_ends : goal.returns-clause-unsat_ends
returns-clause-unsat_ends c =
    let clauses = c.args.f.now.clauses in
    let vars = c.args.f.now.vars in
    let budget = c.args.budget in
    IfOk-weaker c.begin.result (IsAnswer clauses vars budget) (λ s. IfUnsat s (λ log. EndsEmpty log)) (said.unsat_ends clauses vars budget) c.begin.ensures

pub returns-clause-unsat_fresh : goal.returns-clause-unsat_fresh
returns-clause-unsat_fresh c =
    let clauses = c.args.f.now.clauses in
    let vars = c.args.f.now.vars in
    let budget = c.args.budget in
    IfOk-weaker c.begin.result (IsAnswer clauses vars budget) (λ s. IfUnsat s (λ log. FreshBelow clauses log (length log - 1))) (said.unsat_fresh clauses vars budget) c.begin.ensures

pub returns-clause-unsat_within : goal.returns-clause-unsat_within
returns-clause-unsat_within c =
    let clauses = c.args.f.now.clauses in
    let vars = c.args.f.now.vars in
    let budget = c.args.budget in
    IfOk-weaker c.begin.result (IsAnswer clauses vars budget) (λ s. IfUnsat s (λ log. length log ≤ budget + 1)) (said.unsat_within clauses vars budget) c.begin.ensures

pub returns-clause-spent_derives : goal.returns-clause-spent_derives
returns-clause-spent_derives c =
    let clauses = c.args.f.now.clauses in
    let vars = c.args.f.now.vars in
    let budget = c.args.budget in
    IfOk-weaker c.begin.result (IsAnswer clauses vars budget) (λ s. IfSpent s (λ log. AllDerive clauses log)) (said.spent_derives clauses vars budget) c.begin.ensures

pub returns-clause-spent_fresh : goal.returns-clause-spent_fresh
returns-clause-spent_fresh c =
    let clauses = c.args.f.now.clauses in
    let vars = c.args.f.now.vars in
    let budget = c.args.budget in
    IfOk-weaker c.begin.result (IsAnswer clauses vars budget) (λ s. IfSpent s (λ log. FreshBelow clauses log (length log))) (said.spent_fresh clauses vars budget) c.begin.ensures

pub returns-clause-spent_exact : goal.returns-clause-spent_exact
returns-clause-spent_exact c =
    let clauses = c.args.f.now.clauses in
    let vars = c.args.f.now.vars in
    let budget = c.args.budget in
    IfOk-weaker c.begin.result (IsAnswer clauses vars budget) (λ s. IfSpent s (λ log. length log ≡ budget)) (said.spent_exact clauses vars budget) c.begin.ensures

use Rattle.std.proofs.Common.{◌+◌, ◌<◌, ◌^◌, subst, sym}
use Rattle.eq_wit.specs.declared.state.State.{State}
use Rattle.eq_wit.specs.declared.types.WitKind.TheVariants as kind
use Rattle.eq_wit.specs.inner.Counting.{HasCounts, conflicts_at}
use Rattle.eq_wit.specs.inner.Items.{Judges}
use Rattle.eq_wit.specs.inner.Judging.{IsFaulty}
use Rattle.eq_wit.specs.inner.Standing.{Stands}
use Rattle.eq_wit.proofs.FollowLemmas.{ended_faulty, few_left, frames_due, from_two, regs_may, steps_due}
use Rattle.eq_wit.proofs.SameLines.{few_steps}
use Rattle.eq_wit.proofs.following.advance.Goals as goal

pub next_node-requires : goal.next_node-requires
next_node-requires c = subst Stands c.in-Nodes.is c.requires.stands

pub next_output-requires : goal.next_output-requires
next_output-requires c = subst Stands c.in-Outputs.is c.requires.stands

pub next_query-requires-clause-stands : goal.next_query-requires-clause-stands
next_query-requires-clause-stands c = subst Stands c.in-Queries.is c.requires.stands

pub next_query-requires-clause-counts : goal.next_query-requires-clause-counts
next_query-requires-clause-counts c = subst (λ (s : State). HasCounts s c.args.room.now.counts) c.in-Queries.is c.requires.counts

pub regs-requires-clause-may : goal.regs-requires-clause-may
regs-requires-clause-may c = regs_may c.in-Regs.tally c.in-Regs.attempt c.in-Regs.query c.in-Regs.k
    (subst Stands c.in-Regs.is c.requires.stands)

pub regs-requires-clause-counts : goal.regs-requires-clause-counts
regs-requires-clause-counts c = subst (λ (s : State). HasCounts s c.args.room.now.counts) c.in-Regs.is c.requires.counts

pub frame-requires : goal.frame-requires
frame-requires c = frames_due c.in-Frames.tally c.in-Frames.attempt c.in-Frames.query c.in-Frames.k c.in-Frames.run' c.in-Frames.left
    (subst Stands c.in-Frames.is c.requires.stands)

pub one_step-requires-clause-some : goal.one_step-requires-clause-some
one_step-requires-clause-some c = steps_due c.in-Steps.tally c.in-Steps.attempt c.in-Steps.query c.in-Steps.k c.in-Steps.steps
    (subst Stands c.in-Steps.is c.requires.stands)

pub one_step-requires-clause-first : goal.one_step-requires-clause-first
one_step-requires-clause-first c = from_two c.in-Steps.tally c.in-Steps.attempt c.in-Steps.query c.in-Steps.k c.in-Steps.steps
    (subst Stands c.in-Steps.is c.requires.stands)

pub one_step-requires-clause-numbers : goal.one_step-requires-clause-numbers
one_step-requires-clause-numbers c = few_steps c.in-Steps.tally c.in-Steps.attempt c.in-Steps.query c.in-Steps.k c.in-Steps.steps
    (subst Stands c.in-Steps.is c.requires.stands)

pub one_step-requires-clause-few : goal.one_step-requires-clause-few
one_step-requires-clause-few c = few_left c.in-Steps.tally c.in-Steps.attempt c.in-Steps.query c.in-Steps.k c.in-Steps.steps
    (subst Stands c.in-Steps.is c.requires.stands)

pub one_step-requires-clause-conflicts : goal.one_step-requires-clause-conflicts
one_step-requires-clause-conflicts c = subst (λ (s : State). conflicts_at s + 1 < 2 ^ 64) c.in-Steps.is c.requires.few

pub returns-in-Titled-clause-judges : goal.returns-in-Titled-clause-judges
returns-in-Titled-clause-judges c = subst (λ (s : State). Judges s c.args.room.now.words c.titled.result) (sym c.in-Titled.is)
    c.titled.ensures

pub returns-in-Named-clause-judges : goal.returns-in-Named-clause-judges
returns-in-Named-clause-judges c = subst (λ (s : State). Judges s c.args.room.now.words c.named.result) (sym c.in-Named.is)
    c.named.ensures

pub returns-in-Inputs-clause-judges : goal.returns-in-Inputs-clause-judges
returns-in-Inputs-clause-judges c = subst (λ (s : State). Judges s c.args.room.now.words c.next_input.result) (sym c.in-Inputs.is)
    c.next_input.ensures

pub returns-in-Nodes-clause-judges : goal.returns-in-Nodes-clause-judges
returns-in-Nodes-clause-judges c = subst (λ (s : State). Judges s c.args.room.now.words c.next_node.result) (sym c.in-Nodes.is)
    c.next_node.ensures

pub returns-in-Outputs-clause-judges : goal.returns-in-Outputs-clause-judges
returns-in-Outputs-clause-judges c = subst (λ (s : State). Judges s c.args.room.now.words c.next_output.result) (sym c.in-Outputs.is)
    c.next_output.ensures

pub returns-in-Tries-clause-judges : goal.returns-in-Tries-clause-judges
returns-in-Tries-clause-judges c = subst (λ (s : State). Judges s c.args.room.now.words c.next_try.result) (sym c.in-Tries.is)
    c.next_try.ensures

pub returns-in-Queries-clause-judges : goal.returns-in-Queries-clause-judges
returns-in-Queries-clause-judges c = subst (λ (s : State). Judges s c.args.room.now.words c.next_query.result) (sym c.in-Queries.is)
    c.next_query.ensures.judges

pub returns-in-Queries-clause-kept : goal.returns-in-Queries-clause-kept
returns-in-Queries-clause-kept c = subst (λ (s : State). HasCounts s c.next_query.new.counts) (sym c.in-Queries.is)
    c.next_query.ensures.kept

pub returns-in-Regs-clause-judges : goal.returns-in-Regs-clause-judges
returns-in-Regs-clause-judges c = subst (λ (s : State). Judges s c.args.room.now.words c.regs.result) (sym c.in-Regs.is)
    c.regs.ensures.judges

pub returns-in-Regs-clause-kept : goal.returns-in-Regs-clause-kept
returns-in-Regs-clause-kept c = subst (λ (s : State). HasCounts s c.regs.new.counts) (sym c.in-Regs.is)
    c.regs.ensures.kept

pub returns-in-Frames-clause-judges : goal.returns-in-Frames-clause-judges
returns-in-Frames-clause-judges c = subst (λ (s : State). Judges s c.args.room.now.words c.frame.result) (sym c.in-Frames.is)
    c.frame.ensures

pub returns-in-Steps-clause-judges : goal.returns-in-Steps-clause-judges
returns-in-Steps-clause-judges c = subst (λ (s : State). Judges s c.args.room.now.words c.one_step.result) (sym c.in-Steps.is)
    c.one_step.ensures

pub returns-in-Closing-clause-judges : goal.returns-in-Closing-clause-judges
returns-in-Closing-clause-judges c = subst (λ (s : State). Judges s c.args.room.now.words c.closing.result) (sym c.in-Closing.is)
    c.closing.ensures

pub returns-clause-judges : goal.returns-clause-judges
returns-clause-judges c = subst (λ (s : State). IsFaulty s c.args.room.now.words kind.End) (sym c.in-Ended.is)
    (ended_faulty _ _)

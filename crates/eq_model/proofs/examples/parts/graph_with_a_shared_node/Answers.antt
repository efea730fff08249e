use Rattle.eq_model.proofs.GraphTrials.{shared_follows, initial_refused, given_refused, high_refused}
use Rattle.eq_model.proofs.examples.parts.graph_with_a_shared_node.Goals as goal

pub returns-clause-follows : goal.returns-clause-follows
returns-clause-follows c = shared_follows

pub returns-clause-initial : goal.returns-clause-initial
returns-clause-initial c = initial_refused

pub returns-clause-given : goal.returns-clause-given
returns-clause-given c = given_refused

pub returns-clause-high : goal.returns-clause-high
returns-clause-high c = high_refused

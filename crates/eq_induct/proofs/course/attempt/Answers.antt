use Rattle.eq_induct.proofs.course.attempt.Goals as goal

pub returns-clause-says : goal.returns-clause-says
returns-clause-says c =
    let s = c.args.s.now in
    c.an_attempt_is_induction.ensures c.args.part.now s.depth s.conflicts
    (record { asked = c.run.new.self.asked; end = c.in_ok-end.end }) c.in_ok-end.ensures

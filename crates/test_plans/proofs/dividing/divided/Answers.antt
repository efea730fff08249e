use Rattle.test_plans.proofs.dividing.divided.Goals as goal

pub divide-requires-clause-fits : goal.divide-requires-clause-fits
divide-requires-clause-fits c = (c.templates_fit.ensures c.args.config.now c.requires.config).partitions

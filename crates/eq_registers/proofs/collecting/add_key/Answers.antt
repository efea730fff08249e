use Rattle.std.proofs.Common.{sym, ◌∙◌}
use Rattle.eq_registers.proofs.Added.{key_new, key_there}
use Rattle.eq_registers.proofs.collecting.add_key.Goals as goal

pub returns-then-has_key : goal.returns-then-has_key
returns-then-has_key c = λ nets there number keyed.
    key_there nets c.args.keys.now c.args.bit (sym c.has_key.ensures ∙ c.if-has_key.true) keyed

pub returns-in_ok-add_new : goal.returns-in_ok-add_new
returns-in_ok-add_new c = λ nets there number keyed.
    key_new nets c.args.keys.now c.add_new.new.keys c.args.name c.args.bit (sym c.has_key.ensures ∙ c.if-has_key.false)
    c.in_ok-add_new.ensures.bits c.in_ok-add_new.ensures.names c.in_ok-add_new.ensures.places there number keyed

use Rattle.std.proofs.Common.{◌≡◌, ◌/◌, ◌^◌}
use Rattle.eq_net.specs.Numbers.{digit}
use Rattle.eq_flatten.specs.Forms.{numbered}
use Rattle.eq_flatten.proofs.forms.digits.Given as goal

abbrev pub invariant-loop : goal.invariant-loop
invariant-loop l = (l.bits ≡ numbered (digit l.fn.constant.value) l.counter) × (l.rest ≡ l.fn.constant.value / 2 ^
    l.counter)

use Rattle.std.proofs.Common.{◌<◌, List, [], ◌∷◌, ◌++◌, length, sym, subst, arith}
use Rattle.eq_cdcl.specs.inner.Listing.{IsOneLess}
use Rattle.eq_cdcl.specs.declared.watches.Watch.{Watch}
use Rattle.eq_cdcl.proofs.Listed.{one_less_set, one_less_end}
use Rattle.eq_cdcl.proofs.watches.one_less.Goals as goal

pub returns-then-i-len : goal.returns-then-i-len
returns-then-i-len c =
    let rest = c.pop.new.self in
    let last = c.in-Some.last in
    let P : List Watch → Type 0 = λ old. IsOneLess old c.set.new.self c.args.i in
    let Q : List Watch → Type 0 = λ new. IsOneLess (rest ++ last ∷ []) new c.args.i in
    let below = c.if-i-len.true in
    let len = c.len.ensures in
    subst P (sym c.in-Some.ensures) (subst Q (sym c.set.ensures) (one_less_set rest last c.args.i (omega arith)))

pub returns-else-i-len : goal.returns-else-i-len
returns-else-i-len c =
    let rest = c.pop.new.self in
    let last = c.in-Some.last in
    let P : List Watch → Type 0 = λ old. IsOneLess old rest c.args.i in
    let past = c.if-i-len.false in
    let len = c.len.ensures in
    let L : List Watch → Type 0 = λ old. c.args.i < length old in
    subst P (sym c.in-Some.ensures) (one_less_end rest last c.args.i (omega arith) (subst L c.in-Some.ensures c.requires))

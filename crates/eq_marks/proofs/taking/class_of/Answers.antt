use Rattle.std.proofs.Common.{IfOk, List, Option, ℕ, Result, Ok, Err, refl, subst}
use Rattle.eq_net.specs.Tree.{trees_of}
use Rattle.eq_reads.specs.Graph.{bare}
use Rattle.eq_marks.specs.inner.Clocking.{IsClass}
use Rattle.eq_marks.proofs.TakingLemmas.{class_is}
use Rattle.eq_marks.proofs.taking.class_of.Goals as goal

if_ok : {T E : Type 0} {P Q : T → Type 0} (r : Result T E) → ((x : T) → P x → Q x) → IfOk r P → IfOk r Q
if_ok (Ok x) f h = f x h
if_ok (Err e) f h = h

pub returns : goal.returns
returns c =
    let n = bare c.args.nets.now (trees_of c.args.words.now) c.args.drivers.now in
    let clock = c.args.clock in
    let copies = c.in_ok-copies.copies.items in
    if_ok c.clock_class.result (λ class k.
    let C : List (Option ℕ) → Type 0 = λ cs. IsClass cs clock class.items in
    class_is n clock clock copies class.items c.in_ok-copies.ensures refl (subst C c.deref.ensures.value k))
    c.clock_class.ensures

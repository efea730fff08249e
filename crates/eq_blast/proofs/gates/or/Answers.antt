use Rattle.std.proofs.Common.{not, ◌&&◌, ◌||◌}
use Rattle.eq_blast.specs.inner.Growing.{Gives}
use Rattle.eq_blast.proofs.Growth.{gives_same, gives_still, or_by_and, through_two, with_both}
use Rattle.eq_blast.proofs.gates.or.Goals as goal

pub returns-clause-gives : goal.returns-clause-gives
returns-clause-gives c =
    let x = c.args.x in
    let y = c.args.y in
    let n1 = c.gate.new.builder in
    let n2 = c.gate-2.new.builder in
    let n3 = c.negated_and.new.builder in
    let a = c.in_ok-no_x.no_x in
    let b = c.in_ok-no_y.no_y in
    with_both c.negated_and.result (λ m. Gives n3 m (λ v. not (v a && v b)) (λ d. d a && d b)) (λ m. Gives n3 m (λ v. v x || v y) (λ d. d x && d y))
    (λ m grown i. gives_same n3 m (λ v. not (not (v x) && not (v y))) (λ d. d x && d y) (λ v. v x || v y) (λ d. d x && d y)
    (through_two n3 m a b (λ v. not (v x)) (λ d. d x) (λ v. not (v y)) (λ d. d y) (λ p q. not (p && q)) i
    (gives_still 2 n2 n3 grown a (λ v. not (v x)) (λ d. d x) (gives_still 1 n1 n2 c.in_ok-no_y.ensures.grown a (λ v. not (v x)) (λ d. d x) c.in_ok-no_x.ensures.gives))
    (gives_still 2 n2 n3 grown b (λ v. not (v y)) (λ d. d y) c.in_ok-no_y.ensures.gives))
    (λ v. or_by_and (v x) (v y)) (λ d h. h))
    c.negated_and.ensures.grown c.negated_and.ensures.gives

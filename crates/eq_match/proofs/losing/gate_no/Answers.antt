use Rattle.std.proofs.Common.{ℕ, ◌<◌, arith, length, subst, ◌≡◌}
use Rattle.eq_net.specs.Whole.{parts_of}
use Rattle.eq_match.specs.NetPairs.{IsPartnerNamed, Loses}
use Rattle.eq_match.specs.inner.Tables.{pairing_of}
use Rattle.eq_match.proofs.Losses.{all_lost}
use Rattle.eq_match.proofs.losing.gate_no.Goals as goal

pub returns-clause-pairs : goal.returns-clause-pairs
returns-clause-pairs c =
    let gate = parts_of c.args.gate.now in
    let old = c.args.table.now in
    let new = c.loop-k.table in
    let all : c.loop-k.k ≡ length c.args.gold.now.nets = (let a = c.loop-k-test.false in let b = c.loop-k.auto.k-end in
    let d = c.count-k-end.ensures in omega arith) in
    let P : ℕ → Type 0 = λ n. Loses (λ (i : ℕ). (i < n) × IsPartnerNamed gate c.args.pattern.now (pairing_of
    old.partners.items i))
    (pairing_of old.partners.items) (pairing_of new.partners.items) in
    all_lost _ _ old.partners.items new.partners.items old.owners.items gate c.args.pattern.now c.requires.table
    (subst P all c.loop-k.invariant.lost)

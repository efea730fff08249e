use Rattle.std.proofs.Common.{◌≡◌, ◌++◌, ◌∷◌, ◌+◌, [], ℕ, List, length, sym, ap, subst, ◌∙◌}
use Rattle.std.specs.Prelude.{All}
use Rattle.std.proofs.lemmas.List.{length_push}
use Rattle.std.proofs.lemmas.List.Elements.{All-push}
use Rattle.eq_proof.specs.Literal.{Literal}
use Rattle.eq_proof.specs.Inference.{Inference}
use Rattle.eq_proof.specs.Assigned.{AllBelow}
use Rattle.eq_proof.specs.Derivation.{IsDerivation}
use Rattle.eq_proof.specs.Fresh.{IsFresh}
use Rattle.eq_cdcl.specs.inner.Assignment.{Assignment}
use Rattle.eq_cdcl.specs.inner.Knowledge.{known_of, IsLogged}
use Rattle.eq_cdcl.specs.inner.Teaching.{Teaches}
use Rattle.eq_cdcl.proofs.Logging.{known_more, logged_more}
use Rattle.eq_cdcl.proofs.Returning.{gone_back}
use Rattle.eq_cdcl.proofs.backtracking.go_back.Goals as goal

pub returns-clause-sound : goal.returns-clause-sound
returns-clause-sound c =
    let clauses = c.args.f.now.clauses in
    let log = c.args.log.now in
    let known = known_of clauses log in
    let learned = c.in_ok-learned.learned in
    let up = c.in_ok-take_up.ensures in
    let r = c.in_ok-restart.ensures in
    let t : Teaches known c.args.trail.now learned = subst (λ (ks : List (List Literal)). Teaches ks c.args.trail.now learned) c.new-known.ensures c.in_ok-learned.ensures.teaches in
    let number = c.len-number.ensures ∙ ap (λ (ks : List (List Literal)). length ks) c.new-known.ensures in
    let all : known_of clauses c.push.new.self ≡ known ++ learned.step.clause ∷ [] = ap (λ (ls : List Inference). known_of clauses ls) c.in_ok-push.ensures.ok ∙ known_more clauses log learned.step in
    (gone_back known (known_of clauses c.push.new.self) c.args.trail.now c.take_up.new.trail c.restart.new.trail c.args.watches.now c.take_up.new.watches c.restart.new.watches learned (c.len-number.result + 1) r.trail.0 c.requires.watching t (ap (λ n. n + 1) number) up.trail up.proper up.head up.watches all r.trail.1 r.trail.2 r.trail.3 r.trail.4 r.pairs r.lists).0

pub returns-clause-watching : goal.returns-clause-watching
returns-clause-watching c =
    let clauses = c.args.f.now.clauses in
    let log = c.args.log.now in
    let known = known_of clauses log in
    let learned = c.in_ok-learned.learned in
    let up = c.in_ok-take_up.ensures in
    let r = c.in_ok-restart.ensures in
    let t : Teaches known c.args.trail.now learned = subst (λ (ks : List (List Literal)). Teaches ks c.args.trail.now learned) c.new-known.ensures c.in_ok-learned.ensures.teaches in
    let number = c.len-number.ensures ∙ ap (λ (ks : List (List Literal)). length ks) c.new-known.ensures in
    let all : known_of clauses c.push.new.self ≡ known ++ learned.step.clause ∷ [] = ap (λ (ls : List Inference). known_of clauses ls) c.in_ok-push.ensures.ok ∙ known_more clauses log learned.step in
    (gone_back known (known_of clauses c.push.new.self) c.args.trail.now c.take_up.new.trail c.restart.new.trail c.args.watches.now c.take_up.new.watches c.restart.new.watches learned (c.len-number.result + 1) r.trail.0 c.requires.watching t (ap (λ n. n + 1) number) up.trail up.proper up.head up.watches all r.trail.1 r.trail.2 r.trail.3 r.trail.4 r.pairs r.lists).1

pub returns-clause-size : goal.returns-clause-size
returns-clause-size c = ap (λ (b : Assignment). b.size) c.in_ok-restart.ensures.trail.3 ∙ ap (λ (b : Assignment). b.size) c.in_ok-take_up.ensures.trail

pub returns-clause-below : goal.returns-clause-below
returns-clause-below c =
    let clauses = c.args.f.now.clauses in
    let log = c.args.log.now in
    let known = known_of clauses log in
    let step = c.in_ok-learned.learned.step in
    let all : known_of clauses c.push.new.self ≡ known ++ step.clause ∷ [] = ap (λ (ls : List Inference). known_of clauses ls) c.in_ok-push.ensures.ok ∙ known_more clauses log step in
    let size : c.restart.new.trail.size ≡ c.args.trail.now.size = ap (λ (b : Assignment). b.size) c.in_ok-restart.ensures.trail.3 ∙ ap (λ (b : Assignment). b.size) c.in_ok-take_up.ensures.trail in
    let V : List (List Literal) → Type 0 = All (AllBelow c.args.trail.now.size) in
    let W : ℕ → Type 0 = λ n. All (AllBelow n) (known_of clauses c.push.new.self) in
    subst W (sym size) (subst V (sym all) (All-push (AllBelow c.args.trail.now.size) known step.clause c.requires.below c.in_ok-learned.ensures.teaches.below))

pub returns-clause-logged : goal.returns-clause-logged
returns-clause-logged c =
    let clauses = c.args.f.now.clauses in
    let log = c.args.log.now in
    let known = known_of clauses log in
    let step = c.in_ok-learned.learned.step in
    let same : c.new-known.result ≡ known = c.new-known.ensures in
    let D : List (List Literal) → Type 0 = λ ks. IsDerivation ks step in
    let F : List (List Literal) → Type 0 = λ ks. IsFresh ks step.clause in
    let L : List Inference → Type 0 = IsLogged clauses in
    subst L (sym c.in_ok-push.ensures.ok) (logged_more clauses log step c.requires.logged (subst D same c.in_ok-learned.ensures.teaches.derived) (subst F same c.in_ok-learned.ensures.teaches.fresh))

pub returns-clause-len : goal.returns-clause-len
returns-clause-len c = ap (λ (ls : List Inference). length ls) c.in_ok-push.ensures.ok ∙ length_push c.args.log.now c.in_ok-learned.learned.step

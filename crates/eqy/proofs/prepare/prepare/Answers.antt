use Rattle.std.proofs.Common.{◌≡◌, Some, inl, inr, sym, subst, ◌∙◌}
use Rattle.eq_io.specs.Files.{Files}
use Rattle.eq_first.specs.declared.job.Job.{Job}
use Rattle.eqy.specs.Command.{FileRefused, GoldRefused, HasJob, HasModule, IsRefused, IsSomeJob, IsTask}
use Rattle.eqy.specs.Stops.{IfRefused}
use Rattle.eqy.specs.Tasks.{HasGold}
use Rattle.eqy.proofs.Stopped.{if_refused, err_map, ok_map}
use Rattle.eqy.proofs.prepare.prepare.Goals as goal

pub returns-in-Ok-clause-ok : goal.returns-in-Ok-clause-ok
returns-in-Ok-clause-ok g c =
    ok_map c.with_job.result (λ task. (files : Files) → g.S.Store.map c.load_job.new.store ≡ Some files → HasGold files c.in-Ok.job task)
    (λ task. (files : Files) → g.S.Store.map c.args.store.now ≡ Some files → IsTask c.args.words.now files task.job task.gold task.gate)
    (λ task has files told.
    let held = has files (c.in-Ok.ensures.kept ∙ told) in
    let P : Job → Type 0 = λ job. HasJob files c.in-Some.file.now job in
    let Q : Job → Type 0 = λ job. HasModule files job.gold task.gold in
    let R : Job → Type 0 = λ job. HasModule files job.gate task.gate in
    record {
      file = c.in-Some.file.now;
      command = c.in-Some.ensures.some;
      asked = subst P (sym held.same_job) (c.in-Ok.ensures.ok files told);
      has_gold = subst Q (sym held.same_job) held.gold;
      has_gate = subst R (sym held.same_job) held.gate;
      ports = held.ports;
      narrow = held.narrow;
    })
    c.with_job.ensures.ok

pub returns-in-Ok-clause-refused : goal.returns-in-Ok-clause-refused
returns-in-Ok-clause-refused g c =
    err_map c.with_job.result (λ stop. IfRefused stop (λ r. (files : Files) → g.S.Store.map c.load_job.new.store ≡ Some files → GoldRefused files c.in-Ok.job r))
    (λ stop. IfRefused stop (λ r. (files : Files) → g.S.Store.map c.args.store.now ≡ Some files → IsRefused c.args.words.now files r))
    (λ stop. if_refused stop (λ r. (files : Files) → g.S.Store.map c.load_job.new.store ≡ Some files → GoldRefused files c.in-Ok.job r)
    (λ r. (files : Files) → g.S.Store.map c.args.store.now ≡ Some files → IsRefused c.args.words.now files r)
    (λ r refused files told. inr (c.in-Some.file.now, c.in-Some.ensures.some, inr (c.in-Ok.job, c.in-Ok.ensures.ok files told, refused files (c.in-Ok.ensures.kept ∙ told)))))
    c.with_job.ensures.refused

pub returns-in-Err-clause-refused : goal.returns-in-Err-clause-refused
returns-in-Err-clause-refused g c =
    if_refused c.in-Err.stop (λ r. (files : Files) → g.S.Store.map c.args.store.now ≡ Some files → FileRefused files c.in-Some.file.now IsSomeJob r)
    (λ r. (files : Files) → g.S.Store.map c.args.store.now ≡ Some files → IsRefused c.args.words.now files r)
    (λ r refused files told. inr (c.in-Some.file.now, c.in-Some.ensures.some, inl (refused files told)))
    c.in-Err.ensures.refused

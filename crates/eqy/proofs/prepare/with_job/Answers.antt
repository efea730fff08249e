use Rattle.std.proofs.Common.{◌≡◌, Some, inr, ◌∙◌}
use Rattle.eq_io.specs.Files.{Files}
use Rattle.eqy.specs.Command.{GateRefused, GoldRefused}
use Rattle.eqy.specs.Stops.{IfRefused}
use Rattle.eqy.proofs.Stopped.{if_refused, err_map}
use Rattle.eqy.proofs.prepare.with_job.Goals as goal

pub returns-in-Ok-clause-refused : goal.returns-in-Ok-clause-refused
returns-in-Ok-clause-refused g c =
    err_map c.with_gold.result (λ stop. IfRefused stop (λ r. (files : Files) → g.S.Store.map c.load_module.new.store ≡ Some files → GateRefused files c.args.job c.in-Ok.gold r))
    (λ stop. IfRefused stop (λ r. (files : Files) → g.S.Store.map c.args.store.now ≡ Some files → GoldRefused files c.args.job r))
    (λ stop. if_refused stop (λ r. (files : Files) → g.S.Store.map c.load_module.new.store ≡ Some files → GateRefused files c.args.job c.in-Ok.gold r)
    (λ r. (files : Files) → g.S.Store.map c.args.store.now ≡ Some files → GoldRefused files c.args.job r)
    (λ r refused files told. inr (c.in-Ok.gold, c.in-Ok.ensures.ok files told, refused files (c.in-Ok.ensures.kept ∙ told))))
    c.with_gold.ensures.refused

use Rattle.std.proofs.lemmas.List.Elements.{All-push, All-same}
use Rattle.eq_spelled.specs.Spelling.{IsFromText}
use Rattle.test_designs.proofs.reading.add.Goals as goal

pub returns : goal.returns
returns c =
    All-same IsFromText _ _ c.in_ok-push.ensures.items
    (All-push IsFromText c.args.sources.now.items c.args.source c.requires.before c.requires.source)

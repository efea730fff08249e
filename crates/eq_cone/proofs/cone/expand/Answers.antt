use Rattle.std.proofs.Common.{ℕ, ◌<◌, length, sym, subst}
use Rattle.std.proofs.lemmas.List.Elements.{Contains-get_or}
use Rattle.eq_cone.specs.inner.Sides.{nodes_of}
use Rattle.eq_cone.proofs.cone.expand.Goals as goal

pub cut-requires-clause-there : goal.cut-requires-clause-there
cut-requires-clause-there c =
    let P : ℕ → Type 0 = λ m. m < length (nodes_of c.args.sides.now) in
    subst P (sym c.at-m.ensures) (c.requires.within _ (Contains-get_or c.args.cone.now c.args.place 0 c.requires.place))

pub node-requires-clause-there : goal.node-requires-clause-there
node-requires-clause-there c =
    let P : ℕ → Type 0 = λ m. m < length (nodes_of c.args.sides.now) in
    subst P (sym c.at-m.ensures) (c.requires.within _ (Contains-get_or c.args.cone.now c.args.place 0 c.requires.place))

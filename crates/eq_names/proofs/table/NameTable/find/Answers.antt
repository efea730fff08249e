use Rattle.std.proofs.Common.{ℕ, List, sym, ap, ◌∙◌}
use Rattle.std.specs.Prelude.{Vec}
use Rattle.std.specs.declared.alloc.Global.{Global}
use Rattle.eq_names.specs.Tables.{number_of}
use Rattle.eq_names.proofs.Places.{number_map}
use Rattle.eq_names.proofs.table.NameTable.find.Goals as goal

pub returns-in-Some : goal.returns-in-Some
returns-in-Some c =
    sym c.in-Some.is ∙ c.get_index_of.ensures.index ∙ number_map (λ
    (n : Vec ℕ Global). n.items) c.args.text.now c.self.inside.names.keys
    ∙ ap (λ (names : List (List ℕ)). number_of names c.args.text.now) c.self.view_is

pub returns-in-None : goal.returns-in-None
returns-in-None c =
    sym c.in-None.is ∙ c.get_index_of.ensures.index ∙ number_map (λ
    (n : Vec ℕ Global). n.items) c.args.text.now c.self.inside.names.keys
    ∙ ap (λ (names : List (List ℕ)). number_of names c.args.text.now) c.self.view_is

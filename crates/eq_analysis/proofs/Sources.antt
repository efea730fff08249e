-- The modules of one source more.
use Rattle.std.proofs.Common.{◌≡◌, ℕ, ◌+◌, ◌<◌, List, [], ◌∷◌, ◌++◌, length, get_or, take, map, sym, ap, ◌∙◌, append_assoc}
use Rattle.std.proofs.lemmas.List.{append-nil, take_more}
use Rattle.eq_vparse.specs.declared.tree.Source.{Source}
use Rattle.eq_verilog.specs.Trees.{ModuleTree, module_tree, modules_of}

modules_behind : (ss : List Source) (s : Source)
    → modules_of (ss ++ s ∷ []) ≡ modules_of ss ++ map module_tree s.modules
modules_behind [] s = append-nil (map module_tree s.modules)
modules_behind (r ∷ ss) s =
    ap (λ (ms : List ModuleTree). map module_tree r.modules ++ ms) (modules_behind ss s)
    ∙ sym (append_assoc (map module_tree r.modules) (modules_of ss) (map module_tree s.modules))

pub sources_more : (ss : List Source) (i : ℕ) (d s : Source) (so_far new more : List ModuleTree) → i < length ss
    → get_or ss i d ≡ s → so_far ≡ modules_of (take i ss) → more ≡ map module_tree s.modules → new ≡ so_far ++ more
    → new ≡ modules_of (take (i + 1) ss)
sources_more ss i d s so_far new more within is was here grown =
    grown
    ∙ ap (λ (ms : List ModuleTree). ms ++ more) was
    ∙ ap (λ (ms : List ModuleTree). modules_of (take i ss) ++ ms) here
    ∙ sym (modules_behind (take i ss) s)
    ∙ ap modules_of (ap (λ (x : Source). take i ss ++ x ∷ []) (sym is) ∙ sym (take_more ss i d within))

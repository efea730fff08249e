use Rattle.std.proofs.Common.{◌≡◌, ◌<◌, ◌++◌, ℕ, List, length, map, sym, ap, subst, ◌∙◌}
use Rattle.std.specs.Prelude.{All}
use Rattle.eq_verilog.specs.Trees.{Name, module_tree}
use Rattle.eq_verilog.specs.Hierarchy.{Path as Place, inner_prefix}
use Rattle.eq_flatten.specs.declared.paths.Path.{Path}
use Rattle.eq_flatten.specs.Paths.{links_from, path_at, path_of, unfolded, AreWithin, IsPath}
use Rattle.eq_flatten.proofs.Assigned.{on_ok_both}
use Rattle.eq_flatten.proofs.PathWalk.{entered}
use Rattle.eq_flatten.proofs.paths.enter.Goals as goal

pub returns : goal.returns
returns c =
    let all = map (λ m. module_tree m.now) c.args.modules.now in
    let old = c.args.found.now in
    let link = c.args.next.link in
    let left = c.args.next.left in
    let rest = c.args.stack.now.items in
    let stack = c.add_below.new.stack.items in
    let here : c.len-within.result ≡ length old.paths.items = c.len-within.ensures ∙ c.args.found.now.paths.ok.0 in
    on_ok_both c.add_below.result (λ below kept.
    entered all old (record { paths = c.push.new.self; links = c.push-2.new.self }) c.args.next rest stack
    (record { prefix = c.in_ok-prefix.prefix; of = link.of }) c.in_ok-push.ensures.items
    (ap (λ (x : Name). record { prefix = x; of = module_tree link.of.module.now })
    (c.in_ok-prefix.ensures.prefix
    ∙ ap (λ (ps : List Path). inner_prefix (path_at (map path_of ps) link.within).prefix link.name.now)
    c.as_slice.ensures.value))
    c.requires.bound c.in_ok-push-2.ensures.items
    (subst (λ (n : ℕ). (ps : List Place) → (path_at ps n).of ≡ module_tree link.of.module.now →
    unfolded all ps stack ≡ links_from all left (path_at ps n) ++ unfolded all ps rest) here below)
    (subst (λ (k : ℕ). (n : ℕ) → k < n → AreWithin all n rest → AreWithin all n stack) here kept)
    (λ there before. (
      there,
      c.in_ok-prefix.ensures.bytes all
          (subst (λ (ps : List Path). All (IsPath all) ps) (sym c.as_slice.ensures.value) before),
    ))) c.add_below.ensures.unfolded c.add_below.ensures.within

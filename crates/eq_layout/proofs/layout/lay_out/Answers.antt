use Rattle.std.proofs.Common.{List, All, length, map, ap, subst, sym, ◌∙◌}
use Rattle.eq_names.specs.Name.{IsNameByte}
use Rattle.eq_net.specs.declared.types.NetInfo.{NetInfo}
use Rattle.eq_net.specs.Net.{bits_of}
use Rattle.eq_verilog.specs.Trees.{ModuleTree, module_tree}
use Rattle.eq_verilog.specs.Declarations.{nets_in}
use Rattle.eq_verilog.specs.Nets.{alone, nets_at}
use Rattle.eq_analysis.specs.declared.tables.Table.{Table}
use Rattle.eq_analysis.specs.Tabling.{trees_at}
use Rattle.eq_flatten.specs.declared.owning.Owned.{Owned}
use Rattle.eq_flatten.specs.declared.paths.Path.{Path}
use Rattle.eq_flatten.specs.Equating.{AreStarts}
use Rattle.eq_flatten.specs.Flat.{IsFlat}
use Rattle.eq_flatten.specs.Owning.{nets_in as own}
use Rattle.eq_flatten.specs.Paths.{IsPath}
use Rattle.eq_layout.proofs.Laid.{laid, placed, prefixes, top_of}
use Rattle.eq_layout.proofs.layout.lay_out.Goals as goal

pub flat_nets-requires : goal.flat_nets-requires
flat_nets-requires c =
    let all = map (λ m. module_tree m.now) c.args.modules.now in
    let top = top_of all c.args.top.now c.in_ok-found.field-0 c.in-Some.found c.in-Some.is c.requires.there
    c.in_ok-found.ensures.some c.in_ok-found.ensures.links in
    subst (λ (ps : List Path). All (λ (p : Path). All IsNameByte p.prefix.items) ps) (sym c.deref-2.ensures.value)
    (prefixes all c.args.top.now c.in-Some.found top)

pub returns : goal.returns
returns c = record {
  ok =
      let all = map (λ m. module_tree m.now) c.args.modules.now in
      let top = top_of all c.args.top.now c.in_ok-found.field-0 c.in-Some.found c.in-Some.is c.requires.there
      c.in_ok-found.ensures.some c.in_ok-found.ensures.links in
      let paths = c.in-Some.found.paths.items in
      let owned = c.in_ok-owned.owned.items in
      let nets = c.in_ok-flat.flat.nets.items in
      let firsts = c.in_ok-flat.flat.firsts.items in
      let owns = ap (λ (os : List Owned). map own os) c.deref-3.ensures.value ∙ c.in_ok-owned.ensures.nets
      ∙ ap (λ (ts : List Table). map (λ m. nets_at (alone m)) (trees_at ts)) c.deref.ensures.value
      ∙ ap (λ (ms : List ModuleTree). map (λ m. nets_at (alone m)) ms) c.requires.tables in
      let placed_here = subst (λ (ps : List Path). All (IsPath all) ps) (sym c.deref-2.ensures.value)
      (placed all c.args.top.now c.in-Some.found top) in
      laid all c.args.top.now
      (record {
        tables = c.args.tables;
        owned = c.in_ok-owned.owned;
        found = c.in-Some.found;
        flat = c.in_ok-flat.flat;
        starts = c.in_ok-starts.starts;
      }) c.requires.tables top
      (c.in_ok-owned.ensures.names ∙ ap (λ (ts : List Table). map nets_in (trees_at ts)) c.deref.ensures.value)
      (subst (λ (ps : List Path). IsFlat ps (length ps) nets firsts) c.deref-2.ensures.value
      (c.in_ok-flat.ensures all placed_here owns))
      (subst (λ (ns : List NetInfo). AreStarts ns c.in_ok-starts.starts.starts.items) c.deref-4.ensures.value
      c.in_ok-starts.ensures.starts)
      (c.in_ok-starts.ensures.bits ∙ ap (λ (ns : List NetInfo). bits_of ns) c.deref-4.ensures.value);
}

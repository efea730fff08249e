use Rattle.std.proofs.Common.{List, Bool, length, map, sym, ap, ap₂, subst, ◌∙◌}
use Rattle.std.specs.Prelude.{All, flat_map}
use Rattle.eq_analysis.specs.declared.tables.Table.{Table}
use Rattle.eq_analysis.specs.Tabling.{trees_at}
use Rattle.eq_flatten.specs.declared.paths.Path.{Path}
use Rattle.eq_flatten.specs.Paths.{path_of, IsPath}
use Rattle.eq_net.specs.declared.types.NetInfo.{NetInfo}
use Rattle.eq_net.specs.Nets.{net_of}
use Rattle.eq_layout.specs.Layout.{trees_of}
use Rattle.eq_drivers.specs.inner.Flagging.{module_flags, path_flags, spread}
use Rattle.eq_drivers.proofs.Flagged.{all_placed, nets_size, regs_flagged}
use Rattle.eq_drivers.proofs.flagging.reg_flags.Goals as goal

pub bit_flags-requires : goal.bit_flags-requires
bit_flags-requires c =
    let l = c.args.layout.now in
    let told = c.in_ok-by_net.ensures (trees_of l)
    (subst (λ (ps : List Path). All (IsPath (trees_of l)) ps) (sym c.as_slice-2.ensures.value)
    (all_placed l c.args.top.now c.requires.laid c.requires.sound))
    (c.deref.ensures.value ∙ c.in_ok-all.ensures
    ∙ ap (λ (ts : List Table). map module_flags (trees_at ts)) c.as_slice.ensures.value)
    ∙ ap (λ (ps : List Path). flat_map path_flags (map path_of ps)) c.as_slice-2.ensures.value in
    ap (λ (bs : List Bool). length bs) c.deref-2.ensures.value
    ∙ nets_size l c.args.top.now c.requires.laid c.requires.sound c.in_ok-by_net.by_net.items told
    ∙ sym (ap (λ (ns : List NetInfo). length ns) c.as_slice-3.ensures.value)

pub returns : goal.returns
returns c =
    let l = c.args.layout.now in
    let told = c.in_ok-by_net.ensures (trees_of l)
    (subst (λ (ps : List Path). All (IsPath (trees_of l)) ps) (sym c.as_slice-2.ensures.value)
    (all_placed l c.args.top.now c.requires.laid c.requires.sound))
    (c.deref.ensures.value ∙ c.in_ok-all.ensures
    ∙ ap (λ (ts : List Table). map module_flags (trees_at ts)) c.as_slice.ensures.value)
    ∙ ap (λ (ps : List Path). flat_map path_flags (map path_of ps)) c.as_slice-2.ensures.value in
    record {
      ok = regs_flagged l c.args.top.now c.requires.laid c.requires.sound c.in_ok-by_net.by_net.items
          c.in_ok-flags.flags.items told
          (c.in_ok-flags.ensures
          ∙ ap₂ (λ (ns : List NetInfo) (bs : List Bool). spread (map net_of ns) bs) c.as_slice-3.ensures.value
          c.deref-2.ensures.value);
    }

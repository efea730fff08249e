-- The flags of the bits of a design that is laid out.
use Rattle.std.proofs.Common.{◌≡◌, ℕ, Bool, false, List, map, length, slice_index_or, Option, Some, None, All, refl, arith, sym, ap, ◌∙◌}
use Rattle.std.specs.Prelude.{flat_map}
use Rattle.std.proofs.lemmas.List.{length-map}
use Rattle.eq_model.specs.Nets.{Net, at_bit, total_width}
use Rattle.eq_net.specs.Nets.{net_of}
use Rattle.eq_verilog.specs.Trees.{Name, ModuleTree}
use Rattle.eq_verilog.specs.Declarations.{has}
use Rattle.eq_verilog.specs.Firsts.{first_again}
use Rattle.eq_verilog.specs.Hierarchy.{module_named, paths}
use Rattle.eq_verilog.specs.Nets.{full_names, regs_of}
use Rattle.eq_flatten.specs.Paths.{path_of, IsPath}
use Rattle.eq_layout.specs.declared.layout.Layout.{Layout}
use Rattle.eq_layout.specs.Layout.{design_in, trees_of, AreSound, IsLaidOut}
use Rattle.eq_drivers.specs.Telling.{AreRegs}
use Rattle.eq_drivers.specs.inner.Flagging.{path_flags, spread}
use Rattle.eq_drivers.proofs.Regs.{regs_told}
use Rattle.eq_drivers.proofs.Spread.{spread_at, spread_length}

the_module : (o : Option ModuleTree) → (o ≡ None → ⊥) → (m : ModuleTree) × (o ≡ Some m)
the_module None there = absurd (there refl)
the_module (Some m) there = (m, refl)

module _ (l : Layout) (top : Name) (laid : IsLaidOut top l) (sound : AreSound top l) where
  pub all_placed : All (IsPath (trees_of l)) l.found.paths.items
  all_placed =
      let m = the_module (module_named (trees_of l) top) laid.there in
      (laid.paths m.0 m.1).placed

  abbrev test : Net → Bool
  test n = has (regs_of (paths (trees_of l) top)) n.name

  apart : first_again (full_names (design_in l top).nets) ≡ None
  apart = ap (λ ns. first_again (full_names ns)) (sym laid.nets) ∙ sound.apart

  nets_told : (by_net : List Bool) → by_net ≡ flat_map path_flags (map path_of l.found.paths.items) →
      by_net ≡ map test (map net_of l.flat.nets.items)
  nets_told by_net is =
      is ∙ ap (λ ps. flat_map path_flags ps) laid.paths_are
      ∙ regs_told (paths (trees_of l) top) apart ∙ ap (λ ns. map test ns) (sym laid.nets)

  -- a flag for each net
  pub nets_size : (by_net : List Bool) → by_net ≡ flat_map path_flags (map path_of l.found.paths.items) →
      length by_net ≡ length l.flat.nets.items
  nets_size by_net is =
      ap (λ bs. length bs) (nets_told by_net is) ∙ length-map (map net_of l.flat.nets.items) test
      ∙ length-map l.flat.nets.items net_of

  -- spread over the nets' bits they say of each bit whether it is one of a reg
  pub regs_flagged : (by_net flags : List Bool) → by_net ≡ flat_map path_flags (map path_of l.found.paths.items) →
      flags ≡ spread (map net_of l.flat.nets.items) by_net → AreRegs (design_in l top) flags
  regs_flagged by_net flags is all =
      let nets = map net_of l.flat.nets.items in
      let told : flags ≡ spread nets (map test nets) = all ∙ ap (λ bs. spread nets bs) (nets_told by_net is) in
      let size : length flags ≡ total_width nets = ap (λ bs. length bs) told ∙ spread_length test nets in
      record {
        size = size ∙ ap (λ ns. total_width ns) laid.nets;
        are = λ b lt.
            ap (λ bs. slice_index_or bs b false) told ∙ spread_at test nets b (omega (arith, lt, size))
            ∙ ap (λ ns. at_bit false (λ (n : Net) (p : ℕ). test n) ns b) laid.nets;
      }

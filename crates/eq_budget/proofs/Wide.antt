-- The bits of all nets, path by path.
use Rattle.std.proofs.Common.{◌≡◌, ℕ, ◌+◌, List, [], ◌∷◌, ◌++◌, map, refl, arith}
use Rattle.std.specs.Prelude.{sum_by}
use Rattle.std.proofs.lemmas.List.Sums.{sum_by-cons}
use Rattle.eq_model.specs.Nets.{Net, total_width}
use Rattle.eq_verilog.specs.Trees.{Name}
use Rattle.eq_verilog.specs.Declarations.{nets_in}
use Rattle.eq_verilog.specs.Hierarchy.{Path}
use Rattle.eq_verilog.specs.Nets.{module_scope, net_at, nets_at, nets_of}
use Rattle.eq_verilog.specs.Scopes.{width}

width_append : (xs ys : List Net) → total_width (xs ++ ys) ≡ total_width xs + total_width ys
width_append [] ys = omega arith
width_append (x ∷ xs) ys = (let h = width_append xs ys in omega (arith, h))

-- the bits of a module's nets
abbrev pub bits_at : Path → ℕ
bits_at p = sum_by (width (module_scope p.of)) (nets_in p.of)

width_at : (p : Path) (ns : List Name) → total_width (map (net_at p) ns) ≡ sum_by (width (module_scope p.of)) ns
width_at p [] = refl
width_at p (n ∷ ns) =
    (let h = width_at p ns in let c = sum_by-cons (width (module_scope p.of)) n ns in omega (arith, h, c))

-- the nets of paths have the bits of their modules
pub widths_of : (ps : List Path) → total_width (nets_of ps) ≡ sum_by bits_at ps
widths_of [] = refl
widths_of (p ∷ ps) =
    (let a = width_append (nets_at p) (nets_of ps) in
    let b = width_at p (nets_in p.of) in
    let c = widths_of ps in
    let d = sum_by-cons bits_at p ps in
    omega (arith, a, b, c, d))

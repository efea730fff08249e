-- Each of the paths that are ready.
use Rattle.std.proofs.Common.{◌≡◌, ℕ, zero, suc, ◌<◌, List, [], ◌∷◌, length, slice_index_or, arith, sym, subst}
use Rattle.std.specs.Prelude.{zip}
use Rattle.eq_net.specs.declared.types.NetInfo.{NetInfo}
use Rattle.eq_verilog.specs.Trees.{Name}
use Rattle.eq_flatten.specs.declared.paths.Path.{Path}
use Rattle.eq_flatten.specs.Flattening.{ArePathsReady, IsPathReady}

pub path_ready_at : (nets : List NetInfo) (owned : List (List Name)) (paths : List Path) (firsts : List ℕ) (k : ℕ)
    (p : Path) → k < length paths → k < length firsts → p ≡ slice_index_or paths k p →
    ArePathsReady nets owned (zip paths firsts) → IsPathReady nets owned (p, slice_index_or firsts k 0)
path_ready_at nets owned [] firsts k p a b is h = absurd (omega (arith, a))
path_ready_at nets owned (x ∷ xs) [] k p a b is h = absurd (omega (arith, b))
path_ready_at nets owned (x ∷ xs) (n ∷ ns) zero p a b is h =
    subst (λ y. IsPathReady nets owned (y, n)) (sym is) h.0
path_ready_at nets owned (x ∷ xs) (n ∷ ns) (suc k) p a b is h =
    path_ready_at nets owned xs ns k p (omega (arith, a)) (omega (arith, b)) is h.1

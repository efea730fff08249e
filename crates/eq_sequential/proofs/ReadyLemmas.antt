-- Each item and each path of those that can run can.
use Rattle.std.proofs.Common.{◌≡◌, ℕ, zero, suc, ◌<◌, List, [], ◌∷◌, length, map, slice_index_or, arith, sym, subst}
use Rattle.std.specs.Prelude.{zip}
use Rattle.eq_vparse.specs.declared.tree.Item.{Item}
use Rattle.eq_net.specs.declared.types.NetInfo.{NetInfo}
use Rattle.eq_verilog.specs.Trees.{Name, item_tree}
use Rattle.eq_flatten.specs.declared.paths.Path.{Path}
use Rattle.eq_sequential.specs.inner.Processing.{AreAlwaysReady, ArePathsRunning, IsAlwaysReady, IsPathRunning}

pub always_ready_at : (nets : List NetInfo) (names : List Name) (from : ℕ) (is : List Item) (k : ℕ) (i : Item) →
    k < length is → i ≡ slice_index_or is k i → AreAlwaysReady nets names from (map item_tree is) →
    IsAlwaysReady nets names from (item_tree i)
always_ready_at nets names from [] k i inside is h = absurd (omega (arith, inside))
always_ready_at nets names from (x ∷ xs) zero i inside is h =
    subst (λ y. IsAlwaysReady nets names from (item_tree y)) (sym is) h.0
always_ready_at nets names from (x ∷ xs) (suc k) i inside is h =
    always_ready_at nets names from xs k i (omega (arith, inside)) is h.1

pub path_running_at : (nets : List NetInfo) (owned : List (List Name)) (paths : List Path) (firsts : List ℕ) (k : ℕ)
    (p : Path) → k < length paths → k < length firsts → p ≡ slice_index_or paths k p →
    ArePathsRunning nets owned (zip paths firsts) → IsPathRunning nets owned (p, slice_index_or firsts k 0)
path_running_at nets owned [] firsts k p a b is h = absurd (omega (arith, a))
path_running_at nets owned (x ∷ xs) [] k p a b is h = absurd (omega (arith, b))
path_running_at nets owned (x ∷ xs) (n ∷ ns) zero p a b is h =
    subst (λ y. IsPathRunning nets owned (y, n)) (sym is) h.0
path_running_at nets owned (x ∷ xs) (n ∷ ns) (suc k) p a b is h =
    path_running_at nets owned xs ns k p (omega (arith, a)) (omega (arith, b)) is h.1

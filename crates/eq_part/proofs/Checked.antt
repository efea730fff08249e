-- Partitions that are classes are few, none is empty, and their outputs are positions of pairs.
use Rattle.std.proofs.Common.{◌≡◌, ℕ, zero, suc, ◌<◌, ◌≤◌, Bool, true, List, [], ◌∷◌, ◌++◌, length, slice_index_or, arith, sym, ap, subst, ◌∙◌, length-append}
use Rattle.std.specs.List.{All}
use Rattle.std.proofs.Math.ListN.{get_or-map}
use Rattle.std.proofs.lemmas.Bool.{cond_both, false≢true}
use Rattle.std.proofs.lemmas.List.{length-map}
use Rattle.std.proofs.lemmas.List.Elements.{All-push}
use Rattle.eq_match.specs.declared.types.Pair.{Pair}
use Rattle.eq_match.specs.Classes.{Together, class_of, classes, classes_to, is_first}
use Rattle.eq_match.specs.Divided.{AreDivided, has, list_at}
use Rattle.eq_match.specs.Groups.{is_held}
use Rattle.eq_match.specs.Leaders.{one_leader}
use Rattle.eq_part.specs.declared.types.Partition.{Partition}
use Rattle.eq_part.specs.Tables.{no_part}
use Rattle.eq_part.specs.inner.Planning.{AreClasses}
use Rattle.eq_part.proofs.Ordered.{passing_below}

few_to : (n : ℕ) (held : ℕ → Bool) (together : Together) (k : ℕ) → length (classes_to n held together k) ≤ k
few_to n held together zero = omega arith
few_to n held together (suc k) =
    let front = classes_to n held together k in
    let new = class_of n held together k in
    let before = few_to n held together k in
    let size = length-append front (new ∷ []) in
    cond_both (is_first held together k) (front ++ new ∷ []) front (λ (ls : List (List ℕ)). length ls ≤ suc k)
    (λ _. omega arith) (λ _. omega arith)

-- there are no more partitions than pairs
pub few_parts : (pairs : List Pair) (parts : List Partition) → AreClasses pairs parts → length parts ≤ length pairs
few_parts pairs parts are =
    let few = few_to (length pairs) (is_held pairs) (one_leader are.0) (length pairs) in
    let size = length-map parts (λ (p : Partition). p.outputs) in
    let same = ap (λ (ls : List (List ℕ)). length ls) are.1 in
    omega arith

some_in : (xs : List ℕ) (i : ℕ) → has i xs ≡ true → 0 < length xs
some_in [] i h = absurd (false≢true h)
some_in (x ∷ xs) i h = omega arith

-- no partition is empty
pub some_output : (pairs : List Pair) (parts : List Partition) →
    ((leaders : List ℕ) → AreDivided (length pairs) (is_held pairs) (one_leader leaders)
    (classes (length pairs) (is_held pairs) (one_leader leaders))) →
    AreClasses pairs parts → (q : ℕ) → q < length parts → 0 < length (slice_index_or parts q no_part).outputs
some_output pairs parts divided are q lt =
    let size = length-map parts (λ (p : Partition). p.outputs) in
    let same = ap (λ (ls : List (List ℕ)). length ls) are.1 in
    let one = (divided are.0).some q (omega arith) in
    let there : list_at (classes (length pairs) (is_held pairs) (one_leader are.0)) q ≡
    (slice_index_or parts q no_part).outputs =
    sym (ap (λ (ls : List (List ℕ)). list_at ls q) are.1) ∙ get_or-map (λ (p : Partition). p.outputs) parts q no_part in
    subst (λ (xs : List ℕ). 0 < length xs) there (some_in _ one.0 one.1)

below_to : (n : ℕ) (held : ℕ → Bool) (together : Together) (k : ℕ) →
    All (All (λ i. i < n)) (classes_to n held together k)
below_to n held together zero = λ i d lt. absurd (omega arith)
below_to n held together (suc k) =
    let front = classes_to n held together k in
    let new = class_of n held together k in
    cond_both (is_first held together k) (front ++ new ∷ []) front (All (All (λ i. i < n)))
    (λ _. All-push (All (λ i. i < n)) front new (below_to n held together k) (passing_below n _))
    (λ _. below_to n held together k)

-- outputs are positions of pairs
pub outputs_below : (pairs : List Pair) (parts : List Partition) → AreClasses pairs parts →
    (q : ℕ) → q < length parts → All (λ i. i < length pairs) (slice_index_or parts q no_part).outputs
outputs_below pairs parts are q lt =
    let size = length-map parts (λ (p : Partition). p.outputs) in
    let same = ap (λ (ls : List (List ℕ)). length ls) are.1 in
    let all = below_to (length pairs) (is_held pairs) (one_leader are.0) (length pairs) in
    let there : slice_index_or (classes (length pairs) (is_held pairs) (one_leader are.0)) q [] ≡
    (slice_index_or parts q no_part).outputs =
    sym (ap (λ (ls : List (List ℕ)). slice_index_or ls q []) are.1) ∙
    get_or-map (λ (p : Partition). p.outputs) parts q no_part in
    subst (All (λ i. i < length pairs)) there (all q [] (omega arith))

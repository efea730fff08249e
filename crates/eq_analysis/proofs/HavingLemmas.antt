-- Which names a table has, with one more and with others.
use Rattle.std.proofs.Common.{◌≡◌, List, [], ◌∷◌, Bool, true, false, ◌||◌, refl, ap, ◌∙◌}
use Rattle.std.specs.Str.{bytes_eq}
use Rattle.std.proofs.lemmas.List.Folds.{list_any-append}
use Rattle.eq_names.specs.Tables.{with_name}
use Rattle.eq_verilog.specs.Trees.{Name}
use Rattle.eq_verilog.specs.Declarations.{has}
use Rattle.eq_analysis.specs.Naming.{with_names}
use Rattle.eq_analysis.proofs.AgainLemmas.{with_known, with_new}
use Rattle.eq_analysis.proofs.BesideLemmas.{one_name}

known_or : (a b : Bool) → (b ≡ true → a ≡ true) → a ≡ (a || b)
known_or true b h = refl
known_or false true h = h refl
known_or false false h = refl

or_false : (a b : Bool) → (a || (b || false)) ≡ (a || b)
or_false true b = refl
or_false false true = refl
or_false false false = refl

or_assoc : (a b c : Bool) → ((a || b) || c) ≡ (a || (b || c))
or_assoc true b c = refl
or_assoc false b c = refl

by_known : (ms : List Name) (x n : Name) (b : Bool) → has ms x ≡ b → has (with_name ms x) n ≡ (has ms n || bytes_eq n x)
by_known ms x n true h =
    ap (λ (ns : List Name). has ns n) (with_known ms x h)
    ∙ known_or (has ms n) (bytes_eq n x) (λ e. ap (λ (k : Name). has ms k) (one_name n x e) ∙ h)
by_known ms x n false h =
    ap (λ (ns : List Name). has ns n) (with_new ms x h)
    ∙ list_any-append (bytes_eq n) ms (x ∷ [])
    ∙ or_false (has ms n) (bytes_eq n x)

-- one name more
pub has_with : (ms : List Name) (x n : Name) → has (with_name ms x) n ≡ (has ms n || bytes_eq n x)
has_with ms x n = by_known ms x n (has ms x) refl

-- all these more
pub has_with_all : (ns ms : List Name) (n : Name) → has (with_names ms ns) n ≡ (has ms n || has ns n)
has_with_all [] ms n = known_or (has ms n) false (λ e. absurd (cc))
has_with_all (x ∷ ns) ms n =
    has_with_all ns (with_name ms x) n
    ∙ ap (λ (b : Bool). b || has ns n) (has_with ms x n)
    ∙ or_assoc (has ms n) (bytes_eq n x) (has ns n)

-- each of these once
pub has_once : (ns : List Name) (n : Name) → has (with_names [] ns) n ≡ has ns n
has_once ns n = has_with_all ns [] n

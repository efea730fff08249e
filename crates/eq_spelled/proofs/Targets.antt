-- The tree of a target is a name, a select, or joined of such.
use Rattle.std.proofs.Common.{◌≡◌, ℕ, zero, suc, true, List, [], ◌∷◌, map, refl, sym, ap, subst, ◌∙◌, inl, inr}
use Rattle.std.specs.List.{AllByRecursion}
use Rattle.eq_vlex.specs.declared.token.TokenKind.{TokenKind}
use Rattle.eq_vparse.specs.declared.tree.Target.{Target}
use Rattle.eq_vparse.specs.Limits.{Limits}
use Rattle.eq_vparse.specs.Statements.{target_within}
use Rattle.eq_vparse.specs.Targets.{target_up_to}
use Rattle.eq_vparse.proofs.LexedTokens.{AreLexed, lexed_split}
use Rattle.eq_vparse.proofs.RuleParts.{each_of_separated}
use Rattle.eq_vparse.proofs.TargetAgain.{IsTarget}
use Rattle.eq_verilog.specs.TargetRefusals.{is_target}
use Rattle.eq_verilog.specs.Trees.{target_tree, join_all}
use Rattle.eq_verilog.proofs.PureTrees.{of_target_net, of_target_bit, of_target_part, of_target_concat}
use Rattle.eq_spelled.proofs.Expressions.{printable_lexed}

abbrev pub TargetSpelled : Target → Type 0
TargetSpelled t = is_target (target_tree t) ≡ true

joined_targets : (ts : List Target) → AllByRecursion TargetSpelled ts → is_target (join_all (map target_tree ts)) ≡ true
joined_targets [] h = refl
joined_targets (t ∷ ts) h = rw (h.0, joined_targets ts h.1) refl

target_is : (n : ℕ) (ts : List TokenKind) (t : Target) → AreLexed ts → (target_up_to n).sentence ts t → TargetSpelled t
target_is zero ts t l h = absurd h
target_is (suc n) ts t l (inl (us, vs, w, eq, front, last)) =
    subst TargetSpelled (sym last.1) (ap is_target (of_target_net w))
target_is (suc n) ts t l (inr (inl (us, vs, w, eq, front, (us', vs', d, eq', place, last)))) =
    subst TargetSpelled (sym last.1) (ap is_target (of_target_bit w d))
target_is (suc n) ts t l (inr (inr (inl (us, vs, w, eq, front, (us', vs', r, eq', place, last))))) =
    subst TargetSpelled (sym last.1) (ap is_target (of_target_part w r.left r.right))
target_is (suc n) ts t l (inr (inr (inr h))) =
    let one = lexed_split ts h.0 h.1 h.3 l in
    let parts = h.5 in
    let two = lexed_split h.1 parts.0 parts.1 parts.3 one.1 in
    let some = each_of_separated (target_up_to n) TargetSpelled (target_is n) parts.0 parts.2 two.0 parts.4 in
    let each = subst (AllByRecursion TargetSpelled) (sym some.is) (some.first_has, some.rest_have) in
    subst TargetSpelled (sym parts.5.5.1) (ap is_target (of_target_concat parts.2) ∙ joined_targets parts.2 each)

-- a target that is read again as it is written
pub again_target : (n : ℕ) (t : Target) → IsTarget n t → TargetSpelled t
again_target n t is = target_is n _ t (printable_lexed _ is.good.printable) is.sentence

-- the target of an assignment in a statement
pub within_target : (l : Limits) (ts : List TokenKind) (t : Target) → AreLexed ts → (target_within l).sentence ts t
    → TargetSpelled t
within_target l ts t lexed h = target_is h.0.0 ts t lexed h.0.1

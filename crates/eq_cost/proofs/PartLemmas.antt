-- Concatenations, blocks and expressions in a row, as sums.
use Rattle.std.proofs.Common.{◌≡◌, ℕ, ◌+◌, List, [], ◌∷◌, map, refl, sym, ap, ◌∙◌}
use Rattle.std.specs.Prelude.{sum_by}
use Rattle.std.proofs.lemmas.List.Sums.{sum_by-cons}
use Rattle.eq_verilog.specs.Trees.{ExprTree, StmtTree, join_all, in_sequence}
use Rattle.eq_verilog.specs.Scopes.{Scope}
use Rattle.eq_verilog.specs.Sizes.{own}
use Rattle.eq_verilog.specs.Costs.{cost, stmt_cost}
use Rattle.eq_cost.specs.Counts.{told}
use Rattle.eq_cost.specs.declared.forms.Costed.{Costed}
use Rattle.eq_cost.specs.inner.Lines.{IsLine, IsCosted}

-- a sum over what is made of a list
pub sum_mapped : {A B : Type 0} (g : B → ℕ) (f : A → B) (xs : List A) → sum_by (λ x. g (f x)) xs ≡ sum_by g (map f xs)
sum_mapped g f [] = refl
sum_mapped g f (x ∷ xs) =
    sum_by-cons (λ y. g (f y)) x xs
    ∙ ap (λ n. g (f x) + n) (sum_mapped g f xs)
    ∙ sym (sum_by-cons g (f x) (map f xs))

module _ (s : Scope) where
  pub joined_size : (es : List ExprTree) → sum_by (λ e. own s e) es ≡ own s (join_all es)
  joined_size [] = refl
  joined_size (e ∷ es) =
      sum_by-cons (λ x. own s x) e es ∙ ap (λ n. own s e + n) (joined_size es)

  pub joined_cost : (es : List ExprTree) (w : ℕ) → sum_by (λ e. cost s e (own s e)) es ≡ cost s (join_all es) w
  joined_cost [] w = refl
  joined_cost (e ∷ es) w =
      sum_by-cons (λ x. cost s x (own s x)) e es
      ∙ ap (λ n. cost s e (own s e) + n) (joined_cost es (own s (join_all es)))

  -- those of the elements of a list
  pub size_of_all : {A : Type 0} (f : A → ExprTree) (xs : List A) →
      sum_by (λ x. own s (f x)) xs ≡ own s (join_all (map f xs))
  size_of_all f xs = sum_mapped (λ e. own s e) f xs ∙ joined_size (map f xs)

  pub cost_of_all : {A : Type 0} (f : A → ExprTree) (xs : List A) (w : ℕ) →
      sum_by (λ x. cost s (f x) (own s (f x))) xs ≡ cost s (join_all (map f xs)) w
  cost_of_all f xs w = sum_mapped (λ e. cost s e (own s e)) f xs ∙ joined_cost (map f xs) w

  pub costed_whole : {A : Type 0} (f : A → ExprTree) (xs : List A) (size total : ℕ) (r : Costed) →
      told size ≡ told (sum_by (λ x. own s (f x)) xs) →
      told total ≡ told (sum_by (λ x. cost s (f x) (own s (f x))) xs) → r.size ≡ size →
      ((g : ℕ → ℕ) → ((w : ℕ) → told total ≡ told (g w)) → IsLine g r.line) → IsCosted s (join_all (map f xs)) r
  costed_whole f xs size total r sizes costs e line = record {
    size = ap (λ n. told n) e ∙ sizes ∙ ap (λ n. told n) (size_of_all f xs);
    line = line (cost s (join_all (map f xs))) (λ w. costs ∙ ap (λ n. told n) (cost_of_all f xs w));
  }

  in_a_row : (n : ℕ) (ss : List StmtTree) → sum_by (λ x. stmt_cost s n x) ss ≡ stmt_cost s n (in_sequence ss)
  in_a_row n [] = refl
  in_a_row n (x ∷ xs) =
      sum_by-cons (λ y. stmt_cost s n y) x xs ∙ ap (λ k. stmt_cost s n x + k) (in_a_row n xs)

  pub cost_of_block : {A : Type 0} (n : ℕ) (f : A → StmtTree) (xs : List A) →
      sum_by (λ x. stmt_cost s n (f x)) xs ≡ stmt_cost s n (in_sequence (map f xs))
  cost_of_block n f xs = sum_mapped (λ x. stmt_cost s n x) f xs ∙ in_a_row n (map f xs)

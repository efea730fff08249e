-- Links one after the other, each with its own path and the one that it stands in.
use Rattle.std.proofs.Common.{◌≡◌, ℕ, zero, suc, ◌+◌, ◌<◌, ◌≤◌, List, [], ◌∷◌, ◌++◌, length, take, slice_get, slice_index_or, Some, arith, sym, ap, subst, ◌∙◌}
use Rattle.std.specs.Prelude.{zip}
use Rattle.std.proofs.lemmas.List.{append_assoc, append-nil}
use Rattle.eq_net.specs.declared.types.NetInfo.{NetInfo}
use Rattle.eq_net.specs.Tree.{Tree}
use Rattle.eq_verilog.specs.Trees.{Name, ModuleTree}
use Rattle.eq_flatten.specs.declared.driving.Slot.{Slot}
use Rattle.eq_flatten.specs.declared.paths.Link.{Link}
use Rattle.eq_flatten.specs.declared.paths.Path.{Path}
use Rattle.eq_flatten.specs.Equating.{AddsEquations}
use Rattle.eq_flatten.specs.Joining.{all_joined, all_joined_cost, joined_cost, joined_equations, AreLinksReady, IsLinkReady}
use Rattle.eq_flatten.proofs.Itemized.{adds_then}

-- what stands at a place of two lists side by side
pub zip_get : {A B : Type 0} (xs : List A) (ys : List B) (k : ℕ) (x : A) (y d : B) → k < length xs → k < length ys →
    x ≡ slice_index_or xs k x → y ≡ slice_index_or ys k d → slice_get (zip xs ys) k ≡ Some (x, y)
zip_get [] ys k x y d a b is here = absurd (omega (arith, a))
zip_get (p ∷ ps) [] k x y d a b is here = absurd (omega (arith, b))
zip_get (p ∷ ps) (q ∷ qs) zero x y d a b is here =
    ap (λ z. Some (z, q)) (sym is) ∙ ap (λ z. Some (x, z)) (sym here)
zip_get (p ∷ ps) (q ∷ qs) (suc k) x y d a b is here =
    zip_get ps qs k x y d (omega (arith, a)) (omega (arith, b)) is here

zip_length : {A B : Type 0} (xs : List A) (ys : List B) → length (zip xs ys) ≤ length xs
zip_length [] ys = omega arith
zip_length (x ∷ xs) [] = omega arith
zip_length (x ∷ xs) (y ∷ ys) = (let h = zip_length xs ys in omega (arith, h))

-- a place of two lists side by side is one of the first
pub zip_inside : {A B : Type 0} (xs : List A) (ys : List B) (k : ℕ) → k < length (zip xs ys) → k < length xs
zip_inside xs ys k h = (let m = zip_length xs ys in omega (arith, h, m))

module _ (nets : List NetInfo) (owned : List (List Name)) (ends : List (Path × ℕ)) where
  joined_suc : (ls : List Link) (s k n : ℕ) (l : Link) → k < length ls → l ≡ slice_index_or ls k l → s + k ≡ n →
      all_joined nets owned ends s (take (suc k) ls)
      ≡ all_joined nets owned ends s (take k ls) ++ joined_equations nets owned ends n l
  joined_suc [] s k n l a is at = absurd (omega (arith, a))
  joined_suc (x ∷ xs) s zero n l a is at =
      let same : s ≡ n = omega (arith, at) in
      append-nil (joined_equations nets owned ends s x)
      ∙ ap (λ z. joined_equations nets owned ends s z) (sym is)
      ∙ ap (λ m. joined_equations nets owned ends m l) same
  joined_suc (x ∷ xs) s (suc k) n l a is at =
      ap (λ es. joined_equations nets owned ends s x ++ es)
      (joined_suc xs (s + 1) k n l (omega (arith, a)) is (omega (arith, at)))
      ∙ sym (append_assoc (joined_equations nets owned ends s x) (all_joined nets owned ends (s + 1) (take k xs))
      (joined_equations nets owned ends n l))

  cost_suc : (ls : List Link) (s k n : ℕ) (l : Link) → k < length ls → l ≡ slice_index_or ls k l → s + k ≡ n →
      all_joined_cost nets owned ends s (take (suc k) ls)
      ≡ all_joined_cost nets owned ends s (take k ls) + joined_cost nets owned ends n l
  cost_suc [] s k n l a is at = absurd (omega (arith, a))
  cost_suc (x ∷ xs) s zero n l a is at =
      let same : s ≡ n = omega (arith, at) in
      let one : joined_cost nets owned ends s x ≡ joined_cost nets owned ends n l =
      ap (λ z. joined_cost nets owned ends s z) (sym is) ∙ ap (λ m. joined_cost nets owned ends m l) same in
      omega (arith, one)
  cost_suc (x ∷ xs) s (suc k) n l a is at =
      let h = cost_suc xs (s + 1) k n l (omega (arith, a)) is (omega (arith, at)) in
      omega (arith, h)

  -- one link more adds its equations
  pub adds_link : (ls : List Link) (k : ℕ) (l : Link) (a b c : List Tree) (x y z : List Slot) →
      k < length ls → l ≡ slice_index_or ls k l →
      AddsEquations nets a b x y (all_joined nets owned ends 1 (take k ls))
      (all_joined_cost nets owned ends 1 (take k ls)) →
      AddsEquations nets b c y z (joined_equations nets owned ends (k + 1) l) (joined_cost nets owned ends (k + 1) l) →
      AddsEquations nets a c x z (all_joined nets owned ends 1 (take (k + 1) ls))
      (all_joined_cost nets owned ends 1 (take (k + 1) ls))
  adds_link ls k l a b c x y z inside is so_far one =
      let next : suc k ≡ k + 1 = omega arith in
      subst (λ j. AddsEquations nets a c x z (all_joined nets owned ends 1 (take j ls))
      (all_joined_cost nets owned ends 1 (take j ls))) next
      (subst (λ es. AddsEquations nets a c x z es (all_joined_cost nets owned ends 1 (take (suc k) ls)))
      (sym (joined_suc ls 1 k (k + 1) l inside is (omega arith)))
      (subst (λ n. AddsEquations nets a c x z (all_joined nets owned ends 1 (take k ls)
      ++ joined_equations nets owned ends (k + 1) l) n)
      (sym (cost_suc ls 1 k (k + 1) l inside is (omega arith)))
      (adds_then nets a b c x y z (all_joined nets owned ends 1 (take k ls)) (joined_equations nets owned ends (k + 1) l)
      (all_joined_cost nets owned ends 1 (take k ls)) (joined_cost nets owned ends (k + 1) l) so_far one)))

  ready_suc : (modules : List ModuleTree) (ls : List Link) (s k n : ℕ) (l : Link) → k < length ls →
      l ≡ slice_index_or ls k l → s + k ≡ n → AreLinksReady nets modules owned ends s ls →
      IsLinkReady nets modules owned ends n l
  ready_suc modules [] s k n l a is at h = absurd (omega (arith, a))
  ready_suc modules (x ∷ xs) s zero n l a is at h =
      let same : s ≡ n = omega (arith, at) in
      subst (λ m. IsLinkReady nets modules owned ends m l) same
      (subst (λ z. IsLinkReady nets modules owned ends s z) (sym is) h.0)
  ready_suc modules (x ∷ xs) s (suc k) n l a is at h =
      ready_suc modules xs (s + 1) k n l (omega (arith, a)) is (omega (arith, at)) h.1

  -- each link is ready
  pub link_ready_at : (modules : List ModuleTree) (ls : List Link) (k : ℕ) (l : Link) → k < length ls →
      l ≡ slice_index_or ls k l → AreLinksReady nets modules owned ends 1 ls →
      IsLinkReady nets modules owned ends (k + 1) l
  link_ready_at modules ls k l a is h = ready_suc modules ls 1 k (k + 1) l a is (omega arith) h

-- Words that have the form of a step: `0` stands in the middle and at the end.
use Rattle.std.proofs.Common.{◌≡◌, ℕ, ◌+◌, ◌-◌, ◌%◌, ◌^◌, ◌<◌, ◌≤◌, zero, suc, Bool, cond, true, false, List, [], ◌∷◌, ◌++◌, length, map, get_or, Some, slice_get, arith, refl, sym, ap, ◌∙◌, subst, inl, inr}
use Rattle.std.specs.Prelude.{codes, drop, replicate, ◌==◌}
use Rattle.std.specs.Fmt.{decimal}
use Rattle.std.proofs.lemmas.Bool.{cases_Bool}
use Rattle.std.proofs.lemmas.Bool.Decides.{nat_tests}
use Rattle.std.proofs.lemmas.List.{length-drop, length-replicate}
use Rattle.eq_names.specs.Name.{IsName}
use Rattle.eq_proof.specs.Clause.{IsBefore}
use Rattle.eq_proof.specs.Inference.{Inference}
use Rattle.eq_proof.specs.Literal.{Literal, code_of, literal_of}
use Rattle.eq_proof.specs.Text.{IsClauseUpTo, IsUpTo, literal_word}
use Rattle.eq_wit.specs.Line.{Field, HasForm, Number, Word, number}
use Rattle.eq_wit.specs.Texts.{step_fields}
use Rattle.eq_wit.specs.inner.Items.{HasZeros}
use Rattle.eq_wit.proofs.StepLemmas.{drop_here, drop_past, in_order}

get_drop : (ws : List (List ℕ)) (a k : ℕ) → slice_get (drop a ws) k ≡ slice_get ws (a + k)
get_drop ws zero k = ap (slice_get ws) (omega arith)
get_drop [] (suc a) k = refl
get_drop (x ∷ ws) (suc a) k =
    let place : suc (a + k) ≡ suc a + k = omega arith in
    get_drop ws a k ∙ ap (slice_get (x ∷ ws)) place

-- ---- words of a form

word_front : (text : List ℕ) (fields : List Field) (ws : List (List ℕ)) → HasForm (Word text ∷ fields) ws →
    (tail : List (List ℕ)) × (ws ≡ text ∷ tail) × HasForm fields tail
word_front text fields [] h = absurd h
word_front text fields (w ∷ ws) h = (ws, ap (λ (x : List ℕ). x ∷ ws) h.0, h.1)

nothing_left : (ws : List (List ℕ)) → HasForm [] ws → ws ≡ []
nothing_left [] h = refl
nothing_left (w ∷ ws) h = absurd h

module _ {X : Type 0} (g : X → List ℕ) where
  form_split : (xs : List X) (fields : List Field) (ws : List (List ℕ)) →
      HasForm (map (λ x. Number (g x)) xs ++ fields) ws →
      HasForm fields (drop (length xs) ws) × (length xs ≤ length ws)
  form_split [] fields ws h = (h, omega arith)
  form_split (x ∷ xs) fields [] h = absurd h
  form_split (x ∷ xs) fields (w ∷ ws) h =
      let more = form_split xs fields ws h.1 in (more.0, omega (arith, more.1))

  form_list : (xs : List X) (fields : List Field) (ws : List (List ℕ)) → length xs ≤ length ws →
      ((k : ℕ) (w : List ℕ) → slice_get ws k ≡ Some w → IsName w) → HasForm fields (drop (length xs) ws) →
      HasForm (map (λ x. Number (g x)) xs ++ fields) ws
  form_list [] fields ws long names h = h
  form_list (x ∷ xs) fields [] long names h = absurd (omega (arith, long))
  form_list (x ∷ xs) fields (w ∷ ws) long names h =
      (names 0 w refl, form_list xs fields ws (omega (arith, long)) (λ k v e. names (suc k) v e) h)

-- words of a step's form have `0` behind its literals and at the end
pub form_zeros : (n : ℕ) (step : Inference) (ws : List (List ℕ)) → HasForm (step_fields n step) ws →
    HasZeros ws (suc (length step.clause))
form_zeros n step [] h = absurd h
form_zeros n step (w ∷ rest) h =
    let k = length step.clause in
    let m = length step.ants in
    let first = form_split literal_word step.clause
    (Word (codes "0") ∷ (map number step.ants ++ (Word (codes "0") ∷ []))) rest h.1 in
    let middle = word_front (codes "0") (map number step.ants ++ (Word (codes "0") ∷ [])) (drop k rest) first.0 in
    let t = middle.0 in
    let second = form_split decimal step.ants (Word (codes "0") ∷ []) t middle.2 in
    let last = word_front (codes "0") [] (drop m t) second.0 in
    let none = nothing_left last.0 last.2 in
    let all : length rest - k ≡ suc (length t) = sym (length-drop k rest) ∙ ap length middle.1 in
    let behind : length t - m ≡ suc (length last.0) = sym (length-drop m t) ∙ ap length last.1 in
    let empty : length last.0 ≡ 0 = ap length none in
    let at_m : slice_get t m ≡ Some (codes "0") =
    ap (slice_get t) (omega arith) ∙ sym (get_drop t m 0) ∙ ap (λ (v : List (List ℕ)). slice_get v 0) last.1 in
    let place : length rest - 1 ≡ k + suc m = omega (arith, all, behind, empty, first.1, second.1) in
    let end : suc (length rest) - 1 ≡ suc (length rest - 1) = omega (arith, all, first.1) in
    record {
      from = omega arith;
      within = omega (arith, all, behind, empty, first.1, second.1);
      middle = ap (slice_get rest) (omega arith) ∙ sym (get_drop rest k 0)
          ∙ ap (λ (v : List (List ℕ)). slice_get v 0) middle.1;
      last = ap (slice_get (w ∷ rest)) end ∙ ap (slice_get rest) place ∙ sym (get_drop rest k (suc m))
          ∙ ap (λ (v : List (List ℕ)). slice_get v (suc m)) middle.1 ∙ at_m;
    }

-- ---- a clause of any length

abbrev alternating : ℕ → ℕ → List Literal
alternating n zero = []
alternating n (suc k) = literal_of n ∷ alternating (suc n) k

long_so : (n k : ℕ) → length (alternating n k) ≡ k
long_so n zero = refl
long_so n (suc k) = ap suc (long_so (suc n) k)

at_place : (n k i : ℕ) (d : Literal) → i < k → get_or (alternating n k) i d ≡ literal_of (n + i)
at_place n zero i d h = absurd (omega arith)
at_place n (suc k) zero d h = ap literal_of (omega arith)
at_place n (suc k) (suc i) d h = at_place (suc n) k i d (omega arith) ∙ ap literal_of (omega arith)

next_before : (n : ℕ) → IsBefore (literal_of n) (literal_of (suc n))
next_before n = elim (cases_Bool (n % 2 == 0)) [
  | inl even ↦ inr (grind (arith, nat_tests, even), even, grind (arith, nat_tests, even))
  | inr odd ↦ inl (grind (arith, nat_tests, odd))
]

abbrev pub clause_of : ℕ → List Literal
clause_of k = alternating 2 k

pub clause_of-length : (k : ℕ) → length (clause_of k) ≡ k
clause_of-length k = long_so 2 k

pub clause_of-fits : (k : ℕ) → suc k < 2 ^ 32 → IsClauseUpTo (2 ^ 31 - 1) (clause_of k)
clause_of-fits k few =
    let long = long_so 2 k in
    record {
      ordered = in_order (clause_of k) (λ i d less.
          let next : suc (2 + i) ≡ 2 + suc i = omega arith in
          subst (λ (a : Literal). IsBefore a (get_or (clause_of k) (suc i) d)) (sym (at_place 2 k i d (omega
          (arith, less, long))))
          (subst (IsBefore (literal_of (2 + i))) (ap literal_of next
          ∙ sym (at_place 2 k (suc i) d (omega (arith, less, long))))
          (next_before (2 + i))));
      within = λ i d less. subst (IsUpTo (2 ^ 31 - 1)) (sym (at_place 2 k i d (omega (arith, less, long))))
          (omega (arith, less, long, few), omega (arith, less, long, few));
    }

-- ---- a clause is no longer than that

bit_few : (p : Bool) → cond p 0 1 ≤ 1
bit_few true = omega arith
bit_few false = omega arith

code_more : (a b : Literal) → IsBefore a b → code_of a < code_of b
code_more a b (inl p) = omega (arith, p, bit_few a.positive)
code_more a b (inr p) =
    let first : ◌≡◌ {A = ℕ} (cond a.positive 0 1) 0 = ap (λ (t : Bool). cond t 0 1) p.1 in
    let second : ◌≡◌ {A = ℕ} (cond b.positive 0 1) 1 = ap (λ (t : Bool). cond t 0 1) p.2 in
    omega (arith, p.0, first, second)

codes_rise : (xs : List Literal) → IsClauseUpTo (2 ^ 31 - 1) xs → (i : ℕ) (d : Literal) → i < length xs →
    2 + i ≤ code_of (get_or xs i d)
codes_rise xs h zero d less = let from = (h.within 0 d less).0 in omega (arith, from)
codes_rise xs h (suc i) d less =
    let before = codes_rise xs h i d (omega arith) in
    let more = code_more (get_or xs i d) (get_or xs (suc i) d) (h.ordered i (suc i) d (omega arith) less) in
    omega (arith, before, more)

pub few_literals : (xs : List Literal) → IsClauseUpTo (2 ^ 31 - 1) xs → suc (length xs) < 2 ^ 32
few_literals [] h = omega arith
few_literals (x ∷ xs) h =
    let low = codes_rise (x ∷ xs) h (length xs) x (omega arith) in
    let up = (h.within (length xs) x (omega arith)).1 in
    omega (arith, low, up, bit_few (get_or (x ∷ xs) (length xs) x).positive)

-- ---- a step of a form

pub sample_form : (n : ℕ) (ws : List (List ℕ)) (z : ℕ) → HasZeros ws z →
    ((k : ℕ) (w : List ℕ) → slice_get ws k ≡ Some w → IsName w) →
    HasForm (step_fields n (record { clause = clause_of (z - 1); ants = replicate (length ws - z - 2) 1 })) ws
sample_form n [] z h names = absurd (omega (arith, h.within))
sample_form n (w ∷ rest) zero h names = absurd (omega (arith, h.from))
sample_form n (w ∷ rest) (suc z) h names =
    let one : suc z - 1 ≡ z = omega arith in
    let m : ℕ = suc (length rest) - suc z - 2 in
    let t = drop (z + 1) rest in
    let many : length (replicate {A = ℕ} m 1) ≡ m = length-replicate m 1 in
    let long : length (clause_of (suc z - 1)) ≡ suc z - 1 = clause_of-length (suc z - 1) in
    let within = h.within in
    let behind : length t ≡ length rest - (z + 1) = length-drop (z + 1) rest in
    let back : suc (length rest) - 1 ≡ suc (length rest - 1) = omega (arith, within) in
    let end : slice_get rest (length rest - 1) ≡ Some (codes "0") = ap (slice_get (w ∷ rest)) (sym back) ∙ h.last in
    let place : z + 1 + m ≡ length rest - 1 = omega (arith, within) in
    let after : drop m t ≡ codes "0" ∷ [] =
    drop_here t m (codes "0") (get_drop rest (z + 1) m ∙ ap (slice_get rest) place ∙ end)
    ∙ ap (λ (v : List (List ℕ)). codes "0" ∷ v) (drop_past t (m + 1) (omega (arith, behind, within, place))) in (
      names 0 w refl,
      form_list literal_word (clause_of (suc z - 1)) (Word (codes "0") ∷ (map number (replicate m 1) ++ (Word
          (codes "0") ∷ [])))
          rest (omega (arith, long, within)) (λ k v e. names (suc k) v e)
          (subst (HasForm (Word (codes "0") ∷ (map number (replicate m 1) ++ (Word (codes "0") ∷ []))))
          (sym (ap (λ (a : ℕ). drop a rest) (long ∙ one) ∙ drop_here rest z (codes "0") h.middle)) (
            refl,
            form_list decimal (replicate m 1) (Word (codes "0") ∷ []) t (omega (arith, many, behind, within))
                (λ k v e. names (suc (z + 1 + k)) v (sym (get_drop rest (z + 1) k) ∙ e))
                (subst (HasForm (Word (codes "0") ∷ [])) (sym (ap (λ (a : ℕ). drop a t) many ∙ after)) (refl, tt)),
          )),
    )

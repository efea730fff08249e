-- The bits of a concatenation: those of its rest, and above them those of its first part.
use Rattle.std.proofs.Common.{◌≡◌, ℕ, zero, suc, ◌-◌, ◌<◌, ◌≤◌, cond, List, [], ◌∷◌, ◌++◌, drop, map, length, slice_get, slice_index_or, Option, Some, None, refl, arith, sym, ap, subst, ◌∙◌, inl, inr}
use Rattle.std.proofs.lemmas.Bool.{cases_lt}
use Rattle.std.proofs.lemmas.List.{append_assoc, append-nil, length-append}
use Rattle.std.proofs.lemmas.List.Elements.{All-append}
use Rattle.eq_names.specs.declared.BitName.{BitName}
use Rattle.eq_net.specs.declared.types.NetInfo.{NetInfo}
use Rattle.eq_net.specs.Meaning.{if_there}
use Rattle.eq_net.specs.Net.{HasBit, number_of}
use Rattle.eq_verilog.specs.Trees.{ExprTree, empty, joined, join_all}
use Rattle.eq_verilog.specs.Scopes.{Scope}
use Rattle.eq_verilog.specs.Sizes.{own}
use Rattle.eq_verilog.specs.Expressions.{wire}
use Rattle.eq_analysis.specs.Measuring.{IsFit}
use Rattle.eq_flatten.specs.Meant.{AddsMeant, AreMeant, AreSlim}
use Rattle.eq_flatten.proofs.Listing.{first_false, first_true}

front_get : {A : Type 0} (xs ys : List A) (j : ℕ) → j < length xs → slice_get (xs ++ ys) j ≡ slice_get xs j
front_get [] ys j h = absurd (omega (arith, h))
front_get (x ∷ xs) ys zero h = refl
front_get (x ∷ xs) ys (suc j) h = front_get xs ys j (omega (arith, h))

back_get : {A : Type 0} (xs ys : List A) (j : ℕ) → length xs ≤ j → slice_get (xs ++ ys) j ≡ slice_get ys (j - length xs)
back_get [] ys j h = ap (λ n. slice_get ys n) (let e : j ≡ j - 0 = omega arith in e)
back_get (x ∷ xs) ys zero h = absurd (omega (arith, h))
back_get (x ∷ xs) ys (suc j) h =
    back_get xs ys j (omega (arith, h))
    ∙ ap (λ n. slice_get ys n) (let e : j - length xs ≡ suc j - suc (length xs) = omega arith in e)

module _ (nets : List NetInfo) (s : Scope) where
  meant_joined : (a b : ExprTree) (xs ys : List BitName) → AreMeant nets s a xs → AreMeant nets s b ys →
      AreMeant nets s (joined a b) (ys ++ xs)
  meant_joined a b xs ys one other = record {
    there = All-append (HasBit nets) ys xs other.there one.there;
    size = (let l = length-append ys xs in let m = one.size in let n = other.size in omega (arith, l, m, n));
    wires = λ j.
        let meant : Option BitName → Option ℕ = λ o. if_there None (λ (x : BitName). Some (number_of nets x)) o in
        elim (cases_lt j (own s b)) [
          | inl less ↦
              ap meant (front_get ys xs j (let n = other.size in omega (arith, n, less)))
              ∙ other.wires j
              ∙ sym (ap (λ t. cond t (wire s b j) (wire s a (j - own s b))) (first_true j (own s b) less))
          | inr more ↦
              ap meant (back_get ys xs j (let n = other.size in omega (arith, n, more)))
              ∙ ap (λ n. meant (slice_get xs (j - n))) other.size
              ∙ one.wires (j - own s b)
              ∙ sym (ap (λ t. cond t (wire s b j) (wire s a (j - own s b))) (first_false j (own s b) more))
        ];
  }

  -- nothing is put for no parts
  pub adds_none : (bits : List BitName) → AddsMeant nets s empty bits bits
  adds_none bits = record {
    bits = [];
    meant = record { there = λ k d h. absurd (omega (arith, h)); size = refl; wires = λ j. refl };
    added = sym (append-nil bits);
  }

  -- a part in front of those that were put
  pub adds_joined : (a b : ExprTree) (old mid new : List BitName) → AddsMeant nets s b old mid →
      AddsMeant nets s a mid new → AddsMeant nets s (joined a b) old new
  adds_joined a b old mid new rest one = record {
    bits = rest.bits ++ one.bits;
    meant = meant_joined a b one.bits rest.bits one.meant rest.meant;
    added = one.added ∙ ap (λ xs. xs ++ one.bits) rest.added ∙ append_assoc old rest.bits one.bits;
  }

  -- what was put behind nothing is what is meant
  pub meant_of : (e : ExprTree) (old new : List BitName) → old ≡ [] → AddsMeant nets s e old new → AreMeant nets s e new
  meant_of e old new none h =
      subst (λ xs. AreMeant nets s e xs) (sym (h.added ∙ ap (λ xs. xs ++ h.bits) none)) h.meant

  -- the bits of a name or a select are put
  pub adds_all : (e : ExprTree) (bits old new : List BitName) → AreMeant nets s e bits → new ≡ old ++ bits →
      AddsMeant nets s e old new
  adds_all e bits old new meant added = record { bits = bits; meant = meant; added = added }

module _ {T : Type 0} (f : T → ExprTree) where
  rest_suc : (ts : List T) (k : ℕ) (t : T) → k < length ts → t ≡ slice_index_or ts k t →
      join_all (map f (drop k ts)) ≡ joined (f t) (join_all (map f (drop (suc k) ts)))
  rest_suc [] k t inside is = absurd (omega (arith, inside))
  rest_suc (x ∷ xs) zero t inside is = ap (λ y. joined (f y) (join_all (map f xs))) (sym is)
  rest_suc (x ∷ xs) (suc k) t inside is = rest_suc xs k t (omega (arith, inside)) is

  -- the parts from one on, for the place before those that are done
  pub rest_parts : (ts : List T) (k m : ℕ) (t : T) → m ≡ suc k → k < length ts → t ≡ slice_index_or ts k t →
      join_all (map f (drop k ts)) ≡ joined (f t) (join_all (map f (drop m ts)))
  rest_parts ts k m t next inside is =
      rest_suc ts k t inside is ∙ ap (λ n. joined (f t) (join_all (map f (drop n ts)))) (sym next)

  pub no_rest : (ts : List T) (k : ℕ) → k ≡ length ts → join_all (map f (drop k ts)) ≡ empty
  no_rest [] zero is = refl
  no_rest [] (suc k) is = absurd (omega (arith, is))
  no_rest (t ∷ ts) zero is = absurd (omega (arith, is))
  no_rest (t ∷ ts) (suc k) is = no_rest ts k (omega (arith, is))

  module _ (P : ExprTree → Type 0) (first : (a b : ExprTree) → P (joined a b) → P a)
      (second : (a b : ExprTree) → P (joined a b) → P b) where
    -- what holds of a concatenation's parts holds of each
    pub each_part : (ts : List T) (k : ℕ) (t : T) → k < length ts → t ≡ slice_index_or ts k t → P (join_all (map f ts)) →
        P (f t)
    each_part [] k t inside is h = absurd (omega (arith, inside))
    each_part (x ∷ xs) zero t inside is h =
        subst (λ y. P (f y)) (sym is) (first (f x) (join_all (map f xs)) h)
    each_part (x ∷ xs) (suc k) t inside is h =
        each_part xs k t (omega (arith, inside)) is (second (f x) (join_all (map f xs)) h)

-- each part of a target has its names and selects, and is slim
pub fit_each : {T : Type 0} (f : T → ExprTree) (nets : List NetInfo) (names : List (List ℕ)) (from : ℕ) (ts : List T)
    (k : ℕ) (t : T) → k < length ts → t ≡ slice_index_or ts k t → IsFit nets names from (join_all (map f ts)) →
    IsFit nets names from (f t)
fit_each f nets names from = each_part f (IsFit nets names from) (λ a b h. h.0) (λ a b h. h.1)

pub slim_each : {T : Type 0} (f : T → ExprTree) (s : Scope) (ts : List T) (k : ℕ) (t : T) → k < length ts →
    t ≡ slice_index_or ts k t → AreSlim s (join_all (map f ts)) → AreSlim s (f t)
slim_each f s = each_part f (AreSlim s) (λ a b h. h.0) (λ a b h. h.1)

-- The marks of a word on the stack, from those of its operands.
use Rattle.std.proofs.Common.{◌≡◌, ℕ, zero, suc, ◌+◌, ◌-◌, ◌<◌, List, [], ◌∷◌, ◌++◌, cond, false, map, drop, slice_get, slice_index_or, length, length-append, Option, None, refl, arith, ap, sym, subst, ◌∙◌, inl, inr}
use Rattle.std.proofs.Math.ListN.{get_or-append}
use Rattle.std.proofs.lemmas.Bool.{cases_lt, lt-ltb, lt-leb}
use Rattle.std.proofs.lemmas.List.{get_or-append_right}
use Rattle.eq_names.specs.declared.BitName.{BitName}
use Rattle.eq_net.specs.declared.types.NetInfo.{NetInfo}
use Rattle.eq_net.specs.declared.types.WordOp.{WordOp}
use Rattle.eq_net.specs.declared.types.WordOp.TheVariants.{And, Or, Xor, Xnor, Add, Sub, Shl, Shr, Eq, Ne, Lt, Le, Gt, Ge, LogAnd, LogOr}
use Rattle.eq_net.specs.Meaning.{if_there, result_size, width}
use Rattle.eq_net.specs.Net.{word_at}
use Rattle.eq_net.specs.Operators.{has_free_sizes}
use Rattle.eq_net.specs.Tree.{Tree, joined, join_all}
use Rattle.eq_marks.specs.declared.marks.Way.{Way}
use Rattle.eq_marks.specs.inner.Carrying.{IsFitting, carried}
use Rattle.eq_marks.specs.inner.Marks.{Marks, GrowsBy, Overwrites, mixed, mixed_all, mixed_down, one_mark, operated, part}
use Rattle.eq_marks.proofs.MarkStacks.{all_same, down_same, marked_same}
use Rattle.eq_marks.proofs.WordTrees.{rest_from}

length_map : {A B : Type 0} (f : A → B) (xs : List A) → length (map f xs) ≡ length xs
length_map f [] = refl
length_map f (x ∷ xs) = (let e = length_map f xs in omega arith)

map_at : {A : Type 0} (f : A → Option ℕ) (xs : List A) (j : ℕ) → slice_index_or (map f xs) j None ≡ if_there None f
    (slice_get xs j)
map_at f [] j = refl
map_at f (x ∷ xs) zero = refl
map_at f (x ∷ xs) (suc j) = map_at f xs j

pub pushed : {A : Type 0} (f : A → Option ℕ) (xs : List A) (old new : List (Option ℕ)) → new ≡ old ++ map f xs →
    GrowsBy (λ j. if_there None f (slice_get xs j)) (length xs) old new
pushed f xs old new is = record {
  size = (let e = ap length is in let s = length-append old (map f xs) in let m = length_map f xs in omega arith);
  kept = λ k lt. ap (λ (ys : List (Option ℕ)). slice_index_or ys k None) is ∙ get_or-append old (map f xs) None k lt;
  put = λ j lt. ap (λ (ys : List (Option ℕ)). slice_index_or ys (length old + j) None) is
      ∙ get_or-append_right old (map f xs) (length old) (length old + j) None refl (omega arith)
      ∙ ap (λ n. slice_index_or (map f xs) n None) (let e : (length old + j) - length old ≡ j = omega arith in e)
      ∙ map_at f xs j;
}

-- how much a growth added
pub added : (f : Marks) (w : ℕ) (old new : List (Option ℕ)) → GrowsBy f w old new → length new - length old ≡ w
added f w old new g = (let s = g.size in omega arith)

pub mixed_both : (way : Way) (x y u v : Option ℕ) → x ≡ u → y ≡ v → mixed way x y ≡ mixed way u v
mixed_both way x y u v p q = ap (λ z. mixed way z y) p ∙ ap (mixed way u) q

-- an operation sees the marks of as many bits as its operands have
module _ (way : Way) (m n : ℕ) (f g h k : Marks) (p : (i : ℕ) → i < m → f i ≡ h i) (q : (i : ℕ) → i < n → g i ≡ k i) (j
    : ℕ) where
  place_by_place : m ≡ n → j < m → mixed way (f j) (g j) ≡ mixed way (h j) (k j)
  place_by_place sizes lt = mixed_both way (f j) (g j) (h j) (k j) (p j lt) (q j (omega arith))

  up_to : m ≡ n → j < m → mixed_all way (suc j) (λ i. mixed way (f i) (g i)) ≡ mixed_all way (suc j) (λ i. mixed way (h
      i) (k i))
  up_to sizes lt = all_same way (suc j) (λ i. mixed way (f i) (g i)) (λ i. mixed way (h i) (k i))
      (λ i li. mixed_both way (f i) (g i) (h i) (k i) (p i (omega arith)) (q i (omega arith)))

  all_of_both : mixed way (mixed_all way m f) (mixed_all way n g) ≡ mixed way (mixed_all way m h) (mixed_all way n k)
  all_of_both = mixed_both way (mixed_all way m f) (mixed_all way n g) (mixed_all way m h) (mixed_all way n k)
      (all_same way m f h p) (all_same way n g k q)

  one_of_both : one_mark (mixed way (mixed_all way m f) (mixed_all way n g)) j ≡ one_mark (mixed way (mixed_all way m
      h) (mixed_all way n k)) j
  one_of_both = ap (λ x. one_mark x j) all_of_both

  pub operated_below : (o : WordOp) → (has_free_sizes o ≡ false → m ≡ n) → j < result_size o m → operated way o m n f g
      j ≡ operated way o m n h k j
  operated_below And sizes lt = place_by_place (sizes refl) lt
  operated_below Or sizes lt = place_by_place (sizes refl) lt
  operated_below Xor sizes lt = place_by_place (sizes refl) lt
  operated_below Xnor sizes lt = place_by_place (sizes refl) lt
  operated_below Add sizes lt = up_to (sizes refl) lt
  operated_below Sub sizes lt = up_to (sizes refl) lt
  operated_below Shl sizes lt =
      mixed_both way (mixed_all way (suc j) f) (mixed_all way n g) (mixed_all way (suc j) h) (mixed_all way n k)
      (all_same way (suc j) f h (λ i li. p i (omega arith))) (all_same way n g k q)
  operated_below Shr sizes lt =
      mixed_both way (mixed_down way m (m - j) f) (mixed_all way n g) (mixed_down way m (m - j) h) (mixed_all way n k)
      (down_same way m (m - j) f h (omega arith) p) (all_same way n g k q)
  operated_below Eq sizes lt = one_of_both
  operated_below Ne sizes lt = one_of_both
  operated_below Lt sizes lt = one_of_both
  operated_below Le sizes lt = one_of_both
  operated_below Gt sizes lt = one_of_both
  operated_below Ge sizes lt = one_of_both
  operated_below LogAnd sizes lt = one_of_both
  operated_below LogOr sizes lt = one_of_both

module _ (way : Way) (f g : Marks) (v w : ℕ) (s0 s1 s2 : List (Option ℕ)) (ga : GrowsBy f v s0 s1) (gb : GrowsBy g w s1
    s2) where
  -- the first of two operands is where it was
  first_same : (j : ℕ) → j < v → part s2 (length s0) j ≡ f j
  first_same j lt = gb.kept (length s0 + j) (let s = ga.size in omega arith) ∙ ga.put j lt

  second_same : (j : ℕ) → j < w → part s2 (length s1) j ≡ g j
  second_same j lt = gb.put j lt

  below_both : (k : ℕ) → k < length s0 → slice_index_or s2 k None ≡ slice_index_or s0 k None
  below_both k lt = gb.kept k (let s = ga.size in omega arith) ∙ ga.kept k lt

  -- one word on top of another, with the higher bits
  pub stacked : (h : Marks) → ((j : ℕ) → j < v → h j ≡ f j) → ((j : ℕ) → j < w → h (v + j) ≡ g j) → GrowsBy h (v + w)
      s0 s2
  stacked h low high = record {
    size = (let s = ga.size in let t = gb.size in omega arith);
    kept = below_both;
    put = λ j lt. elim (cases_lt j v) [
      | inl less ↦ first_same j less ∙ sym (low j less)
      | inr more ↦ (
          let at : length s0 + j ≡ length s1 + (j - v) = (let s = ga.size in omega arith) in
          let up : v + (j - v) ≡ j = omega arith in
          ap (λ k. slice_index_or s2 k None) at ∙ second_same (j - v) (omega arith) ∙ sym (high (j - v) (omega arith))
          ∙ ap h up)
    ];
  }

  pub worked : (o : WordOp) (s3 : List (Option ℕ)) → (has_free_sizes o ≡ false → v ≡ w) →
      Overwrites (length s0) (operated way o (length s1 - length s0) (length s2 - length s1) (part s2 (length s0))
      (part s2 (length s1)))
      (result_size o (length s1 - length s0)) s2 s3 →
      GrowsBy (operated way o v w f g) (result_size o v) s0 s3
  worked o s3 sizes r =
      let x = added f v s0 s1 ga in
      let y = added g w s1 s2 gb in
      marked_same (length s0) (operated way o (length s1 - length s0) (length s2 - length s1) (part s2 (length s0))
      (part s2 (length s1))) (operated way o v w f g)
      (result_size o (length s1 - length s0)) (result_size o v) s2 s0 s3 (ap (result_size o) x)
      (λ j lt. ap (λ n. operated way o n (length s2 - length s1) (part s2 (length s0)) (part s2 (length s1)) j) x
      ∙ ap (λ n. operated way o v n (part s2 (length s0)) (part s2 (length s1)) j) y
      ∙ operated_below way v w (part s2 (length s0)) (part s2 (length s1)) f g first_same second_same j o sizes lt)
      below_both r

  -- two operands mixed place by place
  pub combined : (s3 : List (Option ℕ)) → v ≡ w →
      Overwrites (length s0) (λ j. mixed way (part s2 (length s0) j) (part s2 (length s1) j)) (length s1 - length s0)
      s2 s3 →
      GrowsBy (λ j. mixed way (f j) (g j)) v s0 s3
  combined s3 sizes r =
      marked_same (length s0) (λ j. mixed way (part s2 (length s0) j) (part s2 (length s1) j)) (λ j. mixed way (f j) (g
      j))
      (length s1 - length s0) v s2 s0 s3 (added f v s0 s1 ga)
      (λ j lt. mixed_both way (part s2 (length s0) j) (part s2 (length s1) j) (f j) (g j) (first_same j lt)
      (second_same j (omega arith)))
      below_both r

  -- what is made of all of the second operand
  pub all_of_second : (n : ℕ) → n ≡ length s2 - length s1 → mixed_all way n (part s2 (length s1)) ≡ mixed_all way w g
  all_of_second n is =
      ap (λ k. mixed_all way k (part s2 (length s1))) (is ∙ added g w s1 s2 gb) ∙ all_same way w (part s2 (length s1))
      g second_same

module _ (way : Way) (f : Marks) (w : ℕ) (s0 s1 : List (Option ℕ)) (g : GrowsBy f w s0 s1) where
  below_one : (k : ℕ) → k < length s0 → slice_index_or s1 k None ≡ slice_index_or s0 k None
  below_one = g.kept

  pub summed_up : (s2 : List (Option ℕ)) → Overwrites (length s0) (λ j. mixed_all way (suc j) (part s1 (length s0)))
      (length s1 - length s0) s1 s2 →
      GrowsBy (λ j. mixed_all way (suc j) f) w s0 s2
  summed_up s2 r =
      marked_same (length s0) (λ j. mixed_all way (suc j) (part s1 (length s0))) (λ j. mixed_all way (suc j) f) (length
      s1 - length s0) w s1 s0 s2 (added f w s0 s1 g)
      (λ j lt. all_same way (suc j) (part s1 (length s0)) f (λ i li. g.put i (omega arith))) below_one r

  pub reduced_to : (n : ℕ) (s2 : List (Option ℕ)) → n ≡ length s1 - length s0 →
      Overwrites (length s0) (λ j. mixed_all way n (part s1 (length s0))) 1 s1 s2 → GrowsBy (one_mark (mixed_all way w
      f)) 1 s0 s2
  reduced_to n s2 is r =
      marked_same (length s0) (λ j. mixed_all way n (part s1 (length s0))) (one_mark (mixed_all way w f)) 1 1 s1 s0 s2
      refl
      (λ j lt. ap (λ k. mixed_all way k (part s1 (length s0))) (is ∙ added f w s0 s1 g) ∙ all_same way w (part s1
      (length s0)) f g.put
      ∙ ap (one_mark (mixed_all way w f)) (let e : 0 ≡ j = omega arith in e)) below_one r

  -- a mark that is mixed into each
  pub mixed_with : (x y : Option ℕ) (s2 : List (Option ℕ)) → x ≡ y →
      Overwrites (length s0) (λ j. mixed way (part s1 (length s0) j) x) (length s1 - length s0) s1 s2 → GrowsBy (λ j.
      mixed way (f j) y) w s0 s2
  mixed_with x y s2 is r =
      marked_same (length s0) (λ j. mixed way (part s1 (length s0) j) x) (λ j. mixed way (f j) y) (length s1 - length
      s0) w s1 s0 s2 (added f w s0 s1 g)
      (λ j lt. mixed_both way (part s1 (length s0) j) x (f j) y (g.put j lt) is) below_one r

-- what was put on top is dropped again
pub dropped : (f : Marks) (w : ℕ) (s0 s1 s2 s3 : List (Option ℕ)) → GrowsBy f w s0 s1 → length s3 ≡ length s1 →
    ((k : ℕ) → k < length s1 → slice_index_or s2 k None ≡ slice_index_or s1 k None) →
    ((k : ℕ) → k < length s1 → slice_index_or s3 k None ≡ slice_index_or s2 k None) → GrowsBy f w s0 s3
dropped f w s0 s1 s2 s3 g size kept left = record {
  size = size ∙ g.size;
  kept = λ k lt. left k (let s = g.size in omega arith) ∙ kept k (let s = g.size in omega arith) ∙ g.kept k lt;
  put = λ j lt. left (length s0 + j) (let s = g.size in omega arith) ∙ kept (length s0 + j) (let s = g.size in omega
      arith) ∙ g.put j lt;
}

module _ (way : Way) (named : BitName → Option ℕ) (e : ℕ → ℕ → Option ℕ) where
  -- one part more of a concatenation, with the higher bits
  part_more : (t rest : Tree) (s0 s1 s2 : List (Option ℕ)) →
      GrowsBy (carried way named e rest) (width rest) s0 s1 → GrowsBy (carried way named e t) (width t) s1 s2 →
      GrowsBy (carried way named e (joined t rest)) (width (joined t rest)) s0 s2
  part_more t rest s0 s1 s2 gr gt =
      let a = carried way named e t in
      let b = carried way named e rest in
      let up : (j : ℕ) → (width rest + j) - width rest ≡ j = λ j. omega arith in
      marked_same (length s0) (carried way named e (joined t rest)) (carried way named e (joined t rest)) (width rest +
      width t) (width t + width rest) s0 s0 s2 (omega arith) (λ j lt. refl) (λ k lt. refl)
      (stacked way b a (width rest) (width t) s0 s1 s2 gr gt (carried way named e (joined t rest))
      (λ j lt. ap (λ q. cond {A = Option ℕ} q (b j) (a (j - width rest))) (lt-ltb j (width rest) lt))
      (λ j lt. ap (λ q. cond {A = Option ℕ} q (b (width rest + j)) (a ((width rest + j) - width rest))) (lt-leb (suc
      (width rest + j)) (width rest) (omega arith)) ∙ ap a (up j)))

  -- the same of the part before those that stand
  pub part_before : (ts : List Tree) (k : ℕ) (s0 s1 s2 : List (Option ℕ)) → k < length ts →
      GrowsBy (carried way named e (join_all (drop (suc k) ts))) (width (join_all (drop (suc k) ts))) s0 s1 →
      GrowsBy (carried way named e (word_at ts k)) (width (word_at ts k)) s1 s2 →
      GrowsBy (carried way named e (join_all (drop k ts))) (width (join_all (drop k ts))) s0 s2
  part_before ts k s0 s1 s2 lt gr gt =
      let P : List Tree → Type 0 = λ us. GrowsBy (carried way named e (join_all us)) (width (join_all us)) s0 s2 in
      subst P (sym (rest_from ts k lt)) (part_more (word_at ts k) (join_all (drop (suc k) ts)) s0 s1 s2 gr gt)

-- each part of a concatenation has what is asked of the whole
pub part_fitting : (nets : List NetInfo) (ts : List Tree) (k : ℕ) → k < length ts → IsFitting nets (join_all ts) →
    IsFitting nets (word_at ts k)
part_fitting nets [] k lt is = absurd (omega arith)
part_fitting nets (t ∷ ts) zero lt is = is.0
part_fitting nets (t ∷ ts) (suc k) lt is = part_fitting nets ts k (omega arith) is.1

-- What stands on a stack of marks after the operands of a word and after its operator.
use Rattle.std.proofs.Common.{◌≡◌, ℕ, zero, suc, ◌-◌, ◌<◌, ◌≤◌, List, Option, None, length, slice_index_or, refl, arith, ap, ◌∙◌}
use Rattle.eq_marks.specs.declared.marks.Way.{Way}
use Rattle.eq_marks.specs.inner.Marks.{Marks, Overwrites, mixed, mixed_all, mixed_down, part}

pub all_same : (way : Way) (n : ℕ) (f g : Marks) → ((i : ℕ) → i < n → f i ≡ g i) → mixed_all way n f ≡ mixed_all way n g
all_same way zero f g same = refl
all_same way (suc n) f g same =
    ap (λ x. mixed way x (f n)) (all_same way n f g (λ i lt. same i (omega arith))) ∙ ap (mixed way (mixed_all way n
    g)) (same n (omega arith))

pub down_same : (way : Way) (m n : ℕ) (f g : Marks) → n ≤ m → ((i : ℕ) → i < m → f i ≡ g i) → mixed_down way m n f ≡
    mixed_down way m n g
down_same way m n f g le same = all_same way n (λ i. f ((m - 1) - i)) (λ i. g ((m - 1) - i)) (λ i lt. same ((m - 1) -
    i) (omega arith))

-- the same marks, said in another way
pub marked_same : (from : ℕ) (f g : Marks) (v w : ℕ) (old old' new : List (Option ℕ)) → v ≡ w → ((j : ℕ) → j < w → f j
    ≡ g j) →
    ((k : ℕ) → k < from → slice_index_or old k None ≡ slice_index_or old' k None) → Overwrites from f v old new →
    Overwrites from g w old' new
marked_same from f g v w old old' new e same below r = record {
  size = (let s = r.size in omega arith);
  kept = λ k lt. r.kept k lt ∙ below k lt;
  put = λ j lt. r.put j (omega arith) ∙ same j lt;
}

-- what is made place by place, and then upwards
pub summed : (way : Way) (left right : ℕ) (old s new : List (Option ℕ)) → left ≤ right → (f : Marks) →
    Overwrites left f (right - left) old s → Overwrites left (λ j. mixed_all way (suc j) (part s left)) (length s -
    left) s new →
    Overwrites left (λ j. mixed_all way (suc j) f) (right - left) old new
summed way left right old s new le f a b = record {
  size = (let x = a.size in let y = b.size in omega arith);
  kept = λ k lt. b.kept k lt ∙ a.kept k lt;
  put = λ j lt. b.put j (let x = a.size in omega arith) ∙ all_same way (suc j) (part s left) f (λ i li. a.put i (omega
      arith));
}

-- a mark that is mixed into what was made of the lower operand alone
pub shifted : (way : Way) (left right : ℕ) (x : Option ℕ) (f g : Marks) (old s t new : List (Option ℕ)) → left ≤ right
    → length s ≡ right →
    ((k : ℕ) → k < right → slice_index_or s k None ≡ slice_index_or old k None) →
    Overwrites left f (length s - left) s t → ((j : ℕ) → j < right - left → f j ≡ g j) →
    Overwrites left (λ j. mixed way (part t left j) x) (length t - left) t new →
    Overwrites left (λ j. mixed way (g j) x) (right - left) old new
shifted way left right x f g old s t new le size kept a same b = record {
  size = (let p = a.size in let q = b.size in omega arith);
  kept = λ k lt. b.kept k lt ∙ a.kept k lt ∙ kept k (omega arith);
  put = λ j lt. b.put j (let p = a.size in omega arith) ∙ ap (λ y. mixed way y x) (a.put j (omega arith) ∙ same j lt);
}

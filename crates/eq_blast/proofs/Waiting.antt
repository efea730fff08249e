-- What a node waits for: nothing where its operands are in the set, and then its copy reads only what stands for them.
use Rattle.std.proofs.Common.{◌≡◌, ℕ, Bool, true, false, Option, Some, None, refl, ap, ◌∙◌}
use Rattle.eq_bits.specs.declared.node.Node.{Node}
use Rattle.eq_bits.specs.declared.node.Node.TheVariants.{Const, Input, Not, And, Xor, Mux, Buf, Reg}
use Rattle.eq_bits.specs.Shared.{is_gate, normal_form, with_next}
use Rattle.eq_blast.specs.inner.Sorting.{IsCopy, first_of_two, renamed, unless, waits_for}

-- nothing is left out where nothing is waited for
had : (x : Bool) (a : ℕ) → unless x a ≡ None → x ≡ true
had true a e = refl
had false a e = absurd (cc)

first_none : (p q : Option ℕ) → first_of_two p q ≡ None → p ≡ None
first_none None q e = refl
first_none (Some a) q e = absurd (cc)

second_none : (p q : Option ℕ) → first_of_two p q ≡ None → q ≡ None
second_none None q e = e
second_none (Some a) q e = absurd (cc)

-- in a larger set the node waits for nothing either
still_has : (x y : Bool) (a : ℕ) → (x ≡ true → y ≡ true) → unless x a ≡ None → unless y a ≡ None
still_has x true a more e = refl
still_has x false a more e = absurd (let t : false ≡ true = more (had x a e) in cc)

both_none : (p q : Option ℕ) → p ≡ None → q ≡ None → first_of_two p q ≡ None
both_none None q e h = h
both_none (Some a) q e h = absurd (cc)

module _ (d d' : ℕ → Bool) (more : (a : ℕ) → d a ≡ true → d' a ≡ true) where
  two : (a b : ℕ) → first_of_two (unless (d a) a) (unless (d b) b) ≡ None →
      first_of_two (unless (d' a) a) (unless (d' b) b) ≡ None
  two a b e = both_none (unless (d' a) a) (unless (d' b) b)
      (still_has (d a) (d' a) a (more a) (first_none (unless (d a) a) (unless (d b) b) e))
      (still_has (d b) (d' b) b (more b) (second_none (unless (d a) a) (unless (d b) b) e))

  pub waits_less : (node : Node) → waits_for d node ≡ None → waits_for d' node ≡ None
  waits_less (Const b) e = refl
  waits_less (Input i) e = refl
  waits_less (Not a) e = still_has (d a) (d' a) a (more a) e
  waits_less (And a b) e = two a b e
  waits_less (Xor a b) e = two a b e
  waits_less (Mux s a b) e = both_none (unless (d' s) s) (first_of_two (unless (d' a) a) (unless (d' b) b))
      (still_has (d s) (d' s) s (more s)
      (first_none (unless (d s) s) (first_of_two (unless (d a) a) (unless (d b) b)) e))
      (two a b (second_none (unless (d s) s) (first_of_two (unless (d a) a) (unless (d b) b)) e))
  waits_less (Buf a) e = still_has (d a) (d' a) a (more a) e
  waits_less (Reg next init) e = refl

-- numbers that agree on the set give the same copies
module _ (d : ℕ → Bool) (f g : ℕ → ℕ) (same : (a : ℕ) → d a ≡ true → g a ≡ f a) where
  pub same_copy : (node new : Node) → waits_for d node ≡ None → IsCopy f node new → IsCopy g node new
  same_copy (Const b) new e copy = copy
  same_copy (Input i) new e copy = copy
  same_copy (Not a) new e copy = (copy.0, rw (same a (had (d a) a e)) copy.1)
  same_copy (And a b) new e copy =
      let p = same a (had (d a) a (first_none (unless (d a) a) (unless (d b) b) e)) in
      let q = same b (had (d b) b (second_none (unless (d a) a) (unless (d b) b) e)) in
      (copy.0, rw (p, q) copy.1)
  same_copy (Xor a b) new e copy =
      let p = same a (had (d a) a (first_none (unless (d a) a) (unless (d b) b) e)) in
      let q = same b (had (d b) b (second_none (unless (d a) a) (unless (d b) b) e)) in
      (copy.0, rw (p, q) copy.1)
  same_copy (Mux s a b) new e copy =
      let rest = second_none (unless (d s) s) (first_of_two (unless (d a) a) (unless (d b) b)) e in
      let o = same s (had (d s) s (first_none (unless (d s) s) (first_of_two (unless (d a) a) (unless (d b) b)) e)) in
      let p = same a (had (d a) a (first_none (unless (d a) a) (unless (d b) b) rest)) in
      let q = same b (had (d b) b (second_none (unless (d a) a) (unless (d b) b) rest)) in
      (copy.0, rw (o, p, q) copy.1)
  same_copy (Buf a) new e copy = (copy.0, rw (same a (had (d a) a e)) copy.1)
  same_copy (Reg next init) new e copy = copy

-- a copy is a gate where the node is one
kind : (f : ℕ → ℕ) (next : ℕ) (node : Node) → is_gate (with_next (normal_form (renamed f node)) next) ≡ is_gate node
kind f next (Const b) = refl
kind f next (Input i) = refl
kind f next (Not a) = refl
kind f next (And a b) = refl
kind f next (Xor a b) = refl
kind f next (Mux s a b) = refl
kind f next (Buf a) = refl
kind f next (Reg k init) = refl

pub copy_kind : (f : ℕ → ℕ) (node new : Node) → IsCopy f node new → is_gate new ≡ is_gate node
copy_kind f node new copy = ap is_gate copy.1 ∙ kind f copy.0 node

-- The value of each kind of expression and the ports that it names, and that what holds of these ports holds of each operand's.
use Rattle.std.proofs.Common.{◌≡◌, ℕ, Bool, not, ◌&&◌, ◌||◌, List, [], ◌∷◌, ◌++◌, ◌+◌, length, sym, ap, subst, ◌∙◌, arith, length-append, get_or}
use Rattle.std.specs.Prelude.{All}
use Rattle.std.proofs.Math.ListN.{get_or-append}
use Rattle.std.proofs.lemmas.List.{get_or-append-add}
use Rattle.eq_first.specs.declared.module.Expr.{Expr}
use Rattle.eq_first.specs.declared.module.Expr.TheVariants.{Port, rolls-Port, rolls-Not, rolls-And, rolls-Xor, rolls-Or}
use Rattle.eq_first.specs.declared.module.Expr.TheViews.{Not, And, Xor, Or}
use Rattle.eq_first.specs.declared.module.Expr.TheOpen.{Port as port_layer, Not as not_layer, And as and_layer, Xor as xor_layer, Or as or_layer}
use Rattle.eq_first.specs.declared.module.Expr.TheFolds.{fold-roll-Expr}
use Rattle.eq_first.specs.Value.{reads_of, reads_layer, value, value_layer, differ}

pub reads-Port : (n : ℕ) → reads_of (Port n) ≡ n ∷ []
reads-Port n = ap reads_of (sym (rolls-Port n)) ∙ fold-roll-Expr (List ℕ) reads_layer (port_layer n)

pub reads-Not : (a : Expr) → reads_of (Not a) ≡ reads_of a
reads-Not a = ap reads_of (sym (rolls-Not a)) ∙ fold-roll-Expr (List ℕ) reads_layer (not_layer a)

pub reads-And : (a b : Expr) → reads_of (And a b) ≡ reads_of a ++ reads_of b
reads-And a b = ap reads_of (sym (rolls-And a b)) ∙ fold-roll-Expr (List ℕ) reads_layer (and_layer a b)

pub reads-Xor : (a b : Expr) → reads_of (Xor a b) ≡ reads_of a ++ reads_of b
reads-Xor a b = ap reads_of (sym (rolls-Xor a b)) ∙ fold-roll-Expr (List ℕ) reads_layer (xor_layer a b)

pub reads-Or : (a b : Expr) → reads_of (Or a b) ≡ reads_of a ++ reads_of b
reads-Or a b = ap reads_of (sym (rolls-Or a b)) ∙ fold-roll-Expr (List ℕ) reads_layer (or_layer a b)

-- the two operands of a list that is one after the other
left_of : (P : ℕ → Type 0) (xs ys zs : List ℕ) → zs ≡ xs ++ ys → All P zs → All P xs
left_of P xs ys zs e h k d lt = subst P (ap (λ (l : List ℕ). get_or l k d) e ∙ get_or-append xs ys d k lt) (h k d (omega (arith, length-append xs ys, ap length e)))

right_of : (P : ℕ → Type 0) (xs ys zs : List ℕ) → zs ≡ xs ++ ys → All P zs → All P ys
right_of P xs ys zs e h k d lt = subst P (ap (λ (l : List ℕ). get_or l (length xs + k) d) e ∙ get_or-append-add xs ys k d) (h (length xs + k) d (omega (arith, length-append xs ys, ap length e)))

pub all-Port : (P : ℕ → Type 0) (n : ℕ) → All P (reads_of (Port n)) → P n
all-Port P n h = let Q : List ℕ → Type 0 = λ l. All P l in (subst Q (reads-Port n) h) 0 0 (omega arith)

pub all-Not : (P : ℕ → Type 0) (a : Expr) → All P (reads_of (Not a)) → All P (reads_of a)
all-Not P a h = let Q : List ℕ → Type 0 = λ l. All P l in subst Q (reads-Not a) h

pub all-And : (P : ℕ → Type 0) (a b : Expr) → All P (reads_of (And a b)) → All P (reads_of a) × All P (reads_of b)
all-And P a b h = (left_of P (reads_of a) (reads_of b) _ (reads-And a b) h, right_of P (reads_of a) (reads_of b) _ (reads-And a b) h)

pub all-Xor : (P : ℕ → Type 0) (a b : Expr) → All P (reads_of (Xor a b)) → All P (reads_of a) × All P (reads_of b)
all-Xor P a b h = (left_of P (reads_of a) (reads_of b) _ (reads-Xor a b) h, right_of P (reads_of a) (reads_of b) _ (reads-Xor a b) h)

pub all-Or : (P : ℕ → Type 0) (a b : Expr) → All P (reads_of (Or a b)) → All P (reads_of a) × All P (reads_of b)
all-Or P a b h = (left_of P (reads_of a) (reads_of b) _ (reads-Or a b) h, right_of P (reads_of a) (reads_of b) _ (reads-Or a b) h)

valued : (e : Expr) (v : ℕ → Bool) (f : (ℕ → Bool) → Bool) → value e ≡ f → value e v ≡ f v
valued e v f h = ap (λ (g : (ℕ → Bool) → Bool). g v) h

pub value-Port : (n : ℕ) (v : ℕ → Bool) → value (Port n) v ≡ v n
value-Port n v = valued (Port n) v (value_layer (port_layer n)) (ap value (sym (rolls-Port n)) ∙ fold-roll-Expr ((ℕ → Bool) → Bool) value_layer (port_layer n))

pub value-Not : (a : Expr) (v : ℕ → Bool) → value (Not a) v ≡ not (value a v)
value-Not a v = valued (Not a) v (λ w. not (value a w)) (ap value (sym (rolls-Not a)) ∙ fold-roll-Expr ((ℕ → Bool) → Bool) value_layer (not_layer a))

pub value-And : (a b : Expr) (v : ℕ → Bool) → value (And a b) v ≡ (value a v && value b v)
value-And a b v = valued (And a b) v (λ w. value a w && value b w) (ap value (sym (rolls-And a b)) ∙ fold-roll-Expr ((ℕ → Bool) → Bool) value_layer (and_layer a b))

pub value-Xor : (a b : Expr) (v : ℕ → Bool) → value (Xor a b) v ≡ differ (value a v) (value b v)
value-Xor a b v = valued (Xor a b) v (λ w. differ (value a w) (value b w)) (ap value (sym (rolls-Xor a b)) ∙ fold-roll-Expr ((ℕ → Bool) → Bool) value_layer (xor_layer a b))

pub value-Or : (a b : Expr) (v : ℕ → Bool) → value (Or a b) v ≡ (value a v || value b v)
value-Or a b v = valued (Or a b) v (λ w. value a w || value b w) (ap value (sym (rolls-Or a b)) ∙ fold-roll-Expr ((ℕ → Bool) → Bool) value_layer (or_layer a b))

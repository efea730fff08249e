-- The word of an expression has the expression's value, and reads the ports that it names.
use Rattle.std.proofs.Common.{◌≡◌, ℕ, zero, suc, ◌+◌, ◌*◌, ◌≤◌, List, [], ◌∷◌, ◌++◌, Bool, true, false, not, ◌&&◌, ◌||◌, map, All, length, length-append, get_or-append-add, refl, arith, sym, ap, subst, ◌∙◌}
use Rattle.std.proofs.Math.ListN.{get_or-append}
use Rattle.std.proofs.lemmas.List.{map-append}
use Rattle.eq_model.specs.System.{Values}
use Rattle.eq_names.specs.declared.BitName.{BitName}
use Rattle.eq_first.specs.declared.module.Expr.{Expr}
use Rattle.eq_first.specs.declared.module.Expr.TheViews.{roll-Expr}
use Rattle.eq_first.specs.declared.module.Expr.TheOpen.{Expr-F, Port, Not, And, Xor, Or}
use Rattle.eq_first.specs.declared.module.Expr.TheFolds.{fold-roll-Expr, ind-Expr}
use Rattle.eq_first.specs.declared.module.Expr.{map-Expr}
use Rattle.eq_first.specs.Value.{value, value_layer, differ, reads_of, reads_layer, operators_of, operators_layer}
use Rattle.eq_net.specs.declared.types.NetInfo.{NetInfo}
use Rattle.eq_net.specs.declared.types.WordOp.{WordOp}
use Rattle.eq_net.specs.declared.types.WordOp.TheVariants.{And as AndOp, Or as OrOp, Xor as XorOp}
use Rattle.eq_net.specs.Tree.{Tree, negated, binary}
use Rattle.eq_net.specs.Meaning.{width, bit_of, reads_of as bits_read, result_size, cost_of}
use Rattle.eq_net.specs.Numbers.{Digits, differ as differ_bit}
use Rattle.eq_net.specs.Operators.{Reads, apply, apply_reads, apply_cost}
use Rattle.eq_net.specs.Net.{HasBit, IsWord}
use Rattle.eqy.specs.Netlist.{reads_port, word_of, word_layer}

-- the one bit of a port
abbrev pub bit_of_port : ℕ → BitName
bit_of_port n = record { net = n; bit = 0 }

-- a word of one bit that has the value f of the ports, reads just these, and has n operators
pub record Mirrors (t : Tree) (f : (ℕ → Bool) → Bool) (rs : List ℕ) (n : ℕ) : Type 0 where
  pub one : width t ≡ 1
  pub same : (v : Values) (number : BitName → ℕ) (e : ℕ → ℕ → Bool) → bit_of v number e t 0 ≡ f (λ p. v (number (bit_of_port p)))
  pub reads : (number : BitName → ℕ) (r : ℕ → ℕ → List ℕ) → bits_read number r t 0 ≡ map (λ p. number (bit_of_port p)) rs
  pub word : (nets : List NetInfo) (words : List Tree) (k : ℕ) → All (λ p. HasBit nets (bit_of_port p)) rs → IsWord nets words k t
  pub cheap : cost_of t ≤ 4 * n
  pub depends : (v w : ℕ → Bool) → All (λ p. v p ≡ w p) rs → f v ≡ f w

moved : (t t' : Tree) (f f' : (ℕ → Bool) → Bool) (rs rs' : List ℕ) (n n' : ℕ) → t ≡ t' → f ≡ f' → rs ≡ rs' → n ≡ n' → Mirrors t f rs n → Mirrors t' f' rs' n'
moved t t' f f' rs rs' n n' et ef er en m =
    let A : Tree → Type 0 = λ x. Mirrors x f' rs' n' in
    let B : ((ℕ → Bool) → Bool) → Type 0 = λ x. Mirrors t x rs' n' in
    let C : List ℕ → Type 0 = λ x. Mirrors t f x n' in
    let D : ℕ → Type 0 = λ x. Mirrors t f rs x in
    subst A et (subst B ef (subst C er (subst D en m)))

all_left : (P : ℕ → Type 0) (xs ys : List ℕ) → All P (xs ++ ys) → All P xs
all_left P xs ys h k d lt = subst P (get_or-append xs ys d k lt) (h k d (omega (arith, length-append xs ys)))

all_right : (P : ℕ → Type 0) (xs ys : List ℕ) → All P (xs ++ ys) → All P ys
all_right P xs ys h k d lt = subst P (get_or-append-add xs ys k d) (h (length xs + k) d (omega (arith, length-append xs ys)))

port_mirrors : (n : ℕ) → Mirrors (reads_port n) (λ v. v n) (n ∷ []) 0
port_mirrors n = record {
  one = refl;
  same = λ v number e. refl;
  reads = λ number r. refl;
  word = λ nets words k all. one_name nets (all 0 0 (omega arith));
  cheap = omega arith;
  depends = λ v w agree. agree 0 0 (omega arith);
}
  where
    one_name : (nets : List NetInfo) → HasBit nets (bit_of_port n) → All (HasBit nets) (bit_of_port n ∷ [])
    one_name nets there zero d lt = there
    one_name nets there (suc k) d lt = absurd (omega arith)

not_mirrors : (t : Tree) (f : (ℕ → Bool) → Bool) (rs : List ℕ) (n : ℕ) → Mirrors t f rs n → Mirrors (negated t) (λ v. not (f v)) rs (n + 1)
not_mirrors t f rs n m = record {
  one = m.one;
  same = λ v number e. ap not (m.same v number e);
  reads = m.reads;
  word = m.word;
  cheap = (let c = m.cheap in let w = m.one in omega arith);
  depends = λ v w agree. ap not (m.depends v w agree);
}

-- an operator that computes its one bit from the bits at its place
record IsPlaced (op : WordOp) (F : Bool → Bool → Bool) : Type 0 where
  value : (m n : ℕ) (a b : Digits) → apply op m n a b 0 ≡ F (a 0) (b 0)
  reads : (m n : ℕ) (a b : Reads) → apply_reads op m n a b 0 ≡ a 0 ++ b 0
  size : (n : ℕ) → result_size op n ≡ n
  cheap : (m n : ℕ) → apply_cost op m n ≤ 4 * m

and_placed : IsPlaced AndOp (λ x y. x && y)
and_placed = record { value = λ m n a b. refl; reads = λ m n a b. refl; size = λ n. refl; cheap = λ m n. omega arith }

or_placed : IsPlaced OrOp (λ x y. x || y)
or_placed = record { value = λ m n a b. refl; reads = λ m n a b. refl; size = λ n. refl; cheap = λ m n. omega arith }

xor_placed : IsPlaced XorOp (λ x y. differ_bit x y)
xor_placed = record { value = λ m n a b. refl; reads = λ m n a b. refl; size = λ n. refl; cheap = λ m n. omega arith }

binary_mirrors : (op : WordOp) (F : Bool → Bool → Bool) → IsPlaced op F → (t u : Tree) (f g : (ℕ → Bool) → Bool) (rs qs : List ℕ) (m n : ℕ) → Mirrors t f rs m → Mirrors u g qs n →
    Mirrors (binary op t u) (λ v. F (f v) (g v)) (rs ++ qs) (m + n + 1)
binary_mirrors op F placed t u f g rs qs m n a b = record {
  one = placed.size (width t) ∙ a.one;
  same = λ v number e. placed.value (width t) (width u) (bit_of v number e t) (bit_of v number e u) ∙ ap (λ x. F x (bit_of v number e u 0)) (a.same v number e)
      ∙ ap (λ x. F (f (λ p. v (number (bit_of_port p)))) x) (b.same v number e);
  reads = λ number r. placed.reads (width t) (width u) (bits_read number r t) (bits_read number r u) ∙ ap (λ x. x ++ bits_read number r u 0) (a.reads number r)
      ∙ ap (λ x. map (λ p. number (bit_of_port p)) rs ++ x) (b.reads number r) ∙ sym (map-append (λ p. number (bit_of_port p)) rs qs);
  word = λ nets words k all. (a.word nets words k (all_left (λ p. HasBit nets (bit_of_port p)) rs qs all), b.word nets words k (all_right (λ p. HasBit nets (bit_of_port p)) rs qs all), λ free. a.one ∙ sym b.one);
  cheap = (
      let c = a.cheap in
      let d = b.cheap in
      let w = a.one in
      let h = placed.cheap (width t) (width u) in
      omega arith);
  depends = λ v w agree. ap (λ x. F x (g v)) (a.depends v w (all_left (λ p. v p ≡ w p) rs qs agree)) ∙ ap (λ x. F (f w) x) (b.depends v w (all_right (λ p. v p ≡ w p) rs qs agree));
}

xor_is : (x y : Bool) → differ_bit x y ≡ differ x y
xor_is true true = refl
xor_is true false = refl
xor_is false true = refl
xor_is false false = refl

differs : {t : Tree} {rs : List ℕ} {n : ℕ} (f g : (ℕ → Bool) → Bool) → Mirrors t (λ v. differ_bit (f v) (g v)) rs n → Mirrors t (λ v. differ (f v) (g v)) rs n
differs f g m = record {
  one = m.one;
  same = λ v number e. m.same v number e ∙ xor_is (f (λ p. v (number (bit_of_port p)))) (g (λ p. v (number (bit_of_port p))));
  reads = m.reads;
  word = m.word;
  cheap = m.cheap;
  depends = λ v w agree. sym (xor_is (f v) (g v)) ∙ m.depends v w agree ∙ xor_is (f w) (g w);
}

-- what is shown of each expression
abbrev pub IsMirrored : Expr → Type 0
IsMirrored e = Mirrors (word_of e) (value e) (reads_of e) (operators_of e)

-- the layer x has the word t, the value f, the reads rs and n operators
rolled : (x : Expr-F Expr) (t : Tree) (f : (ℕ → Bool) → Bool) (rs : List ℕ) (n : ℕ) → word_of (roll-Expr x) ≡ t → value (roll-Expr x) ≡ f →
    reads_of (roll-Expr x) ≡ rs → operators_of (roll-Expr x) ≡ n → Mirrors t f rs n → IsMirrored (roll-Expr x)
rolled x t f rs n et ef er en m =
    moved t (word_of (roll-Expr x)) f (value (roll-Expr x)) rs (reads_of (roll-Expr x)) n (operators_of (roll-Expr x)) (sym et) (sym ef) (sym er) (sym en) m

-- a layer whose operands are mirrored
layered : (y : Expr-F ((e : Expr) × IsMirrored e)) → IsMirrored (roll-Expr (map-Expr ((e : Expr) × IsMirrored e) Expr (λ e. e.0) y))
layered (Port n) =
    rolled (Port n) (reads_port n) (λ v. v n) (n ∷ []) 0 (fold-roll-Expr Tree word_layer (Port n)) (fold-roll-Expr ((ℕ → Bool) → Bool) value_layer (Port n))
    (fold-roll-Expr (List ℕ) reads_layer (Port n)) (fold-roll-Expr ℕ operators_layer (Port n)) (port_mirrors n)
layered (Not a) =
    rolled (Not a.0) (negated (word_of a.0)) (λ v. not (value a.0 v)) (reads_of a.0) (operators_of a.0 + 1)
    (fold-roll-Expr Tree word_layer (Not a.0)) (fold-roll-Expr ((ℕ → Bool) → Bool) value_layer (Not a.0))
    (fold-roll-Expr (List ℕ) reads_layer (Not a.0)) (fold-roll-Expr ℕ operators_layer (Not a.0))
    (not_mirrors (word_of a.0) (value a.0) (reads_of a.0) (operators_of a.0) a.1)
layered (And a b) =
    rolled (And a.0 b.0) (binary AndOp (word_of a.0) (word_of b.0)) (λ v. value a.0 v && value b.0 v) (reads_of a.0 ++ reads_of b.0) (operators_of a.0 + operators_of b.0 + 1)
    (fold-roll-Expr Tree word_layer (And a.0 b.0)) (fold-roll-Expr ((ℕ → Bool) → Bool) value_layer (And a.0 b.0))
    (fold-roll-Expr (List ℕ) reads_layer (And a.0 b.0)) (fold-roll-Expr ℕ operators_layer (And a.0 b.0))
    (binary_mirrors AndOp (λ x y. x && y) and_placed (word_of a.0) (word_of b.0) (value a.0) (value b.0) (reads_of a.0) (reads_of b.0) (operators_of a.0) (operators_of b.0) a.1 b.1)
layered (Or a b) =
    rolled (Or a.0 b.0) (binary OrOp (word_of a.0) (word_of b.0)) (λ v. value a.0 v || value b.0 v) (reads_of a.0 ++ reads_of b.0) (operators_of a.0 + operators_of b.0 + 1)
    (fold-roll-Expr Tree word_layer (Or a.0 b.0)) (fold-roll-Expr ((ℕ → Bool) → Bool) value_layer (Or a.0 b.0))
    (fold-roll-Expr (List ℕ) reads_layer (Or a.0 b.0)) (fold-roll-Expr ℕ operators_layer (Or a.0 b.0))
    (binary_mirrors OrOp (λ x y. x || y) or_placed (word_of a.0) (word_of b.0) (value a.0) (value b.0) (reads_of a.0) (reads_of b.0) (operators_of a.0) (operators_of b.0) a.1 b.1)
layered (Xor a b) =
    rolled (Xor a.0 b.0) (binary XorOp (word_of a.0) (word_of b.0)) (λ v. differ (value a.0 v) (value b.0 v)) (reads_of a.0 ++ reads_of b.0) (operators_of a.0 + operators_of b.0 + 1)
    (fold-roll-Expr Tree word_layer (Xor a.0 b.0)) (fold-roll-Expr ((ℕ → Bool) → Bool) value_layer (Xor a.0 b.0))
    (fold-roll-Expr (List ℕ) reads_layer (Xor a.0 b.0)) (fold-roll-Expr ℕ operators_layer (Xor a.0 b.0))
    (differs (value a.0) (value b.0) (binary_mirrors XorOp (λ x y. differ_bit x y) xor_placed (word_of a.0) (word_of b.0) (value a.0) (value b.0) (reads_of a.0) (reads_of b.0) (operators_of a.0) (operators_of b.0) a.1 b.1))

pub mirrored : (e : Expr) → IsMirrored e
mirrored = ind-Expr IsMirrored (λ x y is. subst (λ (z : Expr-F Expr). IsMirrored (roll-Expr z)) is (layered y))

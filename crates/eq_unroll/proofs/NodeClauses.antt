-- The clauses of one node, kind by kind: they are satisfied exactly where the node has the value that its kind says.
use Rattle.std.proofs.Common.{◌≡◌, ℕ, zero, suc, ◌+◌, ◌*◌, Bool, true, false, cond, not, ◌&&◌, ◌||◌, if◌then◌else◌, [], ◌∷◌, refl, sym, ap, ◌∙◌}
use Rattle.eq_proof.specs.Literal.{Literal}
use Rattle.eq_model.specs.System.{Values, Meets, Begins, Follows}
use Rattle.eq_bits.specs.declared.node.Node.{Node}
use Rattle.eq_bits.specs.declared.node.Node.TheVariants.{Const, Input, Not, And, Xor, Mux, Buf, Reg}
use Rattle.eq_bits.specs.Node.{driver_of, xor}
use Rattle.eq_unroll.specs.declared.query.Query.{Query}
use Rattle.eq_unroll.specs.declared.query.Query.TheVariants.{Base, Step}
use Rattle.eq_unroll.specs.Unrolling.{not_rows, and_rows, xor_rows, mux_rows, same_rows, differ_rows, literal, gate_rows, rows_at}
use Rattle.eq_unroll.proofs.Truth.{truth, truth_negation, rows_true}

-- whether two truth values are the same
abbrev pub is_same : Bool → Bool → Bool
is_same true y = y
is_same false y = not y

pub same : (x y : Bool) → is_same x y ≡ true → x ≡ y
same true y h = sym h
same false true h = absurd (cc)
same false false h = refl

pub is : (x y : Bool) → x ≡ y → is_same x y ≡ true
is true y h = sym h
is false true h = absurd (cc)
is false false h = refl

-- the clauses over truth values

not_bool : (v a : Bool) → ((v || (a || false)) && ((not v || (not a || false)) && true)) ≡ is_same v (not a)
not_bool true true = refl
not_bool true false = refl
not_bool false true = refl
not_bool false false = refl

and_bool : (v a b : Bool) → ((not v || (a || false)) &&
    ((not v || (b || false)) && ((v || (not a || (not b || false))) && true))) ≡ is_same v (a && b)
and_bool true true true = refl
and_bool true true false = refl
and_bool true false true = refl
and_bool true false false = refl
and_bool false true true = refl
and_bool false true false = refl
and_bool false false true = refl
and_bool false false false = refl

xor_bool : (v a b : Bool) → ((not v || (a || (b || false))) &&
    ((not v || (not a || (not b || false))) && ((v || (not a || (b || false))) &&
    ((v || (a || (not b || false))) && true)))) ≡ is_same v (xor a b)
xor_bool true true true = refl
xor_bool true true false = refl
xor_bool true false true = refl
xor_bool true false false = refl
xor_bool false true true = refl
xor_bool false true false = refl
xor_bool false false true = refl
xor_bool false false false = refl

mux_bool : (v s a b : Bool) → ((not s || (not a || (v || false))) &&
    ((not s || (a || (not v || false))) && ((s || (not b || (v || false))) &&
    ((s || (b || (not v || false))) && true)))) ≡ is_same v (if s then a else b)
mux_bool true true true b = refl
mux_bool true true false b = refl
mux_bool true false true true = refl
mux_bool true false true false = refl
mux_bool true false false true = refl
mux_bool true false false false = refl
mux_bool false true true b = refl
mux_bool false true false b = refl
mux_bool false false true true = refl
mux_bool false false true false = refl
mux_bool false false false true = refl
mux_bool false false false false = refl

same_bool : (v a : Bool) → ((not v || (a || false)) && ((v || (not a || false)) && true)) ≡ is_same v a
same_bool true true = refl
same_bool true false = refl
same_bool false true = refl
same_bool false false = refl

differ_bool : (d g h : Bool) → ((not d || (g || (h || false))) && ((not d || (not g || (not h || false))) && true)) ≡
    (not d || xor g h)
differ_bool true true true = refl
differ_bool true true false = refl
differ_bool true false true = refl
differ_bool true false false = refl
differ_bool false g h = refl

-- the clauses over literals

module _ (values : ℕ → Bool) where
  not_true : (v a : Literal) → rows_true values (not_rows v a) ≡ is_same (truth values v) (not (truth values a))
  not_true v a = rw (truth_negation values v, truth_negation values a) (not_bool (truth values v) (truth values a))

  and_true : (v a b : Literal) → rows_true values (and_rows v a b) ≡ is_same (truth values v)
      (truth values a && truth values b)
  and_true v a b = rw (truth_negation values v, truth_negation values a, truth_negation values b)
      (and_bool (truth values v) (truth values a) (truth values b))

  xor_true : (v a b : Literal) → rows_true values (xor_rows v a b) ≡ is_same (truth values v)
      (xor (truth values a) (truth values b))
  xor_true v a b = rw (truth_negation values v, truth_negation values a, truth_negation values b)
      (xor_bool (truth values v) (truth values a) (truth values b))

  mux_true : (v s a b : Literal) → rows_true values (mux_rows v s a b) ≡ is_same (truth values v)
      (if truth values s then truth values a else truth values b)
  mux_true v s a b = rw (
    truth_negation values v,
    truth_negation values s,
    truth_negation values a,
    truth_negation values b,
  ) (mux_bool (truth values v) (truth values s) (truth values a) (truth values b))

  pub same_true : (v a : Literal) → rows_true values (same_rows v a) ≡ is_same (truth values v) (truth values a)
  same_true v a = rw (truth_negation values v, truth_negation values a) (same_bool (truth values v) (truth values a))

  pub differ_true : (d g h : Literal) → rows_true values (differ_rows d g h) ≡
      (not (truth values d) || xor (truth values g) (truth values h))
  differ_true d g h = rw (truth_negation values d, truth_negation values g, truth_negation values h)
      (differ_bool (truth values d) (truth values g) (truth values h))

-- the values of the nodes of a frame with `before` variables before it
abbrev pub frame_of : (ℕ → Bool) → ℕ → Values
frame_of values before m = values (before + m + 1)

pub truth_literal : (values : ℕ → Bool) (before m : ℕ) → truth values (literal before m) ≡ frame_of values before m
unfolding truth
truth_literal values before m = refl

sign_true : (x b : Bool) → ((cond b x (not x) || false) && true) ≡ is_same x b
sign_true true true = refl
sign_true true false = refl
sign_true false true = refl
sign_true false false = refl

unit_true : (values : ℕ → Bool) (x : ℕ) (b : Bool) → rows_true values
    (((record { var = x; positive = b }) ∷ []) ∷ []) ≡ is_same (values x) b
unfolding truth
unit_true values x b = sign_true (values x) b

-- a gate's clauses say that it has the value that its kind says
abbrev GateTrue : (ℕ → Bool) → ℕ → ℕ → Node → Bool
GateTrue values before m node = rows_true values (gate_rows before m node)

pub gate_meets : (values : ℕ → Bool) (before m : ℕ) (node : Node) → rows_true values (gate_rows before m node) ≡ true →
    Meets (driver_of node) (frame_of values before) (frame_of values before m)
gate_meets values before m (Const b) h = same _ _ (sym (unit_true values (before + m + 1) b) ∙ h)
gate_meets values before m (Input i) h = tt
gate_meets values before m (Not a) h =
    let e = same _ _ (sym (not_true values (literal before m) (literal before a)) ∙ h) in
    sym (truth_literal values before m) ∙ e ∙ ap not (truth_literal values before a)
gate_meets values before m (And a b) h =
    let e = same (truth values (literal before m)) (truth values (literal before a) && truth values (literal before b))
    (sym (and_true values (literal before m) (literal before a) (literal before b)) ∙ h) in
    rw (truth_literal values before m, truth_literal values before a, truth_literal values before b) at e
gate_meets values before m (Xor a b) h =
    let e = same (truth values (literal before m)) (xor (truth values (literal before a))
    (truth values (literal before b))) (sym (xor_true values (literal before m) (literal before a)
    (literal before b)) ∙ h) in
    rw (truth_literal values before m, truth_literal values before a, truth_literal values before b) at e
gate_meets values before m (Mux s a b) h =
    let e = same (truth values (literal before m)) (if truth values (literal before s) then truth values
    (literal before a) else truth values (literal before b))
    (sym (mux_true values (literal before m) (literal before s) (literal before a) (literal before b)) ∙ h) in
    rw (
      truth_literal values before m,
      truth_literal values before s,
      truth_literal values before a,
      truth_literal values before b,
    ) at e
gate_meets values before m (Buf a) h =
    let e = same _ _ (sym (same_true values (literal before m) (literal before a)) ∙ h) in
    sym (truth_literal values before m) ∙ e ∙ truth_literal values before a
gate_meets values before m (Reg next init) h = tt

pub meets_gate : (values : ℕ → Bool) (before m : ℕ) (node : Node) →
    Meets (driver_of node) (frame_of values before) (frame_of values before m) →
    rows_true values (gate_rows before m node) ≡ true
meets_gate values before m (Const b) h = unit_true values (before + m + 1) b ∙ is _ _ h
meets_gate values before m (Input i) h = refl
meets_gate values before m (Not a) h = not_true values (literal before m) (literal before a) ∙
    is _ _ (truth_literal values before m ∙ h ∙ ap not (sym (truth_literal values before a)))
meets_gate values before m (And a b) h = and_true values (literal before m) (literal before a) (literal before b) ∙
    rw (truth_literal values before m, truth_literal values before a, truth_literal values before b) (is _ _ h)
meets_gate values before m (Xor a b) h = xor_true values (literal before m) (literal before a) (literal before b) ∙
    rw (truth_literal values before m, truth_literal values before a, truth_literal values before b) (is _ _ h)
meets_gate values before m (Mux s a b) h = mux_true values (literal before m) (literal before s) (literal before a)
    (literal before b) ∙
    rw (
      truth_literal values before m,
      truth_literal values before s,
      truth_literal values before a,
      truth_literal values before b,
    ) (is _ _ h)
meets_gate values before m (Buf a) h = same_true values (literal before m) (literal before a) ∙
    is _ _ (truth_literal values before m ∙ h ∙ sym (truth_literal values before a))
meets_gate values before m (Reg next init) h = refl

-- a node's clauses in any frame say that it has the value that its kind says
pub node_meets : (values : ℕ → Bool) (f n : ℕ) (q : Query) (m : ℕ) (node : Node) →
    rows_true values (rows_at f n q m node) ≡ true →
    Meets (driver_of node) (frame_of values (f * n)) (frame_of values (f * n) m)
node_meets values f n q m (Const b) h = gate_meets values (f * n) m (Const b) h
node_meets values f n q m (Input i) h = tt
node_meets values f n q m (Not a) h = gate_meets values (f * n) m (Not a) h
node_meets values f n q m (And a b) h = gate_meets values (f * n) m (And a b) h
node_meets values f n q m (Xor a b) h = gate_meets values (f * n) m (Xor a b) h
node_meets values f n q m (Mux s a b) h = gate_meets values (f * n) m (Mux s a b) h
node_meets values f n q m (Buf a) h = gate_meets values (f * n) m (Buf a) h
node_meets values f n q m (Reg next init) h = tt

-- in the first frame of Base they say that a register begins as it is to
pub node_begins : (values : ℕ → Bool) (n m : ℕ) (node : Node) → rows_true values (rows_at zero n Base m node) ≡ true →
    Begins (driver_of node) (frame_of values (zero * n) m)
node_begins values n m (Const b) h = tt
node_begins values n m (Input i) h = tt
node_begins values n m (Not a) h = tt
node_begins values n m (And a b) h = tt
node_begins values n m (Xor a b) h = tt
node_begins values n m (Mux s a b) h = tt
node_begins values n m (Buf a) h = tt
node_begins values n m (Reg next init) h = same _ _ (sym (unit_true values (zero * n + m + 1) init) ∙ h)

-- in a later frame they say that a register follows its next node
pub node_follows : (values : ℕ → Bool) (f n : ℕ) (q : Query) (m : ℕ) (node : Node) →
    rows_true values (rows_at (suc f) n q m node) ≡ true →
    Follows (driver_of node) (frame_of values (f * n)) (frame_of values (suc f * n) m)
node_follows values f n q m (Const b) h = tt
node_follows values f n q m (Input i) h = tt
node_follows values f n q m (Not a) h = tt
node_follows values f n q m (And a b) h = tt
node_follows values f n q m (Xor a b) h = tt
node_follows values f n q m (Mux s a b) h = tt
node_follows values f n q m (Buf a) h = tt
node_follows values f n q m (Reg next init) h =
    let e = same _ _ (sym (same_true values (literal (suc f * n) m) (literal (f * n) next)) ∙ h) in
    sym (truth_literal values (suc f * n) m) ∙ e ∙ truth_literal values (f * n) next

-- and the other way round: of a gate in any frame, and of a register in the first frame of Base, of Step, and in a later one

pub base_node : (values : ℕ → Bool) (n m : ℕ) (node : Node) →
    Meets (driver_of node) (frame_of values (zero * n)) (frame_of values (zero * n) m) →
    Begins (driver_of node) (frame_of values (zero * n) m) → rows_true values (rows_at zero n Base m node) ≡ true
base_node values n m (Const b) h begins = meets_gate values (zero * n) m (Const b) h
base_node values n m (Input i) h begins = refl
base_node values n m (Not a) h begins = meets_gate values (zero * n) m (Not a) h
base_node values n m (And a b) h begins = meets_gate values (zero * n) m (And a b) h
base_node values n m (Xor a b) h begins = meets_gate values (zero * n) m (Xor a b) h
base_node values n m (Mux s a b) h begins = meets_gate values (zero * n) m (Mux s a b) h
base_node values n m (Buf a) h begins = meets_gate values (zero * n) m (Buf a) h
base_node values n m (Reg next init) h begins = unit_true values (zero * n + m + 1) init ∙ is _ _ begins

pub step_node : (values : ℕ → Bool) (n m : ℕ) (node : Node) →
    Meets (driver_of node) (frame_of values (zero * n)) (frame_of values (zero * n) m) →
    rows_true values (rows_at zero n Step m node) ≡ true
step_node values n m (Const b) h = meets_gate values (zero * n) m (Const b) h
step_node values n m (Input i) h = refl
step_node values n m (Not a) h = meets_gate values (zero * n) m (Not a) h
step_node values n m (And a b) h = meets_gate values (zero * n) m (And a b) h
step_node values n m (Xor a b) h = meets_gate values (zero * n) m (Xor a b) h
step_node values n m (Mux s a b) h = meets_gate values (zero * n) m (Mux s a b) h
step_node values n m (Buf a) h = meets_gate values (zero * n) m (Buf a) h
step_node values n m (Reg next init) h = refl

pub later_node : (values : ℕ → Bool) (f n : ℕ) (q : Query) (m : ℕ) (node : Node) →
    Meets (driver_of node) (frame_of values (suc f * n)) (frame_of values (suc f * n) m) →
    Follows (driver_of node) (frame_of values (f * n)) (frame_of values (suc f * n) m) →
    rows_true values (rows_at (suc f) n q m node) ≡ true
later_node values f n q m (Const b) h follows = meets_gate values (suc f * n) m (Const b) h
later_node values f n q m (Input i) h follows = refl
later_node values f n q m (Not a) h follows = meets_gate values (suc f * n) m (Not a) h
later_node values f n q m (And a b) h follows = meets_gate values (suc f * n) m (And a b) h
later_node values f n q m (Xor a b) h follows = meets_gate values (suc f * n) m (Xor a b) h
later_node values f n q m (Mux s a b) h follows = meets_gate values (suc f * n) m (Mux s a b) h
later_node values f n q m (Buf a) h follows = meets_gate values (suc f * n) m (Buf a) h
later_node values f n q m (Reg next init) h follows = same_true values (literal (suc f * n) m) (literal (f * n) next) ∙
    is _ _ (truth_literal values (suc f * n) m ∙ follows ∙ sym (truth_literal values (f * n) next))

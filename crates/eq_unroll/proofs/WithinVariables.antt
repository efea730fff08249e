-- The variables of a formula's literals are the numbers from 1 to the greatest variable.
use Rattle.std.proofs.Common.{ℕ, zero, suc, ◌+◌, ◌*◌, ◌<◌, ◌≤◌, Bool, List, [], ◌∷◌, ◌++◌, map, length, All, arith}
use Rattle.std.specs.List.{AllByRecursion}
use Rattle.std.proofs.lemmas.Nat.{row_fits}
use Rattle.std.proofs.lemmas.List.Elements.{All-from_recursion, All-weaker, All-get_or}
use Rattle.eq_proof.specs.Literal.{Literal}
use Rattle.eq_bits.specs.declared.node.Node.{Node}
use Rattle.eq_bits.specs.declared.node.Node.TheVariants.{Const, Input, Not, And, Xor, Mux, Buf, Reg}
use Rattle.eq_bits.specs.declared.part.Part.{Part}
use Rattle.eq_bits.specs.Node.{IsNode, node_at}
use Rattle.eq_bits.specs.Part.{NamesNodes}
use Rattle.eq_bits.specs.Replay.{output_at}
use Rattle.eq_unroll.specs.declared.query.Query.{Query}
use Rattle.eq_unroll.specs.declared.query.Query.TheVariants.{Base, Step}
use Rattle.eq_unroll.specs.Query.{agreeing, frame_count, last_frame}
use Rattle.eq_unroll.specs.Unrolling.{Rows, literal, joined, ordered, rows_at, register_rows, same_rows, differ_rows, frame_rows, agreement_rows, difference_rows, output_literals, rows, unrolled, variable_count}
use Rattle.eq_unroll.proofs.InOrder.{all_ordered}
use Rattle.eq_unroll.proofs.Satisfying.{last_below, agreeing_below}

abbrev IsIn : ℕ → Literal → Type 0
IsIn most l = (1 ≤ l.var) × (l.var ≤ most)

-- the same of all literals of a clause, and of all clauses
abbrev AreIn : ℕ → List Literal → Type 0
AreIn most ls = AllByRecursion (IsIn most) ls

abbrev AllIn : ℕ → Rows → Type 0
AllIn most rs = AllByRecursion (AreIn most) rs

-- clauses one after another

ins_append : (most : ℕ) (xs ys : List Literal) → AreIn most xs → AreIn most ys → AreIn most (xs ++ ys)
ins_append most [] ys h e = e
ins_append most (x ∷ xs) ys h e = (h.0, ins_append most xs ys h.1 e)

all_append : (most : ℕ) (xs ys : Rows) → AllIn most xs → AllIn most ys → AllIn most (xs ++ ys)
all_append most [] ys h e = e
all_append most (x ∷ xs) ys h e = (h.0, all_append most xs ys h.1 e)

all_joined : (most : ℕ) (g : ℕ → Rows) (n : ℕ) → ((m : ℕ) → m < n → AllIn most (g m)) → AllIn most (joined g n)
all_joined most g zero h = tt
all_joined most g (suc n) h = all_append most (joined g n) (g n) (all_joined most g n (λ m lt. h m (omega arith)))
    (h n (omega arith))

all_in_order : (most : ℕ) (rs : Rows) → AllIn most rs → AllIn most (map ordered rs)
all_in_order most [] h = tt
all_in_order most (r ∷ rs) h = (all_ordered (IsIn most) r h.0, all_in_order most rs h.1)

-- one node's clauses

two : (most : ℕ) (v a : Literal) → IsIn most v → IsIn most a → AllIn most (same_rows v a)
two most v a p q = ((p, (q, tt)), ((p, (q, tt)), tt))

three : (most : ℕ) (d g h : Literal) → IsIn most d → IsIn most g → IsIn most h → AllIn most (differ_rows d g h)
three most d g h p q r = ((p, (q, (r, tt))), ((p, (q, (r, tt))), tt))

is_in : (before n most m : ℕ) → before + n ≤ most → m < n → IsIn most (literal before m)
is_in before n most m fits lt = (omega arith, omega arith)

register_in : (f n most : ℕ) (q : Query) (m next : ℕ) (init : Bool) → f * n + n ≤ most → m < n → next < n →
    AllIn most (register_rows f n q m next init)
register_in zero n most Base m next init fits lm ln = ((is_in (zero * n) n most m fits lm, tt), tt)
register_in zero n most Step m next init fits lm ln = tt
register_in (suc f) n most q m next init fits lm ln =
    let earlier = row_fits f n (suc f) n (omega arith) (omega arith) in
    two most (literal (suc f * n) m) (literal (f * n) next) (is_in (suc f * n) n most m fits lm)
    (is_in (f * n) n most next (omega arith) ln)

node_in : (f n most : ℕ) (q : Query) (m : ℕ) (node : Node) → f * n + n ≤ most → m < n → IsNode n m node →
    AllIn most (rows_at f n q m node)
node_in f n most q m (Const b) fits lt is = ((is_in (f * n) n most m fits lt, tt), tt)
node_in f n most q m (Input i) fits lt is = tt
node_in f n most q m (Not a) fits lt is =
    let v = is_in (f * n) n most m fits lt in
    let x = is_in (f * n) n most a fits (omega arith) in
    ((v, (x, tt)), ((v, (x, tt)), tt))
node_in f n most q m (And a b) fits lt is =
    let v = is_in (f * n) n most m fits lt in
    let x = is_in (f * n) n most a fits (omega arith) in
    let y = is_in (f * n) n most b fits (omega arith) in
    ((v, (x, tt)), ((v, (y, tt)), ((v, (x, (y, tt))), tt)))
node_in f n most q m (Xor a b) fits lt is =
    let v = is_in (f * n) n most m fits lt in
    let x = is_in (f * n) n most a fits (omega arith) in
    let y = is_in (f * n) n most b fits (omega arith) in
    let all : AreIn most (literal (f * n) m ∷ literal (f * n) a ∷ literal (f * n) b ∷ []) = (v, (x, (y, tt))) in
    (all, (all, (all, (all, tt))))
node_in f n most q m (Mux s a b) fits lt is =
    let v = is_in (f * n) n most m fits lt in
    let w = is_in (f * n) n most s fits (omega arith) in
    let x = is_in (f * n) n most a fits (omega arith) in
    let y = is_in (f * n) n most b fits (omega arith) in
    ((w, (x, (v, tt))), ((w, (x, (v, tt))), ((w, (y, (v, tt))), ((w, (y, (v, tt))), tt))))
node_in f n most q m (Buf a) fits lt is = two most (literal (f * n) m) (literal (f * n) a)
    (is_in (f * n) n most m fits lt) (is_in (f * n) n most a fits (omega arith))
node_in f n most q m (Reg next init) fits lt is = register_in f n most q m next init fits lt is

outputs_in : (before n most : ℕ) → before + n ≤ most → AreIn most (output_literals before n)
outputs_in before zero most fits = tt
outputs_in before (suc n) most fits = ins_append most (output_literals before n) (literal before n ∷ [])
    (outputs_in before n most (omega arith)) (is_in before (suc n) most n fits (omega arith), tt)

-- all clauses

module _ (part : Part) (q : Query) (k : ℕ) (from_one : 1 ≤ k) where
  abbrev size : ℕ
  size = length part.nodes

  abbrev most : ℕ
  most = variable_count part q k

  frame_fits : (f : ℕ) → f < frame_count q k → f * size + size ≤ most
  frame_fits f lt = (let fits = row_fits f size (frame_count q k) size lt (omega arith) in omega arith)

  gold_node : (i : ℕ) → i < length part.outputs → NamesNodes size (output_at part.outputs i)
  gold_node i lt = All-get_or (NamesNodes size) part.outputs i _ lt part.is_part.outputs_there

  rows_in : AllIn most (rows part.nodes part.outputs q k)
  rows_in =
      let frames = frame_count q k in
      let last = last_frame q k in
      all_append most (frame_rows part.nodes q frames) _
      (all_joined most _ frames (λ f lf. all_joined most _ size
      (λ m lm. node_in f size most q m (node_at part.nodes m) (frame_fits f lf) lm (part.is_part.operands m lm))))
      (all_append most (agreement_rows size part.outputs (agreeing q k)) _
      (all_joined most _ (agreeing q k) (λ f lf. all_joined most _ (length part.outputs) (λ i li.
      (let fits = frame_fits f (agreeing_below q k f lf) in
      let names = gold_node i li in
      two most (literal (f * size) (output_at part.outputs i).gold) (literal (f * size) (output_at part.outputs i).gate)
      (is_in (f * size) size most _ fits names.0) (is_in (f * size) size most _ fits names.1)))))
      (all_append most (difference_rows size part.outputs last frames) _
      (all_joined most _ (length part.outputs) (λ i li.
      (let fits = frame_fits last (last_below q k (omega arith)) in
      let names = gold_node i li in
      three most (literal (frames * size) i) (literal (last * size) (output_at part.outputs i).gold)
      (literal (last * size) (output_at part.outputs i).gate)
      (is_in (frames * size) (length part.outputs) most i (omega arith) li)
      (is_in (last * size) size most _ fits names.0) (is_in (last * size) size most _ fits names.1))))
      (outputs_in (frames * size) (length part.outputs) most (omega arith), tt)))

  pub variables_in : All (All (λ l. (1 ≤ l.var) × (l.var ≤ variable_count part q k))) (unrolled part q k)
  variables_in = All-weaker (AreIn most) (All (IsIn most)) (λ ls h. All-from_recursion (IsIn most) ls h)
      (unrolled part q k)
      (All-from_recursion (AreIn most) (unrolled part q k)
      (all_in_order most (rows part.nodes part.outputs q k) rows_in))

-- How long the list of clauses is, part by part.
use Rattle.std.proofs.Common.{◌≡◌, ℕ, zero, suc, ◌+◌, ◌*◌, ◌-◌, ◌≤◌, ◌<◌, List, [], ◌∷◌, ◌++◌, map, length, arith, refl, sym, ap, subst, ◌∙◌}
use Rattle.std.proofs.Math.Nat.{suc-mul}
use Rattle.std.proofs.lemmas.List.{length-append}
use Rattle.eq_bits.specs.declared.node.Node.{Node}
use Rattle.eq_bits.specs.declared.node.Node.TheVariants.{Const, Input, Not, And, Xor, Mux, Buf, Reg}
use Rattle.eq_bits.specs.declared.part.Output.{Output}
use Rattle.eq_bits.specs.Node.{node_at}
use Rattle.eq_unroll.specs.declared.query.Query.{Query}
use Rattle.eq_unroll.specs.declared.query.Query.TheVariants.{Base, Step}
use Rattle.eq_unroll.specs.Query.{agreeing, frame_count, last_frame}
use Rattle.eq_unroll.specs.Unrolling.{Rows, joined, ordered, rows_at, frame_rows, agreement_rows, difference_rows, output_literals, rows}
use Rattle.eq_unroll.specs.inner.Counting.{total, node_clauses, frame_clauses, first_clauses}

length_joined : {X : Type 0} (g : ℕ → List X) (n : ℕ) → length (joined g n) ≡ total (λ m. length (g m)) n
length_joined g zero = refl
length_joined g (suc n) = length-append (joined g n) (g n) ∙ ap (λ x. x + length (g n)) (length_joined g n)

total_same : (g h : ℕ → ℕ) → ((m : ℕ) → g m ≡ h m) → (n : ℕ) → total g n ≡ total h n
total_same g h e zero = refl
total_same g h e (suc n) = (let a = total_same g h e n in let b = e n in omega arith)

total_constant : (c n : ℕ) → total (λ m. c) n ≡ n * c
total_constant c zero = omega arith
total_constant c (suc n) = (let e = total_constant c n in let m = suc-mul n c in omega arith)

first_node : (n : ℕ) (q : Query) (m : ℕ) (node : Node) →
    length (rows_at zero n q m node) ≡ node_clauses (first_clauses q) node
first_node n q m (Const b) = refl
first_node n q m (Input i) = refl
first_node n q m (Not a) = refl
first_node n q m (And a b) = refl
first_node n q m (Xor a b) = refl
first_node n q m (Mux s a b) = refl
first_node n q m (Buf a) = refl
first_node n Base m (Reg next init) = refl
first_node n Step m (Reg next init) = refl

later_node : (f n : ℕ) (q : Query) (m : ℕ) (node : Node) → length (rows_at (suc f) n q m node) ≡ node_clauses 2 node
later_node f n q m (Const b) = refl
later_node f n q m (Input i) = refl
later_node f n q m (Not a) = refl
later_node f n q m (And a b) = refl
later_node f n q m (Xor a b) = refl
later_node f n q m (Mux s a b) = refl
later_node f n q m (Buf a) = refl
later_node f n q m (Reg next init) = refl

-- the nodes of one frame, and of all

module _ (nodes : List Node) (q : Query) where
  abbrev size : ℕ
  size = length nodes

  abbrev frame : ℕ → Rows
  frame f = joined (λ m. rows_at f size q m (node_at nodes m)) size

  first_frame : length (frame zero) ≡ frame_clauses (first_clauses q) nodes
  first_frame = length_joined (λ m. rows_at zero size q m (node_at nodes m)) size
      ∙ total_same _ _ (λ m. first_node size q m (node_at nodes m)) size

  later_frame : (f : ℕ) → length (frame (suc f)) ≡ frame_clauses 2 nodes
  later_frame f = length_joined (λ m. rows_at (suc f) size q m (node_at nodes m)) size
      ∙ total_same _ _ (λ m. later_node f size q m (node_at nodes m)) size

  all_frames : (frames : ℕ) → length (frame_rows nodes q (suc frames)) ≡ frame_clauses
      (first_clauses q) nodes + frames * frame_clauses 2 nodes
  all_frames zero = (let e = first_frame in length-append (frame_rows nodes q zero) (frame zero) ∙ omega arith)
  all_frames (suc frames) =
      let e = all_frames frames in
      let f = later_frame frames in
      let m = suc-mul frames (frame_clauses 2 nodes) in
      length-append (frame_rows nodes q (suc frames)) (frame (suc frames)) ∙ omega arith

  frames_below : (frames : ℕ) → 0 < frames → length (frame_rows nodes q frames) ≡ frame_clauses
      (first_clauses q) nodes + (frames - 1) * frame_clauses 2 nodes
  frames_below zero lt = absurd (omega arith)
  frames_below (suc frames) lt = (
      let e : suc frames - 1 ≡ frames = omega arith in
      let P : ℕ → Type 0 = λ f. length (frame_rows nodes q (suc frames)) ≡ frame_clauses
      (first_clauses q) nodes + f * frame_clauses 2 nodes in
      subst P (sym e) (all_frames frames))

-- the clauses of outputs

agreements : (n : ℕ) (outputs : List Output) (frames : ℕ) →
    length (agreement_rows n outputs frames) ≡ frames * (2 * length outputs)
agreements n outputs frames =
    length_joined _ frames ∙ total_same _ (λ f. 2 * length outputs) (λ f.
    length_joined _ (length outputs) ∙ total_constant 2 (length outputs) ∙ omega arith) frames
    ∙ total_constant (2 * length outputs) frames

differences : (n : ℕ) (outputs : List Output) (last frames : ℕ) →
    length (difference_rows n outputs last frames) ≡ 2 * length outputs
differences n outputs last frames = length_joined _ (length outputs) ∙ total_constant 2 (length outputs) ∙ omega arith

some_frame : (q : Query) (k : ℕ) → 1 ≤ k → 0 < frame_count q k
some_frame Base k h = omega arith
some_frame Step k h = omega arith

length_ordered : (rs : Rows) → length (map ordered rs) ≡ length rs
length_ordered [] = refl
length_ordered (r ∷ rs) = ap suc (length_ordered rs)

-- all clauses
pub count : (nodes : List Node) (outputs : List Output) (q : Query) (k : ℕ) → 1 ≤ k →
    length (map ordered (rows nodes outputs q k)) ≡
    frame_clauses (first_clauses q) nodes + (frame_count q k - 1) * frame_clauses 2 nodes + agreeing q k *
    (2 * length outputs) + 2 * length outputs + 1
count nodes outputs q k h =
    let n = length nodes in
    let frames = frame_count q k in
    let last = last_frame q k in
    let xs = frame_rows nodes q frames in
    let ys = agreement_rows n outputs (agreeing q k) in
    let zs = difference_rows n outputs last frames in
    let any = output_literals (frames * n) (length outputs) ∷ [] in
    let a = frames_below nodes q frames (some_frame q k h) in
    let b = agreements n outputs (agreeing q k) in
    let c = differences n outputs last frames in
    let d = length-append xs (ys ++ (zs ++ any)) in
    let e = length-append ys (zs ++ any) in
    let f = length-append zs any in
    length_ordered (rows nodes outputs q k) ∙ omega arith

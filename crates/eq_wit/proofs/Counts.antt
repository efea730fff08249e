-- How many clauses a formula has at most.
use Rattle.std.proofs.Common.{◌≡◌, ℕ, ◌+◌, ◌*◌, ◌^◌, ◌<◌, ◌≤◌, zero, suc, Bool, List, [], ◌∷◌, ◌++◌, length, arith, ap, ◌∙◌, length-append}
use Rattle.std.proofs.lemmas.List.{length-map}
use Rattle.std.proofs.lemmas.Nat.{mul-le}
use Rattle.eq_bits.specs.declared.node.Node.{Node}
use Rattle.eq_bits.specs.declared.node.Node.TheVariants.{Const, Input, Not, And, Xor, Mux, Buf, Reg}
use Rattle.eq_bits.specs.declared.part.Part.{Part}
use Rattle.eq_bits.specs.Node.{node_at}
use Rattle.eq_unroll.specs.declared.query.Query.{Query}
use Rattle.eq_unroll.specs.declared.query.Query.TheVariants.{Base, Step}
use Rattle.eq_unroll.specs.Query.{agreeing, frame_count, last_frame}
use Rattle.eq_unroll.specs.Unrolling.{agreement_rows, difference_rows, differ_rows, equal_rows, frame_rows, gate_literal, gold_literal, joined, literal, nodes_rows, ordered, output_literals, register_rows, rows, rows_at, same_rows, unrolled}

-- as many pieces of so many elements at most
joined_few : {X : Type 0} (g : ℕ → List X) (each n : ℕ) → ((i : ℕ) → length (g i) ≤ each) →
    length (joined g n) ≤ n * each
joined_few g each zero h = omega arith
joined_few g each (suc n) h =
    let before = joined_few g each n h in
    let all : length (joined g (suc n)) ≡ length (joined g n) + length (g n) = length-append (joined g n) (g n) in
    omega (arith, before, h n, all)

register_few : (f n : ℕ) (q : Query) (m next : ℕ) (init : Bool) → length (register_rows f n q m next init) ≤ 4
register_few zero n Base m next init = omega arith
register_few zero n Step m next init = omega arith
register_few (suc f) n q m next init = omega arith

rows_few : (f n : ℕ) (q : Query) (m : ℕ) (node : Node) → length (rows_at f n q m node) ≤ 4
rows_few f n q m (Const b) = omega arith
rows_few f n q m (Input i) = omega arith
rows_few f n q m (Not a) = omega arith
rows_few f n q m (And a b) = omega arith
rows_few f n q m (Xor a b) = omega arith
rows_few f n q m (Mux s a b) = omega arith
rows_few f n q m (Buf a) = omega arith
rows_few f n q m (Reg next init) = register_few f n q m next init

frames_few : (q : Query) (k : ℕ) → k ≤ 64 → (frame_count q k ≤ 65) × (agreeing q k ≤ 64)
frames_few Base k h = (omega arith, omega arith)
frames_few Step k h = (omega arith, omega arith)

pub few_clauses : (part : Part) (q : Query) (k : ℕ) → length part.nodes < 2 ^ 32 → length part.outputs < 2 ^ 32 →
    k ≤ 64 → length (unrolled part q k) < 2 ^ 43
few_clauses part q k few_nodes few_outputs small =
    let n = length part.nodes in
    let m = length part.outputs in
    let frames = frames_few q k small in
    let one : (f : ℕ) → length (nodes_rows part.nodes q f) ≤ n * 4 = λ f. joined_few
    (λ i. rows_at f n q i (node_at part.nodes i)) 4 n (λ i. rows_few f n q i (node_at part.nodes i)) in
    let first : length (frame_rows part.nodes q (frame_count q k)) ≤ frame_count q k * (n * 4) =
    joined_few (λ f. nodes_rows part.nodes q f) (n * 4) (frame_count q k) one in
    let first_less = mul-le (frame_count q k) (n * 4) 65 (2 ^ 34) frames.0 (omega (arith, few_nodes)) in
    let equal : (f : ℕ) → length (equal_rows (f * n) part.outputs) ≤ m * 2 = λ f. joined_few
    (λ i. same_rows (gold_literal (f * n) part.outputs i) (gate_literal (f * n) part.outputs i)) 2 m (λ i. omega arith) in
    let second : length (agreement_rows n part.outputs (agreeing q k)) ≤ agreeing q k * (m * 2) =
    joined_few (λ f. equal_rows (f * n) part.outputs) (m * 2) (agreeing q k) equal in
    let second_less = mul-le (agreeing q k) (m * 2) 64 (2 ^ 33) frames.1 (omega (arith, few_outputs)) in
    let third : length (difference_rows n part.outputs (last_frame q k) (frame_count q k)) ≤ m * 2 = joined_few
    (λ i. differ_rows (literal (frame_count q k * n) i) (gold_literal (last_frame q k * n) part.outputs i)
    (gate_literal (last_frame q k * n) part.outputs i)) 2 m (λ i. omega arith) in
    let a = frame_rows part.nodes q (frame_count q k) in
    let b = agreement_rows n part.outputs (agreeing q k) in
    let c = difference_rows n part.outputs (last_frame q k) (frame_count q k) in
    let last = output_literals (frame_count q k * n) m ∷ [] in
    let all : length (rows part.nodes part.outputs q k) ≡ length a + (length b + (length c + 1)) =
    length-append a (b ++ (c ++ last)) ∙ ap (λ (x : ℕ). length a + x)
    (length-append b (c ++ last) ∙ ap (λ (x : ℕ). length b + x) (length-append c last)) in
    let mapped = length-map (rows part.nodes part.outputs q k) ordered in
    omega (arith, first, first_less, second, second_less, third, all, mapped, few_outputs)

-- and one at least
pub some_clauses : (part : Part) (q : Query) (k : ℕ) → 1 ≤ length (unrolled part q k)
some_clauses part q k =
    let n = length part.nodes in
    let m = length part.outputs in
    let a = frame_rows part.nodes q (frame_count q k) in
    let b = agreement_rows n part.outputs (agreeing q k) in
    let c = difference_rows n part.outputs (last_frame q k) (frame_count q k) in
    let last = output_literals (frame_count q k * n) m ∷ [] in
    let all : length (rows part.nodes part.outputs q k) ≡ length a + (length b + (length c + 1)) =
    length-append a (b ++ (c ++ last)) ∙ ap (λ (x : ℕ). length a + x)
    (length-append b (c ++ last) ∙ ap (λ (x : ℕ). length b + x) (length-append c last)) in
    let mapped = length-map (rows part.nodes part.outputs q k) ordered in
    omega (arith, all, mapped)

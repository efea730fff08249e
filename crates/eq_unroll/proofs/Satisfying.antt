-- A query's formula is satisfied exactly by the values of a run that shows what is asked.
use Rattle.std.proofs.Common.{◌≡◌, ◌≢◌, ℕ, zero, suc, ◌+◌, ◌*◌, ◌<◌, Bool, true, false, not, ◌&&◌, ◌||◌, length, refl, arith, sym, ap, ◌∙◌}
use Rattle.std.proofs.lemmas.Bool.{and_parts}
use Rattle.eq_model.specs.System.{Values, Solves, nothing}
use Rattle.eq_model.specs.Part.{PartDiffer, PartSame}
use Rattle.eq_bits.specs.declared.part.Part.{Part}
use Rattle.eq_bits.specs.Node.{node_at, system_of, xor}
use Rattle.eq_bits.specs.Replay.{meaning, output_at}
use Rattle.eq_unroll.specs.declared.query.Query.{Query}
use Rattle.eq_unroll.specs.declared.query.Query.TheVariants.{Base, Step}
use Rattle.eq_unroll.specs.Query.{agreeing, frame_count, last_frame, Shows, StartsAs}
use Rattle.eq_unroll.specs.Unrolling.{literal, rows_at, same_rows, differ_rows, joined, frame_rows, agreement_rows, difference_rows, output_literals, rows}
use Rattle.eq_unroll.proofs.Truth.{truth, row_true, rows_true, rows_parts, rows_both, rows_joined, joined_rows, row_joined, joined_row}
use Rattle.eq_unroll.proofs.NodeClauses.{same, is, same_true, differ_true, frame_of, truth_literal, node_meets, node_begins, node_follows, base_node, step_node, later_node}

-- all nodes' values in the frames of n variables each
abbrev pub frames_of : (ℕ → Bool) → ℕ → ℕ → Values
frames_of values n c = frame_of values (c * n)

differ_from_xor : (g h : Bool) → xor g h ≡ true → g ≢ h
differ_from_xor true true h e = absurd (cc)
differ_from_xor true false h e = absurd (cc)
differ_from_xor false true h e = absurd (cc)
differ_from_xor false false h e = absurd (cc)

xor_from_differ : (g h : Bool) → g ≢ h → xor g h ≡ true
xor_from_differ true true e = absurd (e refl)
xor_from_differ true false e = refl
xor_from_differ false true e = refl
xor_from_differ false false e = absurd (e refl)

xor_implied : (d x : Bool) → (not d || x) ≡ true → d ≡ true → x ≡ true
xor_implied true x h e = h
xor_implied false x h e = absurd (cc)

implied_same : (d x : Bool) → d ≡ x → (not d || x) ≡ true
implied_same true x e = sym e
implied_same false x e = refl

-- the frames that the query looks at are there
pub last_below : (q : Query) (k : ℕ) → 0 < k → last_frame q k < frame_count q k
last_below Base k lt = omega arith
last_below Step k lt = omega arith

pub agreeing_below : (q : Query) (k c : ℕ) → c < agreeing q k → c < frame_count q k
agreeing_below Base k c lt = absurd (omega arith)
agreeing_below Step k c lt = omega arith

-- From satisfying values to a run

module _ (part : Part) (values : ℕ → Bool) where
  abbrev size : ℕ
  size = length part.nodes

  abbrev x : ℕ → Values
  x = frames_of values size

  node_rows : (q : Query) (frames : ℕ) → rows_true values (frame_rows part.nodes q frames) ≡ true → (f m : ℕ) →
      f < frames → m < size →
      rows_true values (rows_at f size q m (node_at part.nodes m)) ≡ true
  node_rows q frames h f m lf lm =
      let at_frame = rows_joined values (λ f. joined (λ m.
      rows_at f size q m (node_at part.nodes m)) size) frames h f lf in
      rows_joined values (λ m. rows_at f size q m (node_at part.nodes m)) size at_frame m lm

  solves : (q : Query) (frames : ℕ) → rows_true values (frame_rows part.nodes q frames) ≡ true →
      Solves (system_of part.nodes) nothing frames x
  solves q frames h = record {
    now = λ c b lc lb uncut. node_meets values c size q b (node_at part.nodes b) (node_rows q frames h c b lc lb);
    next = λ c b lc lb uncut. node_follows values c size q b (node_at part.nodes b)
        (node_rows q frames h (suc c) b lc lb);
  }

  starts : (q : Query) (k : ℕ) → 0 < k → rows_true values (frame_rows part.nodes q (frame_count q k)) ≡ true →
      StartsAs part q (x 0)
  starts Base k lt h = λ b lb uncut. node_begins values size b (node_at part.nodes b) (node_rows Base k h 0 b lt lb)
  starts Step k lt h = tt

  agrees : (frames : ℕ) → rows_true values (agreement_rows size part.outputs frames) ≡ true → (c : ℕ) → c < frames →
      PartSame (meaning part) (x c)
  agrees frames h c lc o lo =
      let gold = (output_at part.outputs o).gold in
      let gate = (output_at part.outputs o).gate in
      let g = λ (f i : ℕ). same_rows (literal (f * size) (output_at part.outputs i).gold)
      (literal (f * size) (output_at part.outputs i).gate) in
      let at_frame = rows_joined values (λ f. joined (g f) (length part.outputs)) frames h c lc in
      let at = rows_joined values (g c) (length part.outputs) at_frame o lo in
      let e = same (truth values (literal (c * size) gold)) (truth values (literal (c * size) gate))
      (sym (same_true values (literal (c * size) gold) (literal (c * size) gate)) ∙ at) in
      sym (truth_literal values (c * size) gold) ∙ e ∙ truth_literal values (c * size) gate

  differs : (last frames : ℕ) → rows_true values (difference_rows size part.outputs last frames) ≡ true →
      row_true values (output_literals (frames * size) (length part.outputs)) ≡ true →
      PartDiffer (meaning part) (x last)
  differs last frames h any =
      let found = row_joined values (literal (frames * size)) (length part.outputs) any in
      let o = found.0 in
      let gold = (output_at part.outputs o).gold in
      let gate = (output_at part.outputs o).gate in
      let g = λ (i : ℕ). differ_rows (literal (frames * size) i) (literal (last * size) (output_at part.outputs i).gold)
      (literal (last * size) (output_at part.outputs i).gate) in
      let at = rows_joined values g (length part.outputs) h o found.1 in
      let both = sym (differ_true values (literal (frames * size) o) (literal (last * size) gold)
      (literal (last * size) gate)) ∙ at in
      let apart = xor_implied (truth values (literal (frames * size) o))
      (xor (truth values (literal (last * size) gold)) (truth values (literal (last * size) gate))) both found.2 in (
        o,
        found.1,
        differ_from_xor (x last gold) (x last gate)
            (rw (truth_literal values (last * size) gold, truth_literal values (last * size) gate) at apart),
      )

  pub record Shown (q : Query) (k : ℕ) : Type 0 where
    pub solved : Solves (system_of part.nodes) nothing (frame_count q k) x
    pub shows : Shows part q k x

  pub shown : (q : Query) (k : ℕ) → 0 < k → rows_true values (rows part.nodes part.outputs q k) ≡ true → Shown q k
  shown q k lt h =
      let frames = frame_count q k in
      let nodes_and = rows_parts values (frame_rows part.nodes q frames) _ h in
      let same_and = rows_parts values (agreement_rows size part.outputs (agreeing q k)) _ nodes_and.1 in
      let differ_and = rows_parts values (difference_rows size part.outputs (last_frame q k) frames) _ same_and.1 in
      let any = and_parts (row_true values (output_literals (frames * size) (length part.outputs))) true differ_and.1 in
      record {
        solved = solves q frames nodes_and.0;
        shows = record {
          starts = starts q k lt nodes_and.0;
          agrees = agrees (agreeing q k) same_and.0;
          differs = differs (last_frame q k) frames differ_and.0 any.0;
        };
      }

  -- From a run to satisfying values, where an output's variable says whether it differs

  node_true : (q : Query) (k : ℕ) → Solves (system_of part.nodes) nothing (frame_count q k) x → StartsAs part q (x 0) →
      (f m : ℕ) → f < frame_count q k → m < size → rows_true values (rows_at f size q m (node_at part.nodes m)) ≡ true
  node_true Base k h begins zero m lf lm = base_node values size m (node_at part.nodes m) (h.now zero m lf lm refl)
      (begins m lm refl)
  node_true Step k h begins zero m lf lm = step_node values size m (node_at part.nodes m) (h.now zero m lf lm refl)
  node_true q k h begins (suc f) m lf lm = later_node values f size q m (node_at part.nodes m)
      (h.now (suc f) m lf lm refl) (h.next f m lf lm refl)

  agreement_true : (frames : ℕ) → ((c : ℕ) → c < frames → PartSame (meaning part) (x c)) →
      rows_true values (agreement_rows size part.outputs frames) ≡ true
  agreement_true frames h =
      let g = λ (f i : ℕ). same_rows (literal (f * size) (output_at part.outputs i).gold)
      (literal (f * size) (output_at part.outputs i).gate) in
      joined_rows values (λ f. joined (g f) (length part.outputs)) frames
      (λ f lf. joined_rows values (g f) (length part.outputs) (λ i li.
      (let gold = (output_at part.outputs i).gold in
      let gate = (output_at part.outputs i).gate in
      same_true values (literal (f * size) gold) (literal (f * size) gate) ∙
      is _ _ (truth_literal values (f * size) gold ∙ h f lf i li ∙ sym (truth_literal values (f * size) gate)))))

  -- each output's variable says whether it differs
  abbrev pub TellsDifferences : ℕ → ℕ → Type 0
  TellsDifferences last frames = (i : ℕ) → i < length part.outputs →
      values (frames * size + i + 1) ≡ xor (x last (output_at part.outputs i).gold)
      (x last (output_at part.outputs i).gate)

  difference_true : (last frames : ℕ) → TellsDifferences last frames →
      rows_true values (difference_rows size part.outputs last frames) ≡ true
  difference_true last frames h =
      let g = λ (i : ℕ). differ_rows (literal (frames * size) i) (literal (last * size) (output_at part.outputs i).gold)
      (literal (last * size) (output_at part.outputs i).gate) in
      joined_rows values g (length part.outputs) (λ i li.
      (let gold = (output_at part.outputs i).gold in
      let gate = (output_at part.outputs i).gate in
      differ_true values (literal (frames * size) i) (literal (last * size) gold) (literal (last * size) gate) ∙
      rw (
        truth_literal values (frames * size) i,
        truth_literal values (last * size) gold,
        truth_literal values (last * size) gate,
      ) (implied_same _ _ (h i li))))

  any_true : (last frames : ℕ) → TellsDifferences last frames → PartDiffer (meaning part) (x last) →
      row_true values (output_literals (frames * size) (length part.outputs)) ≡ true
  any_true last frames h d =
      let o = d.0 in
      let e = h o d.1 ∙ xor_from_differ _ _ d.2 in
      joined_row values (literal (frames * size)) (length part.outputs) o d.1
      (truth_literal values (frames * size) o ∙ e)

  pub satisfied : (q : Query) (k : ℕ) → Shown q k → TellsDifferences (last_frame q k) (frame_count q k) →
      rows_true values (rows part.nodes part.outputs q k) ≡ true
  satisfied q k h tells =
      let frames = frame_count q k in
      let s = h.shows in
      rows_both values (frame_rows part.nodes q frames) _
      (joined_rows values _ frames (λ f lf. joined_rows values _ size
      (λ m lm. node_true q k h.solved s.starts f m lf lm)))
      (rows_both values (agreement_rows size part.outputs (agreeing q k)) _ (agreement_true (agreeing q k) s.agrees)
      (rows_both values (difference_rows size part.outputs (last_frame q k) frames) _
      (difference_true (last_frame q k) frames tells)
      (ap (λ b. b && true) (any_true (last_frame q k) frames tells s.differs))))

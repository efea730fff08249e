-- Where the reading stands behind a query and the lines of its answer.
use Rattle.std.proofs.Common.{◌≡◌, ℕ, ◌+◌, ◌-◌, ◌^◌, ◌<◌, ◌≤◌, zero, suc, Bool, List, [], ◌∷◌, ◌++◌, length, refl, sym, ap, ap₂, ◌∙◌, subst, arith}
use Rattle.eq_bits.specs.declared.run.Run.{Run}
use Rattle.std.specs.Prelude.{nat_lt}
use Rattle.std.proofs.lemmas.List.Sums.{count_by-le-length}
use Rattle.eq_proof.specs.Derivation.{nonempty_of}
use Rattle.eq_proof.specs.Inference.{Inference}
use Rattle.eq_unroll.specs.declared.query.Query.{Query}
use Rattle.eq_wit.specs.declared.state.Open.{Open}
use Rattle.eq_wit.specs.declared.state.Question.{Question}
use Rattle.eq_wit.specs.declared.state.State.{State}
use Rattle.eq_wit.specs.declared.state.State.TheVariants as state
use Rattle.eq_wit.specs.declared.state.Steps.{Steps}
use Rattle.eq_wit.specs.declared.state.Stop.{Stop}
use Rattle.eq_wit.specs.declared.state.Tally.{Tally}
use Rattle.eq_wit.specs.Texts.{frame_line, step_fields}
use Rattle.eq_wit.specs.inner.Items.{IsEarlierStep, IsNoItem, question_line}
use Rattle.eq_wit.specs.inner.Judging.{IsFaulty, StopsBy}
use Rattle.eq_wit.specs.inner.Reading.{IsNextStep, IsQuestion, MayComeFrames, MayComeQueries, MayComeSteps, behind_query, in_frames, in_steps, one_less, with_conflicts}
use Rattle.eq_wit.proofs.TakeLemmas.{stopped_here}

pub follows_frame : (t : Tally) (o : Open) (q : Query) (k : ℕ) (run : Run) (left : ℕ) (frame : List Bool)
    (inputs : List (List Bool)) (next : State) → 0 < left → length frame ≡ length t.part.inputs →
    inputs ≡ run.inputs ++ frame ∷ [] → next ≡ in_frames t o q k (record { regs = run.regs; inputs = inputs })
    (left - 1) →
    MayComeFrames t o q k run left (frame_line frame) next
follows_frame t o q k run zero frame inputs next some long e is = absurd (omega arith)
follows_frame t o q k run (suc left) frame inputs next some long e is =
    let one : suc left - 1 ≡ left = omega arith in (
      frame,
      long,
      refl,
      is ∙ ap₂ (λ (xs : List (List Bool)) (n : ℕ).
          let r : Run = record { regs = run.regs; inputs = xs } in in_frames t o q k r n) e one,
    )

pub follows_query : (t : Tally) (o : Open) (left : ℕ) (a : Question) (next : State) → 0 < left → o.left ≡ left →
    IsQuestion t.part a → next ≡ behind_query t (one_less o (left - 1)) a.query a.k a.due →
    MayComeQueries t o o.left (question_line a) next
follows_query t o zero a next some e fits is = absurd (omega arith)
follows_query t o (suc left) a next some e fits is =
    let one : suc left - 1 ≡ left = omega arith in
    subst (λ (n : ℕ). MayComeQueries t o n (question_line a) next) (sym e) (
      a,
      fits,
      refl,
      subst (λ (n : ℕ). next ≡ behind_query t (one_less o n) a.query a.k a.due) one is,
    )

pub stopped_query : (t : Tally) (o : Open) (left : ℕ) (ws : List (List ℕ)) (s : Stop) → 0 < left → o.left ≡ left →
    StopsBy (IsNoItem question_line (IsQuestion t.part) ws) s → StopsBy (IsFaulty (state.Queries t o) ws) s
stopped_query t o zero ws s some e h = absurd (omega arith)
stopped_query t o (suc left) ws s some e h =
    stopped_here (state.Queries t o) question_line (IsQuestion t.part)
    (λ a. behind_query t (one_less o left) a.query a.k a.due) ws
    (λ a fits. subst (λ (n : ℕ). MayComeQueries t o n (question_line a) (behind_query t
    (one_less o left) a.query a.k a.due))
    (sym e) (a, fits, refl, refl)) s
    (λ l next f. let g = subst (λ (n : ℕ). MayComeQueries t o n l next) e f in (g.0, g.1, g.2))
    (λ u g. cc (g)) (λ x fits form again. again) h

-- ---- steps

fits_next : (conflicts first n : ℕ) (log : List Inference) (step : Inference) → n ≡ first + length log → n < 2 ^ 64 →
    conflicts + 1 < 2 ^ 64 → IsEarlierStep n step → IsNextStep conflicts first log step
fits_next conflicts first n log step e small few h = record {
  fits = record {
    clause = h.0;
    ants = λ k d less. let from = h.1 k d less in (from.0, omega (arith, from.1, small));
  };
  earlier = λ k d less. let from = h.1 k d less in omega (arith, from.1, e);
  few =
      let one : nonempty_of (step ∷ []) ≤ 1 = count_by-le-length (λ (x : Inference). nat_lt 0 (length x.clause))
      (step ∷ []) in
      omega (arith, few, one);
}

earlier_next : (conflicts first n : ℕ) (log : List Inference) (step : Inference) → n ≡ first + length log →
    IsNextStep conflicts first log step → IsEarlierStep n step
earlier_next conflicts first n log step e h = (
  h.fits.clause,
  λ k d less.
      let number' = h.fits.ants k d less in
      let below = h.earlier k d less in (number'.0, omega (arith, below, e)),
)

abbrev behind_step : Tally → Open → Query → ℕ → Steps → Inference → ℕ → State
behind_step t o q k x step left = in_steps (with_conflicts t (t.conflicts + nonempty_of
    (step ∷ []))) o q k x.spent x.first
    (x.log ++ step ∷ []) left

pub follows_step : (t : Tally) (o : Open) (q : Query) (k : ℕ) (x : Steps) (left n : ℕ) (step : Inference)
    (next : State) →
    0 < left → x.left ≡ left → n ≡ x.first + length x.log → n < 2 ^ 64 → t.conflicts + 1 < 2 ^ 64 → IsEarlierStep n
    step →
    next ≡ behind_step t o q k x step (left - 1) →
    MayComeSteps t o q k x.spent x.first x.log x.left (step_fields n step) next
follows_step t o q k x zero n step next some e number' small few fits is = absurd (omega arith)
follows_step t o q k x (suc left) n step next some e number' small few fits is =
    let one : suc left - 1 ≡ left = omega arith in
    subst (λ (m : ℕ). MayComeSteps t o q k x.spent x.first x.log m (step_fields n step) next) (sym e) (
      step,
      fits_next t.conflicts x.first n x.log step number' small few fits,
      ap (λ (m : ℕ). step_fields m step) number',
      is ∙ ap (behind_step t o q k x step) one,
    )

pub stopped_step : (t : Tally) (o : Open) (q : Query) (k : ℕ) (x : Steps) (left n : ℕ) (ws : List (List ℕ)) (s : Stop) →
    0 < left → x.left ≡ left → n ≡ x.first + length x.log → n < 2 ^ 64 → t.conflicts + 1 < 2 ^ 64 →
    StopsBy (IsNoItem (step_fields n) (IsEarlierStep n) ws) s → StopsBy (IsFaulty (state.Steps t o q k x) ws) s
stopped_step t o q k x zero n ws s some e number' small few h = absurd (omega arith)
stopped_step t o q k x (suc left) n ws s some e number' small few h =
    stopped_here (state.Steps t o q k x) (step_fields n) (IsEarlierStep n) (λ step. behind_step t o q k x step
    (suc left - 1)) ws
    (λ step fits. follows_step t o q k x (suc left) n step (behind_step t o q k x step
    (suc left - 1)) some e number' small few fits
    refl) s
    (λ l next f.
    let g = subst (λ (m : ℕ). MayComeSteps t o q k x.spent x.first x.log m l next) e f in (
      g.0,
      earlier_next t.conflicts x.first n x.log g.0 number' g.1,
      g.2 ∙ ap (λ (m : ℕ). step_fields m g.0) (sym number'),
    ))
    (λ u g. cc (g)) (λ step fits form again. again) h

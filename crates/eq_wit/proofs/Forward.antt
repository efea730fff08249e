-- The lines of an evidence follow one another, from the first to the last.
use Rattle.std.proofs.Common.{◌≡◌, ℕ, ◌+◌, ◌-◌, ◌^◌, ◌<◌, suc, Bool, false, List, [], ◌∷◌, ◌++◌, Some, length, map, slice_get, arith, refl, sym, ap, ap₂, ◌∙◌, subst, append_assoc}
use Rattle.std.specs.Prelude.{All, codes, replicate}
use Rattle.std.specs.List.{flat_map, AllByRecursion}
use Rattle.std.proofs.lemmas.List.{append-nil, length-map, length_push}
use Rattle.std.proofs.lemmas.List.Elements.{recursion_from_All}
use Rattle.std.proofs.lemmas.List.Sums.{sum_by-append}
use Rattle.std.proofs.lemmas.Option.{get_or_from_slice_get, slice_get_within}
use Rattle.eq_names.specs.Name.{IsName}
use Rattle.eq_bits.specs.declared.node.Node.{Node}
use Rattle.eq_bits.specs.declared.node.Node.TheVariants.{Const, Input}
use Rattle.eq_bits.specs.declared.part.Output.{Output}
use Rattle.eq_bits.specs.declared.part.Part.{Part}
use Rattle.eq_bits.specs.Node.{IsNode, NamesInput}
use Rattle.eq_bits.specs.Part.{NamesNodes}
use Rattle.eq_induct.specs.declared.types.Asked.{Asked}
use Rattle.eq_induct.specs.declared.types.Try.{Try}
use Rattle.eq_induct.specs.Attempts.{learned}
use Rattle.eq_induct.specs.Outcome.{verdict_of}
use Rattle.eq_wit.specs.declared.types.Evidence.{Evidence}
use Rattle.eq_wit.specs.declared.types.Head.{Head}
use Rattle.eq_wit.specs.declared.state.Draft.{Draft}
use Rattle.eq_wit.specs.declared.state.Tally.{Tally}
use Rattle.eq_wit.specs.declared.state.State.{State}
use Rattle.eq_wit.specs.declared.state.State.TheVariants as state
use Rattle.eq_wit.specs.Evidence.{IsTryOf, IsWithinLimits}
use Rattle.eq_wit.specs.Faults.{IsTyped, IsTypedTry}
use Rattle.eq_wit.specs.Line.{Line}
use Rattle.eq_wit.specs.Texts.{asked_lines, attempt_lines, counted, decided_lines, end_line, lines_of_part, list_lines, name_line, node_line, output_line, tries_lines, verdict_line}
use Rattle.eq_wit.specs.inner.Judging.{Runs}
use Rattle.eq_wit.specs.inner.Standing.{learned_by}
use Rattle.eq_wit.specs.inner.Reading.{MayComeNext, MayAsk, MayHave, begun, count_line, last_line, untried}
use Rattle.eq_wit.proofs.Lists.{all_at}
use Rattle.eq_wit.proofs.Outcomes.{fewer_cycles}
use Rattle.eq_wit.proofs.Sizes.{by_places}
use Rattle.eq_wit.proofs.PieceRuns.{AreOfPart, IsGood, draft, joined_runs, names_run, nodes_run, opening, outputs_run, queries_run, tally}

-- ---- tries

may_ask : (part : Part) (asked : List Asked) → AllByRecursion (IsGood part) asked → MayAsk part (length asked)
may_ask part [] h = tt
may_ask part (a ∷ asked) h =
    let k = h.0.0.unrollable in
    fewer_cycles part 1 a.k (omega arith) k.from_one k

-- a try with its head fits the part
pub record IsGoodTry (part : Part) (head : Head) (t : Try) : Type 0 where
  pub name : IsName head.name
  pub limits : IsWithinLimits head
  pub fits : IsTryOf part t
  pub typed : IsTypedTry t

try_run : (part : Part) (heads : List Head) (tries : List Try) (left : ℕ) (head : Head) (t : Try) (c all_conflicts : ℕ) →
    all_conflicts ≡ c + learned t.attempt.asked → all_conflicts < 2 ^ 64 → t.strategy ≡ length tries →
    IsGoodTry part head t →
    Runs (state.Tries (tally part heads tries c (suc left))) (attempt_lines part head t.attempt)
    (state.Tries (tally part (heads ++ head ∷ []) (tries ++ t ∷ []) all_conflicts left))
try_run part heads tries left head t c all_conflicts rises small number h =
    let asked : List Asked = t.attempt.asked in
    let good : AllByRecursion (IsGood part) asked = by_places (IsGood part) asked
    (λ i a e. (h.fits.asked i a e, h.typed.logs i a e)) in
    let begun : State = state.Queries (tally part heads tries c left) (opening head [] (length asked)) in
    let over : State = state.Queries (tally part heads tries all_conflicts left) (opening head asked 0) in
    let last : State = state.Tries (tally part (heads ++ head ∷ []) (tries ++ t ∷ []) all_conflicts left) in
    let made : Try = record { strategy = length tries; attempt = t.attempt } in
    let same : made ≡ t = ap (λ (n : ℕ). let x : Try = record { strategy = n; attempt = t.attempt } in x) (sym number) in (
      begun,
      (
        (head, length asked),
        record { name = h.name; limits = h.limits; few = h.fits.few; may = may_ask part asked good },
        refl,
        refl,
      ),
      joined_runs begun over last (flat_map (asked_lines part) asked) (end_line t.attempt.end ∷ [])
          (queries_run part heads tries left head [] asked asked c all_conflicts refl rises small good) (
            last,
            (
              t.attempt.end,
              h.typed.end,
              refl,
              ap (λ (x : Try). state.Tries (tally part (heads ++ head ∷ []) (tries ++ x ∷ []) all_conflicts left)) (sym same),
            ),
            refl,
          ),
    )

-- the tries are numbered from n
abbrev AreFrom : ℕ → List Try → Type 0
AreFrom n [] = Unit {0}
AreFrom n (t ∷ tries) = (t.strategy ≡ n) × AreFrom (suc n) tries

abbrev AreGood : Part → List Head → List Try → Type 0
AreGood part [] [] = Unit {0}
AreGood part (head ∷ heads) (t ∷ tries) = IsGoodTry part head t × AreGood part heads tries
AreGood part _ _ = ⊥

tries_run : (part : Part) (heads more_heads all_heads : List Head) (tries more all : List Try) (n c all_conflicts : ℕ) →
    all_heads ≡ heads ++ more_heads → all ≡ tries ++ more → all_conflicts ≡ c + learned_by more → all_conflicts < 2 ^ 64 →
    n ≡ length tries → AreFrom n more → AreGood part more_heads more →
    Runs (state.Tries (tally part heads tries c (length more))) (tries_lines part more_heads more)
    (state.Tries (tally part all_heads all all_conflicts 0))
tries_run part heads [] all_heads tries [] all n c all_conflicts e g rises small long from h =
    let same : c ≡ all_conflicts = omega (arith, rises) in
    ap₂ (λ (hs : List Head) (ts : List Try). state.Tries (tally part hs ts c 0)) (sym (e ∙ append-nil heads))
    (sym (g ∙ append-nil tries)) ∙ ap (λ (m : ℕ). state.Tries (tally part all_heads all m 0)) same
tries_run part heads [] all_heads tries (t ∷ more) all n c all_conflicts e g rises small long from h = absurd h
tries_run part heads (x ∷ more_heads) all_heads tries [] all n c all_conflicts e g rises small long from h = absurd h
tries_run part heads (x ∷ more_heads) all_heads tries (t ∷ more) all n c all_conflicts e g rises small long from h =
    let parts : learned_by (t ∷ more) ≡ learned_by (t ∷ []) + learned_by more =
    sum_by-append (λ (y : Try). learned y.attempt.asked) (t ∷ []) more in
    let one : learned_by (t ∷ []) ≡ learned t.attempt.asked = omega arith in
    let now = c + learned t.attempt.asked in
    joined_runs (state.Tries (tally part heads tries c (suc (length more))))
    (state.Tries (tally part (heads ++ x ∷ []) (tries ++ t ∷ []) now (length more)))
    (state.Tries (tally part all_heads all all_conflicts 0)) (attempt_lines part x t.attempt)
    (tries_lines part more_heads more)
    (try_run part heads tries (length more) x t c now refl (omega (arith, rises, parts, one, small)) (from.0 ∙ long) h.0)
    (tries_run part (heads ++ x ∷ []) more_heads all_heads (tries ++ t ∷ []) more all (suc n) now all_conflicts
    (e ∙ sym (append_assoc heads (x ∷ []) more_heads)) (g ∙ sym (append_assoc tries (t ∷ []) more))
    (omega (arith, rises, parts, one)) small (omega (arith, long, length_push tries t)) from.1 h.1)

-- ---- the whole

from_places : (n : ℕ) (tries : List Try) → ((i : ℕ) (t : Try) → slice_get tries i ≡ Some t → t.strategy ≡ n + i) → AreFrom n tries
from_places n [] h = tt
from_places n (t ∷ tries) h = (
  omega (arith, h 0 t refl),
  from_places (suc n) tries (λ i x e. omega (arith, h (suc i) x e)),
)

good_by_places : (part : Part) (heads : List Head) (tries : List Try) → length heads ≡ length tries →
    ((i : ℕ) (head : Head) (t : Try) → slice_get heads i ≡ Some head → slice_get tries i ≡ Some t → IsGoodTry part head t) →
    AreGood part heads tries
good_by_places part [] [] same h = tt
good_by_places part [] (t ∷ tries) same h = absurd (omega arith)
good_by_places part (x ∷ heads) [] same h = absurd (omega arith)
good_by_places part (x ∷ heads) (t ∷ tries) same h =
    (h 0 x t refl refl, good_by_places part heads tries (omega arith) (λ i head y e g. h (suc i) head y e g))

of_part : (part : Part) → AreOfPart (length part.inputs) part.nodes
of_part part = record {
  operands = λ m node e. subst (IsNode (length part.nodes) m) (get_or_from_slice_get part.nodes m node (Const false) e)
      (part.is_part.operands m (slice_get_within part.nodes m node e));
  there = λ m node e. subst (NamesInput (length part.inputs)) (get_or_from_slice_get part.nodes m node (Const false) e)
      (part.is_part.inputs_there m (slice_get_within part.nodes m node e));
  one_node = λ a b i e g. part.is_part.one_node a b i (slice_get_within part.nodes a (Input i) e)
      (slice_get_within part.nodes b (Input i) g) (get_or_from_slice_get part.nodes a (Input i) (Const false) e)
      (get_or_from_slice_get part.nodes b (Input i) (Const false) g);
}

may_have : (nodes : List Node) (outputs : List Output) → All (NamesNodes (length nodes)) outputs →
    MayHave nodes (length outputs)
may_have nodes [] h = tt
may_have nodes (o ∷ outputs) h = let first = h 0 o (omega arith) in omega (arith, first.0)

both_by_places : {X : Type 0} (P Q : X → Type 0) (xs : List X) → All P xs → All Q xs → AllByRecursion (λ x. P x × Q x) xs
both_by_places P Q xs p q = by_places (λ x. P x × Q x) xs (λ i x e. (all_at P xs i x p e, all_at Q xs i x q e))

-- the lines behind the first
abbrev pub tail_lines : Evidence → List Line
tail_lines e = lines_of_part e.part ++ decided_lines e.part e.heads e.decided

-- a key with a number, and so many lines
behind_count : {X : Type 0} (f : X → Line) (xs : List X) (key : List ℕ) (s end : State) (make : ℕ → State) →
    ((n : ℕ) → n ≡ length xs → MayComeNext s (count_line key n) (make n)) → Runs (make (length xs)) (map f xs) end →
    Runs s (counted key (map f xs)) end
behind_count f xs key s end make follows runs =
    let same : length (map f xs) ≡ length xs = length-map xs f in (
      make (length (map f xs)),
      follows (length (map f xs)) same,
      subst (λ (n : ℕ). Runs (make n) (map f xs) end) (sym same) runs,
    )

part_runs : (part : Part) → All IsName part.inputs → All (λ o. IsName o.name) part.outputs →
    Runs (state.Named part.name) (list_lines part)
    (state.Outputs (draft part.name part.inputs part.nodes part.outputs) 0)
part_runs part inputs outputs =
    let first : Draft = draft part.name part.inputs [] [] in
    let second : Draft = draft part.name part.inputs part.nodes [] in
    let third : Draft = draft part.name part.inputs part.nodes part.outputs in
    let seen : List Bool = replicate (length part.inputs) false in
    let nodes = nodes_run first seen part.nodes part.nodes refl (of_part part) in
    let few_inputs = part.is_part.few_inputs in
    let few_nodes = part.is_part.few_nodes in
    let few_outputs = part.is_part.few_outputs in
    joined_runs (state.Named part.name) (state.Inputs first 0) (state.Outputs third 0)
    (counted (codes "inputs") (map name_line part.inputs))
    (counted (codes "nodes") (map node_line part.nodes) ++ counted (codes "outputs") (map output_line part.outputs))
    (behind_count name_line part.inputs (codes "inputs") (state.Named part.name) (state.Inputs first 0)
    (λ n. state.Inputs (begun part.name) n) (λ n e. (n, omega (arith, e, few_inputs), refl, refl))
    (names_run (begun part.name) part.inputs part.inputs refl (recursion_from_All IsName part.inputs inputs)))
    (joined_runs (state.Inputs first 0) (state.Nodes second nodes.0 0) (state.Outputs third 0)
    (counted (codes "nodes") (map node_line part.nodes)) (counted (codes "outputs") (map output_line part.outputs))
    (behind_count node_line part.nodes (codes "nodes") (state.Inputs first 0) (state.Nodes second nodes.0 0)
    (λ n. state.Nodes first seen n) (λ n e. (n, omega (arith, e, few_nodes), refl, refl)) nodes.1)
    (behind_count output_line part.outputs (codes "outputs") (state.Nodes second nodes.0 0) (state.Outputs third 0)
    (λ n. state.Outputs second n)
    (λ n e. (
      n,
      (
        omega (arith, e, few_outputs),
        subst (MayHave part.nodes) (sym e) (may_have part.nodes part.outputs part.is_part.outputs_there),
      ),
      refl,
      refl,
    ))
    (outputs_run second part.outputs part.outputs refl (both_by_places (λ (o : Output). IsName o.name)
    (NamesNodes (length part.nodes)) part.outputs outputs part.is_part.outputs_there))))

-- the lines of an evidence behind the first follow one another
pub evidence_runs : (e : Evidence) → IsTyped e → (t : Tally) × Runs state.Titled (tail_lines e) (state.Ended t)
evidence_runs e h =
    let part = e.part in
    let d = e.decided in
    let is = e.is_evidence in
    let third : Draft = draft part.name part.inputs part.nodes part.outputs in
    let t : Tally = tally part e.heads d.tries d.conflicts 0 in
    let good : AreGood part e.heads d.tries = good_by_places part e.heads d.tries is.same (λ i head x g k. record {
      name = all_at (λ (y : Head). IsName y.name) e.heads i head h.heads g;
      limits = is.limits i head g;
      fits = is.tries i x k;
      typed = h.tries i x k;
    }) in
    let from : AreFrom 0 d.tries = from_places 0 d.tries (λ i x k. omega (arith, h.in_order i x k)) in
    let rises = is.conflicts in
    let few = is.few in
    let tail : List Line = verdict_line d.verdict ∷ last_line ∷ [] in
    let verdict : verdict_line d.verdict ≡ verdict_line (verdict_of (slice_get d.tries (length d.tries - 1))) =
    ap verdict_line is.verdict in (
      t,
      joined_runs state.Titled (state.Outputs third 0) (state.Ended t) (lines_of_part part) (decided_lines part e.heads d)
          (state.Named part.name, (part.name, h.name, refl, refl), part_runs part h.inputs h.outputs) (
            state.Tries (untried part (length d.tries)),
            (
              (part, length d.tries),
              (record { name = refl; inputs = refl; nodes = refl; outputs = refl }, omega (arith, few)),
              refl,
              refl,
            ),
            joined_runs (state.Tries (untried part (length d.tries))) (state.Tries t) (state.Ended t)
                (tries_lines part e.heads d.tries) tail
                (tries_run part [] e.heads e.heads [] d.tries d.tries 0 0 d.conflicts refl refl (omega (arith, rises))
                (omega (arith, h.conflicts)) refl from good)
                (state.Closing t, (verdict, refl), (state.Ended t, (refl, refl), refl)),
          ),
    )

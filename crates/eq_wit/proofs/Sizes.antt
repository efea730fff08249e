-- The names of an evidence are words, and its numbers have 64 bits.
use Rattle.std.proofs.Common.{◌≡◌, ℕ, ◌-◌, ◌^◌, ◌<◌, ◌≤◌, zero, suc, false, List, [], ◌∷◌, length, arith, refl, subst, Some, slice_get}
use Rattle.std.specs.Prelude.{All}
use Rattle.std.specs.List.{AllByRecursion}
use Rattle.std.proofs.lemmas.List.Elements.{recursion_from_All}
use Rattle.std.proofs.lemmas.Option.{get_or_from_slice_get, slice_get_within}
use Rattle.eq_names.specs.Name.{IsName}
use Rattle.eq_bits.specs.declared.node.Node.{Node}
use Rattle.eq_bits.specs.declared.node.Node.TheVariants.{Const, Input, Not, And, Xor, Mux, Buf, Reg}
use Rattle.eq_bits.specs.declared.part.Output.{Output}
use Rattle.eq_bits.specs.declared.part.Part.{Part}
use Rattle.eq_bits.specs.Node.{IsNode, NamesInput, node_at}
use Rattle.eq_bits.specs.Part.{NamesNodes}
use Rattle.eq_proof.specs.Inference.{Inference}
use Rattle.eq_proof.specs.Lrat.{IsStep}
use Rattle.eq_proof.specs.Text.{IsNumber, IsUpTo}
use Rattle.eq_unroll.specs.declared.query.Query.{Query}
use Rattle.eq_induct.specs.declared.types.Answer.{Answer}
use Rattle.eq_induct.specs.declared.types.Answer.TheVariants.{Sat, Unsat, Spent}
use Rattle.eq_induct.specs.declared.types.Asked.{Asked}
use Rattle.eq_induct.specs.declared.types.End.{End}
use Rattle.eq_induct.specs.declared.types.End.TheVariants as end
use Rattle.eq_induct.specs.declared.types.Try.{Try}
use Rattle.eq_wit.specs.declared.types.Evidence.{Evidence}
use Rattle.eq_wit.specs.declared.types.Head.{Head}
use Rattle.eq_wit.specs.Evidence.{FitsQuery, IsAskedOf, IsTryOf, IsWithinLimits}
use Rattle.eq_wit.specs.Faults.{HasLog, IsLogOf, IsTyped, IsTypedTry, IsShortEnd}
use Rattle.eq_wit.specs.Texts.{first_number}
use Rattle.eq_wit.proofs.Counts.{few_clauses}
use Rattle.eq_wit.proofs.Decoding.{FitsNode, FitsStep}
use Rattle.eq_wit.proofs.Decoded.{FitsAnswer, FitsAsked, FitsEnd, FitsTried}
use Rattle.eq_wit.proofs.Lists.{all_at}
use Rattle.eq_wit.proofs.Plain.{HasAskedWords, HasNumbers, HasTriedWords, HasWords}
use Rattle.eq_wit.proofs.Whole.{tried_of}
use Rattle.eq_wit.proofs.Words.{IsWord, IsWord-name}

module _ {X : Type 0} where
  pub by_places : (P : X → Type 0) (xs : List X) → ((i : ℕ) (x : X) → slice_get xs i ≡ Some x → P x) → AllByRecursion P xs
  by_places P [] h = tt
  by_places P (x ∷ xs) h = (h zero x refl, by_places P xs (λ i y e. h (suc i) y e))

  weaker : (P Q : X → Type 0) → ((x : X) → P x → Q x) → (xs : List X) → AllByRecursion P xs → AllByRecursion Q xs
  weaker P Q f [] h = tt
  weaker P Q f (x ∷ xs) h = (f x h.0, weaker P Q f xs h.1)

-- ---- the part

pub node_fits : (n m inputs : ℕ) (node : Node) → n < 2 ^ 32 → m < n → inputs < 2 ^ 32 → IsNode n m node →
    NamesInput inputs node → FitsNode node
node_fits n m inputs (Const b) few less small h k = tt
node_fits n m inputs (Input i) few less small h k = omega (arith, k)
node_fits n m inputs (Not a) few less small h k = omega (arith, h)
node_fits n m inputs (And a b) few less small h k = (omega (arith, h.0), omega (arith, h.1))
node_fits n m inputs (Xor a b) few less small h k = (omega (arith, h.0), omega (arith, h.1))
node_fits n m inputs (Mux s a b) few less small h k = (omega (arith, h.0), omega (arith, h.1), omega (arith, h.2))
node_fits n m inputs (Buf a) few less small h k = omega (arith, h)
node_fits n m inputs (Reg next init) few less small h k = omega (arith, h)

nodes_fit : (part : Part) → AllByRecursion FitsNode part.nodes
nodes_fit part = by_places FitsNode part.nodes (λ m node e.
    let within : m < length part.nodes = slice_get_within part.nodes m node e in
    let is : node_at part.nodes m ≡ node = get_or_from_slice_get part.nodes m node (Const false) e in
    node_fits (length part.nodes) m (length part.inputs) node part.is_part.few_nodes within part.is_part.few_inputs
    (subst (IsNode (length part.nodes) m) is (part.is_part.operands m within))
    (subst (NamesInput (length part.inputs)) is (part.is_part.inputs_there m within)))

outputs_fit : (part : Part) → AllByRecursion (λ o. (o.gold < 2 ^ 64) × (o.gate < 2 ^ 64)) part.outputs
outputs_fit part = by_places _ part.outputs (λ i o e.
    let both = all_at (NamesNodes (length part.nodes)) part.outputs i o part.is_part.outputs_there e in
    let few = part.is_part.few_nodes in
    (omega (arith, both.0, few), omega (arith, both.1, few)))

-- ---- queries

pub step_fits : (step : Inference) → IsStep step → FitsStep step
step_fits step h = record {
  clause = weaker (IsUpTo (2 ^ 31 - 1)) (λ l. (1 ≤ l.var) × (l.var < 2 ^ 64))
      (λ l within. (within.0, omega (arith, within.1))) step.clause
      (recursion_from_All (IsUpTo (2 ^ 31 - 1)) step.clause h.clause.within);
  ants = recursion_from_All IsNumber step.ants h.ants;
}

log_fits : (log : List Inference) → IsLogOf log → AllByRecursion FitsStep log
log_fits log h = weaker IsStep FitsStep step_fits log (recursion_from_All IsStep log h.steps)

answer_fits : (part : Part) (q : Query) (k : ℕ) (answer : Answer) → FitsQuery part q k answer → HasLog answer →
    FitsAnswer q k answer
answer_fits part q k (Sat run) h log = h.1
answer_fits part q k (Unsat steps) h log = (omega (arith, log.few), log_fits steps log)
answer_fits part q k (Spent steps) h log = (omega (arith, log.few), log_fits steps log)

has_numbers : (first : ℕ) (answer : Answer) → first < 2 ^ 44 → HasLog answer → HasNumbers first answer
has_numbers first (Sat run) small log = tt
has_numbers first (Unsat steps) small log = (omega (arith, log.few), log_fits steps log)
has_numbers first (Spent steps) small log = (omega (arith, log.few), log_fits steps log)

asked_fits : (part : Part) (a : Asked) → IsAskedOf part a → HasLog a.answer → FitsAsked a
asked_fits part a h log = record {
  k = omega (arith, h.unrollable.few_cycles);
  answer = answer_fits part a.query a.k a.answer h.fits log;
}

asked_words : (part : Part) (a : Asked) → IsAskedOf part a → HasLog a.answer → HasAskedWords part a
asked_words part a h log =
    let few = few_clauses part a.query a.k part.is_part.few_nodes part.is_part.few_outputs h.unrollable.few_cycles in (
      omega (arith, h.unrollable.few_cycles),
      has_numbers (first_number part a.query a.k) a.answer (omega (arith, few)) log,
    )

-- ---- tries

pub end_fits : (e : End) → IsShortEnd e → FitsEnd e
end_fits (end.Proved k) h = omega (arith, h)
end_fits (end.Fail k) h = omega (arith, h)
end_fits end.Deep h = tt
end_fits end.Spent h = tt

tried_words : (part : Part) (head : Head) (t : Try) → IsWithinLimits head → IsWord head.name → IsTryOf part t →
    IsTypedTry t → HasTriedWords part (record { head = head; attempt = t.attempt })
tried_words part head t limits name h k = record {
  name = name;
  fits = record {
    depth = omega (arith, limits.depth);
    conflicts = omega (arith, limits.conflicts);
    few = omega (arith, h.few);
    asked = by_places FitsAsked t.attempt.asked (λ i a e. asked_fits part a (h.asked i a e) (k.logs i a e));
    end = end_fits t.attempt.end k.end;
  };
  asked = by_places (HasAskedWords part) t.attempt.asked
      (λ i a e. asked_words part a (h.asked i a e) (k.logs i a e));
}

all_tried_words : (part : Part) (heads : List Head) (tries : List Try) →
    ((i : ℕ) (head : Head) → slice_get heads i ≡ Some head → IsWithinLimits head × IsWord head.name) →
    ((i : ℕ) (t : Try) → slice_get tries i ≡ Some t → IsTryOf part t × IsTypedTry t) →
    AllByRecursion (HasTriedWords part) (tried_of heads tries)
all_tried_words part [] tries h k = tt
all_tried_words part (head ∷ heads) [] h k = tt
all_tried_words part (head ∷ heads) (t ∷ tries) h k =
    let first = h zero head refl in
    let next = k zero t refl in (
      tried_words part head t first.0 first.1 next.0 next.1,
      all_tried_words part heads tries (λ i x e. h (suc i) x e) (λ i x e. k (suc i) x e),
    )

-- ---- the whole

names_are : (names : List (List ℕ)) → All IsName names → AllByRecursion IsWord names
names_are names h = weaker IsName IsWord IsWord-name names (recursion_from_All IsName names h)

pub plain_has_words : (e : Evidence) → IsTyped e → HasWords e.part e.heads e.decided
plain_has_words e h =
    let tried = all_tried_words e.part e.heads e.decided.tries
    (λ i head there. (
      e.is_evidence.limits i head there,
      IsWord-name head.name (all_at (λ (x : Head). IsName x.name) e.heads i head h.heads there),
    ))
    (λ i t there. (e.is_evidence.tries i t there, h.tries i t there)) in
    record {
      name = IsWord-name e.part.name h.name;
      inputs = names_are e.part.inputs h.inputs;
      outputs = weaker (λ (o : Output). IsName o.name) (λ (o : Output). IsWord o.name) (λ o. IsWord-name o.name) e.part.outputs
          (recursion_from_All (λ (o : Output). IsName o.name) e.part.outputs h.outputs);
      fits = record {
        inputs = omega (arith, e.part.is_part.few_inputs);
        few_nodes = omega (arith, e.part.is_part.few_nodes);
        nodes = nodes_fit e.part;
        few_outputs = omega (arith, e.part.is_part.few_outputs);
        outputs = outputs_fit e.part;
        same = e.is_evidence.same;
        few = omega (arith, e.is_evidence.few);
        tried = weaker (HasTriedWords e.part) FitsTried (λ t words. words.fits) (tried_of e.heads e.decided.tries) tried;
      };
      tried = tried;
    }

-- Each line of an evidence has a field at least, and no field has a blank or a line feed.
use Rattle.std.proofs.Common.{◌≡◌, ℕ, ◌+◌, ◌^◌, ◌<◌, ◌≤◌, suc, Bool, true, false, cond, List, [], ◌∷◌, ◌++◌, length, map, arith, refl, sym, subst}
use Rattle.std.specs.Prelude.{codes}
use Rattle.std.specs.List.{flat_map, AllByRecursion}
use Rattle.std.proofs.lemmas.List.{length-map}
use Rattle.eq_bits.specs.declared.node.Node.{Node}
use Rattle.eq_bits.specs.declared.node.Node.TheVariants.{Const, Input, Not, And, Xor, Mux, Buf, Reg}
use Rattle.eq_bits.specs.declared.part.Output.{Output}
use Rattle.eq_bits.specs.declared.part.Part.{Part}
use Rattle.eq_proof.specs.Literal.{Literal}
use Rattle.eq_proof.specs.Inference.{Inference}
use Rattle.eq_proof.specs.Text.{literal_word}
use Rattle.eq_unroll.specs.declared.query.Query.{Query}
use Rattle.eq_unroll.specs.declared.query.Query.TheVariants.{Base, Step}
use Rattle.eq_induct.specs.declared.types.Answer.{Answer}
use Rattle.eq_induct.specs.declared.types.Answer.TheVariants.{Sat, Unsat, Spent}
use Rattle.eq_induct.specs.declared.types.Asked.{Asked}
use Rattle.eq_induct.specs.declared.types.Decided.{Decided}
use Rattle.eq_induct.specs.declared.types.End.{End}
use Rattle.eq_induct.specs.declared.types.End.TheVariants as end
use Rattle.eq_induct.specs.declared.types.PartVerdict.{PartVerdict}
use Rattle.eq_induct.specs.declared.types.PartVerdict.TheVariants as verdict
use Rattle.eq_wit.specs.declared.types.Head.{Head}
use Rattle.eq_wit.specs.Line.{Field, Line, Word, field_text, number}
use Rattle.eq_wit.specs.Texts.{answer_fields, answer_lines, asked_lines, bit_word, bits_word, counted, decided_lines, digit_of, end_line, evidence_lines, first_number, frame_line, list_lines, literal_field, log_lines, name_line, node_line, output_line, query_word, step_fields, verdict_line}
use Rattle.eq_wit.proofs.Words.{AreWords, IsPlainLine, IsWord, IsWord-decimal, stays}
use Rattle.eq_wit.proofs.Decoding.{FitsNode, FitsStep}
use Rattle.eq_wit.proofs.Decoded.{FitsEnd, FitsTried, Tried, tried_lines}
use Rattle.eq_wit.proofs.Whole.{FitsWhole, tried_of, tries_one_by_one}

abbrev pub ArePlain : List Line → Type 0
ArePlain lines = AllByRecursion IsPlainLine lines

-- a text that is written out is a word where a test says so

abbrev all_stay : List ℕ → Bool
all_stay [] = true
all_stay (b ∷ bytes) = cond (stays b) (all_stay bytes) false

by_test-first : (b : Bool) (rest : Bool) → cond b rest false ≡ true → (b ≡ true) × (rest ≡ true)
by_test-first true rest e = (refl, e)
by_test-first false rest e = absurd (cc (e))

pub by_test : (word : List ℕ) → all_stay word ≡ true → IsWord word
by_test [] e = tt
by_test (b ∷ bytes) e = let both = by_test-first (stays b) (all_stay bytes) e in (both.0, by_test bytes both.1)

plain_append : (a b : List Line) → ArePlain a → ArePlain b → ArePlain (a ++ b)
plain_append [] b h k = k
plain_append (line ∷ a) b h k = (h.0, plain_append a b h.1 k)

module _ {X : Type 0} where
  plain_map : (line : X → Line) (Fits : X → Type 0) → ((x : X) → Fits x → IsPlainLine (line x)) → (xs : List X) →
      AllByRecursion Fits xs → ArePlain (map line xs)
  plain_map line Fits each [] h = tt
  plain_map line Fits each (x ∷ xs) h = (each x h.0, plain_map line Fits each xs h.1)

  plain_flat : (lines : X → List Line) (Fits : X → Type 0) → ((x : X) → Fits x → ArePlain (lines x)) → (xs : List X) →
      AllByRecursion Fits xs → ArePlain (flat_map lines xs)
  plain_flat lines Fits each [] h = tt
  plain_flat lines Fits each (x ∷ xs) h =
      plain_append (lines x) (flat_map lines xs) (each x h.0) (plain_flat lines Fits each xs h.1)

-- ---- the part

bits_stay : (bits : List Bool) → IsWord (map digit_of bits)
bits_stay [] = tt
bits_stay (true ∷ bits) = (refl, bits_stay bits)
bits_stay (false ∷ bits) = (refl, bits_stay bits)

bit_stays : (bit : Bool) → IsWord (field_text (bit_word bit))
bit_stays true = by_test (codes "1") refl
bit_stays false = by_test (codes "0") refl

pub bits_word_stays : (bits : List Bool) → IsWord (field_text (bits_word bits))
bits_word_stays [] = by_test (codes "-") refl
bits_word_stays (bit ∷ bits) = bits_stay (bit ∷ bits)

pub node_plain : (node : Node) → FitsNode node → IsPlainLine (node_line node)
node_plain (Const b) h = (by_test (codes "const") refl, (bit_stays b, tt))
node_plain (Input i) h = (by_test (codes "input") refl, (IsWord-decimal i h, tt))
node_plain (Not a) h = (by_test (codes "not") refl, (IsWord-decimal a h, tt))
node_plain (And a b) h = (by_test (codes "and") refl, (IsWord-decimal a h.0, (IsWord-decimal b h.1, tt)))
node_plain (Xor a b) h = (by_test (codes "xor") refl, (IsWord-decimal a h.0, (IsWord-decimal b h.1, tt)))
node_plain (Mux s a b) h = (
  by_test (codes "mux") refl,
  (IsWord-decimal s h.0, (IsWord-decimal a h.1, (IsWord-decimal b h.2, tt))),
)
node_plain (Buf a) h = (by_test (codes "buf") refl, (IsWord-decimal a h, tt))
node_plain (Reg next init) h = (by_test (codes "reg") refl, (IsWord-decimal next h, (bit_stays init, tt)))

abbrev FitsOutput : Output → Type 0
FitsOutput o = IsWord o.name × (o.gold < 2 ^ 64) × (o.gate < 2 ^ 64)

pub output_plain : (o : Output) → FitsOutput o → IsPlainLine (output_line o)
output_plain o h = (h.0, (IsWord-decimal o.gold h.1, (IsWord-decimal o.gate h.2, tt)))

pub name_plain : (name : List ℕ) → IsWord name → IsPlainLine (name_line name)
name_plain name h = (h, tt)

pub count_plain : (key : List ℕ) (n : ℕ) → IsWord key → n < 2 ^ 64 → IsPlainLine (Word key ∷ number n ∷ [])
count_plain key n h small = (h, (IsWord-decimal n small, tt))

both_fit : (outputs : List Output) → AllByRecursion (λ o. IsWord o.name) outputs →
    AllByRecursion (λ o. (o.gold < 2 ^ 64) × (o.gate < 2 ^ 64)) outputs → AllByRecursion FitsOutput outputs
both_fit [] h k = tt
both_fit (o ∷ outputs) h k = ((h.0, k.0.0, k.0.1), both_fit outputs h.1 k.1)

-- ---- steps

words_append : (a b : List Field) → AreWords a → AreWords b → AreWords (a ++ b)
words_append [] b h k = k
words_append (field ∷ a) b h k = (h.0, words_append a b h.1 k)

literal_stays : (n : ℕ) (positive : Bool) → n < 2 ^ 64 →
    IsWord (literal_word (record { var = n; positive = positive }))
literal_stays n true h = IsWord-decimal n h
literal_stays n false h = (refl, IsWord-decimal n h)

clause_words : (clause : List Literal) → AllByRecursion (λ l. (1 ≤ l.var) × (l.var < 2 ^ 64)) clause →
    AreWords (map literal_field clause)
clause_words [] h = tt
clause_words (l ∷ clause) h = (literal_stays l.var l.positive h.0.1, clause_words clause h.1)

ant_words : (ants : List ℕ) → AllByRecursion (λ n. (1 ≤ n) × (n < 2 ^ 64)) ants → AreWords (map number ants)
ant_words [] h = tt
ant_words (n ∷ ants) h = (IsWord-decimal n h.0.1, ant_words ants h.1)

pub step_plain : (n : ℕ) (step : Inference) → n < 2 ^ 64 → FitsStep step → IsPlainLine (step_fields n step)
step_plain n step small h =
    let zero' : IsWord (codes "0") = by_test (codes "0") refl in (
      IsWord-decimal n small,
      words_append (map literal_field step.clause)
          (Word (codes "0") ∷ (map number step.ants ++ Word (codes "0") ∷ [])) (clause_words step.clause h.clause)
          (zero', words_append (map number step.ants) (Word (codes "0") ∷ []) (ant_words step.ants h.ants) (zero', tt)),
    )

log_plain : (n : ℕ) (log : List Inference) → n + length log < 2 ^ 64 → AllByRecursion FitsStep log →
    ArePlain (log_lines n log)
log_plain n [] small h = tt
log_plain n (step ∷ log) small h =
    (step_plain n step (omega arith) h.0, log_plain (suc n) log (omega arith) h.1)

-- ---- queries

-- the numbers of a query's steps have 64 bits
abbrev pub HasNumbers : ℕ → Answer → Type 0
HasNumbers first (Sat run) = Unit {0}
HasNumbers first (Unsat log) = (first + length log < 2 ^ 64) × AllByRecursion FitsStep log
HasNumbers first (Spent log) = (first + length log < 2 ^ 64) × AllByRecursion FitsStep log

frames_plain : (frames : List (List Bool)) → ArePlain (map frame_line frames)
frames_plain [] = tt
frames_plain (frame ∷ frames) = ((by_test (codes "in") refl, (bits_word_stays frame, tt)), frames_plain frames)

answer_plain : (part : Part) (q : Query) (k : ℕ) (answer : Answer) → HasNumbers (first_number part q k) answer →
    ArePlain (answer_lines part q k answer)
answer_plain part q k (Sat run) h = ((by_test (codes "regs") refl, (bits_word_stays run.regs, tt)), frames_plain run.inputs)
answer_plain part q k (Unsat log) h = log_plain (first_number part q k) log h.0 h.1
answer_plain part q k (Spent log) h = log_plain (first_number part q k) log h.0 h.1

answer_words : (first : ℕ) (answer : Answer) → HasNumbers first answer → AreWords (answer_fields answer)
answer_words first (Sat run) h = (by_test (codes "sat") refl, tt)
answer_words first (Unsat log) h = (by_test (codes "unsat") refl, (IsWord-decimal (length log) (omega (arith, h.0)), tt))
answer_words first (Spent log) h = (by_test (codes "spent") refl, (IsWord-decimal (length log) (omega (arith, h.0)), tt))

pub query_stays : (q : Query) → IsWord (field_text (query_word q))
query_stays Base = by_test (codes "base") refl
query_stays Step = by_test (codes "step") refl

abbrev pub HasAskedWords : Part → Asked → Type 0
HasAskedWords part a = (a.k < 2 ^ 64) × HasNumbers (first_number part a.query a.k) a.answer

asked_plain : (part : Part) (a : Asked) → HasAskedWords part a → ArePlain (asked_lines part a)
asked_plain part a h = (
  (query_stays a.query, (IsWord-decimal a.k h.0, answer_words (first_number part a.query a.k) a.answer h.1)),
  answer_plain part a.query a.k a.answer h.1,
)

-- ---- tries

pub end_plain : (e : End) → FitsEnd e → IsPlainLine (end_line e)
end_plain (end.Proved k) h = (by_test (codes "proved") refl, (IsWord-decimal k h, tt))
end_plain (end.Fail k) h = (by_test (codes "fail") refl, (IsWord-decimal k h, tt))
end_plain end.Deep h = (by_test (codes "deep") refl, tt)
end_plain end.Spent h = (by_test (codes "spent") refl, tt)

pub record HasTriedWords (part : Part) (t : Tried) : Type 0 where
  pub name : IsWord t.head.name
  pub fits : FitsTried t
  pub asked : AllByRecursion (HasAskedWords part) t.attempt.asked

tried_plain : (part : Part) (t : Tried) → HasTriedWords part t → ArePlain (tried_lines part t)
tried_plain part t h = (
  (
    by_test (codes "attempt") refl,
    (
      h.name,
      (
        IsWord-decimal t.head.depth h.fits.depth,
        (IsWord-decimal t.head.conflicts h.fits.conflicts, (IsWord-decimal (length t.attempt.asked) h.fits.few, tt)),
      ),
    ),
  ),
  plain_append (flat_map (asked_lines part) t.attempt.asked) (end_line t.attempt.end ∷ [])
      (plain_flat (asked_lines part) (HasAskedWords part) (asked_plain part) t.attempt.asked h.asked)
      (end_plain t.attempt.end h.fits.end, tt),
)

pub verdict_plain : (v : PartVerdict) → IsPlainLine (verdict_line v)
verdict_plain (verdict.Proved k n) = (by_test (codes "verdict") refl, (by_test (codes "proved") refl, tt))
verdict_plain (verdict.Fail k n) = (by_test (codes "verdict") refl, (by_test (codes "fail") refl, tt))
verdict_plain verdict.Unknown = (by_test (codes "verdict") refl, (by_test (codes "unknown") refl, tt))

-- ---- the whole

-- the names of an evidence are words, and all its numbers have 64 bits
pub record HasWords (part : Part) (heads : List Head) (d : Decided) : Type 0 where
  pub name : IsWord part.name
  pub inputs : AllByRecursion IsWord part.inputs
  pub outputs : AllByRecursion (λ o. IsWord o.name) part.outputs
  pub fits : FitsWhole part heads d
  pub tried : AllByRecursion (HasTriedWords part) (tried_of heads d.tries)

lists_plain : (part : Part) (heads : List Head) (d : Decided) → HasWords part heads d → ArePlain (list_lines part)
lists_plain part heads d h =
    let ins : length (map name_line part.inputs) < 2 ^ 64 =
    omega (arith, length-map part.inputs name_line, h.fits.inputs) in
    let ns : length (map node_line part.nodes) < 2 ^ 64 =
    omega (arith, length-map part.nodes node_line, h.fits.few_nodes) in
    let outs : length (map output_line part.outputs) < 2 ^ 64 =
    omega (arith, length-map part.outputs output_line, h.fits.few_outputs) in
    plain_append (counted (codes "inputs") (map name_line part.inputs)) _ (
      count_plain (codes "inputs") (length (map name_line part.inputs)) (by_test (codes "inputs") refl) ins,
      plain_map name_line IsWord name_plain part.inputs h.inputs,
    )
    (plain_append (counted (codes "nodes") (map node_line part.nodes)) _ (
      count_plain (codes "nodes") (length (map node_line part.nodes)) (by_test (codes "nodes") refl) ns,
      plain_map node_line FitsNode node_plain part.nodes h.fits.nodes,
    ) (
      count_plain (codes "outputs") (length (map output_line part.outputs)) (by_test (codes "outputs") refl) outs,
      plain_map output_line FitsOutput output_plain part.outputs (both_fit part.outputs h.outputs h.fits.outputs),
    ))

decided_plain : (part : Part) (heads : List Head) (d : Decided) → HasWords part heads d →
    ArePlain (decided_lines part heads d)
decided_plain part heads d h =
    let tail : List Line = verdict_line d.verdict ∷ (Word (codes "end") ∷ []) ∷ [] in (
      count_plain (codes "attempts") (length d.tries) (by_test (codes "attempts") refl) h.fits.few,
      subst (λ (lines : List Line). ArePlain (lines ++ tail)) (sym (tries_one_by_one part heads d.tries))
          (plain_append (flat_map (tried_lines part) (tried_of heads d.tries)) tail
          (plain_flat (tried_lines part) (HasTriedWords part) (tried_plain part) (tried_of heads d.tries) h.tried)
          (verdict_plain d.verdict, ((by_test (codes "end") refl, tt), tt))),
    )

pub evidence_plain : (part : Part) (heads : List Head) (d : Decided) → HasWords part heads d →
    ArePlain (evidence_lines part heads d)
evidence_plain part heads d h = (
  (by_test (codes "eqe") refl, (by_test (codes "1") refl, tt)),
  (
    (by_test (codes "part") refl, (h.name, tt)),
    plain_append (list_lines part) (decided_lines part heads d) (lists_plain part heads d h)
        (decided_plain part heads d h),
  ),
)

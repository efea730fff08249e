-- Queries, tries and parts out of lines of words.
use Rattle.std.proofs.Common.{◌≡◌, ℕ, ◌^◌, ◌<◌, Bool, cond, List, [], ◌∷◌, ◌++◌, length, map, refl, sym, ap, ap₂, ◌∙◌, append_assoc}
use Rattle.std.specs.Prelude.{codes}
use Rattle.std.specs.Fmt.{decimal}
use Rattle.std.specs.List.{flat_map, AllByRecursion}
use Rattle.std.specs.Str.{bytes_eq}
use Rattle.std.proofs.lemmas.List.{map-append}
use Rattle.eq_bits.specs.declared.part.Part.{Part}
use Rattle.eq_bits.specs.declared.run.Run.{Run}
use Rattle.eq_proof.specs.Inference.{Inference}
use Rattle.eq_unroll.specs.declared.query.Query.{Query}
use Rattle.eq_unroll.specs.declared.query.Query.TheVariants.{Base, Step}
use Rattle.eq_unroll.specs.Query.{frame_count}
use Rattle.eq_induct.specs.declared.types.Answer.{Answer}
use Rattle.eq_induct.specs.declared.types.Answer.TheVariants.{Sat, Unsat, Spent}
use Rattle.eq_induct.specs.declared.types.Asked.{Asked}
use Rattle.eq_induct.specs.declared.types.Attempt.{Attempt}
use Rattle.eq_induct.specs.declared.types.End.{End}
use Rattle.eq_induct.specs.declared.types.End.TheVariants as end
use Rattle.eq_wit.specs.declared.types.Head.{Head}
use Rattle.eq_wit.specs.Line.{Line, field_text}
use Rattle.eq_wit.specs.Texts.{answer_fields, answer_lines, asked_lines, attempt_lines, end_line, first_number, frame_line, head_line, log_lines, query_word, regs_line}
use Rattle.eq_wit.proofs.Words.{Words, words_of}
use Rattle.eq_wit.proofs.Decoding.{FitsStep, bits_are, bits_from, many, many_are, num, num_is, one, ones_are, step_from, steps_are, word_at}

-- ---- answers

abbrev pub query_from : List ℕ → Query
query_from word = cond (bytes_eq word (codes "base")) Base Step

pub query_is : (q : Query) → query_from (field_text (query_word q)) ≡ q
query_is Base = refl
query_is Step = refl

abbrev frame_from : Words → List Bool
frame_from ws = bits_from (word_at ws 1)

abbrev pub run_from : ℕ → List Words → Run × List Words
run_from frames lines = let first = one frame_from lines in let more = many (one frame_from) frames first.1 in
    (record { regs = first.0; inputs = more.0 }, more.1)

abbrev pub log_from : ℕ → List Words → List Inference × List Words
log_from steps lines = many (one step_from) steps lines

-- what stands behind a query of a number of cycles, by the words of its line
abbrev pub answer_from : Query → ℕ → Words → List Words → Answer × List Words
answer_from q k ws lines = cond (bytes_eq (word_at ws 2) (codes "sat"))
    (let run = run_from (frame_count q k) lines in (Sat run.0, run.1))
    (let log = log_from (num (word_at ws 3)) lines in
    cond (bytes_eq (word_at ws 2) (codes "unsat")) (Unsat log.0, log.1) (Spent log.0, log.1))

abbrev pub asked_by : Query → ℕ → Words → List Words → Asked × List Words
asked_by q k ws lines = let answer = answer_from q k ws lines in
    (record { query = q; k = k; answer = answer.0 }, answer.1)

abbrev pub asked_from : List Words → Asked × List Words
asked_from [] = asked_by Base 0 [] []
asked_from (ws ∷ lines) = asked_by (query_from (word_at ws 0)) (num (word_at ws 1)) ws lines

-- a run has as many cycles as its query's; a log's steps fit
abbrev pub FitsAnswer : Query → ℕ → Answer → Type 0
FitsAnswer q k (Sat run) = length run.inputs ≡ frame_count q k
FitsAnswer q k (Unsat log) = (length log < 2 ^ 64) × AllByRecursion FitsStep log
FitsAnswer q k (Spent log) = (length log < 2 ^ 64) × AllByRecursion FitsStep log

pub record FitsAsked (a : Asked) : Type 0 where
  pub k : a.k < 2 ^ 64
  pub answer : FitsAnswer a.query a.k a.answer

pub all_fit : {X : Type 0} (xs : List X) → AllByRecursion (λ x. Unit {0}) xs
all_fit [] = tt
all_fit (x ∷ xs) = (tt, all_fit xs)

run_is : (run : Run) (frames : ℕ) (rest : List Words) → length run.inputs ≡ frames →
    run_from frames (words_of (regs_line run.regs) ∷ (map words_of (map frame_line run.inputs) ++ rest)) ≡ (run, rest)
run_is run frames rest e =
    let lines : List Words = map words_of (map frame_line run.inputs) ++ rest in
    let more : many (one frame_from) frames lines ≡ (run.inputs, rest) =
    ap (λ (n : ℕ). many (one frame_from) n lines) (sym e)
    ∙ ones_are frame_from frame_line (λ x. Unit {0}) (λ bits fits. bits_are bits) run.inputs (all_fit run.inputs) rest in
    ap₂ (λ (regs : List Bool) (s : List (List Bool) × List Words). let made : Run = record { regs = regs; inputs = s.0 } in
    (made, s.1)) (bits_are run.regs) more

answer_is : (part : Part) (q p : Query) (k j : ℕ) (answer : Answer) (first : List ℕ) (rest : List Words) →
    FitsAnswer q k answer →
    answer_from q k (first ∷ decimal j ∷ words_of (answer_fields answer))
    (map words_of (answer_lines part p j answer) ++ rest) ≡ (answer, rest)
answer_is part q p k j (Sat run) first rest h =
    ap (λ (r : Run × List Words). let made : Answer × List Words = (Sat r.0, r.1) in made)
    (run_is run (frame_count q k) rest h)
answer_is part q p k j (Unsat log) first rest h =
    let lines : List Words = map words_of (log_lines (first_number part p j) log) ++ rest in
    ap (λ (s : List Inference × List Words). let made : Answer × List Words = (Unsat s.0, s.1) in made)
    (ap (λ (n : ℕ). log_from n lines) (num_is (length log) h.0) ∙ steps_are (first_number part p j) log h.1 rest)
answer_is part q p k j (Spent log) first rest h =
    let lines : List Words = map words_of (log_lines (first_number part p j) log) ++ rest in
    ap (λ (s : List Inference × List Words). let made : Answer × List Words = (Spent s.0, s.1) in made)
    (ap (λ (n : ℕ). log_from n lines) (num_is (length log) h.0) ∙ steps_are (first_number part p j) log h.1 rest)

pub asked_is : (part : Part) (a : Asked) → FitsAsked a → (rest : List Words) →
    asked_from (map words_of (asked_lines part a) ++ rest) ≡ (a, rest)
asked_is part a h rest =
    let ws : Words = field_text (query_word a.query) ∷ decimal a.k ∷ words_of (answer_fields a.answer) in
    let lines : List Words = map words_of (answer_lines part a.query a.k a.answer) ++ rest in
    ap₂ (λ (q : Query) (k : ℕ). asked_by q k ws lines) (query_is a.query) (num_is a.k h.k)
    ∙ ap (λ (s : Answer × List Words). let made : Asked = record { query = a.query; k = a.k; answer = s.0 } in (made, s.1))
    (answer_is part a.query a.query a.k a.k a.answer (field_text (query_word a.query)) rest h.answer)

-- ---- tries

abbrev pub end_from : Words → End
end_from ws = cond (bytes_eq (word_at ws 0) (codes "proved")) (end.Proved (num (word_at ws 1)))
    (cond (bytes_eq (word_at ws 0) (codes "fail")) (end.Fail (num (word_at ws 1)))
    (cond (bytes_eq (word_at ws 0) (codes "deep")) end.Deep end.Spent))

abbrev pub FitsEnd : End → Type 0
FitsEnd (end.Proved k) = k < 2 ^ 64
FitsEnd (end.Fail k) = k < 2 ^ 64
FitsEnd end.Deep = Unit {0}
FitsEnd end.Spent = Unit {0}

pub end_is : (e : End) → FitsEnd e → end_from (words_of (end_line e)) ≡ e
end_is (end.Proved k) h = ap end.Proved (num_is k h)
end_is (end.Fail k) h = ap end.Fail (num_is k h)
end_is end.Deep h = refl
end_is end.Spent h = refl

-- a try with its head
pub record Tried : Type 0 where
  pub head : Head
  pub attempt : Attempt

abbrev pub head_from : Words → Head
head_from ws = record { name = word_at ws 1; depth = num (word_at ws 2); conflicts = num (word_at ws 3) }

abbrev attempt_by : ℕ → List Words → Attempt × List Words
attempt_by queries lines = let asked = many asked_from queries lines in let last = one end_from asked.1 in
    (record { asked = asked.0; end = last.0 }, last.1)

abbrev tried_by : Words → List Words → Tried × List Words
tried_by ws lines = let attempt = attempt_by (num (word_at ws 4)) lines in
    (record { head = head_from ws; attempt = attempt.0 }, attempt.1)

abbrev pub tried_from : List Words → Tried × List Words
tried_from [] = tried_by [] []
tried_from (ws ∷ lines) = tried_by ws lines

pub record FitsTried (t : Tried) : Type 0 where
  pub depth : t.head.depth < 2 ^ 64
  pub conflicts : t.head.conflicts < 2 ^ 64
  pub few : length t.attempt.asked < 2 ^ 64
  pub asked : AllByRecursion FitsAsked t.attempt.asked
  pub end : FitsEnd t.attempt.end

abbrev pub tried_lines : Part → Tried → List Line
tried_lines part t = attempt_lines part t.head t.attempt

attempt_is : (part : Part) (attempt : Attempt) (rest : List Words) → AllByRecursion FitsAsked attempt.asked →
    FitsEnd attempt.end → attempt_by (length attempt.asked)
    (map words_of (flat_map (asked_lines part) attempt.asked ++ end_line attempt.end ∷ []) ++ rest) ≡ (attempt, rest)
attempt_is part attempt rest h k =
    let asked : List Line = flat_map (asked_lines part) attempt.asked in
    let last : Words = words_of (end_line attempt.end) in
    let parts : map words_of (asked ++ end_line attempt.end ∷ []) ++ rest ≡ map words_of asked ++ last ∷ rest =
    ap (λ (ls : List Words). ls ++ rest) (map-append words_of asked (end_line attempt.end ∷ []))
    ∙ append_assoc (map words_of asked) (last ∷ []) rest in
    let read : many asked_from (length attempt.asked) (map words_of asked ++ last ∷ rest)
    ≡ (attempt.asked, last ∷ rest) =
    many_are asked_from (asked_lines part) FitsAsked (asked_is part) attempt.asked h (last ∷ rest) in
    let made_of : List Asked × List Words → Attempt × List Words = λ s. let e = one end_from s.1 in
    let made : Attempt = record { asked = s.0; end = e.0 } in (made, e.1) in
    ap (attempt_by (length attempt.asked)) parts ∙ ap made_of read
    ∙ ap (λ (e : End). let made : Attempt = record { asked = attempt.asked; end = e } in (made, rest)) (end_is attempt.end k)

pub tried_is : (part : Part) (t : Tried) → FitsTried t → (rest : List Words) →
    tried_from (map words_of (tried_lines part t) ++ rest) ≡ (t, rest)
tried_is part t h rest =
    let lines : List Words =
    map words_of (flat_map (asked_lines part) t.attempt.asked ++ end_line t.attempt.end ∷ []) ++ rest in
    let head : head_from (words_of (head_line t.head (length t.attempt.asked))) ≡ t.head =
    ap₂ (λ (depth conflicts : ℕ). let made : Head = record { name = t.head.name; depth = depth; conflicts = conflicts } in
    made) (num_is t.head.depth h.depth) (num_is t.head.conflicts h.conflicts) in
    let attempt : attempt_by (num (decimal (length t.attempt.asked))) lines ≡ (t.attempt, rest) =
    ap (λ (n : ℕ). attempt_by n lines) (num_is (length t.attempt.asked) h.few)
    ∙ attempt_is part t.attempt rest h.asked h.end in
    ap₂ (λ (first : Head) (s : Attempt × List Words). let made : Tried = record { head = first; attempt = s.0 } in
    (made, s.1)) head attempt

-- The text of an evidence, line by line.
use Rattle.std.specs.Prelude.{ℕ, suc, Bool, if◌then◌else◌, List, [], ◌∷◌, ◌++◌, map, length, codes}
use Rattle.std.specs.List.{flat_map}
use Rattle.eq_bits.specs.declared.node.Node.{Node}
use Rattle.eq_bits.specs.declared.node.Node.TheVariants.{Const, Input, Not, And, Xor, Mux, Buf, Reg}
use Rattle.eq_bits.specs.declared.part.Output.{Output}
use Rattle.eq_bits.specs.declared.part.Part.{Part}
use Rattle.eq_proof.specs.Literal.{Literal}
use Rattle.eq_proof.specs.Inference.{Inference}
use Rattle.eq_proof.specs.Text.{literal_word}
use Rattle.eq_unroll.specs.declared.query.Query.{Query}
use Rattle.eq_unroll.specs.declared.query.Query.TheVariants.{Base, Step}
use Rattle.eq_unroll.specs.Unrolling.{unrolled}
use Rattle.eq_induct.specs.declared.types.Answer.{Answer}
use Rattle.eq_induct.specs.declared.types.Answer.TheVariants.{Sat, Unsat, Spent}
use Rattle.eq_induct.specs.declared.types.Asked.{Asked}
use Rattle.eq_induct.specs.declared.types.Attempt.{Attempt}
use Rattle.eq_induct.specs.declared.types.Decided.{Decided}
use Rattle.eq_induct.specs.declared.types.End.{End}
use Rattle.eq_induct.specs.declared.types.End.TheVariants as end
use Rattle.eq_induct.specs.declared.types.PartVerdict.{PartVerdict}
use Rattle.eq_induct.specs.declared.types.PartVerdict.TheVariants as verdict
use Rattle.eq_induct.specs.declared.types.Try.{Try}
use Rattle.eq_wit.specs.declared.types.Head.{Head}
use Rattle.eq_wit.specs.Line.{Field, Line, Number, Word, lines_text, number}

-- ---- words

abbrev pub digit_of : Bool → ℕ
digit_of bit = if bit then 49 else 48

-- truth values as digits, `-` where there are none
abbrev pub bits_word : List Bool → Field
bits_word [] = Word (codes "-")
bits_word (bit ∷ bits) = Word (map digit_of (bit ∷ bits))

abbrev pub bit_word : Bool → Field
bit_word bit = Word (digit_of bit ∷ [])

-- ---- the part

abbrev pub node_line : Node → Line
node_line (Const bit) = Word (codes "const") ∷ bit_word bit ∷ []
node_line (Input i) = Word (codes "input") ∷ number i ∷ []
node_line (Not a) = Word (codes "not") ∷ number a ∷ []
node_line (And a b) = Word (codes "and") ∷ number a ∷ number b ∷ []
node_line (Xor a b) = Word (codes "xor") ∷ number a ∷ number b ∷ []
node_line (Mux s a b) = Word (codes "mux") ∷ number s ∷ number a ∷ number b ∷ []
node_line (Buf a) = Word (codes "buf") ∷ number a ∷ []
node_line (Reg next init) = Word (codes "reg") ∷ number next ∷ bit_word init ∷ []

abbrev pub output_line : Output → Line
output_line o = Word o.name ∷ number o.gold ∷ number o.gate ∷ []

abbrev pub name_line : List ℕ → Line
name_line name = Word name ∷ []

-- lines behind one with a key and their number
abbrev pub counted : List ℕ → List Line → List Line
counted key lines = (Word key ∷ number (length lines) ∷ []) ∷ lines

abbrev pub list_lines : Part → List Line
list_lines part =
    counted (codes "inputs") (map name_line part.inputs) ++
    (counted (codes "nodes") (map node_line part.nodes) ++
    counted (codes "outputs") (map output_line part.outputs))

abbrev pub lines_of_part : Part → List Line
lines_of_part part = (Word (codes "part") ∷ Word part.name ∷ []) ∷ list_lines part

-- ---- logs, in LRAT

abbrev pub literal_field : Literal → Field
literal_field l = Number (literal_word l)

-- a step's number, its literals, its antecedents; `0` ends both lists
abbrev pub step_fields : ℕ → Inference → Line
step_fields n step = number n ∷ (map literal_field step.clause ++
    (Word (codes "0") ∷ (map number step.ants ++ (Word (codes "0") ∷ []))))

-- steps numbered from n
abbrev pub log_lines : ℕ → List Inference → List Line
log_lines n [] = []
log_lines n (step ∷ log) = step_fields n step ∷ log_lines (suc n) log

-- ---- queries and their answers

abbrev pub query_word : Query → Field
query_word Base = Word (codes "base")
query_word Step = Word (codes "step")

abbrev pub answer_fields : Answer → List Field
answer_fields (Sat run) = Word (codes "sat") ∷ []
answer_fields (Unsat log) = Word (codes "unsat") ∷ number (length log) ∷ []
answer_fields (Spent log) = Word (codes "spent") ∷ number (length log) ∷ []

abbrev pub regs_line : List Bool → Line
regs_line regs = Word (codes "regs") ∷ bits_word regs ∷ []

abbrev pub frame_line : List Bool → Line
frame_line frame = Word (codes "in") ∷ bits_word frame ∷ []

-- the number of a log's first step: the query's formula has the numbers below it
abbrev pub first_number : Part → Query → ℕ → ℕ
first_number part q k = suc (length (unrolled part q k))

abbrev pub answer_lines : Part → Query → ℕ → Answer → List Line
answer_lines part q k (Sat run) = regs_line run.regs ∷ map frame_line run.inputs
answer_lines part q k (Unsat log) = log_lines (first_number part q k) log
answer_lines part q k (Spent log) = log_lines (first_number part q k) log

abbrev pub asked_lines : Part → Asked → List Line
asked_lines part a = (query_word a.query ∷ number a.k ∷ answer_fields a.answer) ∷
    answer_lines part a.query a.k a.answer

-- ---- tries

abbrev pub end_line : End → Line
end_line (end.Proved k) = Word (codes "proved") ∷ number k ∷ []
end_line (end.Fail k) = Word (codes "fail") ∷ number k ∷ []
end_line end.Deep = Word (codes "deep") ∷ []
end_line end.Spent = Word (codes "spent") ∷ []

abbrev pub head_line : Head → ℕ → Line
head_line head queries = Word (codes "attempt") ∷ Word head.name ∷ number head.depth ∷ number head.conflicts ∷
    number queries ∷ []

abbrev pub attempt_lines : Part → Head → Attempt → List Line
attempt_lines part head attempt = head_line head (length attempt.asked) ∷
    (flat_map (asked_lines part) attempt.asked ++ (end_line attempt.end ∷ []))

-- each try behind its head
abbrev pub tries_lines : Part → List Head → List Try → List Line
tries_lines part [] _ = []
tries_lines part (head ∷ heads) [] = []
tries_lines part (head ∷ heads) (t ∷ tries) = attempt_lines part head t.attempt ++ tries_lines part heads tries

abbrev pub verdict_line : PartVerdict → Line
verdict_line (verdict.Proved k n) = Word (codes "verdict") ∷ Word (codes "proved") ∷ []
verdict_line (verdict.Fail k n) = Word (codes "verdict") ∷ Word (codes "fail") ∷ []
verdict_line verdict.Unknown = Word (codes "verdict") ∷ Word (codes "unknown") ∷ []

-- ---- the whole

abbrev pub decided_lines : Part → List Head → Decided → List Line
decided_lines part heads d =
    (Word (codes "attempts") ∷ number (length d.tries) ∷ []) ∷
    (tries_lines part heads d.tries ++ (verdict_line d.verdict ∷ (Word (codes "end") ∷ []) ∷ []))

abbrev pub evidence_lines : Part → List Head → Decided → List Line
evidence_lines part heads d =
    (Word (codes "eqe") ∷ Word (codes "1") ∷ []) ∷ (lines_of_part part ++ decided_lines part heads d)

-- the one text of an evidence
abbrev pub evidence_text : Part → List Head → Decided → List ℕ
evidence_text part heads d = lines_text (evidence_lines part heads d)

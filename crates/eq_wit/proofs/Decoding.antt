-- Values out of lines of words, by functions that need no failure: what is read of an evidence's lines is its values.
use Rattle.std.proofs.Common.{◌≡◌, ℕ, ◌+◌, ◌^◌, ◌<◌, ◌≤◌, zero, suc, Bool, true, false, cond, List, [], ◌∷◌, ◌++◌, length, map, arith, refl, sym, ap, ap₂, ◌∙◌, subst, append_assoc, inl, inr}
use Rattle.std.specs.Prelude.{◌==◌, slice_index_or, codes}
use Rattle.std.specs.Fmt.{decimal}
use Rattle.std.specs.Str.Parse.{digits_value}
use Rattle.std.specs.List.{flat_map, AllByRecursion}
use Rattle.std.specs.Str.{bytes_eq}
use Rattle.std.proofs.lemmas.Bool.{cases_Bool}
use Rattle.std.proofs.lemmas.Bool.Decides.{nat_tests}
use Rattle.std.proofs.lemmas.Fmt.{decimal_by_steps, decimal_is_IsNumeral}
use Rattle.std.proofs.lemmas.List.{map-append}
use Rattle.std.proofs.lemmas.Slice.Eq.{bytes_eq-Decides}
use Rattle.eq_bits.specs.declared.node.Node.{Node}
use Rattle.eq_bits.specs.declared.node.Node.TheVariants.{Const, Input, Not, And, Xor, Mux, Buf, Reg}
use Rattle.eq_bits.specs.declared.part.Output.{Output}
use Rattle.eq_proof.specs.Literal.{Literal}
use Rattle.eq_proof.specs.Inference.{Inference}
use Rattle.eq_proof.specs.Text.{literal_word}
use Rattle.eq_wit.specs.Line.{Field, Line, Word, field_text, number}
use Rattle.eq_wit.specs.Texts.{bits_word, bit_word, digit_of, literal_field, log_lines, node_line, output_line, step_fields}
use Rattle.eq_wit.proofs.Words.{Words, words_of}

-- ---- numbers and bits

abbrev pub num : List ℕ → ℕ
num word = digits_value 10 word

pub num_is : (n : ℕ) → n < 2 ^ 64 → num (decimal n) ≡ n
num_is n h = (decimal_is_IsNumeral n h).1

abbrev pub word_at : Words → ℕ → List ℕ
word_at words i = slice_index_or words i []

abbrev pub bit_from : List ℕ → Bool
bit_from [] = false
bit_from (b ∷ bytes) = b == 49

pub bit_is : (bit : Bool) → bit_from (field_text (bit_word bit)) ≡ bit
bit_is true = refl
bit_is false = refl

abbrev pub bits_from : List ℕ → List Bool
bits_from [] = []
bits_from (b ∷ bytes) = cond (b == 45) [] (map (λ c. c == 49) (b ∷ bytes))

digits_are : (bits : List Bool) → map (λ c. c == 49) (map digit_of bits) ≡ bits
digits_are [] = refl
digits_are (true ∷ bits) = ap (λ (bs : List Bool). true ∷ bs) (digits_are bits)
digits_are (false ∷ bits) = ap (λ (bs : List Bool). false ∷ bs) (digits_are bits)

pub bits_are : (bits : List Bool) → bits_from (field_text (bits_word bits)) ≡ bits
bits_are [] = refl
bits_are (true ∷ bits) = ap (λ (bs : List Bool). true ∷ bs) (digits_are bits)
bits_are (false ∷ bits) = ap (λ (bs : List Bool). false ∷ bs) (digits_are bits)

-- ---- nodes and outputs

abbrev is : List ℕ → List ℕ → Bool
is word key = bytes_eq word key

abbrev pub node_from : Words → Node
node_from ws = let w = word_at ws 0 in let a = num (word_at ws 1) in let b = num (word_at ws 2) in
    cond (is w (codes "const")) (Const (bit_from (word_at ws 1)))
    (cond (is w (codes "input")) (Input a)
    (cond (is w (codes "not")) (Not a)
    (cond (is w (codes "and")) (And a b)
    (cond (is w (codes "xor")) (Xor a b)
    (cond (is w (codes "mux")) (Mux a b (num (word_at ws 3)))
    (cond (is w (codes "buf")) (Buf a) (Reg a (bit_from (word_at ws 2)))))))))

-- the numbers of a node have 64 bits
abbrev pub FitsNode : Node → Type 0
FitsNode (Const b) = Unit {0}
FitsNode (Input i) = i < 2 ^ 64
FitsNode (Not a) = a < 2 ^ 64
FitsNode (And a b) = (a < 2 ^ 64) × (b < 2 ^ 64)
FitsNode (Xor a b) = (a < 2 ^ 64) × (b < 2 ^ 64)
FitsNode (Mux s a b) = (s < 2 ^ 64) × (a < 2 ^ 64) × (b < 2 ^ 64)
FitsNode (Buf a) = a < 2 ^ 64
FitsNode (Reg next init) = next < 2 ^ 64

pub node_is : (node : Node) → FitsNode node → node_from (words_of (node_line node)) ≡ node
node_is (Const b) h = ap Const (bit_is b)
node_is (Input i) h = ap Input (num_is i h)
node_is (Not a) h = ap Not (num_is a h)
node_is (And a b) h = ap₂ And (num_is a h.0) (num_is b h.1)
node_is (Xor a b) h = ap₂ Xor (num_is a h.0) (num_is b h.1)
node_is (Mux s a b) h = ap (λ (n : ℕ). Mux n (num (decimal a)) (num (decimal b))) (num_is s h.0)
    ∙ ap₂ (Mux s) (num_is a h.1) (num_is b h.2)
node_is (Buf a) h = ap Buf (num_is a h)
node_is (Reg next init) h = ap₂ Reg (num_is next h) (bit_is init)

abbrev pub output_from : Words → Output
output_from ws = record { name = word_at ws 0; gold = num (word_at ws 1); gate = num (word_at ws 2) }

pub output_is : (o : Output) → (o.gold < 2 ^ 64) × (o.gate < 2 ^ 64) → output_from (words_of (output_line o)) ≡ o
output_is o h = ap₂ (λ (a b : ℕ). let made : Output = record { name = o.name; gold = a; gate = b } in made)
    (num_is o.gold h.0) (num_is o.gate h.1)

-- ---- steps

abbrev pub literal_from : List ℕ → Literal
literal_from [] = record { var = num []; positive = true }
literal_from (b ∷ bytes) = cond (b == 45) (record { var = num bytes; positive = false })
    (record { var = num (b ∷ bytes); positive = true })

abbrev pub HasNoMinus : List ℕ → Type 0
HasNoMinus word = AllByRecursion (λ b. (b == 45) ≡ false) word

no_minus-append : (a b : List ℕ) → HasNoMinus a → HasNoMinus b → HasNoMinus (a ++ b)
no_minus-append [] b h k = k
no_minus-append (x ∷ a) b h k = (h.0, no_minus-append a b h.1 k)

digit-no_minus : (d : ℕ) → ((48 + d) == 45) ≡ false
digit-no_minus d = grind (arith, nat_tests)

pub no_minus : (n : ℕ) → n < 2 ^ 64 → HasNoMinus (decimal n)
no_minus n h =
    let P : ℕ → List ℕ → Type 0 = λ n ds. HasNoMinus ds in
    decimal_by_steps P (λ n small. (digit-no_minus n, tt))
    (λ n ds big before. no_minus-append ds _ before (digit-no_minus _, tt)) n h

positive_is : (word : List ℕ) → HasNoMinus word → literal_from word ≡ record { var = num word; positive = true }
positive_is [] h = refl
positive_is (b ∷ bytes) h = ap (λ (t : Bool). let l : Literal = cond t (record { var = num bytes; positive = false })
    (record { var = num (b ∷ bytes); positive = true }) in l) h.0

literal_by_sign : (n : ℕ) (positive : Bool) → n < 2 ^ 64 →
    literal_from (literal_word (record { var = n; positive = positive })) ≡ record { var = n; positive = positive }
literal_by_sign n true h = positive_is (decimal n) (no_minus n h)
    ∙ ap (λ (k : ℕ). let l : Literal = record { var = k; positive = true } in l) (num_is n h)
literal_by_sign n false h = ap (λ (k : ℕ). let l : Literal = record { var = k; positive = false } in l) (num_is n h)

pub literal_is : (l : Literal) → l.var < 2 ^ 64 → literal_from (literal_word l) ≡ l
literal_is l h = literal_by_sign l.var l.positive h

abbrev is_zero : List ℕ → Bool
is_zero word = is word (codes "0")

-- words up to a `0`, and those behind it
abbrev until : Words → Words
until [] = []
until (w ∷ ws) = cond (is_zero w) [] (w ∷ until ws)

abbrev behind : Words → Words
behind [] = []
behind (w ∷ ws) = cond (is_zero w) ws (behind ws)

not_zero : (word : List ℕ) → 1 ≤ (literal_from word).var → is_zero word ≡ false
not_zero word h = elim (cases_Bool (is_zero word)) [
  | inl zero' ↦
      let same : word ≡ codes "0" = (bytes_eq-Decides word (codes "0")).0 zero' in
      let none : (literal_from word).var ≡ 0 = ap (λ (w : List ℕ). (literal_from w).var) same in
      absurd (omega arith)
  | inr other ↦ other
]

abbrev pub step_from : Words → Inference
step_from [] = record { clause = []; ants = [] }
step_from (n ∷ ws) = record { clause = map literal_from (until ws); ants = map num (until (behind ws)) }

-- the numbers of a step fit, and are from 1
pub record FitsStep (step : Inference) : Type 0 where
  pub clause : AllByRecursion (λ l. (1 ≤ l.var) × (l.var < 2 ^ 64)) step.clause
  pub ants : AllByRecursion (λ n. (1 ≤ n) × (n < 2 ^ 64)) step.ants

shut : (word : List ℕ) (ws : Words) → is_zero word ≡ false → until (word ∷ ws) ≡ word ∷ until ws
shut word ws h = ap (λ (t : Bool). cond t [] (word ∷ until ws)) h

shut_behind : (word : List ℕ) (ws : Words) → is_zero word ≡ false → behind (word ∷ ws) ≡ behind ws
shut_behind word ws h = ap (λ (t : Bool). cond t ws (behind ws)) h

literal_not_zero : (l : Literal) → (1 ≤ l.var) × (l.var < 2 ^ 64) → is_zero (literal_word l) ≡ false
literal_not_zero l h = not_zero (literal_word l)
    (subst (λ (m : Literal). 1 ≤ m.var) (sym (literal_is l h.1)) h.0)

clause_is : (clause : List Literal) (rest : List Field) →
    AllByRecursion (λ l. (1 ≤ l.var) × (l.var < 2 ^ 64)) clause →
    (map literal_from (until (words_of (map literal_field clause ++ Word (codes "0") ∷ rest))) ≡ clause)
    × (behind (words_of (map literal_field clause ++ Word (codes "0") ∷ rest)) ≡ words_of rest)
clause_is [] rest h = (refl, refl)
clause_is (l ∷ clause) rest h =
    let more = clause_is clause rest h.1 in
    let ws : Words = words_of (map literal_field clause ++ Word (codes "0") ∷ rest) in
    let other = literal_not_zero l h.0 in (
      ap (map literal_from) (shut (literal_word l) ws other)
          ∙ ap₂ (λ (m : Literal) (ms : List Literal). m ∷ ms) (literal_is l h.0.1) more.0,
      shut_behind (literal_word l) ws other ∙ more.1,
    )

num_not_zero : (n : ℕ) → (1 ≤ n) × (n < 2 ^ 64) → is_zero (decimal n) ≡ false
num_not_zero n h = literal_not_zero (record { var = n; positive = true }) h

ants_are : (ants : List ℕ) → AllByRecursion (λ n. (1 ≤ n) × (n < 2 ^ 64)) ants →
    map num (until (words_of (map number ants ++ Word (codes "0") ∷ []))) ≡ ants
ants_are [] h = refl
ants_are (n ∷ ants) h =
    let ws : Words = words_of (map number ants ++ Word (codes "0") ∷ []) in
    ap (map num) (shut (decimal n) ws (num_not_zero n h.0))
    ∙ ap₂ (λ (m : ℕ) (ms : List ℕ). m ∷ ms) (num_is n h.0.1) (ants_are ants h.1)

pub step_is : (n : ℕ) (step : Inference) → FitsStep step → step_from (words_of (step_fields n step)) ≡ step
step_is n step h =
    let rest : List Field = map number step.ants ++ Word (codes "0") ∷ [] in
    let clause = clause_is step.clause rest h.clause in
    ap₂ (λ (c : List Literal) (a : List ℕ). let made : Inference = record { clause = c; ants = a } in made)
    clause.0 (ap (λ (ws : Words). map num (until ws)) clause.1 ∙ ants_are step.ants h.ants)

-- ---- some values, one after another

abbrev pub one : {X : Type 0} → (Words → X) → List Words → X × List Words
one f [] = (f [], [])
one f (ws ∷ lines) = (f ws, lines)

abbrev pub many : {X : Type 0} → (List Words → X × List Words) → ℕ → List Words → List X × List Words
many item zero lines = ([], lines)
many item (suc n) lines = ((item lines).0 ∷ (many item n (item lines).1).0, (many item n (item lines).1).1)

module _ {X : Type 0} where
  many_more : (item : List Words → X × List Words) (n : ℕ) (lines rest end : List Words) (x : X) (xs : List X) →
      item lines ≡ (x, rest) → many item n rest ≡ (xs, end) → many item (suc n) lines ≡ (x ∷ xs, end)
  many_more item n lines rest end x xs first more =
      ap (λ (r : X × List Words). (r.0 ∷ (many item n r.1).0, (many item n r.1).1)) first
      ∙ ap (λ (s : List X × List Words). (x ∷ s.0, s.1)) more

  pub many_are : (item : List Words → X × List Words) (lines : X → List Line) (Fits : X → Type 0) →
      ((x : X) → Fits x → (rest : List Words) → item (map words_of (lines x) ++ rest) ≡ (x, rest)) → (xs : List X) →
      AllByRecursion Fits xs → (rest : List Words) →
      many item (length xs) (map words_of (flat_map lines xs) ++ rest) ≡ (xs, rest)
  many_are item lines Fits each [] h rest = refl
  many_are item lines Fits each (x ∷ xs) h rest =
      let parts : map words_of (lines x ++ flat_map lines xs) ++ rest
      ≡ map words_of (lines x) ++ (map words_of (flat_map lines xs) ++ rest) =
      ap (λ (ls : List Words). ls ++ rest) (map-append words_of (lines x) (flat_map lines xs))
      ∙ append_assoc (map words_of (lines x)) (map words_of (flat_map lines xs)) rest in
      ap (many item (suc (length xs))) parts
      ∙ many_more item (length xs) _ (map words_of (flat_map lines xs) ++ rest) rest x xs
      (each x h.0 (map words_of (flat_map lines xs) ++ rest)) (many_are item lines Fits each xs h.1 rest)

  -- each value on a line
  pub ones_are : (f : Words → X) (line : X → Line) (Fits : X → Type 0) →
      ((x : X) → Fits x → f (words_of (line x)) ≡ x) → (xs : List X) → AllByRecursion Fits xs → (rest : List Words) →
      many (one f) (length xs) (map words_of (map line xs) ++ rest) ≡ (xs, rest)
  ones_are f line Fits each [] h rest = refl
  ones_are f line Fits each (x ∷ xs) h rest =
      many_more (one f) (length xs) (words_of (line x) ∷ (map words_of (map line xs) ++ rest))
      (map words_of (map line xs) ++ rest) rest x xs (ap (λ (y : X). (y, map words_of (map line xs) ++ rest)) (each x h.0))
      (ones_are f line Fits each xs h.1 rest)

pub steps_are : (n : ℕ) (log : List Inference) → AllByRecursion FitsStep log → (rest : List Words) →
    many (one step_from) (length log) (map words_of (log_lines n log) ++ rest) ≡ (log, rest)
steps_are n [] h rest = refl
steps_are n (step ∷ log) h rest =
    many_more (one step_from) (length log) (words_of (step_fields n step) ∷ (map words_of (log_lines (suc n) log) ++ rest))
    (map words_of (log_lines (suc n) log) ++ rest) rest step log
    (ap (λ (s : Inference). (s, map words_of (log_lines (suc n) log) ++ rest)) (step_is n step h.0))
    (steps_are (suc n) log h.1 rest)

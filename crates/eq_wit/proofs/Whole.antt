-- An evidence's parts out of its lines of words.
use Rattle.std.proofs.Common.{◌≡◌, ℕ, ◌+◌, ◌^◌, ◌<◌, zero, suc, List, [], ◌∷◌, ◌++◌, length, map, arith, refl, sym, ap, ap₂, ◌∙◌, append_assoc, Some, slice_get}
use Rattle.std.specs.Prelude.{codes}
use Rattle.std.specs.List.{flat_map, AllByRecursion}
use Rattle.std.proofs.lemmas.List.{length-map, map-append}
use Rattle.eq_bits.specs.declared.node.Node.{Node}
use Rattle.eq_bits.specs.declared.part.Output.{Output}
use Rattle.eq_bits.specs.declared.part.Part.{Part}
use Rattle.eq_induct.specs.declared.types.Decided.{Decided}
use Rattle.eq_induct.specs.declared.types.Try.{Try}
use Rattle.eq_wit.specs.declared.types.Head.{Head}
use Rattle.eq_wit.specs.Line.{Line, Word}
use Rattle.eq_wit.specs.Texts.{attempt_lines, counted, decided_lines, evidence_lines, list_lines, name_line, node_line, output_line, tries_lines, verdict_line}
use Rattle.eq_wit.proofs.Words.{Words, words_of}
use Rattle.eq_wit.proofs.Decoding.{FitsNode, many, many_are, node_from, node_is, num, num_is, one, ones_are, output_from, output_is, word_at}
use Rattle.eq_wit.proofs.Decoded.{FitsTried, Tried, all_fit, tried_from, tried_is, tried_lines}

-- ---- lists behind their number

abbrev counted_from : {X : Type 0} → (Words → X) → List Words → List X × List Words
counted_from f [] = ([], [])
counted_from f (ws ∷ lines) = many (one f) (num (word_at ws 1)) lines

module _ {X : Type 0} where
  counted_are : (f : Words → X) (line : X → Line) (Fits : X → Type 0) →
      ((x : X) → Fits x → f (words_of (line x)) ≡ x) → (key : List ℕ) (xs : List X) → length xs < 2 ^ 64 →
      AllByRecursion Fits xs → (rest : List Words) →
      counted_from f (map words_of (counted key (map line xs)) ++ rest) ≡ (xs, rest)
  counted_are f line Fits each key xs few h rest =
      let lines : List Words = map words_of (map line xs) ++ rest in
      let same : length (map line xs) ≡ length xs = length-map xs line in
      ap (λ (n : ℕ). many (one f) n lines) (num_is (length (map line xs)) (omega (arith, same, few)) ∙ same)
      ∙ ones_are f line Fits each xs h rest

-- ---- tries with their heads

abbrev pub tried_of : List Head → List Try → List Tried
tried_of [] tries = []
tried_of (head ∷ heads) [] = []
tried_of (head ∷ heads) (t ∷ tries) = record { head = head; attempt = t.attempt } ∷ tried_of heads tries

pub tries_one_by_one : (part : Part) (heads : List Head) (tries : List Try) →
    tries_lines part heads tries ≡ flat_map (tried_lines part) (tried_of heads tries)
tries_one_by_one part [] tries = refl
tries_one_by_one part (head ∷ heads) [] = refl
tries_one_by_one part (head ∷ heads) (t ∷ tries) =
    ap (λ (ls : List Line). attempt_lines part head t.attempt ++ ls) (tries_one_by_one part heads tries)

pub length-tried_of : (heads : List Head) (tries : List Try) → length heads ≡ length tries →
    length (tried_of heads tries) ≡ length tries
length-tried_of [] [] e = refl
length-tried_of [] (t ∷ tries) e = absurd (omega arith)
length-tried_of (head ∷ heads) [] e = refl
length-tried_of (head ∷ heads) (t ∷ tries) e = ap suc (length-tried_of heads tries (omega arith))

pub heads_back : (heads : List Head) (tries : List Try) → length heads ≡ length tries →
    map (λ (t : Tried). t.head) (tried_of heads tries) ≡ heads
heads_back [] tries e = refl
heads_back (head ∷ heads) [] e = absurd (omega arith)
heads_back (head ∷ heads) (t ∷ tries) e =
    ap (λ (hs : List Head). head ∷ hs) (heads_back heads tries (omega arith))

-- tries by strategies that are numbered from n
abbrev pub numbered : ℕ → List Tried → List Try
numbered n [] = []
numbered n (t ∷ tried) = record { strategy = n; attempt = t.attempt } ∷ numbered (suc n) tried

pub tries_back : (n : ℕ) (heads : List Head) (tries : List Try) → length heads ≡ length tries →
    ((i : ℕ) (t : Try) → slice_get tries i ≡ Some t → t.strategy ≡ n + i) →
    numbered n (tried_of heads tries) ≡ tries
tries_back n [] [] e order = refl
tries_back n [] (t ∷ tries) e order = absurd (omega arith)
tries_back n (head ∷ heads) [] e order = absurd (omega arith)
tries_back n (head ∷ heads) (t ∷ tries) e order =
    let first : n ≡ t.strategy = omega (arith, order zero t refl) in
    ap₂ (λ (k : ℕ) (ts : List Try). let made : Try = record { strategy = k; attempt = t.attempt } in made ∷ ts) first
    (tries_back (suc n) heads tries (omega arith) (λ i u there. omega (arith, order (suc i) u there)))

-- ---- the whole

pub record Whole : Type 0 where
  pub name : List ℕ
  pub inputs : List (List ℕ)
  pub nodes : List Node
  pub outputs : List Output
  pub tried : List Tried

abbrev name_from : Words → List ℕ
name_from ws = word_at ws 0

abbrev tries_from : List Words → List Tried
tries_from [] = []
tries_from (ws ∷ lines) = (many tried_from (num (word_at ws 1)) lines).0

abbrev whole_by : List ℕ → List Words → Whole
whole_by name lines =
    let inputs = counted_from name_from lines in
    let nodes = counted_from node_from inputs.1 in
    let outputs = counted_from output_from nodes.1 in
    record { name = name; inputs = inputs.0; nodes = nodes.0; outputs = outputs.0; tried = tries_from outputs.1 }

abbrev pub whole_from : List Words → Whole
whole_from [] = whole_by [] []
whole_from (first ∷ []) = whole_by [] []
whole_from (first ∷ second ∷ lines) = whole_by (word_at second 1) lines

abbrev pub whole_of : Part → List Head → Decided → Whole
whole_of part heads d = record {
  name = part.name;
  inputs = part.inputs;
  nodes = part.nodes;
  outputs = part.outputs;
  tried = tried_of heads d.tries;
}

pub record FitsWhole (part : Part) (heads : List Head) (d : Decided) : Type 0 where
  pub inputs : length part.inputs < 2 ^ 64
  pub few_nodes : length part.nodes < 2 ^ 64
  pub nodes : AllByRecursion FitsNode part.nodes
  pub few_outputs : length part.outputs < 2 ^ 64
  pub outputs : AllByRecursion (λ o. (o.gold < 2 ^ 64) × (o.gate < 2 ^ 64)) part.outputs
  pub same : length heads ≡ length d.tries
  pub few : length d.tries < 2 ^ 64
  pub tried : AllByRecursion FitsTried (tried_of heads d.tries)

tries_are : (part : Part) (heads : List Head) (d : Decided) (rest : List Words) → FitsWhole part heads d →
    tries_from (map words_of (decided_lines part heads d) ++ rest) ≡ tried_of heads d.tries
tries_are part heads d rest h =
    let tried = tried_of heads d.tries in
    let tail : List Line = verdict_line d.verdict ∷ (Word (codes "end") ∷ []) ∷ [] in
    let lines : List Line = tries_lines part heads d.tries in
    let long : length tried ≡ length d.tries = length-tried_of heads d.tries h.same in
    let parts : map words_of (lines ++ tail) ++ rest
    ≡ map words_of (flat_map (tried_lines part) tried) ++ (map words_of tail ++ rest) =
    ap (λ (ls : List Line). map words_of (ls ++ tail) ++ rest) (tries_one_by_one part heads d.tries)
    ∙ ap (λ (ws : List Words). ws ++ rest) (map-append words_of (flat_map (tried_lines part) tried) tail)
    ∙ append_assoc (map words_of (flat_map (tried_lines part) tried)) (map words_of tail) rest in
    ap₂ (λ (n : ℕ) (ws : List Words). (many tried_from n ws).0) (num_is (length d.tries) h.few ∙ sym long) parts
    ∙ ap (λ (s : List Tried × List Words). s.0)
    (many_are tried_from (tried_lines part) FitsTried (tried_is part) tried h.tried (map words_of tail ++ rest))

pub whole_is : (part : Part) (heads : List Head) (d : Decided) (rest : List Words) → FitsWhole part heads d →
    whole_from (map words_of (evidence_lines part heads d) ++ rest) ≡ whole_of part heads d
whole_is part heads d rest h =
    let a : List Line = counted (codes "inputs") (map name_line part.inputs) in
    let b : List Line = counted (codes "nodes") (map node_line part.nodes) in
    let c : List Line = counted (codes "outputs") (map output_line part.outputs) in
    let e : List Line = decided_lines part heads d in
    let last : List Words = map words_of e ++ rest in
    let third : List Words = map words_of c ++ last in
    let second : List Words = map words_of b ++ third in
    let parts : map words_of (list_lines part ++ e) ++ rest ≡ map words_of a ++ second =
    ap (λ (ls : List Line). map words_of ls ++ rest) (append_assoc a (b ++ c) e
    ∙ ap (λ (ls : List Line). a ++ ls) (append_assoc b c e))
    ∙ ap (λ (ws : List Words). ws ++ rest) (map-append words_of a (b ++ (c ++ e))
    ∙ ap (λ (ws : List Words). map words_of a ++ ws) (map-append words_of b (c ++ e)
    ∙ ap (λ (ws : List Words). map words_of b ++ ws) (map-append words_of c e)))
    ∙ append_assoc (map words_of a) (map words_of b ++ (map words_of c ++ map words_of e)) rest
    ∙ ap (λ (ws : List Words). map words_of a ++ ws) (append_assoc (map words_of b) (map words_of c ++ map words_of e) rest
    ∙ ap (λ (ws : List Words). map words_of b ++ ws) (append_assoc (map words_of c) (map words_of e) rest)) in
    let inputs : counted_from name_from (map words_of a ++ second) ≡ (part.inputs, second) =
    counted_are name_from name_line (λ x. Unit {0}) (λ x fits. refl) (codes "inputs") part.inputs h.inputs
    (all_fit part.inputs) second in
    let nodes : counted_from node_from second ≡ (part.nodes, third) =
    counted_are node_from node_line FitsNode node_is (codes "nodes") part.nodes h.few_nodes h.nodes third in
    let outputs : counted_from output_from third ≡ (part.outputs, last) =
    counted_are output_from output_line (λ o. (o.gold < 2 ^ 64) × (o.gate < 2 ^ 64)) output_is (codes "outputs")
    part.outputs h.few_outputs h.outputs last in
    ap (whole_by part.name) parts
    ∙ ap (λ (s : List (List ℕ) × List Words). let nodes = counted_from node_from s.1 in
    let outputs = counted_from output_from nodes.1 in
    let made : Whole = record {
      name = part.name;
      inputs = s.0;
      nodes = nodes.0;
      outputs = outputs.0;
      tried = tries_from outputs.1;
    } in made) inputs
    ∙ ap (λ (s : List Node × List Words). let outputs = counted_from output_from s.1 in
    let made : Whole = record {
      name = part.name;
      inputs = part.inputs;
      nodes = s.0;
      outputs = outputs.0;
      tried = tries_from outputs.1;
    } in made) nodes
    ∙ ap (λ (s : List Output × List Words).
    let made : Whole = record {
      name = part.name;
      inputs = part.inputs;
      nodes = part.nodes;
      outputs = s.0;
      tried = tries_from s.1;
    } in made) outputs
    ∙ ap (λ (t : List Tried).
    let made : Whole = record {
      name = part.name;
      inputs = part.inputs;
      nodes = part.nodes;
      outputs = part.outputs;
      tried = t;
    } in made) (tries_are part heads d rest h)

-- Lines `input I` among those that were read, and forms of lines.
use Rattle.std.proofs.Common.{◌≡◌, ℕ, ◌+◌, ◌-◌, zero, suc, Bool, true, false, List, [], ◌∷◌, ◌++◌, length, map, Some, slice_get, arith, refl, sym, ap, ◌∙◌, subst, append_assoc}
use Rattle.std.specs.Prelude.{codes}
use Rattle.std.specs.List.{AllByRecursion}
use Rattle.std.specs.Str.{bytes_eq}
use Rattle.eq_bits.specs.declared.node.Node.{Node}
use Rattle.eq_bits.specs.declared.node.Node.TheVariants.{Const, Input, Not, And, Xor, Mux, Buf, Reg}
use Rattle.eq_proof.specs.Literal.{Literal}
use Rattle.eq_proof.specs.Inference.{Inference}
use Rattle.eq_unroll.specs.declared.query.Query.{Query}
use Rattle.eq_unroll.specs.declared.query.Query.TheVariants.{Base, Step}
use Rattle.eq_induct.specs.declared.types.End.{End}
use Rattle.eq_induct.specs.Outcome.{verdict_of}
use Rattle.eq_induct.specs.declared.types.PartVerdict.{PartVerdict}
use Rattle.eq_induct.specs.declared.types.PartVerdict.TheVariants as verdict
use Rattle.eq_induct.specs.declared.types.End.TheVariants as end
use Rattle.eq_wit.specs.declared.state.Draft.{Draft}
use Rattle.eq_wit.specs.declared.state.State.{State}
use Rattle.eq_wit.specs.declared.state.State.TheVariants as state
use Rattle.eq_wit.specs.declared.state.Tally.{Tally}
use Rattle.eq_wit.specs.declared.state.Open.{Open}
use Rattle.eq_wit.specs.Line.{HasForm, Line, Word, number}
use Rattle.eq_wit.specs.Texts.{end_line, literal_field, name_line, node_line, verdict_line}
use Rattle.eq_wit.specs.declared.state.Due.{Due}
use Rattle.eq_wit.specs.inner.Reading.{MayComeNext, MayComeQueries, MayComeSteps, MayComeTries, count_line, part_line, query_line, title}
use Rattle.eq_wit.specs.inner.Standing.{inputs_of, lines_read}
use Rattle.eq_wit.proofs.Lists.{map_at}
use Rattle.eq_wit.proofs.Words.{IsPlainLine, Words, words_of}

-- ---- words that are written out

pub differ : (a b : List ℕ) → bytes_eq a a ≡ true → bytes_eq a b ≡ false → a ≡ b → ⊥
differ a b same other e = absurd (cc (sym other ∙ ap (bytes_eq a) (sym e) ∙ same))

first_word : (a b : List ℕ) (xs ys : Words) → a ∷ xs ≡ b ∷ ys → a ≡ b
first_word a b xs ys e = cc (e)

abbrev pub input : List ℕ
input = codes "input"

-- a line that isn't `input` and a word
abbrev IsOther : Line → Type 0
IsOther l = (w : List ℕ) → words_of l ≡ input ∷ w ∷ [] → ⊥

by_key : (key : List ℕ) (ws : Words) (w : List ℕ) → bytes_eq key key ≡ true → bytes_eq key input ≡ false →
    key ∷ ws ≡ input ∷ w ∷ [] → ⊥
by_key key ws w same other e = differ key input same other (first_word key input ws (w ∷ []) e)

other_node : (node : Node) (w : List ℕ) → words_of (node_line node) ≡ input ∷ w ∷ [] → (j : ℕ) × (node ≡ Input j)
other_node (Const b) w e = absurd (by_key (codes "const") _ w refl refl e)
other_node (Input i) w e = (i, refl)
other_node (Not a) w e = absurd (by_key (codes "not") _ w refl refl e)
other_node (And a b) w e = absurd (by_key (codes "and") _ w refl refl e)
other_node (Xor a b) w e = absurd (by_key (codes "xor") _ w refl refl e)
other_node (Mux s a b) w e = absurd (by_key (codes "mux") _ w refl refl e)
other_node (Buf a) w e = absurd (by_key (codes "buf") _ w refl refl e)
other_node (Reg next init) w e = absurd (by_key (codes "reg") _ w refl refl e)

name_other : (name : List ℕ) → IsOther (name_line name)
name_other name w e = let long : ◌≡◌ {A = ℕ} 1 2 = ap length e in absurd (omega arith)

names_other : (names : List (List ℕ)) → AllByRecursion IsOther (map name_line names)
names_other [] = tt
names_other (name ∷ names) = (name_other name, names_other names)

-- behind lines that aren't `input` and a word
find_behind : (xs ys : List Line) (k : ℕ) (l : Line) (w : List ℕ) → AllByRecursion IsOther xs →
    slice_get (xs ++ ys) k ≡ Some l → words_of l ≡ input ∷ w ∷ [] → (m : ℕ) × (slice_get ys m ≡ Some l)
find_behind [] ys k l w h e is = (k, e)
find_behind (x ∷ xs) ys zero l w h e is = let same : x ≡ l = cc e in absurd (h.0 w (ap words_of same ∙ is))
find_behind (x ∷ xs) ys (suc k) l w h e is = find_behind xs ys k l w h.1 e is

all_join : (xs ys : List Line) → AllByRecursion IsOther xs → AllByRecursion IsOther ys → AllByRecursion IsOther (xs ++ ys)
all_join [] ys h k = k
all_join (x ∷ xs) ys h k = (h.0, all_join xs ys h.1 k)

-- a line `input I` among those that were read is that of a node
pub input_there : (d : Draft) (seen : List Bool) (left k : ℕ) (l : Line) (w : List ℕ) →
    slice_get (lines_read (state.Nodes d seen left)) k ≡ Some l → words_of l ≡ input ∷ w ∷ [] →
    (j : ℕ) × (m : ℕ) × (slice_get d.nodes m ≡ Some (Input j)) × (l ≡ node_line (Input j))
input_there d seen left k l w e is =
    let count : Line = count_line (codes "nodes") (length d.nodes + left) in
    let front : List Line = title ∷ part_line d.name ∷ (inputs_of d ++ count ∷ []) in
    let parts : title ∷ part_line d.name ∷ ((inputs_of d ++ count ∷ []) ++ map node_line d.nodes)
    ≡ lines_read (state.Nodes d seen left) =
    ap (λ (ls : List Line). title ∷ part_line d.name ∷ ls) (append_assoc (inputs_of d) (count ∷ []) (map node_line d.nodes)) in
    let others : AllByRecursion IsOther front = (
      λ v e. by_key (codes "eqe") _ v refl refl e,
      (
        λ v e. by_key (codes "part") _ v refl refl e,
        all_join (inputs_of d) (count ∷ []) (λ v e. by_key (codes "inputs") _ v refl refl e, names_other d.inputs)
            (λ v e. by_key (codes "nodes") _ v refl refl e, tt),
      ),
    ) in
    let found = find_behind front (map node_line d.nodes) k l w others (ap (λ (ls : List Line). slice_get ls k) parts ∙ e) is in
    let node = map_at node_line d.nodes found.0 l found.1 in
    let which = other_node node.0 w (ap words_of (sym node.2) ∙ is) in (
      which.0,
      found.0,
      node.1 ∙ ap (λ (x : Node). Some x) which.1,
      node.2 ∙ ap node_line which.1,
    )

-- ---- an input named again

form_key : (key : List ℕ) → bytes_eq key key ≡ true → bytes_eq key input ≡ false → input ≡ key → ⊥
form_key key same other e = differ key input same other (sym e)

abbrev pub IsNodes : State → Type 0
IsNodes (state.Nodes d seen left) = Unit {0}
IsNodes _ = ⊥

no_step_form : (clause : List Literal) (ants : List ℕ) (w : List ℕ) →
    HasForm (map literal_field clause ++ Word (codes "0") ∷ (map number ants ++ Word (codes "0") ∷ [])) (w ∷ []) → ⊥
no_step_form [] [] w h = h.1
no_step_form [] (n ∷ ants) w h = h.1
no_step_form (l ∷ []) ants w h = h.1
no_step_form (l ∷ m ∷ clause) ants w h = h.1

tries_form : (t : Tally) (left : ℕ) (l : Line) (next : State) (w : List ℕ) → MayComeTries t left l next →
    HasForm l (input ∷ w ∷ []) → ⊥
tries_form t zero l next w f h =
    no_verdict (verdict_of (slice_get t.tries (length t.tries - 1))) w (subst (λ (x : Line). HasForm x (input ∷ w ∷ [])) f.0 h) where
      no_verdict : (v : PartVerdict) (w : List ℕ) → HasForm (verdict_line v) (input ∷ w ∷ []) → ⊥
      no_verdict (verdict.Proved k n) w h = form_key (codes "verdict") refl refl h.0
      no_verdict (verdict.Fail k n) w h = form_key (codes "verdict") refl refl h.0
      no_verdict verdict.Unknown w h = form_key (codes "verdict") refl refl h.0
tries_form t (suc left) l next w f h =
    form_key (codes "attempt") refl refl (subst (λ (x : Line). HasForm x (input ∷ w ∷ [])) f.2 h).0

queries_form : (t : Tally) (o : Open) (left : ℕ) (l : Line) (next : State) (w : List ℕ) → MayComeQueries t o left l next →
    HasForm l (input ∷ w ∷ []) → ⊥
queries_form t o zero l next w f h = no_end_form f.0 w (subst (λ (x : Line). HasForm x (input ∷ w ∷ [])) f.2 h) where
  no_end_form : (e : End) (w : List ℕ) → HasForm (end_line e) (input ∷ w ∷ []) → ⊥
  no_end_form (end.Proved k) w h = form_key (codes "proved") refl refl h.0
  no_end_form (end.Fail k) w h = form_key (codes "fail") refl refl h.0
  no_end_form end.Deep w h = form_key (codes "deep") refl refl h.0
  no_end_form end.Spent w h = form_key (codes "spent") refl refl h.0
queries_form t o (suc left) l next w f h =
    no_query_form f.0.query f.0.k f.0.due w (subst (λ (x : Line). HasForm x (input ∷ w ∷ [])) f.2 h) where
      no_query_form : (q : Query) (k : ℕ) (due : Due) (w : List ℕ) → HasForm (query_line q k due) (input ∷ w ∷ []) → ⊥
      no_query_form Base k due w h = form_key (codes "base") refl refl h.0
      no_query_form Step k due w h = form_key (codes "step") refl refl h.0

steps_form : (t : Tally) (o : Open) (q : Query) (k : ℕ) (spent : Bool) (first : ℕ) (log : List Inference) (left : ℕ)
    (l : Line) (next : State) (w : List ℕ) → MayComeSteps t o q k spent first log left l next →
    HasForm l (input ∷ w ∷ []) → ⊥
steps_form t o q k spent first log zero l next w f h = f
steps_form t o q k spent first log (suc left) l next w f h =
    no_step_form f.0.clause f.0.ants w ((subst (λ (x : Line). HasForm x (input ∷ w ∷ [])) f.2 h).1)

pub input_form : (s : State) (l : Line) (next : State) (w : List ℕ) → MayComeNext s l next → HasForm l (input ∷ w ∷ []) → IsNodes s
input_form state.Titled l next w f h =
    absurd (form_key (codes "part") refl refl (subst (λ (x : Line). HasForm x (input ∷ w ∷ [])) f.2 h).0)
input_form (state.Named name) l next w f h =
    absurd (form_key (codes "inputs") refl refl (subst (λ (x : Line). HasForm x (input ∷ w ∷ [])) f.2 h).0)
input_form (state.Inputs d zero) l next w f h =
    absurd (form_key (codes "nodes") refl refl (subst (λ (x : Line). HasForm x (input ∷ w ∷ [])) f.2 h).0)
input_form (state.Inputs d (suc left)) l next w f h = (subst (λ (x : Line). HasForm x (input ∷ w ∷ [])) f.2 h).1
input_form (state.Nodes d seen left) l next w f h = tt
input_form (state.Outputs d zero) l next w f h =
    absurd (form_key (codes "attempts") refl refl (subst (λ (x : Line). HasForm x (input ∷ w ∷ [])) f.2 h).0)
input_form (state.Outputs d (suc left)) l next w f h = (subst (λ (x : Line). HasForm x (input ∷ w ∷ [])) f.2 h).1.1
input_form (state.Tries t) l next w f h = absurd (tries_form t t.left l next w f h)
input_form (state.Queries t o) l next w f h = absurd (queries_form t o o.left l next w f h)
input_form (state.Regs t o q k) l next w f h =
    absurd (form_key (codes "regs") refl refl (subst (λ (x : Line). HasForm x (input ∷ w ∷ [])) f.2 h).0)
input_form (state.Frames t o q k run zero) l next w f h = f
input_form (state.Frames t o q k run (suc left)) l next w f h =
    absurd (form_key (codes "in") refl refl (subst (λ (x : Line). HasForm x (input ∷ w ∷ [])) f.2 h).0)
input_form (state.Steps t o q k log) l next w f h =
    absurd (steps_form t o q k log.spent log.first log.log log.left l next w f h)
input_form (state.Closing t) l next w f h =
    absurd (form_key (codes "end") refl refl (subst (λ (x : Line). HasForm x (input ∷ w ∷ [])) f.0 h).0)
input_form (state.Ended t) l next w f h = f

pub by_place : (ls : List Line) (k : ℕ) (l : Line) → AllByRecursion IsPlainLine ls → slice_get ls k ≡ Some l → IsPlainLine l
by_place [] k l h e = absurd (cc e)
by_place (x ∷ ls) zero l h e = let is : x ≡ l = cc e in subst IsPlainLine is h.0
by_place (x ∷ ls) (suc k) l h e = by_place ls k l h.1 e

-- The word of a condition, and the word that chooses: a bit of it stands for the choice between what two bits stand for.
use Rattle.std.proofs.Common.{◌≡◌, ℕ, zero, suc, ◌<◌, ◌||◌, Bool, false, cond, List, [], ◌∷◌, ◌++◌, length, length-append, slice_get, Contains, ◌↔◌, Some, refl, arith, sym, ap, ap₂, subst, ◌∙◌, inl, inr}
use Rattle.std.proofs.lemmas.List.Elements.{Contains-append_left, Contains-append_right, Contains-append_cases}
use Rattle.std.proofs.lemmas.Option.{slice_get_within}
use Rattle.eq_model.specs.System.{Expr as Formula, Values}
use Rattle.eq_net.specs.declared.types.NetInfo.{NetInfo}
use Rattle.eq_net.specs.declared.types.WordBit.{WordBit}
use Rattle.eq_net.specs.Numbers.{Digits, some_one}
use Rattle.eq_net.specs.Operators.{Reads, all_reads}
use Rattle.eq_net.specs.Tree.{Tree, choice, pick}
use Rattle.eq_net.specs.Meaning.{all_reads_of, bit_of, if_there, reads_of, values_of, width}
use Rattle.eq_net.specs.Net.{AreWords, number_of, word_at}
use Rattle.eq_verilog.specs.Trees.{ExprTree}
use Rattle.eq_verilog.specs.Scopes.{Scope}
use Rattle.eq_verilog.specs.Sizes.{own}
use Rattle.eq_verilog.specs.Expressions.{reads, value}
use Rattle.eq_verilog.specs.Registers.{chosen}
use Rattle.eq_flatten.specs.Rendering.{Makes, Renders}
use Rattle.eq_registers.specs.Standing.{StandsFor}
use Rattle.eq_registers.specs.inner.Writing.{entry}
use Rattle.eq_registers.specs.inner.Choosing.{HasCondition, IsWhole}
use Rattle.eq_registers.proofs.Grown.{added_cost, added_word, keeps_more, keeps_twice, renders_later, row_added, words_more}
use Rattle.eq_registers.proofs.Stood.{both_ways, same_lists}

-- what the code makes of a condition
pub condition_made : (nets : List NetInfo) (s : Scope) (c : ExprTree) (w k : ℕ) (old mid new : List Tree) (x : Tree)
    → Makes nets s c w old mid x → w ≡ own s c → new ≡ mid ++ x ∷ [] → k ≡ length mid → AreWords nets old
    → ((nets : List NetInfo) (words : List Tree) (s : Scope) (e : ExprTree) (w k : ℕ) → AreWords nets words →
    k < length words → Renders nets words s e w (word_at words k) → (v : Values) (j : ℕ) →
    values_of v (number_of nets) words k j ≡ value s v e w j)
    → ((nets : List NetInfo) (words : List Tree) (s : Scope) (e : ExprTree) (w k : ℕ) → AreWords nets words →
    k < length words → Renders nets words s e w (word_at words k) → (j : ℕ) →
    all_reads_of (number_of nets) words k j ≡ reads s e w j)
    → HasCondition nets s c k old new
condition_made nets s c w k old mid new x made is added number words values reading =
    let n = own s c in
    let now = mid ++ x ∷ [] in
    let makes : Makes nets s c n old mid x = subst (λ i. Makes nets s c i old mid x) is made in
    let good = words_more nets mid x (makes.words words) makes.renders.is_word in
    let more = length-append mid (x ∷ []) in
    let inside : length mid < length now = omega (arith, more) in
    let renders : Renders nets now s c n (word_at now (length mid)) =
    subst (λ (y : Tree). Renders nets now s c n y) (sym (added_word mid x))
    (renders_later nets mid now s c n x (keeps_more mid x) makes.renders) in
    subst (λ (ws : List Tree). HasCondition nets s c k old ws) (sym added)
    (subst (λ (i : ℕ). HasCondition nets s c i old now) (sym number) (record {
      extends = keeps_twice old mid now makes.extends (keeps_more mid x);
      words = good;
      last = omega (arith, more);
      above = makes.extends.more;
      size = renders.size;
      values = values nets now s c n (length mid) good inside renders;
      reads = reading nets now s c n (length mid) good inside renders;
      costs = (let p = makes.costs in let a = added_cost mid x in omega (arith, p, a));
    }))

-- ---- the lowest bits alone count

pub some_one_same : (n : ℕ) (f g : Digits) → ((j : ℕ) → j < n → f j ≡ g j) → some_one n f ≡ some_one n g
some_one_same zero f g h = refl
some_one_same (suc n) f g h =
    ap₂ (λ a b. a || b) (some_one_same n f g (λ j lt. h j (omega arith))) (h n (omega arith))

pub all_reads_same : (n : ℕ) (f g : Reads) → ((j : ℕ) → j < n → f j ≡ g j) → all_reads n f ≡ all_reads n g
all_reads_same zero f g h = refl
all_reads_same (suc n) f g h =
    ap₂ (λ (a b : List ℕ). a ++ b) (all_reads_same n f g (λ j lt. h j (omega arith))) (h n (omega arith))

joined_contains : (xs ys us vs : List ℕ) (b : ℕ) → (Contains xs b → Contains us b) → (Contains ys b → Contains vs b) →
    Contains (xs ++ ys) b → Contains (us ++ vs) b
joined_contains xs ys us vs b f g h = elim (Contains-append_cases xs ys b h) [
  | inl x ↦ Contains-append_left us vs b (f x)
  | inr y ↦ Contains-append_right us vs b (g y)
]

joined_alike : (xs ys us vs : List ℕ) (b : ℕ) → Contains xs b ↔ Contains us b → Contains ys b ↔ Contains vs b →
    Contains (xs ++ ys) b ↔ Contains (us ++ vs) b
joined_alike xs ys us vs b f g =
    (joined_contains xs ys us vs b f.0 g.0, joined_contains us vs xs ys b f.1 g.1)

-- ---- the choice

module _ (nets : List NetInfo) (s : Scope) (c : ExprTree) (number : ℕ) (words : List Tree) (bits ones others : List WordBit)
  where
    abbrev pub Choice : Tree
    Choice = choice (pick bits) (pick ones) (pick others)

    abbrev Words : List Tree
    Words = words ++ Choice ∷ []

    module _ (whole : IsWhole number bits (own s c))
        (values : (v : Values) (j : ℕ) → values_of v (number_of nets) words number j ≡ value s v c (own s c) j)
        (reading : (j : ℕ) → all_reads_of (number_of nets) words number j ≡ reads s c (own s c) j) where
      picked_value : (v : Values) (j : ℕ) → j < own s c →
          bit_of v (number_of nets) (values_of v (number_of nets) words) (pick bits) j ≡ value s v c (own s c) j
      picked_value v j lt =
          ap (λ o. if_there false (λ (b : WordBit). values_of v (number_of nets) words b.word b.bit) o) (whole.there j lt)
          ∙ values v j

      picked_reads : (j : ℕ) → j < own s c →
          reads_of (number_of nets) (all_reads_of (number_of nets) words) (pick bits) j ≡ reads s c (own s c) j
      picked_reads j lt =
          ap (λ o. if_there [] (λ (b : WordBit). all_reads_of (number_of nets) words b.word b.bit) o) (whole.there j lt)
          ∙ reading j

      condition_value : (v : Values) →
          some_one (length bits) (bit_of v (number_of nets) (values_of v (number_of nets) words) (pick bits))
          ≡ some_one (own s c) (value s v c (own s c))
      condition_value v =
          ap (λ n. some_one n (bit_of v (number_of nets) (values_of v (number_of nets) words) (pick bits))) whole.size
          ∙ some_one_same (own s c) (bit_of v (number_of nets) (values_of v (number_of nets) words) (pick bits))
          (value s v c (own s c)) (picked_value v)

      condition_reads : all_reads (length bits) (reads_of (number_of nets) (all_reads_of (number_of nets) words) (pick bits))
          ≡ all_reads (own s c) (reads s c (own s c))
      condition_reads =
          ap (λ n. all_reads n (reads_of (number_of nets) (all_reads_of (number_of nets) words) (pick bits))) whole.size
          ∙ all_reads_same (own s c) (reads_of (number_of nets) (all_reads_of (number_of nets) words) (pick bits))
          (reads s c (own s c)) picked_reads

      module _ (k : ℕ) (x y : WordBit) (f g : Formula) (one : slice_get ones k ≡ Some x) (other : slice_get others k ≡ Some y)
          (first : StandsFor nets words x f) (second : StandsFor nets words y g) where
        choice_value : (v : Values) → values_of v (number_of nets) Words (length words) k ≡ (chosen s c f g).value v
        choice_value v =
            let rows = values_of v (number_of nets) words in
            let at : List WordBit → Bool = λ es. bit_of v (number_of nets) rows (pick es) k in
            let shown : Bool → Bool = λ t. cond t (at ones) (at others) in
            row_added false (bit_of v (number_of nets)) words Choice k
            ∙ ap shown (condition_value v)
            ∙ ap₂ (λ a b. cond (some_one (own s c) (value s v c (own s c))) a b)
            (ap (λ o. if_there false (λ (b : WordBit). rows b.word b.bit) o) one ∙ first.same.value v)
            (ap (λ o. if_there false (λ (b : WordBit). rows b.word b.bit) o) other ∙ second.same.value v)

        choice_reads : (b : ℕ) →
            Contains (all_reads_of (number_of nets) Words (length words) k) b ↔ Contains (chosen s c f g).reads b
        choice_reads b =
            let rows = all_reads_of (number_of nets) words in
            let at : List WordBit → List ℕ = λ es. reads_of (number_of nets) rows (pick es) k in
            let all = all_reads (length bits) (reads_of (number_of nets) rows (pick bits)) in
            both_ways
            (same_lists (all_reads_of (number_of nets) Words (length words) k) (all ++ (at ones ++ at others))
            (row_added [] (reads_of (number_of nets)) words Choice k) b)
            (joined_alike all (at ones ++ at others) (all_reads (own s c) (reads s c (own s c))) (f.reads ++ g.reads) b
            (same_lists all (all_reads (own s c) (reads s c (own s c))) condition_reads b)
            (joined_alike (at ones) (at others) f.reads g.reads b
            (both_ways (same_lists (at ones) (rows x.word x.bit)
            (ap (λ o. if_there [] (λ (e : WordBit). rows e.word e.bit) o) one) b) (first.same.reads b))
            (both_ways (same_lists (at others) (rows y.word y.bit)
            (ap (λ o. if_there [] (λ (e : WordBit). rows e.word e.bit) o) other) b) (second.same.reads b))))

        pub choice_stands : StandsFor nets Words (entry (length words) k) (chosen s c f g)
        choice_stands = record {
          there = (
            (let e = length-append words (Choice ∷ []) in omega (arith, e)),
            subst (λ (t : Tree). k < width t) (sym (added_word words Choice)) (slice_get_within ones k x one),
          );
          same = record { reads = choice_reads; value = choice_value };
        }

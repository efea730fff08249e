-- When a word stands for an expression, and what the code makes of one. Words grow while an expression becomes a word:
-- what is said of a word holds for every reading of the words so far, and so also when there are more.
use Rattle.std.specs.Prelude.{◌≡◌, ℕ, ◌+◌, ◌<◌, ◌≤◌, List, [], ◌∷◌, Bool, Option, length, sum_by}
use Rattle.eq_model.specs.System.{Values}
use Rattle.eq_net.specs.declared.types.NetInfo.{NetInfo}
use Rattle.eq_net.specs.Tree.{Tree}
use Rattle.eq_net.specs.Meaning.{width, bit_of, reads_of, copy_in, cost_of}
use Rattle.eq_net.specs.Net.{AreWords, IsWord, number_of, word_at}
use Rattle.eq_verilog.specs.Trees.{ExprTree, const, net, bit, part, empty, joined, repeated, unary, binary, choice}
use Rattle.eq_verilog.specs.Scopes.{Scope}
use Rattle.eq_verilog.specs.Sizes.{own}
use Rattle.eq_verilog.specs.Expressions.{value, reads, wire}
use Rattle.eq_verilog.specs.Costs.{cost}

-- of each bit of each word the table has what f makes of the word where earlier words have what the table has
abbrev pub Reflects : {A : Type 0} → ((ℕ → ℕ → A) → Tree → ℕ → A) → List Tree → (ℕ → ℕ → A) → Type 0
Reflects f words table = (k : ℕ) → k < length words → table k ≡ f table (word_at words k)

-- the word t over these words is the expression e in a context of w bits: it has w bits, and each has the value, the reads
-- and the plain copy of the expression's
pub record Renders (nets : List NetInfo) (words : List Tree) (s : Scope) (e : ExprTree) (w : ℕ) (t : Tree) : Type 0
  where
    pub is_word : IsWord nets words (length words) t
    pub size : width t ≡ w
    pub values : (v : Values) (earlier : ℕ → ℕ → Bool) → Reflects (bit_of v (number_of nets)) words earlier →
        bit_of v (number_of nets) earlier t ≡ value s v e w
    pub reads_same : (earlier : ℕ → ℕ → List ℕ) → Reflects (reads_of (number_of nets)) words earlier →
        reads_of (number_of nets) earlier t ≡ reads s e w
    pub copies : (earlier : ℕ → ℕ → Option ℕ) → Reflects (copy_in (number_of nets)) words earlier →
        copy_in (number_of nets) earlier t ≡ wire s e

-- the old words are a front of the new ones
pub record KeepsFront (old new : List Tree) : Type 0 where
  pub more : length old ≤ length new
  pub kept : (k : ℕ) → k < length old → word_at new k ≡ word_at old k

-- the word t is the expression over the new words, to which the old ones have grown. What was added costs no more than the
-- expression
pub record Makes (nets : List NetInfo) (s : Scope) (e : ExprTree) (w : ℕ) (old new : List Tree) (t : Tree) : Type 0
  where
    pub extends : KeepsFront old new
    pub words : AreWords nets old → AreWords nets new
    pub renders : Renders nets new s e w t
    pub costs : sum_by cost_of new + cost_of t ≤ sum_by cost_of old + cost s e w

-- each word is the expression at its place, by itself
abbrev pub AllRender : List NetInfo → List Tree → Scope → List ExprTree → List Tree → Type 0
AllRender nets words s [] [] = Unit {0}
AllRender nets words s (e ∷ es) (t ∷ ts) = Renders nets words s e (own s e) t × AllRender nets words s es ts
AllRender nets words s _ _ = ⊥

-- what the parts of a concatenation cost
abbrev pub part_costs : Scope → List ExprTree → ℕ
part_costs s [] = 0
part_costs s (e ∷ es) = cost s e (own s e) + part_costs s es

abbrev pub word_costs : List Tree → ℕ
word_costs [] = 0
word_costs (t ∷ ts) = cost_of t + word_costs ts

-- the words ts are the parts of a concatenation over the new words, to which the old ones have grown
pub record MakesAll (nets : List NetInfo) (s : Scope) (es : List ExprTree) (old new ts : List Tree) : Type 0 where
  pub extends : KeepsFront old new
  pub words : AreWords nets old → AreWords nets new
  pub renders : AllRender nets new s es ts
  pub costs : sum_by cost_of new + word_costs ts ≤ sum_by cost_of old + part_costs s es

-- both scopes say the same of each name of the expression
abbrev pub SameNames : Scope → Scope → ExprTree → Type 0
SameNames s r (const c) = Unit {0}
SameNames s r (net n) = (s.range n ≡ r.range n) × (s.first n ≡ r.first n)
SameNames s r (bit n i) = (s.range n ≡ r.range n) × (s.first n ≡ r.first n)
SameNames s r (part n left right) = (s.range n ≡ r.range n) × (s.first n ≡ r.first n)
SameNames s r empty = Unit {0}
SameNames s r (joined a b) = SameNames s r a × SameNames s r b
SameNames s r (repeated n a) = SameNames s r a
SameNames s r (unary op a) = SameNames s r a
SameNames s r (binary op a b) = SameNames s r a × SameNames s r b
SameNames s r (choice c a b) = SameNames s r c × SameNames s r a × SameNames s r b

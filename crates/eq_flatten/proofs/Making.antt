-- Words that grow: what was said of a word stays so, and what operands add up to.
use Rattle.std.proofs.Common.{◌≡◌, ℕ, ◌+◌, ◌<◌, ◌≤◌, List, [], ◌∷◌, ◌++◌, length, length-append, slice_index_or, sum_by, refl, arith, sym, ap, subst, ◌∙◌, inl, inr}
use Rattle.std.proofs.Math.ListN.{get_or-append}
use Rattle.std.proofs.Math.Seq.{get_or-append_seam}
use Rattle.std.proofs.lemmas.Bool.{cases_lt}
use Rattle.std.proofs.lemmas.List.Sums.{sum_by-append}
use Rattle.eq_net.specs.declared.types.NetInfo.{NetInfo}
use Rattle.eq_net.specs.Tree as word
use Rattle.eq_net.specs.Tree.{Tree, const, read, pick, negated, opposite, binary, reduced, choice, empty, joined, extended}
use Rattle.eq_net.specs.Meaning.{width, bit_of, reads_of, copy_in, cost_of}
use Rattle.eq_net.specs.Net.{AreWords, IsWord, number_of, word_at}
use Rattle.eq_verilog.specs.Trees.{ExprTree, join_all}
use Rattle.eq_verilog.specs.Scopes.{Scope}
use Rattle.eq_verilog.specs.Sizes.{own}
use Rattle.eq_verilog.specs.Costs.{cost}
use Rattle.eq_flatten.specs.Rendering.{AllRender, KeepsFront, Makes, MakesAll, Reflects, Renders, part_costs, word_costs}

-- ---- more words

pub extends_itself : (words : List Tree) → KeepsFront words words
extends_itself words = record { more = omega arith; kept = λ k lt. refl }

pub extends_twice : (a b c : List Tree) → KeepsFront a b → KeepsFront b c → KeepsFront a c
extends_twice a b c ab bc = record {
  more = (let m = ab.more in let n = bc.more in omega arith);
  kept = λ k lt. (let m = ab.more in bc.kept k (omega arith) ∙ ab.kept k lt);
}

pub extends_more : (words : List Tree) (t : Tree) → KeepsFront words (words ++ t ∷ [])
extends_more words t = record {
  more = (let e = length-append words (t ∷ []) in omega arith);
  kept = λ k lt. get_or-append words (t ∷ []) empty k lt;
}

-- the word that was added
pub added_word : (words : List Tree) (t : Tree) → word_at (words ++ t ∷ []) (length words) ≡ t
added_word words t = get_or-append_seam words t [] empty

-- a word over some words is one over more
word_later : (nets : List NetInfo) (old new : List Tree) (k m : ℕ) → k ≤ m → ((i : ℕ) → i < k →
    word_at new i ≡ word_at old i) →
    (t : Tree) → IsWord nets old k t → IsWord nets new m t
word_later nets old new k m le same (const bits) is = tt
word_later nets old new k m le same (read names) is = is
word_later nets old new k m le same (pick bits) is = λ i d lt. (
    let there = is i d lt in (
      let before = there.0 in omega arith,
      subst (λ (t : Tree). (slice_index_or bits i d).bit < width t) (sym (same (slice_index_or bits i d).word
          there.0)) there.1,
    ))
word_later nets old new k m le same (negated a) is = word_later nets old new k m le same a is
word_later nets old new k m le same (opposite a) is = word_later nets old new k m le same a is
word_later nets old new k m le same (binary o a b) is =
    (word_later nets old new k m le same a is.0, word_later nets old new k m le same b is.1, is.2)
word_later nets old new k m le same (reduced o a) is = word_later nets old new k m le same a is
word_later nets old new k m le same (choice c a b) is = (
  word_later nets old new k m le same c is.0,
  word_later nets old new k m le same a is.1,
  word_later nets old new k
      m le same b is.2,
  is.3,
)
word_later nets old new k m le same empty is = tt
word_later nets old new k m le same (joined a b) is = (
  word_later nets old new k m le same a is.0,
  word_later nets old
      new k m le same b is.1,
)
word_later nets old new k m le same (extended a n) is = (word_later nets old new k m le same a is.0, is.1)

-- one more word keeps all words
pub words_more : (nets : List NetInfo) (words : List Tree) (t : Tree) → AreWords nets words →
    IsWord nets words (length words) t →
    AreWords nets (words ++ t ∷ [])
words_more nets words t are is k lt = elim (cases_lt k (length words)) [
  | inl less ↦ subst (λ x. IsWord nets (words ++ t ∷ []) k x) (sym ((extends_more words t).kept k less))
      (word_later nets words (words ++ t ∷ []) k k (omega arith) (λ i li. (extends_more words t).kept i (omega arith))
      (word_at words k) (are k less))
  | inr more ↦ (
      let e = length-append words (t ∷ []) in
      let last : length words ≡ k = omega arith in
      subst (λ i. IsWord nets (words ++ t ∷ []) i (word_at (words ++ t ∷ []) i)) last
      (subst (λ x. IsWord nets (words ++ t ∷ []) (length words) x) (sym (added_word words t))
      (word_later nets words (words ++ t ∷ []) (length words) (length words) (omega arith) (λ i li. (extends_more
      words t).kept i li) t is)))
]

reflects_before : {A : Type 0} (f : (ℕ → ℕ → A) → Tree → ℕ → A) (old new : List Tree) (table : ℕ → ℕ → A) →
    KeepsFront old new →
    Reflects f new table → Reflects f old table
reflects_before f old new table h r k lt = (let m = h.more in r k (omega arith) ∙ ap (f table) (h.kept k lt))

-- a word that is an expression over some words is it over more
pub renders_later : (nets : List NetInfo) (old new : List Tree) (s : Scope) (e : ExprTree) (w : ℕ) (t : Tree) →
    KeepsFront old new →
    Renders nets old s e w t → Renders nets new s e w t
renders_later nets old new s e w t h r = record {
  is_word = word_later nets old new (length old) (length new) h.more h.kept t r.is_word;
  size = r.size;
  values = λ v earlier q. r.values v earlier (reflects_before (bit_of v (number_of nets)) old new earlier h q);
  reads_same = λ earlier q. r.reads_same earlier (reflects_before (reads_of (number_of nets)) old new earlier h q);
  copies = λ earlier q. r.copies earlier (reflects_before (copy_in (number_of nets)) old new earlier h q);
}

pub all_later : (nets : List NetInfo) (old new : List Tree) (s : Scope) (es : List ExprTree) (ts : List Tree) →
    KeepsFront old new →
    AllRender nets old s es ts → AllRender nets new s es ts
all_later nets old new s [] [] h r = tt
all_later nets old new s (e ∷ es) (t ∷ ts) h r = (
  renders_later nets old new s e (own s e) t h r.0,
  all_later nets old
      new s es ts h r.1,
)
all_later nets old new s [] (t ∷ ts) h r = absurd r
all_later nets old new s (e ∷ es) [] h r = absurd r

-- ---- what is made of operands

module _ (nets : List NetInfo) (s : Scope) where
  -- without any new word
  pub makes_none : (words : List Tree) (e : ExprTree) (w : ℕ) (t : Tree) → Renders nets words s e w t →
      cost_of t ≤ cost s e w →
      Makes nets s e w words words t
  makes_none words e w t h c = record {
    extends = extends_itself words;
    words = λ are. are;
    renders = h;
    costs = omega
        arith;
  }

  pub makes_one : (a e : ExprTree) (m w d : ℕ) (old new : List Tree) (x t : Tree) → Makes nets s a m old new x →
      Renders nets new s e w t →
      cost_of t ≤ cost_of x + d → cost s a m + d ≤ cost s e w → Makes nets s e w old new t
  makes_one a e m w d old new x t h r c k = record {
    extends = h.extends;
    words = h.words;
    renders = r;
    costs = (let p = h.costs in omega arith);
  }

  pub makes_two : (a b e : ExprTree) (m n w d : ℕ) (old mid new : List Tree) (x y t : Tree) →
      Makes nets s a m old mid x →
      Makes nets s b n mid new y → Renders nets new s e w t → cost_of t ≤ (cost_of x + cost_of y) + d →
      (cost s a m + cost s b n) + d ≤ cost s e w → Makes nets s e w old new t
  makes_two a b e m n w d old mid new x y t h k r c q = record {
    extends = extends_twice old mid new h.extends k.extends;
    words = λ are. k.words (h.words are);
    renders = r;
    costs = (let p = h.costs in let o = k.costs in omega arith);
  }

  -- a word becomes one of the words
  pub makes_word : (a e : ExprTree) (m w : ℕ) (old mid new : List Tree) (x t : Tree) → Makes nets s a m old mid x →
      new ≡ mid ++ x ∷ [] →
      (Renders nets new s a m x → word_at new (length mid) ≡ x → length mid < length new → Renders nets new s e w t) →
      cost_of t ≤ 0 → cost s a m ≤ cost s e w → Makes nets s e w old new t
  makes_word a e m w old mid new x t h is r c q =
      let P : List Tree → Type 0 = λ xs. (Renders nets xs s a m x → word_at xs (length mid) ≡ x →
      length mid < length xs → Renders nets xs s e w t) →
      Makes nets s e w old xs t in
      subst P (sym is) (λ f. record {
        extends = extends_twice old mid (mid ++ x ∷ []) h.extends (extends_more mid x);
        words = λ are. words_more nets mid x (h.words are) h.renders.is_word;
        renders = f (renders_later nets mid (mid ++ x ∷ []) s a m x (extends_more mid x) h.renders) (added_word mid x)
            (let e = length-append mid (x ∷ []) in omega arith);
        costs = (let p = h.costs in let e = sum_by-append cost_of mid (x ∷ []) in let o : sum_by cost_of (x ∷ []) ≡ 0
            + cost_of x = refl in omega arith);
      }) r

  -- ---- parts of a concatenation, one after the other

  pub all_none : (words : List Tree) → MakesAll nets s [] words words []
  all_none words = record { extends = extends_itself words; words = λ are. are; renders = tt; costs = omega arith }

  all_render_more : (words : List Tree) (es : List ExprTree) (ts : List Tree) (e : ExprTree) (t : Tree) →
      AllRender nets words s es ts →
      Renders nets words s e (own s e) t → AllRender nets words s (es ++ e ∷ []) (ts ++ t ∷ [])
  all_render_more words [] [] e t h r = (r, tt)
  all_render_more words (a ∷ es) (x ∷ ts) e t h r = (h.0, all_render_more words es ts e t h.1 r)
  all_render_more words [] (x ∷ ts) e t h r = absurd h
  all_render_more words (a ∷ es) [] e t h r = absurd h

  part_costs_more : (es : List ExprTree) (e : ExprTree) → part_costs s (es ++ e ∷ []) ≡ part_costs s es + cost s e
      (own s e)
  part_costs_more [] e = (let x : cost s e (own s e) + 0 ≡ 0 + cost s e (own s e) = omega arith in x)
  part_costs_more (a ∷ es) e = (let h = part_costs_more es e in omega arith)

  word_costs_more : (ts : List Tree) (t : Tree) → word_costs (ts ++ t ∷ []) ≡ word_costs ts + cost_of t
  word_costs_more [] t = (let x : cost_of t + 0 ≡ 0 + cost_of t = omega arith in x)
  word_costs_more (a ∷ ts) t = (let h = word_costs_more ts t in omega arith)

  pub all_more : (es : List ExprTree) (e : ExprTree) (old mid new ts : List Tree) (t : Tree) →
      MakesAll nets s es old mid ts →
      Makes nets s e (own s e) mid new t → MakesAll nets s (es ++ e ∷ []) old new (ts ++ t ∷ [])
  all_more es e old mid new ts t h k = record {
    extends = extends_twice old mid new h.extends k.extends;
    words = λ are. k.words (h.words are);
    renders = all_render_more new es ts e t (all_later nets mid new s es ts k.extends h.renders) k.renders;
    costs = (let p = h.costs in let q = k.costs in let a = part_costs_more es e in let b = word_costs_more ts t in
        omega arith);
  }

  pub join_costs : (es : List ExprTree) (w : ℕ) → cost s (join_all es) w ≡ part_costs s es
  join_costs [] w = refl
  join_costs (e ∷ es) w = ap (λ c. cost s e (own s e) + c) (join_costs es (own s (join_all es)))

  pub joined_costs : (ts : List Tree) → cost_of (word.join_all ts) ≡ word_costs ts
  joined_costs [] = refl
  joined_costs (t ∷ ts) = ap (λ c. cost_of t + c) (joined_costs ts)

  -- the parts' words, one behind the other
  pub makes_parts : (es : List ExprTree) (w : ℕ) (old new ts : List Tree) (t : Tree) → MakesAll nets s es old new ts →
      cost_of t ≡ cost_of (word.join_all ts) → Renders nets new s (join_all es) w t →
      Makes nets s (join_all es) w old new t
  makes_parts es w old new ts t h e r = record {
    extends = h.extends;
    words = h.words;
    renders = r;
    costs = (let p = h.costs in let a = join_costs es w in let b = joined_costs ts in omega arith);
  }
